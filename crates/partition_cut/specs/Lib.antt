pub mod Network
pub mod AllowedCut
pub mod Refusal
pub mod AutoCut
pub mod Forest
pub mod NamedCut
