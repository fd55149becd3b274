pub mod Shape
pub mod Rules
pub mod Health
pub mod Worlds
pub mod Firings
