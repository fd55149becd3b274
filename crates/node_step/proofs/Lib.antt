pub mod Numbering
pub mod Fits
pub mod Fragmenting
pub mod PartLaws
pub mod ReactLaws
pub mod Stages
pub mod StepLaws
