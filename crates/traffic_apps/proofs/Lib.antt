pub mod StepLaws
pub mod RunLaws
pub mod Turns
pub mod Writes
