pub mod Attached
pub mod Begun
pub mod Carrying
pub mod DeviceLaws
pub mod Glue
pub mod Sound
pub mod StepLaws
