pub mod Run
pub mod Stop
