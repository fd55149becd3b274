pub mod Seen
pub mod Entry
pub mod Cache
pub mod Step
pub mod Law
