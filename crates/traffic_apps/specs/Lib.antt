pub mod Counts
pub mod Seen
pub mod App
pub mod Step
pub mod Runs
pub mod Stream
pub mod Writing
