pub mod Table
pub mod Seen
pub mod Step
pub mod Law
