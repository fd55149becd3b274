pub mod Fate
pub mod Seen
