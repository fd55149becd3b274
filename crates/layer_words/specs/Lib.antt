pub mod Acts
pub mod Counting
pub mod Covered
