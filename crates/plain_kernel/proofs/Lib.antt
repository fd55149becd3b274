pub mod Whole
pub mod Endings
pub mod Starting
pub mod Times
