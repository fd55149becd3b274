pub mod TagLists
pub mod Inline
