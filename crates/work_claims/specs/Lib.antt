pub mod Drawn
pub mod Rule
pub mod Steps
pub mod Row
pub mod Gathered
