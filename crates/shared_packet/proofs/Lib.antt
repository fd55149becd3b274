pub mod Undone
pub mod Popped
pub mod Made
pub mod Answered
pub mod Crosses
