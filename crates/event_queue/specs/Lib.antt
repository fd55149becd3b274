pub mod Pending
pub mod Heap
pub mod Loads
