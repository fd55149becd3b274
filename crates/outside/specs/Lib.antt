pub mod Causes
pub mod Streams
pub mod Store
pub mod Calls
pub mod Memory
