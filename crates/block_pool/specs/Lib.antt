pub mod Class
pub mod Pooled
pub mod Stock
pub mod Spare
pub mod Shelves
pub mod Pools
