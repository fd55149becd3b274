pub mod Pending
pub mod Lp
