pub mod Data
pub mod RightChecksum
pub mod ReadBack
pub mod Short
