pub mod Sayable
pub mod Segment
