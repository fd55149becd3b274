pub mod Band
pub mod Bands
pub mod Bucket
pub mod Disc
pub mod Answers
pub mod History
