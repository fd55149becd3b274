pub mod Pieces
pub mod Parts
pub mod Pushes
pub mod Taken
