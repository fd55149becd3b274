pub mod Contents
pub mod Pushed
pub mod Buffers
