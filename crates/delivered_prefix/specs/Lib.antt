pub mod OneConnection
pub mod Nodes
pub mod Handshake
