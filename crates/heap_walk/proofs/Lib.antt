pub mod Bits
pub mod Chunks
pub mod Walked
