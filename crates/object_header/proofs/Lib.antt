pub mod Chunks
pub mod Fields
pub mod Heads
pub mod HeadWords
