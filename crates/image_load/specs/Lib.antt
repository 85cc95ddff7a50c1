pub mod Loaded
pub mod Passes
pub mod Images
