pub mod FixedNames
pub mod OutOfPlace
pub mod Collected
