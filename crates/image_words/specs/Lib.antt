pub mod Roots
pub mod References
