pub mod Told
pub mod Errors
pub mod Passed
pub mod Linked
pub mod Held
pub mod Whole
