pub mod Resolved
pub mod Causes
pub mod Rows
pub mod Counted
pub mod Named
pub mod FileWords
pub mod Accepted
pub mod Whole
