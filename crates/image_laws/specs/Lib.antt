pub mod Resolved
pub mod Causes
pub mod Counted
pub mod Named
pub mod Whole
pub mod Accepted
