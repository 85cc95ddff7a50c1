pub mod Store
pub mod Causes
pub mod Listed
pub mod Stored
pub mod Memory
