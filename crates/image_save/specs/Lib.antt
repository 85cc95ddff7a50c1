pub mod Saved
pub mod Places
pub mod Words
pub mod Denotes
