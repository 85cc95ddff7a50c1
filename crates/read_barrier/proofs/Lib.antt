pub mod Named
pub mod Followed
pub mod Telling
