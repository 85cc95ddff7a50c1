pub mod Places
pub mod FullReads
pub mod Changes
pub mod Fronts
pub mod WordBytes
