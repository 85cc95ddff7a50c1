pub mod Telling
pub mod Inside
pub mod Forwarding
pub mod Reading
pub mod Settling
pub mod Adopting
