pub mod Settles
pub mod Rooms
