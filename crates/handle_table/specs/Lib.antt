pub mod Slots
pub mod Handles
pub mod Lending
