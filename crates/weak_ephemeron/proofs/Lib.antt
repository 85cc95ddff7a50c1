pub mod FixedSlots
pub mod Staying
pub mod Retiring
pub mod Turning
pub mod Nilling
