pub mod Bound
pub mod Held
pub mod Slots
pub mod SwapRemove
