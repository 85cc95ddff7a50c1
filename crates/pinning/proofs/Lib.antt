pub mod Naming
pub mod SlotCounts
pub mod Young
pub mod Copying
pub mod Forwarding
pub mod Pinned
