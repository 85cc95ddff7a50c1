pub mod Placed
pub mod Instances
pub mod Compaction
pub mod Placing
pub mod Settling
