pub mod LiveNames
pub mod MarkedWhole
pub mod Closed
pub mod Tight
pub mod Joined
