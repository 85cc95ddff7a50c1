pub mod Compacting
pub mod Outcomes
