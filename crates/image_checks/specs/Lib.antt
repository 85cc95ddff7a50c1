pub mod Checks
pub mod Chains
pub mod Checked
