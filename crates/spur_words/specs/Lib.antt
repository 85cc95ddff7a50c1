pub mod Lending
pub mod Runs
