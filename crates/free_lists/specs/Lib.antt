pub mod Runs
pub mod Trees
pub mod Lists
pub mod Rows
