pub mod Rows
pub mod RowWrites
pub mod Settled
pub mod Closing
