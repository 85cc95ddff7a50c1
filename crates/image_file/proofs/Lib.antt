pub mod PieceWords
pub mod Rows
pub mod Fronts
pub mod Links
pub mod Refusals
pub mod Runs
pub mod AllWords
