pub mod Rows
pub mod Instantiating
pub mod Layouts
pub mod Paging
