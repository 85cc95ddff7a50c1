pub mod Marks
pub mod Waiting
pub mod Visits
pub mod Roots
pub mod Followed
pub mod Marked
pub mod Firing
pub mod Finished
