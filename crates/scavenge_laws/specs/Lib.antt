pub mod Copying
pub mod Writing
pub mod Firing
pub mod Ending
pub mod Entering
pub mod Noting
pub mod Greedy
pub mod Outcomes
