pub mod Sessions
pub mod Commands
pub mod Options
pub mod Runs
pub mod Answered
pub mod Stops
pub mod LineRuns
pub mod Writes
