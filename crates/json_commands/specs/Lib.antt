pub mod Commands
pub mod Runs
