mod Names
pub mod Callers
mod lists
mod log
mod nodes
mod pairs
mod runs
mod session_table
