mod Names
pub mod indexes
pub mod lists
pub mod memory
pub mod rings
pub mod tables
