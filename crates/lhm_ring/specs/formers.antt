pub mod index
pub mod nodes
pub mod ring
pub mod table
