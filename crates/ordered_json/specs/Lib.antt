pub mod Edits
pub mod Merge
pub mod Pointers
pub mod Read
pub mod Room
pub mod Sorts
pub mod View
