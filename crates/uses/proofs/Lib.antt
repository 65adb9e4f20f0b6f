pub mod Copies
pub mod Edits
pub mod Renames
pub mod TreeCounts
pub mod TreeViews
