pub mod Callers
pub mod Compared
pub mod Drained
pub mod Kept
pub mod BackOr
