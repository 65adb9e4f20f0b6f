pub mod Arguments
pub mod Help
pub mod Kept
pub mod Lines
pub mod Push
pub mod Recent
pub mod Stop
