pub mod ActsAs
pub mod Bridge
pub mod Distinct
mod Examples
pub mod HighWater
pub mod LiveKeys
pub mod Standing
pub mod WithoutKeep
