pub mod HandOuts
pub mod Leaving
pub mod Lists
pub mod Pairs
pub mod Plans
pub mod Puts
pub mod Retained
