pub mod Hashers
pub mod Keys
