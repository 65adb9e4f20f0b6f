pub mod Counting
pub mod Documents
pub mod Groups
pub mod Lending
pub mod Places
pub mod Replaying
pub mod Texts
pub mod Trees
