-- Lemmas for callers of the library, one file a subject, beside those of `linked_hash_map`. They speak
-- only of the words of the contracts.
pub mod Operations
pub mod Removals
pub mod Rules
pub mod Texts
pub mod Unions
