pub mod Effects
pub mod Extends
pub mod Outcomes
pub mod Pops
pub mod Rehashes
pub mod Steps
pub mod VisitEnds
