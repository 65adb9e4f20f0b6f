mod Changes
mod Children
pub mod Depths
pub mod EditDepths
mod MergeDepths
mod Merges
mod Moves
mod Orders
mod Parts
pub mod Pointed
pub mod PointedEdits
pub mod PointedRemovals
mod Puts
pub mod Reading
mod Renames
mod SortedPairs
mod Sorting
pub mod Views
pub mod Writing
