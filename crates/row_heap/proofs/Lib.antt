pub mod Cells
pub mod Indexed
pub mod Sound
pub mod Freed
pub mod Walked
pub mod Edges
pub mod Linked
mod Packs
pub mod Crossing
pub mod Sources
pub mod Followed
pub mod Swept
pub mod Marked
mod Gone
mod FieldCounts
pub mod Tested
mod Cases
