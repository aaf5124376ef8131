pub mod Listed
pub mod Merged
pub mod Leaders
pub mod Packed
pub mod Marks
pub mod Following
