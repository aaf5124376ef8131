pub mod Finding
pub mod Grouped
pub mod Listed
pub mod Rows
pub mod Strong
pub mod Sets
pub mod Gathered
pub mod Leaving
pub mod Shared
pub mod Nearness
pub mod References
pub mod Crossing
pub mod Capped
pub mod Converse
pub mod Ordered
pub mod Keeping
mod Heavies
mod Led
