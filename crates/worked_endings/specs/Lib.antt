pub mod Endings
pub mod Gates
pub mod Kept
