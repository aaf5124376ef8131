pub mod Tallies
pub mod Lines
pub mod Summary
