pub mod Pins
pub mod Pinned
