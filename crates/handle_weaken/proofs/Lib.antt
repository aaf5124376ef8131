pub mod Turns
pub mod Weakened
pub mod Restored
