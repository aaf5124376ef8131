pub mod Circles
pub mod Drives
pub mod Loose
