pub mod Flags
pub mod Walked
pub mod Lists
pub mod Keeping
pub mod Holding
pub mod Mirrored
