pub mod Ended
pub mod Resting
pub mod Starting
