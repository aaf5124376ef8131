pub mod Mirrored
pub mod Views
