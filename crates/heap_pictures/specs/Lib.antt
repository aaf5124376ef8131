pub mod Flags
pub mod Pictures
pub mod Drawing
