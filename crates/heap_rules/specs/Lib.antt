pub mod Done
pub mod Tidy
pub mod Flags
