pub mod Logs
pub mod Checks
pub mod Top
pub mod Ends
