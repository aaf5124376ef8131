pub mod Found
pub mod Calls
pub mod Expanded
pub mod Answered
