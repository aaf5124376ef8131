pub mod Starts
pub mod Visitors
