pub mod Streams
pub mod Logs
pub mod Reports
pub mod Listings
pub mod Threads
pub mod Commands
