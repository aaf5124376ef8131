pub mod Searching
pub mod Classes
pub mod Grouping
pub mod Sharing
pub mod Gathering
pub mod Tarjan
pub mod Counting
pub mod Reporting
