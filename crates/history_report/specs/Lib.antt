pub mod Lists
pub mod Report
pub mod Candidates
