pub mod Snapshots
pub mod LastSnap
pub mod Growing
pub mod Written
pub mod PastStates
pub mod OneTelling
pub mod Seen
