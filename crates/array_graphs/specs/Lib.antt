pub mod Graphs
pub mod Made
