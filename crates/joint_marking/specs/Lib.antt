pub mod Nodes
pub mod Gathered
pub mod Owned
