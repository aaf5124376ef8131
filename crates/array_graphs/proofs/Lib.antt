pub mod Nodes
pub mod Edges
