mod Nodes
mod Edges
mod Carrying
mod Seeing
