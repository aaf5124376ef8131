pub mod Parts
pub mod Handles
pub mod Packing
pub mod Packed
pub mod Built
