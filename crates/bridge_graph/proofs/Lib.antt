pub mod Links
pub mod Rows
pub mod Building
pub mod Packs
pub mod Room
pub mod Handles
