pub mod Cells
pub mod Places
pub mod Packed
pub mod Ends
pub mod Rows
pub mod Marks
