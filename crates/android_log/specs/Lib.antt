pub mod Format
pub mod Parts
pub mod Marks
pub mod Frames
pub mod Bodies
pub mod Placed
