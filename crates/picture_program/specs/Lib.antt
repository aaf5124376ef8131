pub mod Lines
pub mod Words
pub mod Drawn
pub mod Top
