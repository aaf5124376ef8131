pub mod Counts
pub mod EachLine
pub mod Texts
