pub mod Marks
pub mod MarkingLaws
pub mod Slices
