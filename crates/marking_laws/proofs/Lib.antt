pub mod MarkFacts
pub mod MarkEvents
pub mod MarkSweeps
pub mod SliceEvents
pub mod SliceCounts
