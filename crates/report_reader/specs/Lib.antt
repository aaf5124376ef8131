pub mod Causes
pub mod Reading
pub mod Answers
pub mod Faults
pub mod Laws
pub mod Steps
pub mod Likely
