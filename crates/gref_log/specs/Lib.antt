pub mod Log
pub mod Laws
pub mod After
pub mod Tracking
pub mod Limit
pub mod Answers
