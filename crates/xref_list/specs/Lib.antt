pub mod Listing
pub mod Adding
pub mod Known
pub mod Kept
pub mod Ends
