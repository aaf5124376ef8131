pub mod Merging
pub mod Shuffling
mod Places
mod Spelling
mod Searching
mod Walking
mod Passing
