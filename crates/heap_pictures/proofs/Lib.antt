pub mod Ranges
mod Raising
