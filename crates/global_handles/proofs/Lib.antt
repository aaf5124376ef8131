pub mod Rows
pub mod Lookups
pub mod Slots
mod Chains
