pub mod Listings
pub mod Snapshots
pub mod Writing
pub mod Laws
