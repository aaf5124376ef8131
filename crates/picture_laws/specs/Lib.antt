pub mod Paths
pub mod Laws
pub mod Standing
pub mod Seeing
