pub mod Edges
pub mod Gathering
pub mod Reaching
pub mod Twins
pub mod Gaining
pub mod Owning
