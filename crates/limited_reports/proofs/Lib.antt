pub mod Fronts
pub mod Holding
