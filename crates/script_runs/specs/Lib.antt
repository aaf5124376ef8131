pub mod Running
pub mod Listed
pub mod Stations
