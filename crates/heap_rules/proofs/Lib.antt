pub mod Numbered
pub mod Sound
pub mod Targets
