pub mod Named
pub mod Legal
