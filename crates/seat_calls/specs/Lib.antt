pub mod Paying
pub mod Passing
pub mod Gating
