pub mod Knowing
pub mod ExactReads
