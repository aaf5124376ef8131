pub mod Judging
pub mod Answering
