pub mod Writing
pub mod Carried
pub mod Passing
pub mod Joined
pub mod Answering
