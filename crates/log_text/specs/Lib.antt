pub mod Behind
pub mod Text
pub mod Faults
pub mod Live
pub mod Taking
pub mod Keys
pub mod Laws
pub mod Answers
