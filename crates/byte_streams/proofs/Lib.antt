pub mod Passing
pub mod Bytes
pub mod Digits
pub mod Counting
pub mod Written
pub mod Putting
pub mod PutParts
