pub mod Words
pub mod Floors
pub mod Handing
pub mod After
