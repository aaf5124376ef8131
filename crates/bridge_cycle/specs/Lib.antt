pub mod Progress
pub mod Gaps
pub mod Held
pub mod Turns
pub mod Words
pub mod Composing
pub mod OpenParts
