pub mod Parts
pub mod Steps
pub mod EventParts
pub mod NumberParts
pub mod ListParts
pub mod ReplyParts
pub mod TailParts
pub mod WholeLines
