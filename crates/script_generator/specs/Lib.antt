pub mod Families
pub mod Generated
pub mod Laws
