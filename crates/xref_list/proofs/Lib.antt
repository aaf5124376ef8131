pub mod Rising
pub mod Comps
