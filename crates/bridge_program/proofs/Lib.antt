pub mod NoWords
pub mod DriversLines
pub mod Alike
pub mod Lacking
pub mod Leaking
pub mod Apart
