pub mod Flags
pub mod Verdicts
pub mod Naming
pub mod Finding
pub mod Snapping
pub mod Cleaning
pub mod Rising
pub mod Gaining
pub mod Rooting
pub mod Sweeping
mod Snapshots
mod Twinning
pub mod Lifting
pub mod Growing
pub mod Answering
pub mod Restoring
