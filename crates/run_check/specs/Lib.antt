pub mod Cells
pub mod Cycles
pub mod Follows
pub mod Judging
pub mod Lists
pub mod Phases
pub mod Going
pub mod Noting
