pub mod Walking
pub mod Reports
pub mod Judging
pub mod Mirroring
