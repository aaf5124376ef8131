pub mod Renumbered
pub mod DeadContraction
pub mod Candidates
pub mod MirroredParts
pub mod ClearTargets
