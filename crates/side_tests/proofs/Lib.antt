pub mod Circles
pub mod Counting
pub mod Holding
pub mod ManagedDrives
pub mod Moves
pub mod PeerSteps
pub mod PinsHeld
pub mod Snapshots
