mod Worked
mod SideLists
mod Examples
mod PairGraphs
pub mod Places
mod FreeingOne
mod GapExamples
mod Unsound
mod WithPeers
mod Shown
