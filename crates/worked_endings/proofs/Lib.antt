mod Ends
mod PastTheGate
mod Kept
