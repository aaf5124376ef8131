pub mod OneEntry
