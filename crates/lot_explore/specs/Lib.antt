pub mod Counts
pub mod Parts
pub mod Replays
pub mod Deadlocks
pub mod Walks
pub mod Wrongs
pub mod Steps
