pub mod Kept
pub mod Deadlocks
pub mod Counting
pub mod Walking
pub mod Sharing
pub mod Judging
pub mod Stepping
