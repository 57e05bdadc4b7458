pub mod VerdictLemmas
pub mod RunLemmas
pub mod Kept
pub mod Deadlocks
