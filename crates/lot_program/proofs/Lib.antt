pub mod RunLemmas
pub mod VerdictLemmas
pub mod TurnLemmas
pub mod Openings
