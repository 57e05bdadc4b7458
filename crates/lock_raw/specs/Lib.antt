pub mod Answers
pub mod Counts
