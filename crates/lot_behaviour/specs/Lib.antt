pub mod Conducts
pub mod Moves
pub mod Rows
pub mod Runs
pub mod Searches
