pub mod Counts
pub mod Moves
pub mod Seats
