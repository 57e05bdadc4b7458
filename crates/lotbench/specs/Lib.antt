pub mod Desks
pub mod Modes
pub mod Seats
