pub mod Guards
pub mod Written
pub mod Visits
