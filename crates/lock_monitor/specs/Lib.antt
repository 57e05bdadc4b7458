pub mod Conditions
pub mod Calls
