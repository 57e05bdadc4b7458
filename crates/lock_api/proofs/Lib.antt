pub mod Stays
pub mod WaitsOn
mod Visits
