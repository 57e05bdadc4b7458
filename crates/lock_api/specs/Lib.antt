pub mod Guards
pub mod Conditions
pub mod Visits
pub mod Waits
pub mod Reentrant
