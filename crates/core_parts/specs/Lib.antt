pub mod Ownership
pub mod PermitIds
pub mod Written
pub mod Guards
pub mod Changes
