pub mod Chains
pub mod Links
pub mod Buckets
pub mod Places
pub mod Wants
