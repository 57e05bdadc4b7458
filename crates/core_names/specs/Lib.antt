pub mod Shares
pub mod Names
