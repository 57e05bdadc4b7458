pub mod Bench
pub mod Clash
pub mod Steps
pub mod Opening
pub mod Fresh
pub mod Going
pub mod Fields
pub mod Sent
pub mod Excludes
mod MappedLemmas
