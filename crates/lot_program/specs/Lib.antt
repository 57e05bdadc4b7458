pub mod Programs
pub mod States
pub mod Rows
pub mod Runs
pub mod Grains
