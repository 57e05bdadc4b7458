mod Lists
mod Giving
mod Counting
mod Pairs
mod Sleeps
pub mod Blanks
