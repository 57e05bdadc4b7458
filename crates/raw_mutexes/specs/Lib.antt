pub mod MutexGuards
pub mod Words
pub mod CondvarWords
pub mod Begun
pub mod Counting
pub mod Moved
