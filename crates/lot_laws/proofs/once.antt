pub mod MovesKept
pub mod Page
pub mod OnceOwing
pub mod OnceRows
pub mod OnceOwes
pub mod Runs
pub mod Marks
pub mod RunEnds
