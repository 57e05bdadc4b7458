pub use Rattle.core_base.specs.Words
pub mod Acts
pub mod Owners
pub mod Profiles
pub mod Locations
pub mod Calls
pub mod Moves
pub mod Rows
