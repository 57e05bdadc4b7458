pub mod Lines
pub mod Reads
pub mod LockNames
pub mod Grammar
pub mod Sent
pub mod Text
pub mod Turns
pub mod Steps
