pub mod Apart
pub mod Fields
pub mod Opening
pub mod Reading
pub mod Through
pub mod Tracked
mod KeyKeeps
pub mod Ghostly
