pub mod Ownership
pub mod Owning
pub mod Written
pub mod Places
pub mod Finds
pub mod Then
pub mod Mapped
pub mod Shown
