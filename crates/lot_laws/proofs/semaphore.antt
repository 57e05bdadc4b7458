pub mod Permits
pub mod Page
pub mod SemaphoreMoves
pub mod MovesKept
pub mod SemaphoreOwing
pub mod SemaphoreOwes
pub mod Debtors
