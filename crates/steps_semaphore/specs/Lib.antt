pub mod SemaphoreSteps
pub mod SemaphoreProfiles
pub mod SemaphoreDeeds
pub mod SemaphoreLaws
pub mod PermitInvariant
