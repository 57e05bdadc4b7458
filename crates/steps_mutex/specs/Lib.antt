pub mod MutexSteps
pub mod MutexProfiles
pub mod MutexDeeds
pub mod MutexLaws
