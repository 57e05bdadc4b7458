pub mod Page
pub mod LockStaysASite
pub mod Pages
pub mod LockStepsAreEvents
pub mod At
