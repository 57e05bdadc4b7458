pub mod ReplayLemmas
pub mod Laws
pub mod ActionLemmas
pub mod StartLemmas
pub mod ShowLemmas
mod StageLemmas
mod Declaring
mod DrainLemmas
