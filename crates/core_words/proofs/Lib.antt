pub mod Totals
pub mod Lists
pub mod Looks
pub mod Indices
pub mod Trades
pub mod Counts
pub mod Keeps
pub mod PermitSteps
pub mod Stepping
pub mod Seats
pub mod MutexSteps
pub mod RwLockSteps
pub mod RwLockKinds
pub mod RwLockOwning
pub mod OnceSteps
pub mod OnceKnowledge
pub mod SemaphoreSteps
pub mod TiedSteps
pub mod Endowing
mod Alone
pub mod AtWord
mod Tries
mod RuleLaws
