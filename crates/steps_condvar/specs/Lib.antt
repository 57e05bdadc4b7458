pub mod CondvarSteps
pub mod CondvarProfiles
pub mod CondvarDeeds
pub mod CondvarMutex
pub mod CondvarWaits
pub mod CondvarCalls
pub mod CondvarMoves
