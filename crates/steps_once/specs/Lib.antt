pub mod OnceSteps
pub mod OnceProfiles
pub mod OnceDeeds
pub mod OnceCalls
pub mod OnceMoves
pub mod OnceRows
