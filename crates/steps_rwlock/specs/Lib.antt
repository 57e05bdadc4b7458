pub mod RwLockSteps
pub mod RwLockDeeds
pub mod RwLockProfiles
pub mod RwLockCalls
pub mod RwLockBegins
pub mod RwLockMoves
pub mod RwLockOpenings
