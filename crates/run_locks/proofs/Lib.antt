pub mod CondvarCalling
pub mod CondvarNotifying
pub mod CondvarGoing
pub mod WakeGoing
pub mod RwLockBumpFull
pub mod RwLockCalling
pub mod RwLockCourses
pub mod RwLockTakes
pub mod RwLockFull
pub mod RwLockRights
pub mod RwLockFairCalls
mod RwLockHalves
