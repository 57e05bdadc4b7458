pub mod RwLockGuards
pub mod RwLockUsers
pub mod RwLockHalves
