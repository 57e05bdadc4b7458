pub mod OnceUsers
pub mod OnceCalls
pub mod Ran
pub mod Looks
pub mod SemaphoreCalls
pub mod SemaphoreUsers
