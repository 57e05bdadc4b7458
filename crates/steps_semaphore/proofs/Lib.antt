pub mod SemaphoreWords
pub mod SemaphoreFit
pub mod SemaphoreCode
pub mod SemaphoreCalls
pub mod SemaphoreTells
pub mod SemaphoreRowCheck
pub mod TendedKept
