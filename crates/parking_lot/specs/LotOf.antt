-- The names that clauses of users cite, for all locks. `lot_of` is of a mutex, fair or not, and of the
-- first of the pair that a reentrant mutex or a monitor is.
--
-- There is no overloading, so a lot's lock has a name here for each sort of lock.
pub use Rattle.lock_api.specs.Guards.{lock_of, value_of}
pub use Rattle.parking_lot_core.specs.Places.{IsPlaceOf}
pub use Rattle.parking_lot_core.specs.Tokens.{IsSameThread, IsTicketOf, IsTokenOf, view_of, last_of}
pub use Rattle.raw_mutexes.specs.CondvarWords.{lot_of as lot_of_condvar}
pub use Rattle.raw_mutexes.specs.Counting.{thread_of}
pub use Rattle.raw_mutexes.specs.Words.{lot_of, word_of}
pub use Rattle.raw_rwlocks.specs.RwLockGuards.{IsSharedOf, IsUpgradableOf, IsExclusiveOf}
pub use Rattle.raw_rwlocks.specs.RwLockUsers.{admission_of, lot_of as lot_of_rwlock}
pub use Rattle.raw_rwlocks.specs.RwLockUsers.{word_of as word_of_rwlock}
pub use Rattle.run_once_and_semaphores.specs.OnceUsers.{lot_of as lot_of_once, number_of as number_of_once}
pub use Rattle.run_once_and_semaphores.specs.SemaphoreUsers.{lot_of as lot_of_semaphore, number_of as number_of_semaphore}
pub use Rattle.run_once_and_semaphores.specs.SemaphoreUsers.{permits_of, semaphore_of}
