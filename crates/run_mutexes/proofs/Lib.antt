pub mod LockGoing
pub mod MutexGoing
