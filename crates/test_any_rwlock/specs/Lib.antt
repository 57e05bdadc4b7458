pub mod AnyLocks
