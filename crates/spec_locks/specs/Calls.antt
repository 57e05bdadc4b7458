-- The calls of a world's threads.
use Rattle.std.specs.Prelude.{ℕ, Option, Some, None}
use Rattle.std.specs.Option.{unwrap_or}
use Rattle.spec_locks.specs.declared.calls.Call.{Call}
use Rattle.spec_locks.specs.declared.calls.Call.TheVariants as call
use Rattle.spec_locks.specs.declared.calls.CondvarCall.{CondvarCall}
use Rattle.spec_locks.specs.declared.calls.CondvarCall.TheVariants.{Wait, Notify}

-- the lock that is called
abbrev pub lock_in : Call → ℕ
lock_in (call.Mutex lock c) = lock
lock_in (call.RwLock lock c) = lock
lock_in (call.Once lock c) = lock
lock_in (call.Condvar lock c) = lock
lock_in (call.Semaphore lock c) = lock

-- the mutex that a wait names
abbrev pub mutex_named : CondvarCall → Option ℕ
mutex_named (Wait m timed) = Some m
mutex_named (Notify all) = None

abbrev pub mutex_in : Call → Option ℕ
mutex_in (call.Condvar lock c) = mutex_named c
mutex_in (call.Mutex lock c) = None
mutex_in (call.RwLock lock c) = None
mutex_in (call.Once lock c) = None
mutex_in (call.Semaphore lock c) = None

-- the lock to which the call needs a right, if it needs one
abbrev pub lock_of_right : Call → ℕ
lock_of_right c = unwrap_or (mutex_in c) (lock_in c)
