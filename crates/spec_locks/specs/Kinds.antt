-- The kinds of lock.
use Rattle.std.specs.Prelude.{ℕ, Bool, true, false, ◌&&◌, nat_le}
use Rattle.spec_locks.specs.declared.kinds.Kind.{Kind}
use Rattle.spec_locks.specs.declared.kinds.Kind.TheVariants.{Mutex, Fair, RwLock, Recursive, Condvar, Once}
use Rattle.spec_locks.specs.declared.kinds.Kind.TheVariants.{Semaphore}
use Rattle.spec_locks.specs.declared.calls.Call.{Call}
use Rattle.spec_locks.specs.declared.calls.Call.TheVariants as call
use Rattle.spec_locks.specs.declared.kinds.TheConstants.{MOST_READERS, MOST_PERMITS}

-- a reader limit is at least the number of threads, and at most 2^60 - 2; a semaphore has 1 to 2^62
-- permits
abbrev pub fits : Kind → ℕ → Bool
fits (RwLock limit) threads = nat_le threads limit && nat_le limit MOST_READERS
fits (Recursive limit) threads = nat_le threads limit && nat_le limit MOST_READERS
fits Mutex threads = true
fits Fair threads = true
fits Condvar threads = true
fits Once threads = true
fits (Semaphore permits) threads = nat_le 1 permits && nat_le permits MOST_PERMITS

-- whether locks of the kind have the call
abbrev pub has_call : Kind → Call → Bool
has_call Mutex (call.Mutex lock c) = true
has_call Fair (call.Mutex lock c) = true
has_call (RwLock limit) (call.RwLock lock c) = true
has_call (Recursive limit) (call.RwLock lock c) = true
has_call Condvar (call.Condvar lock c) = true
has_call Once (call.Once lock c) = true
has_call (Semaphore permits) (call.Semaphore lock c) = true
has_call _ c = false

-- whether it is a mutex whose unlock hands the lock over
abbrev pub is_fair : Kind → Bool
is_fair Fair = true
is_fair Mutex = false
is_fair (RwLock limit) = false
is_fair (Recursive limit) = false
is_fair Condvar = false
is_fair Once = false
is_fair (Semaphore permits) = false

-- whether it is a mutex that condition variables work with
abbrev pub is_plain_mutex : Kind → Bool
is_plain_mutex Mutex = true
is_plain_mutex Fair = false
is_plain_mutex (RwLock limit) = false
is_plain_mutex (Recursive limit) = false
is_plain_mutex Condvar = false
is_plain_mutex Once = false
is_plain_mutex (Semaphore permits) = false

abbrev pub is_condvar : Kind → Bool
is_condvar Condvar = true
is_condvar Mutex = false
is_condvar Fair = false
is_condvar (RwLock limit) = false
is_condvar (Recursive limit) = false
is_condvar Once = false
is_condvar (Semaphore permits) = false
