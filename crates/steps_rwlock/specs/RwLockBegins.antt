-- Where a call of a reader-writer lock begins, and whether a thread has a right.
use Rattle.std.specs.Prelude.{ℕ, Bool, true, false, ◌==◌, not}
use Rattle.spec_locks.specs.declared.kinds.Kind.{Kind}
use Rattle.spec_locks.specs.declared.kinds.Kind.TheVariants as kind
use Rattle.spec_locks.specs.declared.calls.Access.{Access}
use Rattle.spec_locks.specs.declared.calls.Access.TheVariants as access
use Rattle.spec_locks.specs.declared.calls.Patience.TheVariants.{Try}
use Rattle.steps_base.specs.declared.owners.Owners.{Owners}
use Rattle.steps_base.specs.Owners.{is_thread}
use Rattle.steps_rwlock.specs.declared.places.Admission.{Admission}
use Rattle.steps_rwlock.specs.declared.places.RwLockPlace.{RwLockPlace}
use Rattle.steps_rwlock.specs.declared.places.RwLockAt.{RwLockAt}
use Rattle.steps_rwlock.specs.declared.places.RwLockAt.TheVariants as at
use Rattle.steps_rwlock.specs.declared.purposes.RwLockPurpose.{RwLockPurpose}
use Rattle.steps_rwlock.specs.declared.purposes.RwLockPurpose.TheVariants as purpose

-- the settings of a lock of a kind; one that isn't a reader-writer lock admits no reader
abbrev pub admission_of_kind : Kind → Admission
admission_of_kind kind.Mutex = record { recursive = false; limit = 0 }
admission_of_kind kind.Fair = record { recursive = false; limit = 0 }
admission_of_kind (kind.RwLock limit) = record { recursive = false; limit = limit }
admission_of_kind (kind.Recursive limit) = record { recursive = true; limit = limit }
admission_of_kind kind.Condvar = record { recursive = false; limit = 0 }
admission_of_kind kind.Once = record { recursive = false; limit = 0 }
admission_of_kind (kind.Semaphore permits) = record { recursive = false; limit = 0 }

-- a writer tries an unlocked word first, and a try to upgrade looks
abbrev pub first_at : RwLockPurpose → RwLockAt
first_at (purpose.Enter access.Exclusive how) = at.First
first_at (purpose.Enter x how) = at.Load
first_at (purpose.Upgrade Try) = at.Load
first_at q = at.GiveWay

abbrev pub rwlock_first : RwLockPurpose → RwLockPlace
rwlock_first q = record { purpose = q; retries = false; at = first_at q }

-- whether a thread has a right, where it shares so many times
abbrev pub has_access : Access → ℕ → Owners → ℕ → Bool
has_access access.Shared t owners shares = not (shares == 0)
has_access access.Upgradable t owners shares = is_thread t owners.upgradable
has_access access.Exclusive t owners shares = is_thread t owners.exclusive
