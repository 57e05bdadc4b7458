-- The end of a drain, told of one lock and of each thread's part in it: no word, no place and no
-- loop.
use Rattle.std.specs.Prelude.{ℕ, true, false, Some, None, ◌≡◌, ◌≢◌, ◌≤◌, ◌<◌, ◌+◌, [], length, slice_index}
use Rattle.spec_locks.specs.Locks.{LockState, Rules, Sort, Mutex, Normal, Recursive, Semaphore, Once, Condvar}
use Rattle.spec_locks.specs.Locks.{one_if_thread, readers}
use Rattle.spec_locks.specs.Sites.{Role, Site, IsSite, is_full, after_deed, Needed, Deed}

-- a thread that is in no call, or sleeps: it is to wake nobody, has nobody in hand, and wasn't woken
pub record IsResting (d : Role) : Type 0 where
  pub wakes : d.wakes ≡ None
  pub has_taken : d.has_taken ≡ false
  pub owes_taken : d.owes_taken ≡ false
  pub retries : d.retries ≡ None

-- nobody owns anything, but a writer that is pending, and then somebody stands aside
pub record OwnsNothing (s : LockState) : Type 0 where
  pub exclusive : s.exclusive ≡ None
  pub upgradable : s.upgradable ≡ None
  pub readers : readers s ≡ 0
  pub pending : s.pending ≢ None → s.aside ≢ None

-- nobody stands in a line, is in a hand, or is pending
pub record IsEmptied (s : LockState) : Type 0 where
  pub queue : s.queue ≡ []
  pub aside : s.aside ≡ None
  pub pending : s.pending ≡ None
  pub taken : (u : ℕ) → s.taken u ≡ None

-- the sorts of lock that a drain knows: those that have owners, and no permits
abbrev pub Drains : Sort → Type 0
Drains Mutex = Unit {0}
Drains Normal = Unit {0}
Drains Recursive = Unit {0}
Drains Semaphore = ⊥
Drains Once = ⊥
Drains Condvar = ⊥

abbrev pub RestingIsEmpty : Type 0
RestingIsEmpty =
    (r : Rules) (s : Site) → IsSite r s → Drains r.sort → ((t : ℕ) → IsResting (s.role t))
    → OwnsNothing s.lock → s.filled ≡ false
    → IsEmptied s.lock

-- ---------------------------------------------------------------- a lock that was full once

-- the site as it would be if only now counted, and not whether the lock was full once
abbrev pub as_now : Rules → Site → Site
as_now r s = record s { filled = is_full r s.lock }

-- a lock that is full now, and of which nobody waits after a deed, was as good as never full
abbrev pub EachDeedKeepsNow : Type 0
EachDeedKeepsNow =
    (r : Rules) (d : Deed) (s : Site) (t : ℕ) → IsSite r (as_now r s) → Needed r d s t
    → (is_full r s.lock ≡ true → (after_deed r d s t).lock.queue ≡ [])
    → IsSite r (as_now r (after_deed r d s t))

-- ---------------------------------------------------------------- waiters left out of a full lock

-- how many rights that count a thread has
abbrev pub counting_rights : LockState → ℕ → ℕ
counting_rights s t = slice_index s.shared t + one_if_thread t s.upgradable

-- each thread has one that counts at most, and only threads that are there have any
pub record OneEach (s : LockState) : Type 0 where
  pub one : (t : ℕ) → counting_rights s t ≤ 1
  pub there : (u : ℕ) → s.upgradable ≡ Some u → u < length s.shared

-- where a lock may be shared by as many as there are, none of them is left out of a full one
abbrev pub NobodyIsLeftOut : Type 0
NobodyIsLeftOut =
    (r : Rules) (s : LockState) (t : ℕ) → length s.shared ≤ r.limit → OneEach s
    → is_full r s ≡ true → t < length s.shared
    → counting_rights s t ≡ 1
