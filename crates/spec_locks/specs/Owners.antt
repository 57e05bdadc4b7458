-- Exclusion, read alone: which threads own a lock, and that owners exclude each other. It asks nothing of
-- waiters, of calls or of steps.
use Rattle.std.specs.Prelude.{ℕ, Bool, Option, Some, None, ◌≡◌, ◌≤◌, List, sum}

-- the sorts of lock: one owner; many readers beside each other; the same, where a reader may come
-- back beside a pending writer; a number of permits; a run that completes once; a list of those that
-- wait, each with a mutex, to be notified
pub data Sort : Type 0 where
  Mutex : Sort
  Normal : Sort
  Recursive : Sort
  Semaphore : Sort
  Once : Sort
  Condvar : Sort

-- a sort, and how many may share
pub record Rules : Type 0 where
  pub sort : Sort
  pub limit : ℕ

-- a writer that waits for the last readers, and whether a writer that gives up falls back to the
-- upgradable right
pub record Pending : Type 0 where
  pub thread : ℕ
  pub falls_back : Bool

-- the exclusive, the pending and the upgradable owner, one of each at most, and how many shared rights each
-- thread has, by its number
pub record Owners : Type 0 where
  pub exclusive : Option ℕ
  pub pending : Option Pending
  pub upgradable : Option ℕ
  pub shared : List ℕ

-- a mutex has one owner, a semaphore as many as it has permits at most, and no more than its sort knows
abbrev pub MayHave : Sort → ℕ → Owners → Type 0
MayHave Mutex limit o = (o.pending ≡ None) × (o.upgradable ≡ None) × (sum o.shared ≡ 0)
MayHave Normal limit o = Unit {0}
MayHave Recursive limit o = Unit {0}
MayHave Semaphore limit o =
    (o.exclusive ≡ None) × (o.pending ≡ None) × (o.upgradable ≡ None) × (sum o.shared ≤ limit)
MayHave Once limit o = (o.exclusive ≡ None) × (o.pending ≡ None) × (o.upgradable ≡ None) × (sum o.shared ≡ 0)
MayHave Condvar limit o =
    (o.exclusive ≡ None) × (o.pending ≡ None) × (o.upgradable ≡ None) × (sum o.shared ≡ 0)

pub record OwnersExclude (r : Rules) (o : Owners) : Type 0 where
  -- an exclusive owner has no owner beside it
  pub alone : (t : ℕ) → o.exclusive ≡ Some t
      → (o.pending ≡ None) × (o.upgradable ≡ None) × (sum o.shared ≡ 0)
  -- a pending one has no upgradable one beside it
  pub pending_alone : (p : Pending) → o.pending ≡ Some p → o.upgradable ≡ None
  -- the owners are those of a lock of its sort
  pub of_sort : MayHave r.sort r.limit o
