-- What a quiet state is like: where no thread has anything to do, each waiter waits for something that is kept.
-- So no wake-up is lost.
use Rattle.std.specs.Prelude.{ℕ, Bool, true, false, None, Some, ◌≡◌, ◌≢◌, ◌≤◌, ◌⊎◌}
use Rattle.spec_locks.specs.Onces.{Done, IsRunning}
use Rattle.spec_locks.specs.Owners.{Sort, Mutex, Normal, Recursive, Semaphore, Once, Condvar}
use Rattle.spec_locks.specs.Locks.{LockState, has_caller, readers, times}
use Rattle.spec_locks.specs.Sites.{has_readers}
use Rattle.spec_locks.specs.Runs.{LocksState, rules_at}

abbrev pub sort_in : LocksState → ℕ → Sort
sort_in w l = (rules_at w l).sort

-- no thread has anything to do: each one in a call sleeps, or runs a closure
abbrev pub IsQuiet : LocksState → Type 0
IsQuiet w = (t : ℕ) → (w.calls t).purpose ≢ None
    → ((w.stances t).asleep ≡ true) ⊎ ((w.stances t).in_closure ≡ true)

-- a waiter of the main line waits that an owner leaves, that a permit is given back or that it is notified;
-- at a `Once`, that a run ends, or that one begins, where nobody is there to run it
abbrev pub WaitsForSome : Sort → ℕ → LockState → Type 0
WaitsForSome Mutex limit s = s.exclusive ≢ None
WaitsForSome Normal limit s = (s.exclusive ≢ None) ⊎ ((s.pending ≢ None) ⊎ (s.upgradable ≢ None))
WaitsForSome Recursive limit s =
    (s.exclusive ≢ None) ⊎ ((s.pending ≢ None) ⊎ (s.upgradable ≢ None))
WaitsForSome Semaphore limit s = limit ≤ readers s
WaitsForSome Once limit s = (s.phase ≢ Done) × (has_caller s.queue ≡ true → IsRunning s.phase)
WaitsForSome Condvar limit s = s.shown ≢ None

pub record WaitersWaitRightly (w : LocksState) (was_full : ℕ → Bool) : Type 0 where
  -- a lock that is shared and was once at its limit is left out
  pub waits : (t l : ℕ) → 1 ≤ times t (w.locks l).queue
      → (has_readers (sort_in w l) ≡ true → was_full l ≡ false)
      → WaitsForSome (sort_in w l) (rules_at w l).limit (w.locks l)
  -- a writer aside waits for readers
  pub aside : (l : ℕ) → (w.locks l).aside ≢ None → 1 ≤ readers (w.locks l)
  -- nobody is in the hand of another
  pub in_no_hand : (t l : ℕ) → (w.locks l).taken t ≡ None
  -- A thread that sleeps stands in a queue or aside.
  pub somewhere : (t : ℕ) → (w.stances t).asleep ≡ true
      → (l : ℕ) × ((1 ≤ times t (w.locks l).queue) ⊎ ((w.locks l).aside ≡ Some t))
