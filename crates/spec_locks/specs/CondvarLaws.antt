-- The laws on which users of a condition variable rely, of each step of any thread.
use Rattle.std.specs.Prelude.{ℕ, Bool, Some, ◌≡◌, ◌≢◌, ◌≤◌}
use Rattle.spec_locks.specs.Locks.{times}
use Rattle.spec_locks.specs.Purposes.{Notifies, Waits}
use Rattle.spec_locks.specs.Runs.{IsNotified, LocksState}

-- another thread, which notifies this condition variable
pub record IsNotifier (w : LocksState) (t l u : ℕ) : Type 0 where
  pub another : u ≢ t
  pub all : Bool
  pub notifies : (w.calls u).purpose ≡ Some (Notifies l all)

-- No wait wakes by itself. Its call recalls that it was notified, as it must to end without its
-- time being up, only since a step of another thread, which notifies its condition variable while
-- it stands in that queue.
abbrev pub NobodyWakesByItself : LocksState → LocksState → Type 0
NobodyWakesByItself w v =
    (t l m : ℕ) (timed : Bool) → (w.calls t).purpose ≡ Some (Waits l m timed)
    → (IsNotified (w.calls t).recalls → ⊥) → IsNotified (v.calls t).recalls
    → (1 ≤ times t (w.locks l).queue) × ((u : ℕ) × IsNotifier w t l u)
