-- The laws on which users of a `Once` rely.
use Rattle.std.specs.Prelude.{ℕ, true, false, Some, ◌≡◌, ◌⊎◌}
use Rattle.spec_locks.specs.Onces.{Done, IsRunning}
use Rattle.spec_locks.specs.Locks.{LockState, LockCase, Rules, Once, Needs, after_case, has_caller}
use Rattle.spec_locks.specs.Sites.{Main, Site, IsSite}

-- nothing leaves Done
abbrev pub NothingLeavesDone : Type 0
NothingLeavesDone =
    (r : Rules) (case : LockCase) (s : LockState) (t : ℕ) → Needs r case s t → s.phase ≡ Done
    → (after_case r case s t).phase ≡ Done

-- while somebody waits to run it and nobody runs, some thread has seen the waiters and takes them, or lets go
-- those that it has taken
abbrev pub CallersAreLookedAfter : Type 0
CallersAreLookedAfter =
    (r : Rules) (s : Site) → r.sort ≡ Once → s.filled ≡ false → IsSite r s
    → has_caller s.lock.queue ≡ true
    → (IsRunning s.lock.phase → ⊥)
    → (t : ℕ) × (((s.role t).wakes ≡ Some Main) ⊎ ((s.role t).owes_taken ≡ true))
