-- The laws on which users of a reader-writer lock rely, of each step of any thread.
use Rattle.std.specs.Prelude.{ℕ, true, Some, None, ◌≡◌, ◌≢◌, ◌≤◌, ◌<◌, ◌⊎◌, length}
use Rattle.core_base.specs.declared.wants.Want.{Want}
use Rattle.core_base.specs.declared.wants.Want.TheVariants.{Exclusive, Upgradable, Shared}
use Rattle.spec_locks.specs.declared.calls.Step.{Step}
use Rattle.spec_locks.specs.declared.outcomes.Outcome.{Outcome}
use Rattle.spec_locks.specs.Locks.{LockState, Normal, Recursive, Owns, readers, sharers, times}
use Rattle.spec_locks.specs.Purposes.{Converts, Patience}
use Rattle.spec_locks.specs.Runs.{LocksState, AreLockStates, IsStep, rules_at}

-- while a writer is pending on a lock that isn't recursive, nobody begins to share it
abbrev pub ReadersStayOut : LocksState → LocksState → Type 0
ReadersStayOut w v =
    (l : ℕ) → (rules_at w l).sort ≡ Normal → (w.locks l).pending ≢ None → (v.locks l).pending ≢ None
    → readers (v.locks l) ≤ readers (w.locks l)

-- how often a thread waits to share
abbrev pub waits_to_share : ℕ → LockState → ℕ
waits_to_share t s = times t (sharers s.queue)

-- a thread that shares a recursive lock isn't queued to share it once more
abbrev pub RereadersPass : LocksState → LocksState → Type 0
RereadersPass w v =
    (t l : ℕ) → (rules_at w l).sort ≡ Recursive → Owns (w.locks l) t Shared
    → waits_to_share t (v.locks l) ≤ waits_to_share t (w.locks l)

-- the thread has the upgradable right, or is pending and falls back to it, or owns alone
abbrev pub IsFirstWriter : LockState → ℕ → Type 0
IsFirstWriter s t =
    Owns s t Upgradable ⊎
    ((s.pending ≡ Some (record { thread = t; falls_back = true })) ⊎ Owns s t Exclusive)

-- from the upgradable right to the exclusive one, and back where its time is up, an upgrade lets no
-- other writer in
abbrev pub UpgradesLetNobodyWrite : LocksState → LocksState → Type 0
UpgradesLetNobodyWrite w v =
    (t l : ℕ) (how : Patience) → (w.calls t).purpose ≡ Some (Converts l Upgradable Exclusive how)
    → IsFirstWriter (w.locks l) t
    → IsFirstWriter (v.locks l) t × ((u : ℕ) → Owns (v.locks l) u Exclusive → u ≡ t)

-- a downgrade has the greater right or the lesser one throughout
abbrev pub DowngradesOwn : LocksState → LocksState → Type 0
DowngradesOwn w v =
    (t l : ℕ) (x y : Want) (how : Patience) → t < length (w.locks l).shared
    → (w.calls t).purpose ≡ Some (Converts l x y how) → y ≢ Exclusive
    → Owns (w.locks l) t x ⊎ Owns (w.locks l) t y → Owns (v.locks l) t x ⊎ Owns (v.locks l) t y

-- each step of the abstract locks does so
abbrev pub OfEachStep : (LocksState → LocksState → Type 0) → Type 0
OfEachStep law = (w v : LocksState) (s : Step) (o : Outcome) → AreLockStates w → IsStep w s o v
    → law w v
