-- A pending thread is in a call that waits for a right: no other thread ever is.
use Rattle.std.specs.Prelude.{ℕ, Option, Some, None, ◌≡◌, ◌≤◌}
use Rattle.spec_locks.specs.declared.outcomes.Outcome.{Outcome}
use Rattle.spec_locks.specs.Locks.{Rights, standing}
use Rattle.spec_locks.specs.Purposes.{MayWait, Purpose, Enters, Releases, Converts, Bumps, CallsOnce, Awaits}
use Rattle.spec_locks.specs.Purposes.{Waits, Notifies}
use Rattle.spec_locks.specs.Runs.{LocksState, AreLockStates, GoesOn, rights_in}
use Rattle.lot_world.specs.Few.{IsOfOneLock}

-- A thread wasn't pending as its call began; nor is it between its calls, or in a call that only
-- gives a right up.
abbrev pub BeganUnpending : Option Purpose → (before now : Rights) → Type 0
BeganUnpending None before now = now.pending ≡ 0
BeganUnpending (Some (Enters l x how)) before now = before.pending ≡ 0
BeganUnpending (Some (Releases l x fair)) before now = (before.pending ≡ 0) × (now.pending ≡ 0)
BeganUnpending (Some (Converts l x y how)) before now = before.pending ≡ 0
BeganUnpending (Some (Bumps l x)) before now = before.pending ≡ 0
BeganUnpending (Some (CallsOnce l forced)) before now = ⊥
BeganUnpending (Some (Awaits l forced timed)) before now = ⊥
BeganUnpending (Some (Waits l m timed)) before now = ⊥
BeganUnpending (Some (Notifies l all)) before now = ⊥

abbrev pub AllBeganUnpending : LocksState → Type 0
AllBeganUnpending w =
    (t : ℕ) → BeganUnpending (w.calls t).purpose ((w.calls t).former 0) (rights_in w t 0)

-- a thread that stands in a line, or is in a hand, is in a call that may wait
abbrev pub OnlyWaitersStand : LocksState → Type 0
OnlyWaitersStand w = (t : ℕ) → 1 ≤ standing t (w.locks 0) → MayWait (w.calls t).purpose 0

-- a thread that goes on keeps it so
abbrev pub UnpendingGoOn : Type 0
UnpendingGoOn =
    (w v : LocksState) (t : ℕ) (o : Outcome) → AreLockStates w → IsOfOneLock w 0
    → OnlyWaitersStand w → AllBeganUnpending w → GoesOn w t o v
    → AllBeganUnpending v
