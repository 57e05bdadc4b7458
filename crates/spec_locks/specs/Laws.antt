-- Steps that no world of the abstract locks takes.
use Rattle.std.specs.Prelude.{ℕ, false, true, Some, None, ◌≡◌}
use Rattle.core_base.specs.declared.wants.Want.{Want}
use Rattle.core_base.specs.declared.wants.Want.TheVariants.{Exclusive}
use Rattle.spec_locks.specs.declared.kinds.Kind.TheVariants as kind
use Rattle.spec_locks.specs.declared.calls.Call.{Call}
use Rattle.spec_locks.specs.declared.calls.Turn.TheVariants as turn
use Rattle.spec_locks.specs.declared.calls.Step.{Step}
use Rattle.spec_locks.specs.declared.outcomes.Answer.{Answer}
use Rattle.spec_locks.specs.declared.outcomes.Answer.TheVariants as answer
use Rattle.spec_locks.specs.declared.outcomes.Outcome.TheVariants as outcome
use Rattle.spec_locks.specs.Locks.{Wake, Enter, IsFree, opening_lock}
use Rattle.spec_locks.specs.Purposes.{Enters, Releases, Try}
use Rattle.spec_locks.specs.Runs.{LocksState, AtLock, MayHappen, MayTurn, IsStep, new_call, no_rights}
use Rattle.spec_locks.specs.Runs.{rules_at}

-- a turn that is possible isn't refused
abbrev pub PossibleTurnsAreTaken : Type 0
PossibleTurnsAreTaken =
    (w v : LocksState) (s : Step) → MayTurn w s.thread s.turn
    → IsStep w s outcome.NotNow v → ⊥

-- a call doesn't end as it begins
abbrev pub CallsTakeSteps : Type 0
CallsTakeSteps =
    (w v : LocksState) (t : ℕ) (c : Call) (a : Answer)
    → IsStep w (record { thread = t; turn = turn.Begin c })
    (outcome.End a) v → ⊥

-- a fair release wakes nobody in place of handing the lock over
abbrev pub FairReleasesHandOver : Type 0
FairReleasesHandOver =
    (w : LocksState) (t l : ℕ) → (w.calls t).purpose ≡ Some (Releases l Exclusive true)
    → MayHappen w t (AtLock l Wake)
    → ⊥

-- nobody enters a lock that isn't free for what it wants
abbrev pub OwnersKeepOut : Type 0
OwnersKeepOut =
    (w : LocksState) (t l : ℕ) (x : Want) → (IsFree (rules_at w l) (w.locks l) x → ⊥)
    → MayHappen w t (AtLock l (Enter x)) → ⊥

-- one thread tries a mutex that nobody owns
abbrev pub trying : LocksState
trying = record {
  threads = 1;
  size = 1;
  kinds = λ l. kind.Mutex;
  locks = λ l. opening_lock 1;
  inside = λ key. None;
  calls = λ t. new_call (Some (Enters 0 Exclusive Try)) (λ l. no_rights);
  stances = λ t. record { asleep = false; in_closure = false; enters = None; may_spin = false };
}

-- a try of a mutex that nobody owns doesn't fail
abbrev pub FreeMutexIsGot : Type 0
FreeMutexIsGot = (v : LocksState)
    → IsStep trying (record { thread = 0; turn = turn.Go })
    (outcome.End answer.No) v
    → ⊥
