-- An owner of the lock of a world that was reached is a thread that is there; and a thread is pending only
-- in a call that waits for a right.
use Rattle.std.specs.Prelude.{ℕ, true, ◌≡◌, ◌≤◌, List, [], ◌∷◌, length}
use Rattle.spec_locks.specs.declared.calls.Step.{Step}
use Rattle.spec_locks.specs.declared.kinds.Kind.{Kind}
use Rattle.spec_locks.specs.Kinds.{fits}
use Rattle.spec_locks.specs.Locks.{rights_of}
use Rattle.spec_locks.specs.Purposes.{rules_of}
use Rattle.spec_locks.specs.Runs.{no_rights}
use Rattle.lot_machine.specs.Machine.{State, after_steps, opening}
use Rattle.lot_laws.specs.Refinement.{call_at, lock_state}
use Rattle.lot_world.specs.Drains.{Drains, PendsInCall}

-- three of the clauses of a world that may be drained
pub record HasOwnersThere (w : State) : Type 0 where
  pub some : 1 ≤ length w.places
  pub past : (t : ℕ) → length w.places ≤ t → rights_of (lock_state w 0) t ≡ no_rights
  pub unpending : (t : ℕ) → PendsInCall (call_at w t).purpose (rights_of (lock_state w 0) t)

-- promises hold of every world of one lock, whatever steps it has taken
abbrev pub ReachedHaveOwners : Type 0
ReachedHaveOwners =
    (kind : Kind) (threads : ℕ) (steps : List Step) → Drains (rules_of kind).sort → 1 ≤ threads
    → fits kind threads ≡ true
    → HasOwnersThere (after_steps (opening (kind ∷ []) threads) steps)
