-- A lock that is full while it is drained: every thread owns, and nobody is queued.
use Rattle.std.specs.Prelude.{ℕ, Bool, true, false, Some, ◌≡◌, ◌≤◌, [], length}
use Rattle.core_base.specs.declared.wants.Want.{Want}
use Rattle.spec_locks.specs.Locks.{rights_of, with_right}
use Rattle.spec_locks.specs.Purposes.{Releases}
use Rattle.spec_locks.specs.Runs.{no_rights}
use Rattle.spec_locks.specs.Sites.{is_full}
use Rattle.lot_machine.specs.Machine.{State, after, go_of}
use Rattle.lot_laws.specs.Refinement.{call_at, lock_state}
use Rattle.lot_laws.specs.SitesOf.{rules_in}
use Rattle.lot_world.specs.Ordered.{IsOrdered}

pub record IsStrict (w : State) : Type 0 where
  pub ordered : IsOrdered w
  -- a release that has its right yet has no other
  pub fresh : (t : ℕ) (x : Want) (fair : Bool) → (call_at w t).purpose ≡ Some (Releases 0 x fair)
      → (call_at w t).released ≡ false
      → (call_at w t).former 0 ≡ with_right x no_rights
  -- each owner is a thread that is there
  pub past : (t : ℕ) → length w.places ≤ t → rights_of (lock_state w 0) t ≡ no_rights

abbrev pub FullIsEmpty : Type 0
FullIsEmpty =
    (w : State) → IsStrict w → is_full (rules_in w 0) (lock_state w 0) ≡ true
    → (lock_state w 0).queue ≡ []

abbrev pub StrictGoesOn : Type 0
StrictGoesOn = (w : State) (t : ℕ) → IsStrict w → IsStrict (after w (go_of t))
