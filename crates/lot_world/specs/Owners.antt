-- A thread that owns between its calls may release what it owns.
use Rattle.std.specs.Prelude.{ℕ, Bool, if◌then◌else◌, Some, ◌≡◌, ◌≢◌, List, [], ◌∷◌, Contains}
use Rattle.core_base.specs.declared.wants.Want.{Want}
use Rattle.spec_locks.specs.declared.calls.Access.TheVariants as access
use Rattle.spec_locks.specs.declared.calls.Call.{Call}
use Rattle.spec_locks.specs.declared.calls.Call.TheVariants as call
use Rattle.spec_locks.specs.declared.calls.MutexCall.TheVariants as mutex_call
use Rattle.spec_locks.specs.declared.calls.RwLockCall.TheVariants as rwlock_call
use Rattle.spec_locks.specs.declared.kinds.Kind.{Kind}
use Rattle.spec_locks.specs.Locks.{rights_of}
use Rattle.spec_locks.specs.Purposes.{Releases}
use Rattle.spec_locks.specs.Runs.{MayBegin, no_rights, purpose_at}
use Rattle.lot_steps.specs.declared.places.Place.TheVariants.{Idle}
use Rattle.lot_machine.specs.Machine.{State, kind_at, place_at}
use Rattle.lot_machine.specs.Fits.{is_rwlock}
use Rattle.lot_laws.specs.Refinement.{lock_state, locks_of}
use Rattle.lot_world.specs.Full.{IsStrict}

-- the releases of a kind of lock
abbrev pub releases : Kind → List Call
releases kind =
    if is_rwlock kind
    then call.RwLock 0 (rwlock_call.Release access.Exclusive)
    ∷ call.RwLock 0 (rwlock_call.Release access.Upgradable)
    ∷ call.RwLock 0 (rwlock_call.Release access.Shared) ∷ []
    else call.Mutex 0 mutex_call.Unlock ∷ []

-- one of them is of a right of the thread's, and may begin
pub record ReleaseThere (w : State) (t : ℕ) : Type 0 where
  pub call : Call
  pub listed : Contains (releases (kind_at w 0)) call
  pub right : Want
  pub fair : Bool
  pub may : MayBegin (locks_of w) t call
  pub releases : purpose_at (locks_of w) call ≡ Some (Releases 0 right fair)

abbrev pub OwnersMayRelease : Type 0
OwnersMayRelease =
    (w : State) (t : ℕ) → IsStrict w → place_at w t ≡ Idle
    → rights_of (lock_state w 0) t ≢ no_rights
    → ReleaseThere w t
