-- Why a call of a reader-writer lock was refused, and what one left that gave up.
use Rattle.std.specs.Prelude.{ℕ, ◌≡◌, ◌≤◌, ◌++◌, false, List}
use Rattle.core_base.specs.declared.ops.Op.{Op}
use Rattle.spec_locks.specs.Codes.{count_in, is_blocked}
use Rattle.spec_locks.specs.declared.calls.Access.{Access}
use Rattle.spec_locks.specs.declared.calls.RwLockCall.{RwLockCall}
use Rattle.spec_locks.specs.declared.calls.RwLockCall.TheVariants as calls
use Rattle.steps_rwlock.specs.RwLockSteps.{wanted}
use Rattle.steps_rwlock.specs.declared.places.Admission.{Admission}
use Rattle.steps_rwlock.specs.declared.purposes.RwLockPurpose.{RwLockPurpose}
use Rattle.steps_rwlock.specs.declared.purposes.RwLockPurpose.TheVariants as purpose
use Rattle.core_words.specs.declared.views.WordStep.{WordStep}
use Rattle.parking_lot_core.specs.Tokens.{view_of, last_of}
use Rattle.parking_lot_core.specs.declared.tokens.Token.{Token}
use Rattle.run_base.specs.Paths.{rwlock_at, step}
use Rattle.run_base.specs.RwLockFitting.{LeftBy}

-- the last of its steps saw that nobody keeps this right out, and that as many share the lock as
-- may
abbrev pub SawReadersFull : ℕ → Admission → Access → Token → Token → Type 0
SawReadersFull l a x old new = (before : List WordStep) × (op : Op) × (seen : ℕ)
    × ((view_of new).steps ≡ ((view_of old).steps ++ before) ++ step (rwlock_at l) op seen)
    × (is_blocked a.recursive (wanted x) seen ≡ false) × (a.limit ≤ count_in seen)

-- a call that gave up left this
abbrev pub LeftGivingUp : ℕ → Admission → RwLockPurpose → Token → Type 0
LeftGivingUp l a q new = LeftBy l a q (last_of new) (view_of new).steps

-- a call is refused so; no other gives up
abbrev pub GaveUpCall : ℕ → Admission → RwLockCall → Token → Type 0
GaveUpCall l a (calls.Enter x how) new = LeftGivingUp l a (purpose.Enter x how) new
GaveUpCall l a (calls.Upgrade how) new = LeftGivingUp l a (purpose.Upgrade how) new
GaveUpCall l a call new = ⊥
