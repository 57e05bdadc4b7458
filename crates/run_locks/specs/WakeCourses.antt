-- Places on the straight course of a call of a reader-writer lock that wakes others.
use Rattle.std.specs.Prelude.{ℕ, Bool, false, if◌then◌else◌}
use Rattle.core_base.specs.declared.keys.Line.TheVariants.{Main}
use Rattle.steps_rwlock.specs.declared.places.Admission.{Admission}
use Rattle.steps_rwlock.specs.declared.places.RwLockAt.TheVariants.{Wake}
use Rattle.steps_rwlock.specs.declared.purposes.RwLockPurpose.{RwLockPurpose}
use Rattle.steps_rwlock.specs.declared.release.WakeAt.{WakeAt}
use Rattle.steps_rwlock.specs.declared.release.WakeAt.TheVariants as waking
use Rattle.steps_rwlock_fair.specs.declared.places.RwLockCallPlace.TheVariants.{Plain}
use Rattle.lot_steps.specs.declared.places.Place.{Place}
use Rattle.lot_steps.specs.declared.places.Place.TheVariants.{RwLock}

-- where a thread stands that wakes those in the main queue, and was not woken itself
abbrev pub wakes_at : ℕ → Admission → RwLockPurpose → WakeAt → Place
wakes_at l a q to = RwLock l a (Plain (record { purpose = q; retries = false; at = Wake Main to }))

-- The place of such a thread after its take.
abbrev pub left_on : Bool → Bool → WakeAt
left_on any none_left = if none_left then waking.Clear any else waking.Leave any
