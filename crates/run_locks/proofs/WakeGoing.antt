-- The straight course of a call of a reader-writer lock that wakes others: where its take leads.
use Rattle.std.proofs.Common.{ℕ, ◌≡◌, Bool, true, false, Option, None, refl}
use Rattle.core_base.specs.declared.wants.Want.{Want}
use Rattle.steps_base.specs.Acts.{any_picked}
use Rattle.steps_base.specs.declared.acts.Reply.TheVariants.{Picked}
use Rattle.steps_rwlock.specs.declared.places.Admission.{Admission}
use Rattle.steps_rwlock.specs.declared.purposes.RwLockPurpose.{RwLockPurpose}
use Rattle.steps_rwlock.specs.declared.release.WakeAt.TheVariants as waking
use Rattle.lot_steps.specs.Steps.{next_act, next_place}
use Rattle.run_base.specs.Fitting.{answer_of}
use Rattle.run_locks.specs.WakeCourses.{left_on, wakes_at}

-- the thread goes on by whether any waiter is left
pub took_picked : (l : ℕ) (a : Admission) (q : RwLockPurpose) (sharers : ℕ) (successor : Option Want)
    (none_left : Bool) → (next_place (wakes_at l a q waking.Take) (Picked sharers successor none_left)
    ≡ wakes_at l a q (left_on (any_picked sharers successor) none_left))
    × (answer_of (next_act (wakes_at l a q waking.Take) (Picked sharers successor none_left)) ≡ None)
took_picked l a q sharers successor true = (refl, refl)
took_picked l a q sharers successor false = (refl, refl)
