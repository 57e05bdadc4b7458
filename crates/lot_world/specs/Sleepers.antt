-- A thread that sleeps in a call of a lock with owners: what it has, and what it does.
use Rattle.std.specs.Prelude.{ℕ, Bool, Some, None, ◌≡◌, ◌⊎◌}
use Rattle.steps_base.specs.declared.acts.Act.TheVariants as act
use Rattle.core_base.specs.declared.keys.Line.TheVariants.{Main, Second}
use Rattle.spec_locks.specs.Locks.{Rights}
use Rattle.spec_locks.specs.Runs.{no_rights}
use Rattle.steps_base.specs.Profiles.{Profile, hand}
use Rattle.lot_steps.specs.declared.places.Place.{Place}
use Rattle.lot_steps.specs.Steps.{act_of, called_lock, profile}
use Rattle.lot_world.specs.Drained.{IsResting}
use Rattle.lot_world.specs.Few.{HasFew}
use Rattle.lot_world.specs.Standing.{MayStandAt}

-- a sleeper is inside no section, owes nobody a wake, and has nobody in hand
abbrev pub SleepersRest : Type 0
SleepersRest =
    (p : Place) → MayStandAt p → act_of p ≡ act.Sleep
    → IsResting (profile p).role × ((profile p).role.inside ≡ None)

-- the rights of a thread now are few, where its row says what it owned as its call began
abbrev pub BeganWithFew : ℕ → Place → (ℕ → Rights) → Type 0
BeganWithFew l p rights =
    HasFew (Some ((profile p).purpose l)) ((profile p).former l rights l) (rights l)

-- a thread in the main line owns nothing
abbrev pub SleepersOwnNothing : Type 0
SleepersOwnNothing =
    (l : ℕ) (p : Place) (rights : ℕ → Rights) → MayStandAt p → called_lock p ≡ Some l
    → (profile p).stands ≡ Some Main → act_of p ≡ act.Sleep → BeganWithFew l p rights
    → rights l ≡ no_rights

-- The rights of a thread aside: nothing but that it is pending.
abbrev pub without_pending : Rights → Rights
without_pending r = record r { pending = 0 }

abbrev pub PendingOwnNothing : Type 0
PendingOwnNothing =
    (l : ℕ) (p : Place) (rights : ℕ → Rights) → MayStandAt p → called_lock p ≡ Some l
    → (profile p).stands ≡ Some Second → act_of p ≡ act.Sleep → BeganWithFew l p rights
    → without_pending (rights l) ≡ no_rights

-- a thread stands in a line, or is in a hand, and has nobody in its own
pub record StandsSomewhere (row : Profile) : Type 0 where
  pub has_taken : row.has_taken ≡ None
  pub somewhere : (row.stands ≡ Some Main) ⊎ ((row.stands ≡ Some Second)
      ⊎ ((by : ℕ) × (handed : Bool) × (row.hand ≡ hand by handed)))

abbrev pub SleepersStand : Type 0
SleepersStand =
    (p : Place) → MayStandAt p → act_of p ≡ act.Sleep → StandsSomewhere (profile p)
