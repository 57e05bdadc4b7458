-- The rights of a thread by its place, where its call began with what it needs and no more.
use Rattle.std.specs.Prelude.{ℕ, Bool, false, Some, ◌≡◌}
use Rattle.core_base.specs.declared.keys.Line.TheVariants.{Main}
use Rattle.core_base.specs.declared.wants.Want.{Want}
use Rattle.spec_locks.specs.Locks.{Rights, with_right}
use Rattle.spec_locks.specs.Purposes.{Releases}
use Rattle.spec_locks.specs.Runs.{no_rights}
use Rattle.lot_steps.specs.declared.places.Place.{Place}
use Rattle.lot_steps.specs.Steps.{called_lock, profile}
use Rattle.lot_world.specs.Few.{IsFew}
use Rattle.lot_world.specs.Sleepers.{BeganWithFew}
use Rattle.lot_world.specs.Standing.{MayStandAt}

-- a release that has its right yet has no other
abbrev pub ReleasesOne : Place → (ℕ → Rights) → Type 0
ReleasesOne p rights =
    (x : Want) (fair : Bool) → (profile p).purpose 0 ≡ Releases 0 x fair → (profile p).released ≡ false
    → (profile p).former 0 rights 0 ≡ with_right x no_rights

abbrev pub PlacesOwnFew : Type 0
PlacesOwnFew =
    (p : Place) (rights : ℕ → Rights) → MayStandAt p → called_lock p ≡ Some 0 → BeganWithFew 0 p rights
    → ReleasesOne p rights
    → IsFew (rights 0)

-- a thread in the main line owns nothing, asleep or not
abbrev pub QueuedOwnNothing : Type 0
QueuedOwnNothing =
    (p : Place) (rights : ℕ → Rights) → MayStandAt p → called_lock p ≡ Some 0
    → (profile p).stands ≡ Some Main → BeganWithFew 0 p rights
    → rights 0 ≡ no_rights
