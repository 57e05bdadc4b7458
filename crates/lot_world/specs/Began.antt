-- How a thread's call began, by its place and by what the thread owns now, where that is one right at
-- most.
use Rattle.std.specs.Prelude.{ℕ, Option, Some, None, ◌≡◌}
use Rattle.spec_locks.specs.Locks.{Rights, with_right}
use Rattle.spec_locks.specs.Runs.{no_rights}
use Rattle.spec_locks.specs.Sites.{Claim, Has, Pends, Runs, Ran}
use Rattle.lot_steps.specs.declared.places.Place.{Place}
use Rattle.lot_steps.specs.Steps.{called_lock, profile}
use Rattle.lot_world.specs.Few.{HadNone, IsFew, PendsInCall}
use Rattle.lot_world.specs.Owned.{ReleasesOne}
use Rattle.lot_world.specs.Sleepers.{BeganWithFew}
use Rattle.lot_world.specs.Standing.{MayStandAt}

-- a thread owns what its place says, and no more
abbrev pub IsJust : Option Claim → Rights → Type 0
IsJust None r = Unit {0}
IsJust (Some (Has x)) r = r ≡ with_right x no_rights
IsJust (Some (Pends falls_back)) r = r ≡ record no_rights { pending = 1 }
IsJust (Some Runs) r = Unit {0}
IsJust (Some Ran) r = Unit {0}

-- the call at a place began with what it needs and no more
abbrev pub PlacesBegan : Type 0
PlacesBegan =
    (p : Place) (rights : ℕ → Rights) → MayStandAt p → called_lock p ≡ Some 0 → IsFew (rights 0)
    → IsJust (profile p).role.claims (rights 0)
    → HadNone ((profile p).purpose 0) (profile p).released ((profile p).former 0 rights 0)
    → PendsInCall (Some ((profile p).purpose 0)) (rights 0)
    → BeganWithFew 0 p rights × ReleasesOne p rights
