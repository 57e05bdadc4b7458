-- Each row of a `Once` keeps what is promised of its thread.
use Rattle.std.specs.Prelude.{ℕ}
use Rattle.steps_base.specs.Rows.{RowPromises}
use Rattle.spec_locks.specs.Locks.{Once}
use Rattle.steps_once.specs.declared.places.OncePlace.{OncePlace}
use Rattle.steps_once.specs.OnceSteps.{once_act}
use Rattle.steps_once.specs.OnceProfiles.{once_profile}

abbrev pub OnceRowsKeep : Type 0
OnceRowsKeep = (l : ℕ) (at : OncePlace) → RowPromises Once l (once_profile at) (once_act l at)
