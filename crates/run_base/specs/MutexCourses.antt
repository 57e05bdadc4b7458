-- Places on the straight course of an unlock that saw a waiter.
use Rattle.std.specs.Prelude.{ℕ, Bool, if◌then◌else◌}
use Rattle.steps_mutex.specs.declared.places.MutexPlace.TheVariants as mutex
use Rattle.steps_mutex.specs.declared.unlock.UnlockAt.{UnlockAt}
use Rattle.steps_mutex.specs.declared.unlock.UnlockAt.TheVariants as unlock
use Rattle.lot_steps.specs.declared.places.Place.{Place}
use Rattle.lot_steps.specs.declared.places.Place.TheVariants.{Mutex}

-- the finding of an owner at a mutex on which some thread may wait
abbrev pub locked_and_parked : ℕ
locked_and_parked = 3

-- where a thread stands that unlocks a mutex
abbrev pub unlocks_at : ℕ → UnlockAt → Place
unlocks_at m at = Mutex m (mutex.Unlock at)

-- The place of a release after its take.
abbrev pub taken_on : Bool → Bool → UnlockAt
taken_on any none_left = if none_left then unlock.Clear any else unlock.Leave any
