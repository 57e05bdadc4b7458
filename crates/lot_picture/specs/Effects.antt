-- What a step does to another thread, by what that thread was to a lock before and after it.
use Rattle.std.specs.Prelude.{ℕ, Bool, true, false, Option, Some, None, if◌then◌else◌, ◌&&◌, not, nat_lt}
use Rattle.std.specs.Prelude.{is_some}
use Rattle.steps_base.specs.declared.owners.Owner.{Owner}
use Rattle.steps_base.specs.declared.owners.Owner.TheVariants.{Exclusive, Pending, Upgradable, Running}
use Rattle.steps_base.specs.declared.owners.Owner.TheVariants.{Shared}
use Rattle.lot_picture.specs.declared.cells.Cell.{Cell}
use Rattle.lot_picture.specs.declared.cells.Deed.{Deed}
use Rattle.lot_picture.specs.declared.cells.Deed.TheVariants.{Owes, Waits, WaitsAside, Retries, Taken, Calls}
use Rattle.lot_picture.specs.declared.effects.Effect.{Effect}
use Rattle.lot_picture.specs.declared.effects.Effect.TheVariants.{HandsOver, Wakes, Moves, Takes}

-- how much a right lets a thread do
abbrev pub strength : Option Owner → ℕ
strength None = 0
strength (Some Shared) = 1
strength (Some Upgradable) = 2
strength (Some Pending) = 3
strength (Some Exclusive) = 4
strength (Some Running) = 5

-- whether a thread is in a queue of the lock
abbrev pub is_queued : Option Deed → Bool
is_queued None = false
is_queued (Some Owes) = false
is_queued (Some Waits) = true
is_queued (Some WaitsAside) = true
is_queued (Some Retries) = false
is_queued (Some Taken) = false
is_queued (Some Calls) = false

-- whether it is asleep, in the hand of a thread that is inside
abbrev pub is_taken_off : Option Deed → Bool
is_taken_off None = false
is_taken_off (Some Owes) = false
is_taken_off (Some Waits) = false
is_taken_off (Some WaitsAside) = false
is_taken_off (Some Retries) = false
is_taken_off (Some Taken) = true
is_taken_off (Some Calls) = false

-- whether it was woken and tries again
abbrev pub is_retrying : Option Deed → Bool
is_retrying None = false
is_retrying (Some Owes) = false
is_retrying (Some Waits) = false
is_retrying (Some WaitsAside) = false
is_retrying (Some Retries) = true
is_retrying (Some Taken) = false
is_retrying (Some Calls) = false

-- the thread tries again and did not before, or it was asleep with the lock handed to it and is so no more
abbrev pub is_woken : Cell → Cell → Bool
is_woken before now =
    if is_retrying now.deed then not (is_retrying before.deed)
    else is_some now.right && is_taken_off before.deed && not (is_taken_off now.deed)

-- what a step did to a thread that has not taken it
abbrev pub effect_between : Cell → Cell → Option Effect
effect_between before now =
    if nat_lt (strength before.right) (strength now.right) then Some HandsOver
    else if is_woken before now then Some Wakes
    else if is_queued now.deed && not (is_queued before.deed) then Some Moves
    else if is_taken_off now.deed && not (is_taken_off before.deed) then Some Takes
    else None
