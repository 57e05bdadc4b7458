-- The places of calls at which a thread has a place in a queue, and what its acts do to it.
use Rattle.std.specs.Prelude.{ℕ, ◌≡◌, Bool, true, false, Option, Some, None, is_some, ◌||◌, ◌⊎◌}
use Rattle.steps_base.specs.declared.acts.Act.{Act}
use Rattle.steps_base.specs.declared.acts.Act.TheVariants as act
use Rattle.steps_base.specs.declared.acts.Reply.{Reply}
use Rattle.steps_base.specs.declared.acts.Reply.TheVariants.{Done, Parked, Removed, Woken}
use Rattle.lot_steps.specs.Steps.{act_of, next_place, or_else, profile, profile_at_mutex, taker}
use Rattle.lot_steps.specs.declared.places.Place.{Place}
use Rattle.parking_lot_core.specs.Places.{IsPlaceOf}
use Rattle.parking_lot_core.specs.declared.lot.ParkingLot.{ParkingLot}
use Rattle.parking_lot_core.specs.declared.places.QueuePlace.{QueuePlace}

-- a thread there stood last in a queue, and was not woken since
abbrev pub is_queued : Place → Bool
is_queued p = is_some (or_else (profile_at_mutex p).stands (profile p).stands) || is_some (taker p)

-- a thread sleeps, and leaves its queue, by its place there
abbrev pub needs_place : Act → Bool
needs_place act.Sleep = true
needs_place (act.Remove key) = true
needs_place _ = false

-- a thread that stands last has a place from then on
abbrev pub gets_place : Act → Reply → Bool
gets_place (act.Park _ _ _ _) (Parked parked) = parked
gets_place (act.Stand _ _) Done = true
gets_place _ _ = false

-- one that was woken, or has left its queue, has none
abbrev pub spends_place : Act → Reply → Bool
spends_place act.Sleep (Woken note) = true
spends_place (act.Remove key) (Removed none_left) = true
spends_place _ _ = false

-- by whether it was queued before, and whether it is after: it stood last by the act, or was queued and
-- has neither been woken nor left
abbrev pub GoesOn : Bool → Bool → Act → Reply → Type 0
GoesOn was is a reply = is ≡ true
    → (gets_place a reply ≡ true) ⊎ ((spends_place a reply ≡ false) × (was ≡ true))

-- a thread sleeps, and leaves a queue, only where it is queued, and goes on so by the reply
abbrev pub StaysQueued : Place → Reply → Type 0
StaysQueued p reply = (needs_place (act_of p) ≡ true → is_queued p ≡ true)
    × GoesOn (is_queued p) (is_queued (next_place p reply)) (act_of p) reply

-- the thread of this number has a place in a queue of the lot
abbrev pub HasPlace : ParkingLot → ℕ → Option QueuePlace → Type 0
HasPlace lot thread None = ⊥
HasPlace lot thread (Some place) = IsPlaceOf lot thread place

-- The place of a thread after an act: one that it got by it, or had and has not spent.
abbrev pub KeepsPlace : ParkingLot → ℕ → Act → Reply → Option QueuePlace → Option QueuePlace → Type 0
KeepsPlace lot thread a reply old new = (gets_place a reply ≡ true → HasPlace lot thread new)
    × (spends_place a reply ≡ false → HasPlace lot thread old → HasPlace lot thread new)
