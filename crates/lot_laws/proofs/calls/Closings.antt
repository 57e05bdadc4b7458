-- A closure has answered: its thread goes on from after it, as from any other place of its call.
use Rattle.lot_laws.proofs.Imports
use Imports.{ℕ, Bool, true, ◌≡◌, ◌<◌, length, length-set, refl, ◌∙◌, ap, held_by, Closed, hand_owner, Run}
use Imports.{Place, Once, next_place, or_else, State, can_go, close_outcome, closed_place, going_outcome}
use Imports.{place_at, put, state_after_close, state_after_going, IsWellFormed, closed_fits, put_well_formed}
use Imports.{AreCounted}
use Rattle.steps_once.specs.declared.run.RunAt.TheVariants as run
use Rattle.lot_laws.proofs.calls.Closures.{RunsOne}
use Rattle.lot_laws.proofs.hands.CountsPut.{put_counted}
use Rattle.lot_laws.proofs.hands.Counting.{counted_on}
use Rattle.lot_laws.proofs.calls.Looking.{closing_here, like}

module _ (w : State) (t : ℕ) (there : t < length w.places) (succeeded : Bool) (one : RunsOne (place_at w t))
  where
    abbrev pub closing : State
    closing = put w t (closed_place w t succeeded)

    abbrev pub afterwards : Place
    afterwards = Once one.lock (Run one.forced (run.Close succeeded))

    pub is_after : closed_place w t succeeded ≡ afterwards
    is_after = ap (λ p. next_place p (Closed succeeded)) one.is

    pub closing_there : t < length closing.places
    closing_there = rw (length-set w.places t (closed_place w t succeeded)) there

    pub closing_well_formed : IsWellFormed w → IsWellFormed closing
    closing_well_formed shape = put_well_formed w t (closed_place w t succeeded) shape
        (closed_fits w t succeeded shape)

    pub closing_counted : AreCounted w → AreCounted closing
    closing_counted = put_counted w t (closed_place w t succeeded) there
        (let it = like w t there succeeded one
        in λ i. held_by (hand_owner (or_else (it.row_at_mutex i).hand (it.row i).hand))
        (or_else (it.row_at_mutex i).wants (it.row i).wants))
        (λ l. ap (λ p. counted_on p l) is_after)

    -- the word is swapped next, whatever thread is inside
    pub closing_may : can_go closing t ≡ true
    closing_may = rw (closing_here w t there succeeded one, is_after) refl

    -- the step of the turn is the step from there
    pub goes_there : state_after_close w t succeeded ≡ state_after_going closing t afterwards
    goes_there = ap (state_after_going closing t) (closing_here w t there succeeded one ∙ is_after)

    pub told_there : close_outcome w t succeeded ≡ going_outcome closing t afterwards
    told_there = ap (going_outcome closing t) (closing_here w t there succeeded one ∙ is_after)
