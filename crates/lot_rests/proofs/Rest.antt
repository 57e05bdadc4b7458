-- Threads that begin nothing new come to rest.
use Rattle.std.proofs.Common.{ℕ, Bool, true, false, ◌≡◌, ◌+◌, ◌*◌, ◌≤◌, ◌<◌, ◌⊎◌, nat_lt, inl, inr, List, []}
use Rattle.std.proofs.Common.{◌∷◌, ◌++◌, length, refl, sym, ◌∙◌, arith}
use Rattle.std.proofs.lemmas.Bool.Decides.{nat_tests}
use Rattle.spec_locks.specs.declared.calls.Step.{Step}
use Rattle.spec_locks.specs.declared.calls.Turn.TheVariants as turn
use Rattle.spec_locks.specs.Rest.{IsQuiet}
use Rattle.spec_locks.specs.Runs.{MayGo}
use Rattle.lot_machine.specs.Machine.{State, after, can_go, go_of, is_possible, kind_at, place_at, word_at}
use Rattle.lot_machine.specs.Fits.{SameSize}
use Rattle.lot_machine.proofs.Shape.{after_size}
use Rattle.lot_laws.specs.Refinement.{locks_of}
use Rattle.lot_laws.specs.SitesOf.{IsWorld}
use Rattle.lot_laws.proofs.promises.WorldRuns.{world_after}
use Rattle.lot_laws.proofs.machine.Possible.{go_possible, turner_there}
use Rattle.lot_laws.proofs.promises.Headline.{holds_after}
use Rattle.lot_rests.specs.Rests.{AllGo, GoesOnward, NobodyGoes, WorldsComeToRest, after_goes, most_steps}
use Rattle.lot_rests.proofs.Most.{ways_most, work_most}
use Rattle.lot_rests.proofs.Rows.{clear_most}
use Rattle.lot_rests.proofs.Sums.{potential_most, sum_below, sum_most}
use Rattle.lot_rests.proofs.Turns.{clear_at, events, steps_left, step_falls, ways_at, work_at}

-- ---------------------------------------------------------------- the run is short

runs_short : (ss : List Step) (w : State) → IsWorld w → GoesOnward w ss → length ss ≤ steps_left w
runs_short [] w h on = omega arith
runs_short (s ∷ ss) w h on =
    let rest : length ss ≤ steps_left (after w s) = runs_short ss (after w s) (world_after w s h) on.2 in
    let falls : steps_left (after w s) + 1 ≤ steps_left w = step_falls w s h on.0 on.1 in
    omega arith

pub left_most : (w : State) → steps_left w ≤ most_steps (length w.places) (length w.locks)
left_most w =
    let works : sum_below (length w.places) (work_at w) ≤ 21 * length w.places =
    sum_most (length w.places) 21 (work_at w) (λ u. work_most (place_at w u)) in
    let bits : sum_below (length w.locks) (clear_at w) ≤ 2 * length w.locks =
    sum_most (length w.locks) 2 (clear_at w) (λ l. clear_most (kind_at w l) (word_at w l)) in
    let short : sum_below (length w.places) (ways_at w) ≤ 5 * length w.places =
    sum_most (length w.places) 5 (ways_at w) (λ u. ways_most (word_at w) (place_at w u)) in
    potential_most (length w.places) (length w.locks) (events w) (sum_below (length w.places) (ways_at w))
    (omega arith) short

-- threads that go on one after another
pub goes_lower : (ts : List ℕ) (w : State) → IsWorld w → AllGo w ts → steps_left (after_goes w ts) + length ts
    ≤ steps_left w
goes_lower [] w h go = omega arith
goes_lower (t ∷ ts) w h go =
    let rest : steps_left (after_goes (after w (go_of t)) ts) + length ts ≤ steps_left (after w (go_of t)) =
    goes_lower ts (after w (go_of t)) (world_after w (go_of t) h) go.1 in
    let falls : steps_left (after w (go_of t)) + 1 ≤ steps_left w = step_falls w (go_of t) h tt go.0 in
    omega arith

pub goes_world : (ts : List ℕ) (w : State) → IsWorld w → IsWorld (after_goes w ts)
goes_world [] w h = h
goes_world (t ∷ ts) w h = goes_world ts (after w (go_of t)) (world_after w (go_of t) h)

pub goes_size : (ts : List ℕ) (w : State) → SameSize w (after_goes w ts)
goes_size [] w = record { threads = refl; locks = refl }
goes_size (t ∷ ts) w =
    let first : SameSize w (after w (go_of t)) = after_size w (go_of t) in
    let rest : SameSize (after w (go_of t)) (after_goes (after w (go_of t)) ts) =
    goes_size ts (after w (go_of t)) in
    record { threads = rest.threads ∙ first.threads; locks = rest.locks ∙ first.locks }

-- one run after another
pub goes_on : (ts us : List ℕ) (w : State) → AllGo w ts → AllGo (after_goes w ts) us → AllGo w (ts ++ us)
goes_on [] us w go more = more
goes_on (t ∷ ts) us w go more = (go.0, goes_on ts us (after w (go_of t)) go.1 more)

pub goes_then : (ts us : List ℕ) (w : State) → after_goes w (ts ++ us) ≡ after_goes (after_goes w ts) us
goes_then [] us w = refl
goes_then (t ∷ ts) us w = goes_then ts us (after w (go_of t))

-- ---------------------------------------------------------------- where nobody goes on

module _ (w : State) (h : IsWorld w) (stuck : NobodyGoes w) where
  nobody_may : (u : ℕ) → MayGo (locks_of w) u → ⊥
  nobody_may u may =
      let can : can_go w u ≡ true = go_possible w u h.inductive may in
      let there : u < length w.places = turner_there w u turn.Go may in
      let lt : nat_lt u (length w.places) ≡ true = grind (arith, nat_tests) in
      let possible : is_possible w (go_of u) ≡ true = rw (lt, can) refl in
      let both : true ≡ false = sym possible ∙ stuck u in
      cc

  pub quiet : IsQuiet (locks_of w)
  quiet t called = by_stance ((locks_of w).stances t).asleep ((locks_of w).stances t).in_closure refl refl
    where
      by_stance : (b c : Bool) → ((locks_of w).stances t).asleep ≡ b → ((locks_of w).stances t).in_closure ≡ c
          → (((locks_of w).stances t).asleep ≡ true) ⊎ (((locks_of w).stances t).in_closure ≡ true)
      by_stance true c asleep closure = inl asleep
      by_stance false true asleep closure = inr closure
      by_stance false false asleep closure =
          absurd (let some = (holds_after [] w w h refl).goes t called (asleep, closure)
          in nobody_may some.0 some.1)

pub worlds_come_to_rest : WorldsComeToRest
worlds_come_to_rest w h = record {
  few = λ ss on. (let short = runs_short ss w h on in let most = left_most w in omega arith);
  quiet = quiet w h;
}
