-- Each turn that begins nothing lowers what the world has before it.
use Rattle.std.proofs.Common.{ℕ, Bool, true, false, Option, Some, None, if◌then◌else◌, ◌≡◌, ◌≢◌, ◌+◌, ◌*◌}
use Rattle.std.proofs.Common.{◌≤◌, ◌<◌, inl, inr, length, length-set, nat_lt, refl, ap, sym, ◌∙◌, subst}
use Rattle.std.proofs.Common.{arith, get_or-set_same, get_or-set_other}
use Rattle.std.proofs.lemmas.Bool.{cases_eq, ltb-true}
use Rattle.core_base.specs.declared.ops.Op.{Op}
use Rattle.core_base.specs.Words.{apply}
use Rattle.spec_locks.specs.declared.calls.Turn.{Turn}
use Rattle.spec_locks.specs.declared.calls.Turn.TheVariants as turn
use Rattle.spec_locks.specs.declared.calls.Step.{Step}
use Rattle.steps_base.specs.declared.acts.Act.{Act}
use Rattle.steps_base.specs.declared.acts.Act.TheVariants as act
use Rattle.steps_base.specs.declared.acts.Reply.TheVariants.{Late, Value}
use Rattle.steps_once.specs.declared.places.OncePlace.TheVariants as once
use Rattle.steps_once.specs.declared.run.RunAt.TheVariants as run
use Rattle.steps_base.specs.declared.acts.Next.TheVariants.{At, End}
use Rattle.steps_once.specs.OnceSteps.{ended as answer_of, in_run, once_next}
use Rattle.spec_locks.specs.Codes.{is_marked}
use Rattle.lot_steps.specs.declared.places.Place.{Place}
use Rattle.lot_steps.specs.declared.places.Place.TheVariants.{Idle, Once}
use Rattle.lot_steps.specs.Steps.{act_of, late_key, next_place}
use Rattle.lot_machine.specs.Machine.{State, after, can_go, can_turn, closed_place, is_free_under}
use Rattle.lot_machine.specs.Machine.{is_possible, kind_at, place_at, put, state_after_act, state_after_close}
use Rattle.lot_machine.specs.Machine.{state_after_go, state_after_late_on, state_after_turn, word_at}
use Rattle.lot_machine.specs.Fits.{SameSize}
use Rattle.lot_machine.proofs.KindsStay.{performed_kinds}
use Rattle.lot_machine.proofs.Shape.{after_size, both, performed_counts}
use Rattle.lot_laws.specs.SitesOf.{IsWorld}
use Rattle.lot_laws.specs.Refinement.{ChangesOneThing}
use Rattle.lot_laws.proofs.calls.Closures.{RunsOne, closes_one}
use Rattle.lot_laws.proofs.calls.Closings.{closing_there, goes_there, is_after}
use Rattle.lot_laws.proofs.calls.Looking.{closing_here}
use Rattle.lot_laws.proofs.calls.OwnPlace.{goes_from_there}
use Rattle.lot_laws.proofs.machine.KindsStay.{after_kinds}
use Rattle.lot_laws.proofs.machine.OneChange.{one_thing}
use Rattle.lot_rests.specs.Rests.{IsOnward}
use Rattle.lot_rests.proofs.Befallen.{late, once_works}
use Rattle.lot_rests.proofs.Most.{ways_most}
use Rattle.lot_rests.proofs.Places.{goes}
use Rattle.lot_rests.proofs.Rows.{Goes, clear, clear_most, either_less, is_still}
use Rattle.lot_rests.proofs.Still.{acted_work, other_words, still_places, still_words, word_then}
use Rattle.lot_rests.proofs.Sums.{event_lowers, potential, sum_at_most, sum_below, sum_but_one, sum_less}
use Rattle.lot_rests.proofs.Sums.{sum_most, way_lowers}
use Rattle.lot_rests.proofs.Ways.{ways}
use Rattle.lot_rests.proofs.Work.{once_work, work, work_then}

-- ---------------------------------------------------------------- what a world has before it

abbrev pub work_at : State → ℕ → ℕ
work_at w t = work (place_at w t)

abbrev pub clear_at : State → ℕ → ℕ
clear_at w l = clear (kind_at w l) (word_at w l)

abbrev pub ways_at : State → ℕ → ℕ
ways_at w t = ways (word_at w) (place_at w t)

-- an event may clear both bits of one lock, which then may be set again
abbrev pub events : State → ℕ
events w = 3 * sum_below (length w.places) (work_at w) + sum_below (length w.locks) (clear_at w)

abbrev pub steps_left : State → ℕ
steps_left w = potential (length w.places) (events w) (sum_below (length w.places) (ways_at w))

-- ---------------------------------------------------------------- a step

-- from one state to another of the same size
module _ (w v : State) (size : SameSize w v) where
  threads : length v.places ≡ length w.places
  threads = size.threads

  locks : length v.locks ≡ length w.locks
  locks = size.locks

  -- the step uses an event up, and changes one word at most
  event_falls : (t l : ℕ) → t < length w.places → ((u : ℕ) → work_at v u ≤ work_at w u) → work_at v t + 1
      ≤ work_at w t
      → ((k : ℕ) → k ≢ l → clear_at v k ≤ clear_at w k) → steps_left v + 1 ≤ steps_left w
  event_falls t l there most less others =
      let works : sum_below (length w.places) (work_at v) + 1 ≤ sum_below (length w.places) (work_at w) =
      sum_less (length w.places) t (work_at w) (work_at v) there most less in
      let bits : sum_below (length w.locks) (clear_at v) ≤ sum_below (length w.locks) (clear_at w) + 2 =
      sum_but_one (length w.locks) l 2 (clear_at w) (clear_at v) others
      (clear_most (kind_at v l) (word_at v l)) in
      let short : sum_below (length w.places) (ways_at v) ≤ 5 * length w.places =
      sum_most (length w.places) 5 (ways_at v) (λ u. ways_most (word_at v) (place_at v u)) in
      rw (threads, locks) (event_lowers (length w.places) (events w) (3 * sum_below (length w.places)
      (work_at v) + sum_below (length w.locks) (clear_at v)) (sum_below (length w.places) (ways_at w))
      (sum_below (length w.places) (ways_at v)) (omega arith) short)

  -- the step sets a bit
  bit_falls : (l : ℕ) → l < length w.locks → ((u : ℕ) → work_at v u ≤ work_at w u)
      → ((k : ℕ) → clear_at v k ≤ clear_at w k)
      → clear_at v l + 1 ≤ clear_at w l → steps_left v + 1 ≤ steps_left w
  bit_falls l there most others less =
      let works : sum_below (length w.places) (work_at v) ≤ sum_below (length w.places) (work_at w) =
      sum_at_most (length w.places) (work_at w) (work_at v) (λ u lt. most u) in
      let bits : sum_below (length w.locks) (clear_at v) + 1 ≤ sum_below (length w.locks) (clear_at w) =
      sum_less (length w.locks) l (clear_at w) (clear_at v) there others less in
      let short : sum_below (length w.places) (ways_at v) ≤ 5 * length w.places =
      sum_most (length w.places) 5 (ways_at v) (λ u. ways_most (word_at v) (place_at v u)) in
      rw (threads, locks) (event_lowers (length w.places) (events w) (3 * sum_below (length w.places)
      (work_at v) + sum_below (length w.locks) (clear_at v)) (sum_below (length w.places) (ways_at w))
      (sum_below (length w.places) (ways_at v)) (omega arith) short)

  -- the thread of the step comes nearer
  way_falls : (t : ℕ) → t < length w.places → ((u : ℕ) → work_at v u ≤ work_at w u)
      → ((k : ℕ) → clear_at v k ≤ clear_at w k)
      → ((u : ℕ) → ways_at v u ≤ ways_at w u) → ways_at v t + 1 ≤ ways_at w t → steps_left v + 1 ≤ steps_left w
  way_falls t there most others short less =
      let works : sum_below (length w.places) (work_at v) ≤ sum_below (length w.places) (work_at w) =
      sum_at_most (length w.places) (work_at w) (work_at v) (λ u lt. most u) in
      let bits : sum_below (length w.locks) (clear_at v) ≤ sum_below (length w.locks) (clear_at w) =
      sum_at_most (length w.locks) (clear_at w) (clear_at v) (λ k lt. others k) in
      let nearer : sum_below (length w.places) (ways_at v) + 1 ≤ sum_below (length w.places) (ways_at w) =
      sum_less (length w.places) t (ways_at w) (ways_at v) there short less in
      rw (threads, locks) (way_lowers (length w.places) (events w) (3 * sum_below (length w.places)
      (work_at v) + sum_below (length w.locks) (clear_at v)) (sum_below (length w.places) (ways_at w))
      (sum_below (length w.places) (ways_at v)) (omega arith) nearer)

-- ---------------------------------------------------------------- a thread goes on

-- a lock of the same kind and word has as many bits that are clear
same_clear : (w v : State) (k : ℕ) → kind_at v k ≡ kind_at w k → word_at v k ≡ word_at w k → clear_at v k
    ≤ clear_at w k
same_clear w v k kind word = let e : clear_at v k ≡ clear_at w k = λ i. clear (kind i) (word i)
    in subst (λ n. n ≤ clear_at w k) (sym e) (omega arith)

-- at most one word changes
abbrev OneWord : State → State → Type 0
OneWord w v = (l : ℕ) × ((k : ℕ) → k ≢ l → word_at v k ≡ word_at w k)

one_word : (w v : State) (t : ℕ) → ChangesOneThing w t v → OneWord w v
one_word w v t (inl h) = (h.0, h.1)
one_word w v t (inr h) = (0, λ k ne. h.0 k)

module _ (w : State) (t : ℕ) (h : IsWorld w) (there : t < length w.places) (can : can_go w t ≡ true)
    (size : SameSize w (state_after_go w t))
    (one : ChangesOneThing w t (state_after_go w t)) where
  abbrev gone : State
  gone = state_after_go w t

  abbrev does : Act
  does = act_of (place_at w t)

  abbrev acted : State
  acted = state_after_act w t (place_at w t) does

  elsewhere : (u : ℕ) → u ≢ t → place_at gone u ≡ place_at acted u
  elsewhere u ne = get_or-set_other acted.places t u _ Idle ne

  row : Goes w does (work_at w t) (work_at gone t) (ways_at w t) (ways (word_at w) (place_at gone t))
  row = goes w t h there can

  own_work : Goes w does (work_at w t) (work_at gone t) (ways_at w t) (ways (word_at w) (place_at gone t))
      → work_at gone t ≤ work_at w t
  own_work (inl less) = omega arith
  own_work (inr more) = more.0

  works : (u : ℕ) → work_at gone u ≤ work_at w u
  works u = elim (cases_eq u t) [
    | inl e ↦ subst (λ x. work_at gone x ≤ work_at w x) (sym e) (own_work row)
    | inr ne ↦ subst (λ q. work q ≤ work_at w u) (sym (elsewhere u ne)) (acted_work w t (place_at w t) does u)
  ]

  kinds : (k : ℕ) → kind_at gone k ≡ kind_at w k
  kinds k = performed_kinds w t (place_at w t) does k

  -- by one operation on a word
  module _ (l : ℕ) (f : Op) (is : does ≡ act.Word l f) (here : l < length w.locks) where
    operated : (k : ℕ) → word_at gone k ≡ word_at (state_after_act w t (place_at w t) (act.Word l f)) k
    operated k = ap (λ a. word_at (state_after_act w t (place_at w t) a) k) is

    own_word : word_at gone l ≡ apply f (word_at w l)
    own_word = operated l ∙ word_then w t (place_at w t) l f here

    others_words : (k : ℕ) → k ≢ l → word_at gone k ≡ word_at w k
    others_words k ne = operated k ∙ other_words w t (place_at w t) l f k ne

    own_clear : clear_at gone l ≡ clear (kind_at w l) (apply f (word_at w l))
    own_clear = λ i. clear (kinds l i) (own_word i)

    set_falls : clear (kind_at w l) (apply f (word_at w l)) + 1 ≤ clear_at w l → steps_left gone + 1 ≤ steps_left w
    set_falls fewer = bit_falls w gone size l here works bits less
      where
        less : clear_at gone l + 1 ≤ clear_at w l
        less = subst (λ n. n + 1 ≤ clear_at w l) (sym own_clear) fewer

        bits : (k : ℕ) → clear_at gone k ≤ clear_at w k
        bits k = elim (cases_eq k l) [
          | inl e ↦ subst (λ x. clear_at gone x ≤ clear_at w x) (sym e) (let fall = less in omega arith)
          | inr ne ↦ same_clear w gone k (kinds k) (others_words k ne)
        ]

  -- by an act that is still
  module _ (still : is_still w does ≡ true) (less : ways (word_at w) (place_at gone t) + 1 ≤ ways_at w t)
    where
      words : (k : ℕ) → word_at gone k ≡ word_at w k
      words k = still_words w t (place_at w t) does k still

      ways_same : (u : ℕ) → ways_at gone u ≡ ways (word_at w) (place_at gone u)
      ways_same u = λ i. ways (λ k. words k i) (place_at gone u)

      nearer : ways_at gone t + 1 ≤ ways_at w t
      nearer = subst (λ n. n + 1 ≤ ways_at w t) (sym (ways_same t)) less

      short : (u : ℕ) → ways_at gone u ≤ ways_at w u
      short u = elim (cases_eq u t) [
        | inl e ↦ subst (λ x. ways_at gone x ≤ ways_at w x) (sym e) (let near = nearer in omega arith)
        | inr ne ↦ subst (λ n. n ≤ ways_at w u)
            (sym (ways_same u ∙ ap (ways (word_at w)) (elsewhere u ne ∙ still_places w t (place_at w t) does u
            still))) (omega arith)
      ]

      still_falls : steps_left gone + 1 ≤ steps_left w
      still_falls = way_falls w gone size t there works (λ k. same_clear w gone k (kinds k) (words k)) short
          nearer

  by_row : Goes w does (work_at w t) (work_at gone t) (ways_at w t) (ways (word_at w) (place_at gone t))
      → steps_left gone + 1 ≤ steps_left w
  by_row (inl less) = let lock = one_word w gone t one in event_falls w gone size t lock.0 there works less
      (λ k ne. same_clear w gone k (kinds k) (lock.1 k ne))
  by_row (inr (most, inl bit_pending)) = set_falls bit_pending.lock bit_pending.op bit_pending.is bit_pending.there bit_pending.fewer
  by_row (inr (most, inr near)) = still_falls near.0 near.1

  go_falls : steps_left gone + 1 ≤ steps_left w
  go_falls = by_row row

-- ---------------------------------------------------------------- the time is up

late_falls : (w : State) (t : ℕ) → t < length w.places → (o : Option ℕ) → late_key (place_at w t) ≡ o
    → is_free_under w o ≡ true
    → steps_left (state_after_late_on w t o) + 1 ≤ steps_left w
late_falls w t there None is free = absurd cc
late_falls w t there (Some key) is free = event_falls w gone size t 0 there works less (λ k ne. omega arith)
  where
    gone : State
    gone = state_after_late_on w t (Some key)

    size : SameSize w gone
    size = record { threads = length-set w.places t _; locks = refl }

    here : place_at gone t ≡ next_place (place_at w t) Late
    here = get_or-set_same w.places t _ Idle there

    less : work_at gone t + 1 ≤ work_at w t
    less = subst (λ q. work q + 1 ≤ work_at w t) (sym here) (late (place_at w t) key is)

    works : (u : ℕ) → work_at gone u ≤ work_at w u
    works u = elim (cases_eq u t) [
      | inl e ↦ subst (λ x. work_at gone x ≤ work_at w x) (sym e) (let fall = less in omega arith)
      | inr ne ↦ subst (λ q. work q ≤ work_at w u) (sym (get_or-set_other w.places t u _ Idle ne))
          (omega arith)
    ]

-- ---------------------------------------------------------------- the closure has answered

module _ (w : State) (t : ℕ) (there : t < length w.places) (succeeded : Bool) (runs : RunsOne (place_at w t))
    (size : SameSize w (state_after_close w t succeeded))
    (one : ChangesOneThing w t (state_after_close w t succeeded))
    (same_kinds : (k : ℕ) → kind_at (state_after_close w t succeeded) k ≡ kind_at w k) where
  abbrev closed : State
  closed = state_after_close w t succeeded

  abbrev closing : State
  closing = put w t (closed_place w t succeeded)

  abbrev ending : Place
  ending = Once runs.lock (once.Run runs.forced (run.Close succeeded))

  abbrev ended : State
  ended = state_after_act closing t ending (act_of ending)

  goes_so : closed ≡ put ended t (next_place ending (Value (word_at w runs.lock)))
  goes_so = goes_there w t there succeeded runs ∙ goes_from_there closing t ending
      (closing_here w t there succeeded runs ∙ is_after w t there succeeded runs) tt

  ended_there : t < length ended.places
  ended_there = subst (λ n. t < n) (sym (performed_counts closing t ending (act_of ending)).0)
      (closing_there w t there succeeded runs)

  less_then : work (next_place ending (Value (word_at w runs.lock))) + 1 ≤ 5
  less_then = subst (λ n. n + 1 ≤ 5)
      (sym (once_works runs.lock (once_next (once.Run runs.forced (run.Close succeeded))
      (Value (word_at w runs.lock)))))
      (either_less (λ n. work_then once_work (in_run runs.forced n)) (is_marked (word_at w runs.lock))
      (At (run.Enter succeeded)) (End (answer_of succeeded)) 5 (omega arith) (omega arith))

  closed_less : work_at closed t + 1 ≤ work_at w t
  closed_less = subst (λ n. work_at closed t + 1 ≤ n) (sym (ap work runs.is))
      (subst (λ q. work q + 1 ≤ 5) (sym (ap (λ (v : State). place_at v t) goes_so
      ∙ get_or-set_same ended.places t _ Idle ended_there)) less_then)

  closed_works : (u : ℕ) → work_at closed u ≤ work_at w u
  closed_works u = elim (cases_eq u t) [
    | inl e ↦ subst (λ x. work_at closed x ≤ work_at w x) (sym e) (let fall = closed_less in omega arith)
    | inr ne ↦ subst (λ q. work q ≤ work_at w u) (sym (ap (λ (v : State). place_at v u) goes_so
        ∙ get_or-set_other ended.places t u _ Idle ne))
        (subst (λ q. work (place_at ended u) ≤ work q) (get_or-set_other w.places t u _ Idle ne)
        (acted_work closing t ending (act_of ending) u))
  ]

  close_falls : steps_left closed + 1 ≤ steps_left w
  close_falls = let lock = one_word w closed t one in event_falls w closed size t lock.0 there closed_works
      closed_less (λ k ne. same_clear w closed k (same_kinds k) (lock.1 k ne))

-- ---------------------------------------------------------------- each turn

turn_falls : (w : State) (t : ℕ) (x : Turn) → IsWorld w → t < length w.places → can_turn w t x ≡ true
    → IsOnward x
    → SameSize w (state_after_turn w t x) → ChangesOneThing w t (state_after_turn w t x)
    → ((k : ℕ) → kind_at (state_after_turn w t x) k ≡ kind_at w k) → steps_left (state_after_turn w t x) + 1
    ≤ steps_left w
turn_falls w t (turn.Begin c) h there can on size one kinds = absurd on
turn_falls w t turn.Spin h there can on size one kinds = absurd on
turn_falls w t turn.Go h there can on size one kinds = go_falls w t h there can size one
turn_falls w t turn.Late h there can on size one kinds =
    late_falls w t there (late_key (place_at w t)) refl can
turn_falls w t turn.Ok h there can on size one kinds = close_falls w t there true
    (closes_one w t true can) size one kinds
turn_falls w t turn.Err h there can on size one kinds = close_falls w t there false
    (closes_one w t false can) size one kinds

pub step_falls : (w : State) (s : Step) → IsWorld w → IsOnward s.turn → is_possible w s ≡ true
    → steps_left (after w s) + 1 ≤ steps_left w
step_falls w s h on can =
    let led : after w s ≡ state_after_turn w s.thread s.turn =
    ap (λ b. if b then state_after_turn w s.thread s.turn else w) can in
    let parts = both (nat_lt s.thread (length w.places)) (can_turn w s.thread s.turn) can in
    subst (λ v. steps_left v + 1 ≤ steps_left w) (sym led)
    (turn_falls w s.thread s.turn h (ltb-true s.thread (length w.places) parts.0) parts.1 on
    (subst (SameSize w) led (after_size w s))
    (subst (ChangesOneThing w s.thread) led (one_thing w s h.inductive))
    (λ k. subst (λ (v : State). kind_at v k ≡ kind_at w k) led (after_kinds w s k)))
