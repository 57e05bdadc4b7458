-- Threads go on, round and round, until nobody can.
use Rattle.std.proofs.Common.{ℕ, zero, suc, Bool, true, false, if◌then◌else◌, ◌==◌, ◌&&◌, ◌≡◌, ◌≢◌, ◌+◌, ◌*◌}
use Rattle.std.proofs.Common.{◌≤◌, ◌<◌, nat_lt, ◌∷◌, [], ◌++◌, length, length-set, get_or-set_other, inl, inr}
use Rattle.std.proofs.Common.{refl, sym, ◌∙◌, ap, subst, arith}
use Rattle.std.proofs.Math.Nat.{mul-le-mul}
use Rattle.std.proofs.lemmas.Bool.{cases_eq, cases_lt, eqb-true}
use Rattle.std.proofs.lemmas.Bool.Decides.{nat_tests}
use Rattle.spec_locks.specs.declared.calls.Call.{Call}
use Rattle.spec_locks.specs.declared.outcomes.Outcome.{Outcome}
use Rattle.spec_locks.specs.declared.outcomes.Outcome.TheVariants as outcome
use Rattle.lot_steps.specs.declared.places.Place.TheVariants.{Idle}
use Rattle.lot_machine.specs.Machine.{State, after, can_go, go_of, go_outcome, is_possible, place_at}
use Rattle.lot_machine.specs.Machine.{state_after_begin, step_outcome, word_at}
use Rattle.lot_laws.specs.SitesOf.{IsWorld}
use Rattle.lot_laws.proofs.promises.WorldRuns.{world_after}
use Rattle.lot_rests.specs.Rests.{NobodyGoes}
use Rattle.lot_rests.proofs.Most.{ways_most, work_most}
use Rattle.lot_rests.proofs.Rest.{left_most}
use Rattle.lot_rests.proofs.Sums.{potential, sum_below, sum_but_one, sum_most}
use Rattle.lot_rests.proofs.Turns.{clear_at, events, steps_left, step_falls, ways_at, work_at}
use Rattle.lot_rests.proofs.Work.{work}
use Rattle.lot_world.specs.Ordered.{begin_of}
use Rattle.lot_world.specs.Schedules.{Progress, alone_by, go_alone, most_rounds, one_more, round, rounds}
use Rattle.lot_world.specs.Schedules.{run_alone, settled, unless_still}
use Rattle.lot_world.proofs.Progress.{HasCome, go_possible, length_more, one_more_comes}

-- ---------------------------------------------------------------- what each step keeps

abbrev EachStepKeeps : (State → Type 0) → Type 0
EachStepKeeps P = (v : State) (t : ℕ) → P v → P (after v (go_of t))

alone_keeps : (P : State → Type 0) → EachStepKeeps P → (n : ℕ) (d : Progress) (t : ℕ) → P d.state
    → P (run_alone n d t).state
unfolding run_alone
alone_keeps P step zero d t h = h
alone_keeps P step (suc n) d t h = by_outcome (step_outcome d.state (go_of t))
    (alone_keeps P step n (one_more d (go_of t)) t (step d.state t h))
  where
    by_outcome : (o : Outcome) → P (run_alone n (one_more d (go_of t)) t).state
        → P (alone_by o d (one_more d (go_of t)) (run_alone n (one_more d (go_of t)) t)).state
    by_outcome outcome.NotNow more = h
    by_outcome outcome.Step more = more
    by_outcome o more = step d.state t h

round_keeps : (P : State → Type 0) → EachStepKeeps P → (n t : ℕ) (d : Progress) → P d.state
    → P (round d t n).state
round_keeps P step zero t d h = h
round_keeps P step (suc n) t d h = round_keeps P step n (suc t) (go_alone d t)
    (alone_keeps P step 64 d t h)

rounds_keep : (P : State → Type 0) → EachStepKeeps P → (n : ℕ) (d : Progress) → P d.state
    → P (rounds n d).state
unfolding rounds
rounds_keep P step zero d h = h
rounds_keep P step (suc n) d h =
    let next : P (round d 0 (length d.state.places)).state =
    round_keeps P step (length d.state.places) 0 d h in
    either (round d 0 (length d.state.places)) (rounds n (round d 0 (length d.state.places)))
    (length (round d 0 (length d.state.places)).steps == length d.steps) next
    (rounds_keep P step n (round d 0 (length d.state.places)) next)
  where
    either : (x y : Progress) (b : Bool) → P x.state → P y.state → P (if b then x else y).state
    either x y true h k = h
    either x y false h k = k

pub settled_keeps : (P : State → Type 0) → EachStepKeeps P → (d : Progress) → P d.state → P (settled d).state
settled_keeps P step d h = rounds_keep P step (most_rounds d.state) d h

-- ---------------------------------------------------------------- steps that are taken

possible_is : (w : State) (t : ℕ) → step_outcome w (go_of t) ≢ outcome.NotNow → is_possible w (go_of t) ≡ true
possible_is w t told = by_bit (is_possible w (go_of t)) refl
  where
    by_bit : (b : Bool) → is_possible w (go_of t) ≡ b → is_possible w (go_of t) ≡ true
    by_bit true e = e
    by_bit false e = absurd (told (ap (λ b. if b then go_outcome w t else outcome.NotNow) e))

refused_is : (w : State) (t : ℕ) → is_possible w (go_of t) ≡ false → step_outcome w (go_of t) ≡ outcome.NotNow
refused_is w t e = ap (λ b. if b then go_outcome w t else outcome.NotNow) e

-- each step uses up one of those that the world has before it
pub record Spends (w : State) (d e : Progress) : Type 0 where
  pub come : HasCome w e
  pub world : IsWorld e.state
  pub few : length e.steps + steps_left e.state ≤ length d.steps + steps_left d.state

spends_none : (w : State) (d : Progress) → IsWorld d.state → HasCome w d → Spends w d d
spends_none w d world h = record { come = h; world = world; few = omega arith }

spends_one : (w : State) (d : Progress) (t : ℕ) → IsWorld d.state → HasCome w d
    → step_outcome d.state (go_of t) ≢ outcome.NotNow → Spends w d (one_more d (go_of t))
spends_one w d t world h can = record {
  come = one_more_comes w d (go_of t) h can;
  world = world_after d.state (go_of t) world;
  few = let long : length (d.steps ++ go_of t ∷ []) ≡ length d.steps + 1 = length_more d.steps (go_of t) in
      let falls : steps_left (after d.state (go_of t)) + 1 ≤ steps_left d.state =
      step_falls d.state (go_of t) world tt (possible_is d.state t can) in
      omega arith;
}

spends_then : (w : State) (d e f : Progress) → Spends w d e → Spends w e f → Spends w d f
spends_then w d e f h k = record {
  come = k.come;
  world = k.world;
  few = let a = h.few in let b = k.few in omega arith;
}

alone_spends : (w : State) (n : ℕ) (d : Progress) (t : ℕ) → IsWorld d.state → HasCome w d
    → Spends w d (run_alone n d t)
unfolding run_alone
alone_spends w zero d t world h = spends_none w d world h
alone_spends w (suc n) d t world h = by_outcome (step_outcome d.state (go_of t)) refl
    (alone_spends w n (one_more d (go_of t)) t (world_after d.state (go_of t) world))
  where
    by_outcome : (o : Outcome) → step_outcome d.state (go_of t) ≡ o
        → (HasCome w (one_more d (go_of t)) → Spends w (one_more d (go_of t))
        (run_alone n (one_more d (go_of t)) t))
        → Spends w d (alone_by o d (one_more d (go_of t)) (run_alone n (one_more d (go_of t)) t))
    by_outcome outcome.NotNow e more = spends_none w d world h
    by_outcome outcome.Step e more =
        let one = spends_one w d t world h (λ f. let g : outcome.Step ≡ outcome.NotNow = sym e ∙ f in cc) in
        spends_then w d (one_more d (go_of t)) (run_alone n (one_more d (go_of t)) t) one (more one.come)
    by_outcome outcome.Sleep e more = spends_one w d t world h (λ f. let g : outcome.Sleep ≡ outcome.NotNow =
        sym e ∙ f in cc)
    by_outcome (outcome.Closure state) e more = spends_one w d t world h (λ f. let g : outcome.Closure state
        ≡ outcome.NotNow = sym e ∙ f in cc)
    by_outcome (outcome.End answer) e more = spends_one w d t world h (λ f. let g : outcome.End answer
        ≡ outcome.NotNow = sym e ∙ f in cc)

round_spends : (w : State) (n t : ℕ) (d : Progress) → IsWorld d.state → HasCome w d → Spends w d (round d t n)
round_spends w zero t d world h = spends_none w d world h
round_spends w (suc n) t d world h =
    let one = alone_spends w 64 d t world h in
    spends_then w d (go_alone d t) (round (go_alone d t) (suc t) n) one
    (round_spends w n (suc t) (go_alone d t) one.world one.come)

-- ---------------------------------------------------------------- a round in which nobody has gone on

one_longer : (d : Progress) (t : ℕ) → length (one_more d (go_of t)).steps ≡ length d.steps + 1
one_longer d t = length_more d.steps (go_of t)

alone_grows : (n : ℕ) (d : Progress) (t : ℕ) → length d.steps ≤ length (run_alone n d t).steps
unfolding run_alone
alone_grows zero d t = omega arith
alone_grows (suc n) d t = by_outcome (step_outcome d.state (go_of t))
    (alone_grows n (one_more d (go_of t)) t)
  where
    by_outcome : (o : Outcome)
        → length (one_more d (go_of t)).steps ≤ length (run_alone n (one_more d (go_of t)) t).steps
        → length d.steps
        ≤ length (alone_by o d (one_more d (go_of t)) (run_alone n (one_more d (go_of t)) t)).steps
    by_outcome outcome.NotNow more = omega arith
    by_outcome outcome.Step more = let one = one_longer d t in omega arith
    by_outcome o more = let one = one_longer d t in omega arith

-- a thread that can go on does
alone_moves : (n : ℕ) (d : Progress) (t : ℕ) → 1 ≤ n → is_possible d.state (go_of t) ≡ true
    → length d.steps + 1 ≤ length (run_alone n d t).steps
unfolding run_alone
alone_moves zero d t some can = absurd (omega arith)
alone_moves (suc n) d t some can = by_outcome (step_outcome d.state (go_of t)) refl
  where
    by_outcome : (o : Outcome) → step_outcome d.state (go_of t) ≡ o → length d.steps + 1
        ≤ length (alone_by o d (one_more d (go_of t)) (run_alone n (one_more d (go_of t)) t)).steps
    by_outcome outcome.NotNow e = absurd (go_possible d.state t can e)
    by_outcome outcome.Step e = let one = one_longer d t in let more = alone_grows n (one_more d (go_of t)) t
        in omega arith
    by_outcome o e = let one = one_longer d t in omega arith

alone_stuck : (n : ℕ) (d : Progress) (t : ℕ) → is_possible d.state (go_of t) ≡ false → run_alone n d t ≡ d
unfolding run_alone
alone_stuck zero d t refused = refl
alone_stuck (suc n) d t refused =
    ap (λ o. alone_by o d (one_more d (go_of t)) (run_alone n (one_more d (go_of t)) t))
    (refused_is d.state t refused)

round_grows : (n t : ℕ) (d : Progress) → length d.steps ≤ length (round d t n).steps
round_grows zero t d = omega arith
round_grows (suc n) t d =
    let one = alone_grows 64 d t in
    let more = round_grows n (suc t) (go_alone d t) in
    omega arith

record IsStill (n t : ℕ) (d : Progress) : Type 0 where
  pub same : round d t n ≡ d
  pub none : (u : ℕ) → t ≤ u → u < t + n → is_possible d.state (go_of u) ≡ false

round_still : (n t : ℕ) (d : Progress) → length (round d t n).steps ≤ length d.steps → IsStill n t d
round_still zero t d h = record { same = refl; none = λ u from below. absurd (omega arith) }
round_still (suc n) t d h = by_bit (is_possible d.state (go_of t)) refl (round_still n (suc t) d)
  where
    by_bit : (b : Bool) → is_possible d.state (go_of t) ≡ b
        → (length (round d (suc t) n).steps ≤ length d.steps → IsStill n (suc t) d) → IsStill (suc n) t d
    by_bit true e later = absurd (let one = alone_moves 64 d t (omega arith) e in
        let more = round_grows n (suc t) (go_alone d t) in
        let most : length (round (go_alone d t) (suc t) n).steps ≤ length d.steps = h in omega arith)
    by_bit false e later =
        let stuck : go_alone d t ≡ d = alone_stuck 64 d t e in
        let rest : IsStill n (suc t) d = later
        (subst (λ x. length (round x (suc t) n).steps ≤ length d.steps) stuck h) in
        record {
          same = ap (λ x. round x (suc t) n) stuck ∙ rest.same;
          none = λ u from below. elim (cases_eq u t) [
            | inl same ↦ subst (λ x. is_possible d.state (go_of x) ≡ false) (sym same) e
            | inr ne ↦ rest.none u (omega arith) (omega arith)
          ];
        }

nobody_goes : (w : State) → ((u : ℕ) → u < length w.places → is_possible w (go_of u) ≡ false) → NobodyGoes w
nobody_goes w none u = elim (cases_lt u (length w.places)) [
  | inl lt ↦ none u lt
  | inr ge ↦ ap (λ b. b && can_go w u) (let past : nat_lt u (length w.places) ≡ false =
      grind (arith, nat_tests) in past)
]

-- ---------------------------------------------------------------- until nobody goes on

abbrev next : Progress → Progress
next d = round d 0 (length d.state.places)

pub record IsSettled (w : State) (d e : Progress) : Type 0 where
  pub spends : Spends w d e
  pub stuck : NobodyGoes e.state

rounds_settle : (n : ℕ) (w : State) (d : Progress) → IsWorld d.state → HasCome w d → steps_left d.state ≤ n
    → IsSettled w d (rounds n d)
unfolding rounds
rounds_settle zero w d world h few = record {
  spends = spends_none w d world h;
  stuck = λ u. by_bit u (is_possible d.state (go_of u)) refl;
}
  where
    by_bit : (u : ℕ) (b : Bool) → is_possible d.state (go_of u) ≡ b → is_possible d.state (go_of u) ≡ false
    by_bit u false e = e
    by_bit u true e = absurd (let falls : steps_left (after d.state (go_of u)) + 1 ≤ steps_left d.state =
        step_falls d.state (go_of u) world tt e in omega arith)
rounds_settle (suc n) w d world h few =
    let one = round_spends w (length d.state.places) 0 d world h in
    let less = one.few in
    by_length (length (next d).steps == length d.steps) refl one
    (λ more. rounds_settle n w (next d) one.world one.come (omega arith))
  where
    by_length : (b : Bool) → (length (next d).steps == length d.steps) ≡ b → Spends w d (next d)
        → (length d.steps + 1 ≤ length (next d).steps → IsSettled w (next d) (rounds n (next d)))
        → IsSettled w d (if b then next d else rounds n (next d))
    by_length true e one more =
        let same : length (next d).steps ≡ length d.steps =
        eqb-true (length (next d).steps) (length d.steps) e
        in
        let still = round_still (length d.state.places) 0 d (omega arith) in
        record {
          spends = one;
          stuck = subst (λ (x : Progress). NobodyGoes x.state) (sym still.same)
              (nobody_goes d.state (λ u lt. still.none u (omega arith) (omega arith)));
        }
    by_length false e one more = elim (cases_eq (length (next d).steps) (length d.steps)) [
      | inl same ↦ absurd (let f : (length (next d).steps == length d.steps) ≡ true =
          grind (arith, nat_tests) in let g : true ≡ false = sym f ∙ e in cc)
      | inr ne ↦
          let grows : length d.steps ≤ length (next d).steps = round_grows (length d.state.places) 0 d in
          let rest = more (omega arith) in
          record {
            spends = spends_then w d (next d) (rounds n (next d)) one rest.spends;
            stuck = rest.stuck;
          }
    ]

pub settles : (w : State) (d : Progress) → IsWorld d.state → HasCome w d → IsSettled w d (settled d)
settles w d world h = rounds_settle (most_rounds d.state) w d world h (let most = left_most d.state
    in omega arith)

-- ---------------------------------------------------------------- where nobody can, nobody does

round_none : (n t : ℕ) (d : Progress) → NobodyGoes d.state → round d t n ≡ d
round_none zero t d stuck = refl
round_none (suc n) t d stuck = ap (λ x. round x (suc t) n) (alone_stuck 64 d t (stuck t))
    ∙ round_none n (suc t) d stuck

same_length : (n : ℕ) → (n == n) ≡ true
same_length n = grind (arith, nat_tests)

rounds_none : (n : ℕ) (d : Progress) → NobodyGoes d.state → rounds n d ≡ d
unfolding rounds
rounds_none zero d stuck = refl
rounds_none (suc n) d stuck =
    let still : round d 0 (length d.state.places) ≡ d = round_none (length d.state.places) 0 d stuck in
    ap (λ x. unless_still d x (rounds n x)) still
    ∙ ap (λ b. if b then d else rounds n d) (same_length (length d.steps))

pub settled_none : (d : Progress) → NobodyGoes d.state → settled d ≡ d
settled_none d stuck = rounds_none (most_rounds d.state) d stuck

-- ---------------------------------------------------------------- a call that begins

-- a call that begins has at most so much before it
abbrev pub most_more : ℕ → ℕ
most_more n = (5 * n + 1) * 63 + 5 * n

more_times : (k a b : ℕ) → a ≤ b + 63 → k * a ≤ k * b + k * 63
more_times k a b le =
    let times : k * a ≤ k * (b + 63) = mul-le-mul (let same : k ≤ k = omega arith in same) le in
    let spread : k * (b + 63) ≡ k * b + k * 63 = grind arith in
    omega arith

more_events : (n e e2 s s2 : ℕ) → e2 ≤ e + 63 → s2 ≤ 5 * n → potential n e2 s2 ≤ potential n e s + most_more n
more_events n e e2 s s2 le most = let times = more_times (5 * n + 1) e2 e le in omega arith

module _ (w : State) (t : ℕ) (c : Call) where
  abbrev begun : State
  begun = state_after_begin w t c

  size : length begun.places ≡ length w.places
  size = length-set w.places t _

  works : sum_below (length w.places) (work_at begun) ≤ sum_below (length w.places) (work_at w) + 21
  works = sum_but_one (length w.places) t 21 (work_at w) (work_at begun)
      (λ u ne. subst (λ p. work p ≤ work_at w u) (sym (get_or-set_other w.places t u _ Idle ne))
      (omega arith))
      (work_most (place_at begun t))

  short : sum_below (length w.places) (ways_at begun) ≤ 5 * length w.places
  short = sum_most (length w.places) 5 (ways_at begun) (λ u. ways_most (word_at begun) (place_at begun u))

  adds : steps_left begun ≤ steps_left w + most_more (length w.places)
  adds =
      let sum = works in
      let same : sum_below (length w.locks) (clear_at begun) ≡ sum_below (length w.locks) (clear_at w) = refl
      in
      rw size (more_events (length w.places) (events w) (3 * sum_below (length w.places) (work_at begun)
      + sum_below (length w.locks) (clear_at begun)) (sum_below (length w.places) (ways_at w))
      (sum_below (length w.places) (ways_at begun)) (omega arith) short)

  pub begin_adds : steps_left (after w (begin_of t c)) ≤ steps_left w + most_more (length w.places)
  begin_adds = either (is_possible w (begin_of t c))
    where
      either : (b : Bool) → steps_left (if b then begun else w) ≤ steps_left w + most_more (length w.places)
      either true = adds
      either false = omega arith
