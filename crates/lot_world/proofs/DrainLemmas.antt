-- The rest of a drain leads where all of it leads.
use Rattle.std.proofs.Common.{ℕ, zero, suc, Bool, true, false, Option, Some, None, List, ◌≡◌, ◌≢◌, ◌+◌, ◌-◌}
use Rattle.std.proofs.Common.{if◌then◌else◌, ◌==◌, ◌^◌, ◌<◌, length, refl, sym, ap, ◌∙◌, arith, add-one}
use Rattle.std.proofs.lemmas.Bool.Decides.{nat_tests}
use Rattle.std.specs.Prelude.{◌&&◌}
use Rattle.spec_locks.specs.declared.calls.Step.{Step}
use Rattle.spec_locks.specs.declared.outcomes.Outcome.{Outcome}
use Rattle.spec_locks.specs.declared.outcomes.Outcome.TheVariants as outcome
use Rattle.spec_locks.specs.Locks.{rights_of}
use Rattle.lot_machine.specs.Machine.{State, after, go_of, kind_at, place_at, step_outcome}
use Rattle.lot_laws.specs.Refinement.{lock_state}
use Rattle.lot_laws.proofs.machine.Stuck.{after_stuck}
use Rattle.lot_world.specs.Schedules.{Progress, one_more, run_alone, alone_by, go_alone, round, rounds}
use Rattle.lot_world.specs.Schedules.{unless_still, releases, first_begin, or_else, first_release}
use Rattle.lot_world.specs.Schedules.{release_taken, released, where_some}
use Rattle.lot_world.specs.Drainable.{holds_few, all_hold_few}

one_left : (n i : ℕ) → i < n → n - i ≡ suc (n - (i + 1))
one_left n i h = omega arith

-- ---------------------------------------------------------------- one thread

alone_more : (n : ℕ) (d : Progress) (t : ℕ) → run_alone (suc n) d t ≡ alone_by
    (step_outcome d.state (go_of t)) d (one_more d (go_of t)) (run_alone n (one_more d (go_of t)) t)
unfolding run_alone
alone_more n d t = refl

rests_by : (o : Outcome) (d next more : Progress) → o ≢ outcome.Step → alone_by o d next next
    ≡ alone_by o d next more
rests_by outcome.NotNow d next more h = refl
rests_by outcome.Step d next more h = absurd (h refl)
rests_by outcome.Sleep d next more h = refl
rests_by (outcome.Closure s) d next more h = refl
rests_by (outcome.End a) d next more h = refl

-- one step of it
pub alone_goes : (n i : ℕ) (d e : Progress) (t : ℕ) (o : Outcome) → i < n → o ≡ step_outcome d.state (go_of t)
    → e ≡ alone_by o d (one_more d (go_of t)) (one_more d (go_of t)) → o ≡ outcome.Step
    → run_alone (n - (i + 1)) e t ≡ run_alone (n - i) d t
alone_goes n i d e t o h told is steps =
    let next = one_more d (go_of t) in
    let more = run_alone (n - (i + 1)) next t in
    ap (λ (p : Progress). run_alone (n - (i + 1)) p t) (is ∙ ap (λ x. alone_by x d next next) steps)
    ∙ sym (ap (λ m. run_alone m d t) (one_left n i h) ∙ alone_more (n - (i + 1)) d t
    ∙ ap (λ x. alone_by x d next more) (sym told ∙ steps))

-- the last one
pub alone_rests : (n i : ℕ) (d e : Progress) (t : ℕ) (o : Outcome) → i < n
    → o ≡ step_outcome d.state (go_of t) → e ≡ alone_by o d (one_more d (go_of t)) (one_more d (go_of t))
    → o ≢ outcome.Step → e ≡ run_alone (n - i) d t
alone_rests n i d e t o h told is rests =
    let next = one_more d (go_of t) in
    let more = run_alone (n - (i + 1)) next t in
    is ∙ rests_by o d next more rests ∙ sym (ap (λ m. run_alone m d t) (one_left n i h)
    ∙ alone_more (n - (i + 1)) d t ∙ ap (λ x. alone_by x d next more) (sym told))

-- a step that isn't possible isn't taken
pub not_taken : (d next : Progress) (t : ℕ) (w : State) (steps : List Step) (o : Outcome) → o
    ≡ step_outcome d.state (go_of t) → o ≡ outcome.NotNow → w ≡ after d.state (go_of t) → steps ≡ d.steps
    → ◌≡◌ {A = Progress} (record { state = w; steps = steps }) (alone_by o d next next)
not_taken d next t w steps o told none is same =
    let still : w ≡ d.state = is ∙ after_stuck d.state (go_of t) (sym told ∙ none) in
    let kept : ◌≡◌ {A = Progress} (record { state = w; steps = steps }) d = λ i. record {
      state = still i;
      steps = same i;
    } in
    kept ∙ sym (ap (λ x. alone_by x d next next) none)

pub alone_end : (n : ℕ) (d : Progress) (t : ℕ) → n ≡ 0 → run_alone n d t ≡ d
unfolding run_alone
alone_end zero d t h = refl
alone_end (suc n) d t h = absurd (omega (arith, h))

-- ---------------------------------------------------------------- all threads

pub round_goes : (n t : ℕ) (d e : Progress) → t < n → e ≡ go_alone d t → round e (t + 1) (n - (t + 1))
    ≡ round d t (n - t)
round_goes n t d e h is =
    ap (λ x. round x (t + 1) (n - (t + 1))) is
    ∙ ap (λ u. round (go_alone d t) u (n - (t + 1))) (add-one t)
    ∙ sym (ap (round d t) (one_left n t h))

rounds_more : (n : ℕ) (d : Progress) → rounds (suc n) d ≡ unless_still d
    (round d 0 (length d.state.places)) (rounds n (round d 0 (length d.state.places)))
unfolding rounds
rounds_more n d = refl

pub few_rounds : (i m : ℕ) → i < 2 ^ 64 - 1 → i < 2 ^ 64 + m
few_rounds i m h = omega arith

same_length : (n m : ℕ) → n ≡ m → (n == m) ≡ true
same_length n m e = grind (arith, nat_tests)

other_length : (n m : ℕ) → n ≢ m → (n == m) ≡ false
other_length n m ne = grind (arith, nat_tests)

-- somebody has gone on
pub rounds_go : (n i : ℕ) (d e : Progress) → i < n → e ≡ round d 0 (length d.state.places)
    → length e.steps ≢ length d.steps → rounds (n - (i + 1)) e ≡ rounds (n - i) d
rounds_go n i d e h is moved =
    let next = round d 0 (length d.state.places) in
    let more = rounds (n - (i + 1)) next in
    ap (rounds (n - (i + 1))) is
    ∙ sym (ap (λ m. rounds m d) (one_left n i h) ∙ rounds_more (n - (i + 1)) d
    ∙ ap (λ b. if b then next else more) (ap (λ (x : Progress). length x.steps == length d.steps) (sym is)
    ∙ other_length (length e.steps) (length d.steps) moved))

-- nobody has
pub rounds_end : (n i : ℕ) (d e : Progress) → i < n → e ≡ round d 0 (length d.state.places)
    → length e.steps ≡ length d.steps → e ≡ rounds (n - i) d
rounds_end n i d e h is still =
    let next = round d 0 (length d.state.places) in
    let more = rounds (n - (i + 1)) next in
    is ∙ sym (ap (λ m. rounds m d) (one_left n i h) ∙ rounds_more (n - (i + 1)) d
    ∙ ap (λ b. if b then next else more) (ap (λ (x : Progress). length x.steps == length d.steps) (sym is)
    ∙ same_length (length e.steps) (length d.steps) still))

-- ---------------------------------------------------------------- releases

abbrev next_release : Progress → Option Step
next_release d = first_release d.state 0 (length d.state.places)

released_more : (n : ℕ) (d : Progress) → released (suc n) d ≡ where_some (next_release d) d
    (λ s. released n (release_taken d s))
unfolding released
released_more n d = refl

pub releases_go : (n i : ℕ) (d e : Progress) (s : Step) → i < n → Some s ≡ next_release d → e
    ≡ release_taken d s → released (n - (i + 1)) e ≡ released (n - i) d
releases_go n i d e s h there is =
    ap (released (n - (i + 1))) is
    ∙ sym (ap (λ m. released m d) (one_left n i h) ∙ released_more (n - (i + 1)) d
    ∙ ap (λ o. where_some o d (λ u. released (n - (i + 1)) (release_taken d u))) (sym there))

pub releases_over : (n : ℕ) (d : Progress) → None ≡ next_release d → d ≡ released n d
unfolding released
releases_over zero d h = refl
releases_over (suc n) d h = sym (ap (λ o. where_some o d (λ s. released n (release_taken d s))) (sym h))

pub releases_end : (n : ℕ) (d : Progress) → n ≡ 0 → released n d ≡ d
unfolding released
releases_end zero d h = refl
releases_end (suc n) d h = absurd (omega (arith, h))

-- ---------------------------------------------------------------- searches

pub release_later : (w : State) (n t : ℕ) → t < n → None ≡ first_begin w t (releases (kind_at w 0))
    → first_release w (t + 1) (n - (t + 1)) ≡ first_release w t (n - t)
release_later w n t h none =
    ap (λ u. first_release w u (n - (t + 1))) (add-one t)
    ∙ sym (ap (first_release w t) (one_left n t h)
    ∙ ap (λ o. or_else o (first_release w (suc t) (n - (t + 1)))) (sym none))

abbrev here : State → ℕ → Bool
here w t = holds_few (place_at w t) (rights_of (lock_state w 0) t)

pub more_hold_few : (w : State) (n t : ℕ) → t < n → here w t ≡ true → all_hold_few w (t + 1) (n - (t + 1))
    ≡ all_hold_few w t (n - t)
more_hold_few w n t h few =
    ap (λ u. all_hold_few w u (n - (t + 1))) (add-one t)
    ∙ sym (ap (all_hold_few w t) (one_left n t h) ∙ ap (λ b. b && all_hold_few w (suc t) (n - (t + 1))) few)

pub one_holds_more : (w : State) (n t : ℕ) → t < n → here w t ≡ false → false ≡ all_hold_few w t (n - t)
one_holds_more w n t h many = sym (ap (all_hold_few w t) (one_left n t h)
    ∙ ap (λ b. b && all_hold_few w (suc t) (n - (t + 1))) many)
