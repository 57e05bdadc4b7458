-- The runs of a `Once`: where they begin, and what they leave.
use Rattle.std.proofs.Common.{ℕ, Bool, true, false, Option, Some, None, if◌then◌else◌, ◌==◌, ◌≡◌, ◌≢◌, ◌⊎◌}
use Rattle.std.proofs.Common.{inl, inr, refl, sym, ◌∙◌, ap, subst}
use Rattle.std.proofs.lemmas.Bool.{eqb-true}
use Rattle.core_base.specs.declared.wants.Want.{Want}
use Rattle.spec_locks.specs.declared.calls.Turn.{Turn}
use Rattle.spec_locks.specs.declared.calls.Turn.TheVariants as turn
use Rattle.spec_locks.specs.declared.outcomes.OnceState.{OnceState}
use Rattle.spec_locks.specs.declared.outcomes.OnceState.TheVariants as once_state
use Rattle.spec_locks.specs.declared.outcomes.Outcome.{Outcome}
use Rattle.spec_locks.specs.declared.outcomes.Outcome.TheVariants as outcome
use Rattle.spec_locks.specs.Condvars.{moved_of}
use Rattle.spec_locks.specs.Locks.{LockState, OfOnce, after_case, left_after, putting}
use Rattle.spec_locks.specs.Onces.{Phase, New, Poisoned, InProgress, Done, OnceCase, Start, Finish, Fail}
use Rattle.spec_locks.specs.Onces.{Rest, TakeAll, MayStart}
use Rattle.spec_locks.specs.Purposes.{Purpose, Enters, Releases, Converts, Bumps, CallsOnce, Awaits, Waits}
use Rattle.spec_locks.specs.Purposes.{Notifies, CondvarMemory, AwaitsBy, IsMadeOf}
use Rattle.spec_locks.specs.Runs.{LocksState, Event, Nothing, AtLock, Moves, Begins, Does, GoesOn, MayDo}
use Rattle.spec_locks.specs.Runs.{MayHappen, Turned, joined_by, locks_after, rules_at}
use Rattle.spec_locks.specs.Headline.{IsSafe}
use Rattle.spec_locks.proofs.Idle.{same_number}
use Rattle.spec_locks.proofs.OnceLaws.{done_stays}
use Rattle.spec_locks.proofs.Runs.{needs_of}

-- ---------------------------------------------------------------- the call of a run

-- one that only waits begins and ends no run
awaits_none : (e : OnceCase) (forced timed : Bool) (g : Option ℕ) → ((x : Want) (b : Bool) → e ≢ Rest x b)
    → AwaitsBy forced timed g (OfOnce e) → ⊥
awaits_none (Rest x b) forced timed g rests_not made = rests_not x b refl
awaits_none (Start b) forced timed g rests_not made = made
awaits_none Finish forced timed g rests_not made = made
awaits_none Fail forced timed g rests_not made = made
awaits_none TakeAll forced timed g rests_not made = made

runs_call : (q : Purpose) (g : Option ℕ) (b : Bool) (c : CondvarMemory) (l : ℕ) (e : OnceCase)
    → ((x : Want) (b : Bool) → e ≢ Rest x b) → IsMadeOf q g b c l (OfOnce e)
    → (forced : Bool) × (q ≡ CallsOnce l forced)
runs_call (CallsOnce k forced) g b c l e rests_not made = (forced, ap (λ n. CallsOnce n forced) (sym made.0))
runs_call (Awaits k forced timed) g b c l e rests_not made =
    absurd (awaits_none e forced timed g rests_not made.1)
runs_call (Enters k x how) g b c l e rests_not made = absurd made.1
runs_call (Releases k x fair) g b c l e rests_not made = absurd made.1
runs_call (Converts k x y how) g b c l e rests_not made = absurd made.1
runs_call (Bumps k x) g b c l e rests_not (f, inl gives) = absurd gives
runs_call (Bumps k x) g b c l e rests_not (f, inr enters) = absurd enters.1
runs_call (Waits k m timed) g b c l e rests_not (inl made) = absurd made.1
runs_call (Waits k m timed) g b c l e rests_not (inr (f, inl gives)) = absurd gives
runs_call (Waits k m timed) g b c l e rests_not (inr (f, inr enters)) = absurd enters.1
runs_call (Notifies k all) g b c l e rests_not (inl made) = absurd made.1
runs_call (Notifies k all) g b c l e rests_not (inr made) = absurd made

module _ (w : LocksState) (t : ℕ) where
  runs_for : (l : ℕ) (e : OnceCase) → ((x : Want) (b : Bool) → e ≢ Rest x b) → (o : Option Purpose)
      → MayDo w t l (OfOnce e) o → (forced : Bool) × (o ≡ Some (CallsOnce l forced))
  runs_for l e rests_not None may = absurd may
  runs_for l e rests_not (Some q) may =
      let call = runs_call q (w.calls t).gave_up (w.calls t).released (w.calls t).recalls l e rests_not
      may.0 in (call.0, ap Some call.1)

-- ---------------------------------------------------------------- a run begins

module _ (w : LocksState) (t : ℕ) (state : OnceState) where
  abbrev Starts : Type 0
  Starts = (l : ℕ) × (forced : Bool) × ((w.calls t).purpose ≡ Some (CallsOnce l forced))
      × ((((w.locks l).phase ≡ New) × (state ≡ once_state.New))
      ⊎ (((w.locks l).phase ≡ Poisoned) × (forced ≡ true) × (state ≡ once_state.Poisoned)))

  start_told : (l : ℕ) (forced : Bool) (p : Phase) → (w.locks l).phase ≡ p → MayStart p forced
      → state ≡ Rattle.spec_locks.specs.Runs.state_told p
      → (((w.locks l).phase ≡ New) × (state ≡ once_state.New)) ⊎
      (((w.locks l).phase ≡ Poisoned) × (forced ≡ true) × (state ≡ once_state.Poisoned))
  start_told l forced New e may told = inl (e, told)
  start_told l true Poisoned e may told = inr (e, refl, told)
  start_told l false Poisoned e may told = absurd may
  start_told l forced (InProgress u) e may told = absurd may
  start_told l forced Done e may told = absurd may

  start_at : (l : ℕ) (b : Bool) → MayHappen w t (AtLock l (OfOnce (Start b)))
      → outcome.Closure state ≡ outcome.Closure
      (Rattle.spec_locks.specs.Runs.state_told (w.locks l).phase) → Starts
  start_at l b may h = let call = starts_for (w.calls t).purpose refl may in (
    l,
    b,
    call,
    start_told l b (w.locks l).phase refl
        (needs_of w t l (OfOnce (Start b)) (w.calls t).purpose may).1
        (let e : state ≡ Rattle.spec_locks.specs.Runs.state_told (w.locks l).phase = cc in e),
  )
    where
      starts_for : (o : Option Purpose) → (w.calls t).purpose ≡ o → MayDo w t l (OfOnce (Start b)) o
          → (w.calls t).purpose ≡ Some (CallsOnce l b)
      starts_for None e may = absurd may
      starts_for (Some (CallsOnce k forced)) e may =
          e ∙ ap (λ n. Some (CallsOnce n forced)) (sym may.0.0) ∙ ap (λ f. Some (CallsOnce l f)) (sym may.0.1)
      starts_for (Some q) e may =
          let call = runs_call q (w.calls t).gave_up (w.calls t).released (w.calls t).recalls l (Start b)
          (λ x c. λ f. cc) may.0 in
          absurd (let f : q ≡ CallsOnce l call.0 = call.1 in cc)

  by_event : (e : Event) → MayHappen w t e → Begins w e (outcome.Closure state) → Starts
  by_event (AtLock l (OfOnce (Start b))) may h = start_at l b may h
  by_event e may h = absurd h

module _ (w v : LocksState) (t : ℕ) (o : Outcome) (state : OnceState)
    (told : o ≡ outcome.Closure state) where
  goes_starts : GoesOn w t o v → Starts w t state
  goes_starts g = by_event w t state g.event g.may (subst (Begins w g.event) told g.begins)

  not_step : o ≡ outcome.Step → ⊥
  not_step e = let f : outcome.Step ≡ outcome.Closure state = sym e ∙ told in cc

  does_start : (x : Turn) → Does w t x o v → Starts w t state
  does_start (turn.Begin c) d = absurd (not_step d.told)
  does_start turn.Late d = absurd (not_step d.told)
  does_start turn.Go d = goes_starts d
  does_start turn.Spin d = goes_starts d.goes
  does_start turn.Ok d = goes_starts d.goes
  does_start turn.Err d = goes_starts d.goes

  pub starts : (x : Turn) → Turned w t x o v → Starts w t state
  starts x (inl d) = does_start x d.1
  starts x (inr r) =
      absurd (let f : outcome.NotNow ≡ outcome.Closure state = sym r.1.0 ∙ told in cc)

-- ---------------------------------------------------------------- a run ends

module _ (w v : LocksState) (t : ℕ) (o : Outcome) (full : ℕ → Bool) (safe : IsSafe w full) (l : ℕ)
    (runs : (w.locks l).phase ≡ InProgress t) where
  -- the lock of the event is the one whose run ends
  same_lock : (k : ℕ) (e : OnceCase) → ((x : Want) (b : Bool) → e ≢ Rest x b)
      → MayHappen w t (AtLock k (OfOnce e)) → k ≡ l
  same_lock k e rests_not may =
      let call = runs_for w t k e rests_not (w.calls t).purpose may in
      let own = ((safe.runs t l).0 runs).1 in
      let same : Some (CallsOnce k call.0) ≡ Some (CallsOnce l own.0) = sym call.1 ∙ own.1 in
      cc

  after_end : (e : OnceCase) → ((x : Want) (b : Bool) → e ≢ Rest x b) → (p : Phase)
      → ((s : LockState) → (after_case (rules_at w l) (OfOnce e) s t).phase ≡ p)
      → (g : GoesOn w t o v) → (k : ℕ) → g.event ≡ AtLock k (OfOnce e) → (v.locks l).phase ≡ p
  after_end e rests_not p leaves g k ends =
      let may : MayHappen w t (AtLock k (OfOnce e)) = subst (MayHappen w t) ends g.may in
      let same = same_lock k e rests_not may in
      let there : g.event ≡ AtLock l (OfOnce e) = ends ∙ ap (λ j. AtLock j (OfOnce e)) same in
      ap (λ (s : LockState). s.phase) (g.locks l ∙ ap (λ x. locks_after w t x l) there)
      ∙ ap (λ (b : Bool). (if b then after_case (rules_at w l) (OfOnce e) (w.locks l) t else w.locks
      l).phase) (same_number l)
      ∙ leaves (w.locks l)

  done_then : (x : Turn) → x ≡ turn.Ok → Does w t x o v → (v.locks l).phase ≡ Done
  done_then turn.Ok e d = after_end Finish (λ x b. λ f. cc) Done (λ s. refl) d.goes d.lock d.ends
  done_then x e d = absurd cc

  poisoned_then : (x : Turn) → x ≡ turn.Err → Does w t x o v → (v.locks l).phase ≡ Poisoned
  poisoned_then turn.Err e d =
      after_end Fail (λ x b. λ f. cc) Poisoned (λ s. refl) d.goes d.lock d.ends
  poisoned_then x e d = absurd cc

  pub closes : (x : Turn) → Turned w t x o v → o ≢ outcome.NotNow
      → (x ≡ turn.Ok → (v.locks l).phase ≡ Done) ×
      (x ≡ turn.Err → (v.locks l).phase ≡ Poisoned)
  closes x (inl d) told = ((λ e. done_then x e d.1), (λ e. poisoned_then x e d.1))
  closes x (inr r) told = absurd (told r.1.0)
