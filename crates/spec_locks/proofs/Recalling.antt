-- A call recalls truly which mutex it saw, how many it moved, and that its run failed.
use Rattle.std.proofs.Common.{ℕ, Bool, true, false, Option, Some, None, if◌then◌else◌, ◌≡◌, ◌≢◌, ◌⊎◌, inl}
use Rattle.std.proofs.Common.{inr, List, [], ◌∷◌, length, refl, sym, ◌∙◌, ap, subst, arith}
use Rattle.std.proofs.lemmas.Bool.{cases_eq}
use Rattle.std.specs.Prelude.{drop}
use Rattle.spec_locks.specs.declared.calls.Turn.{Turn}
use Rattle.spec_locks.specs.declared.calls.Turn.TheVariants as turn
use Rattle.spec_locks.specs.declared.outcomes.Outcome.{Outcome}
use Rattle.spec_locks.specs.declared.outcomes.Outcome.TheVariants as outcome
use Rattle.spec_locks.specs.Condvars.{moved_of}
use Rattle.spec_locks.specs.Locks.{LockState, Queued, Mutex, Condvar, Enter, Pend, Settle, Leave}
use Rattle.spec_locks.specs.Locks.{Convert, Park, Aside, TakeFirst, TakeAside, TakePicked, Wake, HandOff}
use Rattle.spec_locks.specs.Locks.{Late, Rollback, OfOnce, OfCondvar, SeeOwner, Look, Show, Hide, left_after}
use Rattle.spec_locks.specs.Locks.{putting}
use Rattle.spec_locks.specs.Onces.{InProgress, Poisoned, Start, Finish, Fail, Rest, TakeAll}
use Rattle.spec_locks.specs.Purposes.{Purpose, Enters, Releases, Converts, Bumps, CallsOnce, Awaits, Waits}
use Rattle.spec_locks.specs.Purposes.{Notifies, CondvarMemory, Blank, Saw, SawOwner, HasMoved, WasMoved}
use Rattle.spec_locks.specs.Purposes.{WasNotified}
use Rattle.spec_locks.specs.Purposes.{IsMadeOf}
use Rattle.spec_locks.specs.Runs.{LocksState, CallState, Event, Nothing, AtLock, Moves, Does, GoesOn, MayDo}
use Rattle.spec_locks.specs.Runs.{MayHappen, Stays, Turned, after_wake, gives_up, going_on}
use Rattle.spec_locks.specs.Runs.{is_among, is_taken_by, joined_by, rules_at, unless_ended, woken}
use Rattle.spec_locks.specs.EachStep.{RecallsTruly}
use Rattle.spec_locks.proofs.Idle.{differs, other_then, own_then, same_number, stay_own}
use Rattle.spec_locks.proofs.Runs.{needs_of}

-- a notification recalls so
record Notes (w v : LocksState) (t : ℕ) (now : CondvarMemory) : Type 0 where
  pub saw : (m : ℕ) → now ≡ Saw m → ((w.calls t).recalls ≡ Saw m)
      ⊎ ((c : ℕ) × (all : Bool) × ((w.calls t).purpose ≡ Some (Notifies c all))
      × ((w.locks c).shown ≡ Some m))
  pub moved : (m n : ℕ) → now ≡ HasMoved m n → ((w.calls t).recalls ≡ HasMoved m n)
      ⊎ ((c : ℕ) × (all : Bool) × ((w.calls t).purpose ≡ Some (Notifies c all))
      × (n ≡ (if all then length (w.locks c).queue else 1))
      × ((v.locks c).queue ≡ (if all then [] else drop 1 (w.locks c).queue)))

-- a call of a `Once` recalls so that its run failed
abbrev Fails : LocksState → LocksState → ℕ → Bool → Type 0
Fails w v t now = now ≡ true → ((w.calls t).failed ≡ true)
    ⊎ ((l : ℕ) × ((w.locks l).phase ≡ InProgress t) × ((v.locks l).phase ≡ Poisoned))

truly : (w v : LocksState) (t : ℕ) (c : CallState) → Notes w v t c.recalls → Fails w v t c.failed
    → RecallsTruly w v t c
truly w v t c notes fails = record { saw = notes.saw; moved = notes.moved; failed = fails }

-- ---------------------------------------------------------------- a look

-- a call that looks which mutex is shown notifies
looks_call : (q : Purpose) (g : Option ℕ) (b : Bool) (c : CondvarMemory) (l : ℕ) (seen : Option ℕ)
    → IsMadeOf q g b c l (OfCondvar (Look seen))
    → (every : Bool) × (q ≡ Notifies l every)
looks_call (Notifies k every) g b c l seen (inl made) = (every, ap (λ n. Notifies n every) (sym made.0))
looks_call (Notifies k every) g b c l seen (inr made) = absurd made
looks_call (Enters k x how) g b c l seen made = absurd made.1
looks_call (Releases k x fair) g b c l seen made = absurd made.1
looks_call (Converts k x y how) g b c l seen made = absurd made.1
looks_call (Bumps k x) g b c l seen (e, inl gives) = absurd gives
looks_call (Bumps k x) g b c l seen (e, inr enters) = absurd enters.1
looks_call (CallsOnce k forced) g b c l seen made = absurd made.1
looks_call (Awaits k forced timed) g b c l seen made = absurd made.1
looks_call (Waits k m timed) g b c l seen (inl made) = absurd made.1
looks_call (Waits k m timed) g b c l seen (inr (e, inl gives)) = absurd gives
looks_call (Waits k m timed) g b c l seen (inr (e, inr enters)) = absurd enters.1

module _ (w : LocksState) (t : ℕ) where
  looks : (l m : ℕ) (o : Option Purpose) → MayDo w t l (OfCondvar (Look (Some m))) o
      → (every : Bool) × (o ≡ Some (Notifies l every)) × ((w.locks l).shown ≡ Some m)
  looks l m None may = absurd may
  looks l m (Some q) may =
      let call = looks_call q (w.calls t).gave_up (w.calls t).released (w.calls t).recalls l (Some m) may.0 in
      (call.0, ap Some call.1, sym may.1.1)

-- ---------------------------------------------------------------- a call

module _ (w v : LocksState) where
  -- the thread recalls what it did before, or what befell it
  stays_so : (u : ℕ) (r : CondvarMemory) → r ≡ (w.calls u).recalls → Notes w v u r
  stays_so u r e = record { saw = λ m f. inl (sym e ∙ f); moved = λ m n f. inl (sym e ∙ f) }

  blank : (u : ℕ) → Notes w v u Blank
  blank u = record { saw = λ m f. absurd cc; moved = λ m n f. absurd cc }

  was_moved : (u : ℕ) → Notes w v u WasMoved
  was_moved u = record { saw = λ m f. absurd cc; moved = λ m n f. absurd cc }

  was_notified : (u : ℕ) → Notes w v u WasNotified
  was_notified u = record { saw = λ m f. absurd cc; moved = λ m n f. absurd cc }

  saw_owner : (u m : ℕ) (b : Bool) → Notes w v u (SawOwner m b)
  saw_owner u m b = record { saw = λ k f. absurd cc; moved = λ k n f. absurd cc }

  afterwards : (u : ℕ) (r : CondvarMemory) → Notes w v u r → Notes w v u (after_wake r)
  afterwards u WasMoved h = was_notified u
  afterwards u Blank h = h
  afterwards u (Saw m) h = h
  afterwards u (SawOwner m b) h = h
  afterwards u (HasMoved m n) h = h
  afterwards u WasNotified h = h

  woken_so : (t : ℕ) (e : Event) (u : ℕ) (c : CallState) → Notes w v u c.recalls
      → Notes w v u (woken w t e u c).recalls
  woken_so t (AtLock l Wake) u c h = either (is_taken_by t ((w.locks l).taken u))
    where
      either : (b : Bool)
          → Notes w v u (if b then record c { retries = Some l; recalls = after_wake c.recalls } else
          c).recalls
      either true = afterwards u c.recalls h
      either false = h
  woken_so t (AtLock l (HandOff x y)) u c h = either (is_taken_by t ((w.locks l).taken u))
    where
      either : (b : Bool)
          → Notes w v u (if b then record c { retries = None; recalls = after_wake c.recalls } else
          c).recalls
      either true = afterwards u c.recalls h
      either false = h
  woken_so t (Moves l m every owned n) u c h = either (is_among u (moved_of every (w.locks l).queue))
    where
      either : (b : Bool) → Notes w v u (if b then record c { recalls = WasMoved } else c).recalls
      either true = was_moved u
      either false = h
  woken_so t e u c h = h

  -- whether its run failed stays
  woken_failed : (t : ℕ) (e : Event) (u : ℕ) (c : CallState) → (woken w t e u c).failed ≡ c.failed
  woken_failed t (AtLock l Wake) u c = either (is_taken_by t ((w.locks l).taken u))
    where
      either : (b : Bool)
          → (if b then record c { retries = Some l; recalls = after_wake c.recalls } else c).failed ≡
          c.failed
      either true = refl
      either false = refl
  woken_failed t (AtLock l (HandOff x y)) u c = either (is_taken_by t ((w.locks l).taken u))
    where
      either : (b : Bool)
          → (if b then record c { retries = None; recalls = after_wake c.recalls } else c).failed ≡ c.failed
      either true = refl
      either false = refl
  woken_failed t (Moves l m every owned n) u c = either (is_among u (moved_of every (w.locks l).queue))
    where
      either : (b : Bool) → (if b then record c { recalls = WasMoved } else c).failed ≡ c.failed
      either true = refl
      either false = refl
  woken_failed t e u c = refl

  late_failed : (l : ℕ) (r : CondvarMemory) (c : CallState) → (gives_up l r c).failed ≡ c.failed
  late_failed l WasMoved c = refl
  late_failed l r c = refl

  late_so : (t l : ℕ) (r : CondvarMemory) → r ≡ (w.calls t).recalls
      → Notes w v t (gives_up l r (w.calls t)).recalls
  late_so t l WasMoved e = was_notified t
  late_so t l Blank e = stays_so t _ refl
  late_so t l (Saw m) e = stays_so t _ refl
  late_so t l (SawOwner m b) e = stays_so t _ refl
  late_so t l (HasMoved m n) e = stays_so t _ refl
  late_so t l WasNotified e = stays_so t _ refl

  -- ---------------------------------------------------------------- a move

  module _ (t : ℕ) (o : Outcome) (g : GoesOn w t o v) where
    number_of : (every : Bool) (q : List Queued) (n : ℕ) → n ≢ 0 → n ≡ length (moved_of every q)
        → n ≡ (if every then length q else 1)
    number_of true q n some e = e
    number_of false [] n some e = absurd (some e)
    number_of false (x ∷ q) n some e = grind arith

    left_of : (c : ℕ) (every : Bool)
        → (left_after every (w.locks c)).queue ≡ (if every then [] else drop 1 (w.locks c).queue)
    left_of c every = refl

    apart : (c m n : ℕ) (every owned : Bool) → MayHappen w t (Moves c m every owned n) → c ≢ m
    apart c m n every owned may e =
        let f : Condvar ≡ Mutex = sym may.sorts.0 ∙ ap (λ k. (rules_at w k).sort) e ∙ may.sorts.1 in cc

    moves : (c m n : ℕ) (every owned : Bool) → (may : MayHappen w t (Moves c m every owned n))
        → g.event ≡ Moves c m every owned n → Notes w v t (HasMoved m n)
    moves c m n every owned may e = record {
      saw = λ k f. absurd cc;
      moved =
          λ k number f. inr (let same : n ≡ number =
          cc in (
            c,
            every,
            may.notifies,
            subst (λ x. x ≡ (if every then length (w.locks c).queue else 1))
                same (number_of every (w.locks c).queue n may.some may.number),
            queue_left,
          ));
    }
      where
        queue_left : (v.locks c).queue ≡ (if every then [] else drop 1 (w.locks c).queue)
        queue_left =
            ap (λ (s : LockState). s.queue)
            (g.locks c ∙ ap (λ x. Rattle.spec_locks.specs.Runs.locks_after w t x c) e
            ∙ ap (λ (b : Bool). if b then joined_by owned t (moved_of every (w.locks c).queue)
            (w.locks m) else putting w.locks c (left_after every (w.locks c)) c)
            (differs c m (apart c m n every owned may))
            ∙ ap (λ (b : Bool). if b then left_after every (w.locks c) else w.locks c) (same_number c))

    by_event : (e : Event) → g.event ≡ e → MayHappen w t e → Notes w v t (going_on e (w.calls t)).recalls
    by_event Nothing h may = stays_so t _ refl
    by_event (Moves c m every owned n) h may = moves c m n every owned may h
    by_event (AtLock l Late) h may = late_so t l (w.calls t).recalls refl
    by_event (AtLock l (Enter x)) h may = stays_so t _ refl
    by_event (AtLock l Pend) h may = stays_so t _ refl
    by_event (AtLock l Settle) h may = stays_so t _ refl
    by_event (AtLock l (Park x)) h may = stays_so t _ refl
    by_event (AtLock l Aside) h may = stays_so t _ refl
    by_event (AtLock l (Leave x)) h may = stays_so t _ refl
    by_event (AtLock l (HandOff x y)) h may = stays_so t _ refl
    by_event (AtLock l (OfOnce (Start b))) h may = stays_so t _ refl
    by_event (AtLock l (OfOnce (Rest x b))) h may = stays_so t _ refl
    by_event (AtLock l (OfOnce Fail)) h may = stays_so t _ refl
    by_event (AtLock l (OfOnce Finish)) h may = stays_so t _ refl
    by_event (AtLock l (OfOnce TakeAll)) h may = stays_so t _ refl
    by_event (AtLock l (OfCondvar (Look (Some m)))) h may =
        let seen = looks w t l m (w.calls t).purpose may in record {
          saw = λ k f. inr (let same : m ≡ k = cc in (l, seen.0, seen.1, seen.2 ∙ ap Some same));
          moved = λ k n f. absurd cc;
        }
    by_event (AtLock l (OfCondvar (Look None))) h may = stays_so t _ refl
    by_event (AtLock l (OfCondvar (Show m))) h may = stays_so t _ refl
    by_event (AtLock l (OfCondvar Hide)) h may = stays_so t _ refl
    by_event (AtLock l (SeeOwner b)) h may = saw_owner t l b
    by_event (AtLock l (Convert x y)) h may = stays_so t _ refl
    by_event (AtLock l (TakeFirst x)) h may = stays_so t _ refl
    by_event (AtLock l (TakeAside u)) h may = stays_so t _ refl
    by_event (AtLock l (TakePicked x)) h may = stays_so t _ refl
    by_event (AtLock l Wake) h may = stays_so t _ refl
    by_event (AtLock l Rollback) h may = stays_so t _ refl

    by_failure : (e : Event) → g.event ≡ e → MayHappen w t e → Fails w v t (going_on e (w.calls t)).failed
    by_failure (AtLock l (OfOnce Fail)) h may = λ f. inr (
      l,
      (needs_of w t l (OfOnce Fail) (w.calls t).purpose may).1,
      ap (λ (s : LockState). s.phase)
          (g.locks l ∙ ap (λ x. Rattle.spec_locks.specs.Runs.locks_after w t x l) h)
          ∙ ap (λ (b : Bool). (if b then Rattle.spec_locks.specs.Locks.after_case (rules_at w l)
          (OfOnce Fail) (w.locks l) t else w.locks l).phase) (same_number l),
    )
    by_failure (AtLock l Late) h may = λ f. inl (sym (late_failed l (w.calls t).recalls (w.calls t)) ∙ f)
    by_failure (AtLock l (OfCondvar (Look (Some m)))) h may = λ f. inl f
    by_failure e h may = λ f. inl f

    own_notes : Notes w v t (going_on g.event (w.calls t)).recalls
    own_notes = by_event g.event refl g.may

    own_fails : Fails w v t (going_on g.event (w.calls t)).failed
    own_fails = by_failure g.event refl g.may

    -- the call of the step's thread, with the step in it
    pub answer_recalls : RecallsTruly w v t (going_on g.event (w.calls t))
    answer_recalls = truly w v t (going_on g.event (w.calls t)) own_notes own_fails

    ended_fails : (x : Outcome) (c : CallState) → Fails w v t c.failed → Fails w v t (unless_ended x c).failed
    ended_fails (outcome.End a) c h = λ e. absurd cc
    ended_fails outcome.NotNow c h = h
    ended_fails outcome.Step c h = h
    ended_fails outcome.Sleep c h = h
    ended_fails (outcome.Closure state) c h = h

    ended_so : (x : Outcome) (c : CallState) → Notes w v t c.recalls → Notes w v t (unless_ended x c).recalls
    ended_so (outcome.End a) c h = blank t
    ended_so outcome.NotNow c h = h
    ended_so outcome.Step c h = h
    ended_so outcome.Sleep c h = h
    ended_so (outcome.Closure state) c h = h

    own_goes : RecallsTruly w v t (unless_ended o (woken w t g.event t (going_on g.event (w.calls t))))
    own_goes = truly w v t _ (ended_so o _ (woken_so t g.event t _ own_notes))
        (ended_fails o _ (subst (Fails w v t) (sym (woken_failed t g.event t (going_on g.event (w.calls t))))
        own_fails))

    other_goes : (u : ℕ) → RecallsTruly w v u (woken w t g.event u (w.calls u))
    other_goes u =
        truly w v u _ (woken_so t g.event u (w.calls u) (stays_so u _ refl))
        (λ e. inl (sym (woken_failed t g.event u (w.calls u)) ∙ e))

    goes : (u : ℕ) → RecallsTruly w v u (v.calls u)
    goes u = elim (cases_eq u t) [
      | inl e ↦ subst (λ k. RecallsTruly w v k (v.calls k)) (sym e)
          (subst (RecallsTruly w v t) (sym (own_then w v t o g)) own_goes)
      | inr ne ↦ subst (RecallsTruly w v u) (sym (other_then w v t o g u ne)) (other_goes u)
    ]

  same_call : (u : ℕ) (c : CallState) → c ≡ w.calls u → RecallsTruly w v u c
  same_call u c e =
      truly w v u c (stays_so u _ (ap (λ (d : CallState). d.recalls) e))
      (λ f. inl (sym (ap (λ (d : CallState). d.failed) e) ∙ f))

  module _ (t : ℕ) (o : Outcome) where
    stays : (c : CallState) → RecallsTruly w v t c → Stays w t c o v → (u : ℕ)
        → RecallsTruly w v u (v.calls u)
    stays c h s u = elim (cases_eq u t) [
      | inl e ↦ subst (λ k. RecallsTruly w v k (v.calls k)) (sym e)
          (subst (RecallsTruly w v t) (sym (stay_own w v t o c s)) h)
      | inr ne ↦ same_call u (v.calls u)
          (s.calls u ∙ ap (λ (b : Bool). if b then c else w.calls u) (differs u t ne))
    ]

    does : (x : Turn) → Does w t x o v → (u : ℕ) → RecallsTruly w v u (v.calls u)
    does (turn.Begin c) d u =
        stays _ (truly w v t _ (blank t) (λ e. absurd (let f : false ≡ true = e in cc))) d u
    does turn.Late d u = stays _ (truly w v t _ (stays_so t _ refl) (λ e. inl e)) d u
    does turn.Go d u = goes t o d u
    does turn.Spin d u = goes t o d.goes u
    does turn.Ok d u = goes t o d.goes u
    does turn.Err d u = goes t o d.goes u

    pub recalls_truly : (x : Turn) → Turned w t x o v → (u : ℕ) → RecallsTruly w v u (v.calls u)
    recalls_truly x (inl d) u = does x d.1 u
    recalls_truly x (inr r) u = same_call u (v.calls u) (ap (λ (k : LocksState). k.calls u) r.1.1)
