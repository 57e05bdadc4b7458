-- A call recalls what its thread did: a notification, that it has moved waiters, once and from that step on;
-- a wait, that it has released its mutex.
use Rattle.std.proofs.Common.{ℕ, Bool, true, false, Option, Some, None, if◌then◌else◌, ◌==◌, ◌≡◌, ◌≢◌, ◌⊎◌}
use Rattle.std.proofs.Common.{inl, inr}
use Rattle.std.proofs.Common.{refl, sym, ◌∙◌, ap, subst, eqb-true}
use Rattle.spec_locks.specs.declared.calls.Call.{Call}
use Rattle.spec_locks.specs.declared.calls.Turn.{Turn}
use Rattle.spec_locks.specs.declared.calls.Turn.TheVariants as turn
use Rattle.spec_locks.specs.declared.calls.Step.{Step}
use Rattle.spec_locks.specs.declared.outcomes.Answer.{Answer}
use Rattle.spec_locks.specs.declared.outcomes.Outcome.{Outcome}
use Rattle.spec_locks.specs.declared.outcomes.Outcome.TheVariants as outcome
use Rattle.spec_locks.specs.Condvars.{moved_of}
use Rattle.spec_locks.specs.Locks.{LockState, LockCase, Enter, Pend, Settle, Leave, Convert, Park, Aside}
use Rattle.spec_locks.specs.Locks.{TakeFirst}
use Rattle.spec_locks.specs.Locks.{TakeAside, TakePicked, Wake, HandOff, Late, Rollback, OfOnce, OfCondvar}
use Rattle.spec_locks.specs.Locks.{SeeOwner}
use Rattle.spec_locks.specs.Locks.{Look, Show, Hide, after_case}
use Rattle.spec_locks.specs.Onces.{OnceCase, Start, Finish, Fail, Rest, TakeAll}
use Rattle.spec_locks.specs.Purposes.{Purpose, Enters, Releases, Converts, Bumps, CallsOnce, Awaits, Waits}
use Rattle.spec_locks.specs.Purposes.{Notifies}
use Rattle.spec_locks.specs.Purposes.{CondvarMemory, Blank, Saw, SawOwner, HasMoved, WasMoved, IsMadeOf}
use Rattle.spec_locks.specs.Runs.{Nothing, locks_after, rules_at}
use Rattle.spec_locks.specs.Runs.{LocksState, CallState, Event, AtLock, Moves, Does, GoesOn, IsNotified}
use Rattle.spec_locks.specs.Runs.{MayDo}
use Rattle.spec_locks.specs.Runs.{MayHappen, Turned, after_wake, gives_up, going_on, is_among, is_taken_by}
use Rattle.spec_locks.specs.Runs.{unless_ended, woken}
use Rattle.spec_locks.specs.EachStep.{IsUnderWay, Tells}
use Rattle.spec_locks.proofs.Changes.{by_case}
use Rattle.spec_locks.proofs.Idle.{own_then, unless_same, woken_goes}
use Rattle.spec_locks.proofs.NobodyWakes.{Unnotified, own_none, told_by}

-- a call that looks which mutex is shown has seen none
looks_first : (q : Purpose) (g : Option ℕ) (b : Bool) (c : CondvarMemory) (l : ℕ) (seen : Option ℕ)
    → IsMadeOf q g b c l (OfCondvar (Look seen)) → c ≡ Blank
looks_first (Notifies k every) g b c l seen (inl made) = made.1
looks_first (Notifies k every) g b c l seen (inr made) = absurd made
looks_first (Enters k x how) g b c l seen made = absurd made.1
looks_first (Releases k x fair) g b c l seen made = absurd made.1
looks_first (Converts k x y how) g b c l seen made = absurd made.1
looks_first (Bumps k x) g b c l seen (e, inl gives) = absurd gives
looks_first (Bumps k x) g b c l seen (e, inr enters) = absurd enters.1
looks_first (CallsOnce k forced) g b c l seen made = absurd made.1
looks_first (Awaits k forced timed) g b c l seen made = absurd made.1
looks_first (Waits k m timed) g b c l seen (inl made) = absurd made.1
looks_first (Waits k m timed) g b c l seen (inr (e, inl gives)) = absurd gives
looks_first (Waits k m timed) g b c l seen (inr (e, inr enters)) = absurd enters.1

-- one that sees whether somebody owns the mutex has seen that
sees_next : (q : Purpose) (g : Option ℕ) (b : Bool) (c : CondvarMemory) (l : ℕ) (owned : Bool)
    → IsMadeOf q g b c l (SeeOwner owned) → c ≡ Saw l
sees_next (Notifies k every) g b c l owned (inl made) = absurd made.1
sees_next (Notifies k every) g b c l owned (inr made) = made
sees_next (Enters k x how) g b c l owned made = absurd made.1
sees_next (Releases k x fair) g b c l owned made = absurd made.1
sees_next (Converts k x y how) g b c l owned made = absurd made.1
sees_next (Bumps k x) g b c l owned (e, inl gives) = absurd gives
sees_next (Bumps k x) g b c l owned (e, inr enters) = absurd enters.1
sees_next (CallsOnce k forced) g b c l owned made = absurd made.1
sees_next (Awaits k forced timed) g b c l owned made = absurd made.1
sees_next (Waits k m timed) g b c l owned (inl made) = absurd made.1
sees_next (Waits k m timed) g b c l owned (inr (e, inl gives)) = absurd gives
sees_next (Waits k m timed) g b c l owned (inr (e, inr enters)) = absurd enters.1

module _ (w : LocksState) (t : ℕ) where
  recalls_by : (r : CondvarMemory) (l : ℕ) (case : LockCase) →
      ((q : Purpose) (g : Option ℕ) (b : Bool) (c : CondvarMemory) → IsMadeOf q g b c l case → c ≡ r)
      → (o : Option Purpose) → MayDo w t l case o → (w.calls t).recalls ≡ r
  recalls_by r l case by None may = absurd may
  recalls_by r l case by (Some q) may =
      by q (w.calls t).gave_up (w.calls t).released (w.calls t).recalls may.0

  module _ (k n : ℕ) (moved : (w.calls t).recalls ≡ HasMoved k n) where
    late : (r : CondvarMemory) (l : ℕ) → (w.calls t).recalls ≡ r
        → (gives_up l r (w.calls t)).recalls ≡ HasMoved k n
    late WasMoved l e = absurd (let f : WasMoved ≡ HasMoved k n = sym e ∙ moved in cc)
    late r l e = moved

    -- a call that has moved waiters goes on to recall it
    stays : (e : Event) → MayHappen w t e → (going_on e (w.calls t)).recalls ≡ HasMoved k n
    stays (Moves c m all owned number) may =
        absurd (let f : SawOwner m owned ≡ HasMoved k n = sym may.saw ∙ moved in cc)
    stays (AtLock l Late) may = late (w.calls t).recalls l refl
    stays (AtLock l (OfCondvar (Look (Some m)))) may = absurd
        (let f : Blank ≡ HasMoved k n = sym (recalls_by Blank l (OfCondvar (Look (Some m)))
        (λ q g b c. looks_first q g b c l (Some m)) (w.calls t).purpose may) ∙ moved in cc)
    stays (AtLock l (SeeOwner owned)) may = absurd
        (let f : Saw l ≡ HasMoved k n = sym (recalls_by (Saw l) l (SeeOwner owned)
        (λ q g b c. sees_next q g b c l owned) (w.calls t).purpose may) ∙ moved in cc)
    stays (AtLock l (OfOnce (Start b))) may = moved
    stays (AtLock l (OfOnce c)) may = by_once c
      where
        by_once : (c : OnceCase) → (going_on (AtLock l (OfOnce c)) (w.calls t)).recalls ≡ HasMoved k n
        by_once (Start b) = moved
        by_once Finish = moved
        by_once Fail = moved
        by_once (Rest x b) = moved
        by_once TakeAll = moved
    stays (AtLock l (OfCondvar (Look None))) may = moved
    stays e may = moved

-- ---------------------------------------------------------------- a release

module _ (w : LocksState) (t l m : ℕ) (timed : Bool) (waits : (w.calls t).purpose ≡ Some (Waits l m timed))
    (owns : (w.locks m).exclusive ≡ Some t) where
  abbrev Gives : Event → LockState → Type 0
  Gives e s = (s.exclusive ≡ Some t) ⊎ ((going_on e (w.calls t)).released ≡ true)

  abbrev Made : LockCase → Type 0
  Made case = IsMadeOf (Waits l m timed) (w.calls t).gave_up (w.calls t).released (w.calls t).recalls m case

  gives_by : (case : LockCase) → Made case
      → Gives (AtLock m case) (after_case (rules_at w m) case (w.locks m) t)
  gives_by (Leave x) made = inr refl
  gives_by (HandOff x y) made = inr refl
  gives_by (Enter x) (inl made) = absurd made.1
  gives_by (Enter x) (inr (e, inl gives)) = absurd gives
  gives_by (Enter x) (inr (e, inr enters)) = inr enters.0
  gives_by Settle made = inl refl
  gives_by (Convert x y) (inl made) = absurd made.1
  gives_by (Convert x y) (inr (e, inl gives)) = absurd gives
  gives_by (Convert x y) (inr (e, inr enters)) = absurd enters.1
  gives_by Rollback (inl made) = absurd made.1
  gives_by Rollback (inr (e, inl gives)) = absurd gives
  gives_by Rollback (inr (e, inr enters)) = inr enters.0
  gives_by (OfOnce c) made = by_once c
    where
      by_once : (c : OnceCase)
          → Gives (AtLock m (OfOnce c)) (after_case (rules_at w m) (OfOnce c) (w.locks m) t)
      by_once (Start b) = inl owns
      by_once Finish = inl owns
      by_once Fail = inl owns
      by_once (Rest x b) = inl owns
      by_once TakeAll = inl owns
  gives_by Pend made = inl owns
  gives_by (Park x) made = inl owns
  gives_by Aside made = inl owns
  gives_by (TakeFirst x) made = inl owns
  gives_by (TakeAside u) made = inl owns
  gives_by (TakePicked start) made = inl owns
  gives_by Wake made = inl owns
  gives_by Late made = inl owns
  gives_by (OfCondvar (Look seen)) made = inl owns
  gives_by (OfCondvar (Show k)) made = inl owns
  gives_by (OfCondvar Hide) made = inl owns
  gives_by (SeeOwner b) made = inl owns

  gives_at : (e : Event) → MayHappen w t e → Gives e (locks_after w t e m)
  gives_at Nothing may = inl owns
  gives_at (Moves c k all owned n) may =
      absurd (let f : Some (Notifies c all) ≡ Some (Waits l m timed) = sym may.notifies ∙ waits in cc)
  gives_at (AtLock k case) may = by_case w t m (Gives (AtLock k case)) (inl owns) (λ j. (j ≡ k)
      × MayHappen w t
      (AtLock j case)) k case (refl, may)
      (λ here. subst (λ j. Gives (AtLock j case) (after_case (rules_at w m) case (w.locks m) t)) here.0
      (gives_by case (subst (MayDo w t m case) waits here.1).0))

-- ---------------------------------------------------------------- a step

module _ (w v : LocksState) (t : ℕ) (o : Outcome) (g : GoesOn w t o v) where
  unended : (x : Outcome) (c : CallState) → IsNotified (unless_ended x c).recalls → IsNotified c.recalls
  unended (outcome.End answer) c h = absurd h
  unended x c h = h

  -- a waiter that is notified by the step is moved by its event
  moved_by : (u : ℕ) → Unnotified (w.calls u) → IsNotified (v.calls u).recalls
      → (c : ℕ) × (m : ℕ) × (all : Bool) × (owned : Bool) × (number : ℕ)
      × (g.event ≡ Moves c m all owned number) × (is_among u (moved_of all (w.locks c).queue) ≡ true)
  moved_by u none h = either (u == t) refl (subst (λ (c : CallState). IsNotified c.recalls) (g.calls u) h)
    where
      either : (b : Bool) → (u == t) ≡ b
          → IsNotified (if b then unless_ended o (woken w t g.event t (going_on g.event (w.calls t)))
          else woken w t g.event u (w.calls u)).recalls
          → (c : ℕ) × (m : ℕ) × (all : Bool) × (owned : Bool) × (number : ℕ)
          × (g.event ≡ Moves c m all owned number) × (is_among u (moved_of all (w.locks c).queue) ≡ true)
      either false f x = told_by w t u g.event (w.calls u) none x
      either true f x = let same : u ≡ t = eqb-true u t f in
          told_by w t u g.event (going_on g.event (w.calls u)) (own_none g.event (w.calls u) none)
          (subst (λ j. IsNotified (woken w t g.event j (going_on g.event (w.calls j))).recalls) (sym same)
          (unended o (woken w t g.event t (going_on g.event (w.calls t))) x))

  -- the call of the step's thread, with the step in it
  pub answer_tells : Tells w v t (going_on g.event (w.calls t))
  answer_tells = record {
    tells = λ u l m timed waits none told. (
        let by = moved_by u none told in
        let may : MayHappen w t (Moves by.0 by.1 by.2 by.3 by.4) = subst (MayHappen w t) by.5 g.may in (
          λ k n e. (let f : SawOwner by.1 by.3 ≡ HasMoved k n = sym may.saw ∙ e in cc),
          (by.1, by.4, ap (λ x. (going_on x (w.calls t)).recalls) by.5),
        )
        );
    keeps = λ k n e. stays w t k n e g.event g.may;
    gives = λ l m timed waits owns. subst (λ (s : LockState). Gives w t l m timed waits owns g.event s)
        (sym (g.locks m)) (gives_at w t l m timed waits owns g.event g.may);
  }

  -- nor does the rest of the step make the thread recall less
  woken_moved : (e : Event) → MayHappen w t e → (k n : ℕ) (c : CallState) → c.recalls ≡ HasMoved k n
      → (woken w t e t c).recalls ≡ HasMoved k n
  woken_moved (AtLock l Wake) may k n c e = either (is_taken_by t ((w.locks l).taken t))
    where
      either : (b : Bool)
          → (if b then record c { retries = Some l; recalls = after_wake c.recalls } else c).recalls
          ≡ HasMoved k n
      either true = ap after_wake e
      either false = e
  woken_moved (AtLock l (HandOff x y)) may k n c e = either (is_taken_by t ((w.locks l).taken t))
    where
      either : (b : Bool)
          → (if b then record c { retries = None; recalls = after_wake c.recalls } else c).recalls
          ≡ HasMoved k n
      either true = ap after_wake e
      either false = e
  woken_moved (Moves l m all owned number) may k n c e =
      either (is_among t (moved_of all (w.locks l).queue)) refl
    where
      either : (b : Bool) → is_among t (moved_of all (w.locks l).queue) ≡ b
          → (if b then record c { recalls = WasMoved } else c).recalls ≡ HasMoved k n
      either true among = absurd (let f : Some (Waits l m (may.wait t among).0.0) ≡ Some (Notifies l all) =
          sym (may.wait t among).0.1 ∙ may.notifies in cc)
      either false among = e
  woken_moved e may k n c is = is

  woken_released : (e : Event) (c : CallState) → c.released ≡ true → (woken w t e t c).released ≡ true
  woken_released e c gave = (woken_goes w t e t c).0.released gave

  pub goes_tells : ((a : Answer) → o ≢ outcome.End a) → Tells w v t (v.calls t)
  goes_tells under =
      let now = going_on g.event (w.calls t) in
      let so : v.calls t ≡ woken w t g.event t now = own_then w v t o g ∙ unless_same o _ under in
      record {
        tells = λ u l m timed waits none told. (
            let x = answer_tells.tells u l m timed waits none told in (
              x.0,
              (
                x.1.0,
                x.1.1,
                ap (λ (c : CallState). c.recalls) so
                    ∙ woken_moved g.event g.may x.1.0 x.1.1 now x.1.2,
              ),
            )
            );
        keeps = λ k n e. ap (λ (c : CallState). c.recalls) so
            ∙ woken_moved g.event g.may k n now (answer_tells.keeps k n e);
        gives = λ l m timed waits owns. elim (answer_tells.gives l m timed waits owns) [
          | inl still ↦ inl still
          | inr gave ↦ inr (ap (λ (c : CallState). c.released) so ∙ woken_released g.event now gave)
        ];
      }

module _ (w v : LocksState) (s : Step) (o : Outcome) where
  does_tell : (x : Turn) → ((c : Call) → x ≢ turn.Begin c) × (x ≢ turn.Late)
      × ((a : Answer) → o ≢ outcome.End a) → Does w s.thread x o v → Tells w v s.thread (v.calls s.thread)
  does_tell (turn.Begin c) under d = absurd (under.0 c refl)
  does_tell turn.Late under d = absurd (under.1 refl)
  does_tell turn.Go under d = goes_tells w v s.thread o d under.2
  does_tell turn.Spin under d = goes_tells w v s.thread o d.goes under.2
  does_tell turn.Ok under d = goes_tells w v s.thread o d.goes under.2
  does_tell turn.Err under d = goes_tells w v s.thread o d.goes under.2

  -- where nothing happens
  same_tells : v ≡ w → Tells w v s.thread (v.calls s.thread)
  same_tells same = subst (λ (u : LocksState). Tells w u s.thread (u.calls s.thread)) (sym same) (record {
    tells = λ u l m timed waits none told. absurd (none told);
    keeps = λ k n e. e;
    gives = λ l m timed waits owns. inl owns;
  })

  pub step_tells : Turned w s.thread s.turn o v → IsUnderWay s o → Tells w v s.thread (v.calls s.thread)
  step_tells (inl d) under = does_tell s.turn under d.1
  step_tells (inr r) under = same_tells r.1.1
