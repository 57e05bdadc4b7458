-- No wait wakes by itself: its call recalls that it was notified since another thread's move alone.
use Rattle.std.proofs.Common.{ℕ, Bool, true, false, Option, Some, None, if◌then◌else◌, ◌==◌, ◌≡◌, ◌≤◌, ◌+◌}
use Rattle.std.proofs.Common.{List, [], ◌∷◌, inl, inr, eqb-true, refl, sym, ◌∙◌, ap, subst, arith}
use Rattle.std.proofs.lemmas.Bool.{leb-true}
use Rattle.spec_locks.specs.declared.calls.Turn.{Turn}
use Rattle.spec_locks.specs.declared.calls.Turn.TheVariants as turn
use Rattle.spec_locks.specs.declared.outcomes.Outcome.{Outcome}
use Rattle.spec_locks.specs.declared.outcomes.Outcome.TheVariants as outcome
use Rattle.spec_locks.specs.Condvars.{moved_of}
use Rattle.spec_locks.specs.Locks as locks
use Rattle.spec_locks.specs.Locks.{CondvarCase, LockCase, Queued, times}
use Rattle.spec_locks.specs.Onces.{OnceCase}
use Rattle.spec_locks.specs.Onces as onces
use Rattle.spec_locks.specs.Purposes.{Blank, HasMoved, Notifies, CondvarMemory, Saw, SawOwner, Waits}
use Rattle.spec_locks.specs.Purposes.{WasMoved}
use Rattle.spec_locks.specs.Purposes.{WasNotified}
use Rattle.spec_locks.specs.Runs.{AtLock, CallState, Does, Event, GoesOn, IsNotified, LocksState, MayHappen}
use Rattle.spec_locks.specs.Runs.{Moves, Nothing, Stays, after_wake, calls_after, gives_up, going_on}
use Rattle.spec_locks.specs.Runs.{is_among, is_taken_by, unless_ended, woken}
use Rattle.spec_locks.specs.UserLaws.{OfEachStep}
use Rattle.spec_locks.specs.CondvarLaws.{IsNotifier, NobodyWakesByItself}

-- each thread that is woken was notified only where it was
after_wake_none : (r : CondvarMemory) → (IsNotified r → ⊥) → IsNotified (after_wake r) → ⊥
after_wake_none Blank none h = h
after_wake_none (Saw m) none h = h
after_wake_none (SawOwner m owned) none h = h
after_wake_none (HasMoved m number) none h = h
after_wake_none WasMoved none h = none tt
after_wake_none WasNotified none h = none tt

-- nor does a thread notify itself
gives_up_none : (l : ℕ) (r : CondvarMemory) (c : CallState) → c.recalls ≡ r → (IsNotified r → ⊥)
    → IsNotified (gives_up l r c).recalls → ⊥
gives_up_none l WasMoved c e none h = none tt
gives_up_none l Blank c e none h = subst (λ x. IsNotified x → ⊥) (sym e) none h
gives_up_none l (Saw m) c e none h = subst (λ x. IsNotified x → ⊥) (sym e) none h
gives_up_none l (SawOwner m owned) c e none h = subst (λ x. IsNotified x → ⊥) (sym e) none h
gives_up_none l (HasMoved m number) c e none h = subst (λ x. IsNotified x → ⊥) (sym e) none h
gives_up_none l WasNotified c e none h = none tt

abbrev pub Unnotified : CallState → Type 0
Unnotified c = IsNotified c.recalls → ⊥

pub own_none : (e : Event) (c : CallState) → Unnotified c → Unnotified (going_on e c)
own_none Nothing c none = none
own_none (Moves l m all owned number) c none = λ h. h
own_none (AtLock l case) c none = by_case case
  where
    by_once : (x : OnceCase) → Unnotified (going_on (AtLock l (locks.OfOnce x)) c)
    by_once (onces.Start forced) = none
    by_once (onces.Rest x forced) = none
    by_once onces.Fail = none
    by_once onces.Finish = none
    by_once onces.TakeAll = none

    by_condvar : (x : CondvarCase) → Unnotified (going_on (AtLock l (locks.OfCondvar x)) c)
    by_condvar (locks.Look (Some m)) = λ h. h
    by_condvar (locks.Look None) = none
    by_condvar (locks.Show m) = none
    by_condvar locks.Hide = none

    by_case : (x : LockCase) → Unnotified (going_on (AtLock l x) c)
    by_case locks.Late = gives_up_none l c.recalls c refl none
    by_case (locks.Enter x) = none
    by_case locks.Pend = none
    by_case locks.Settle = none
    by_case (locks.Park x) = none
    by_case locks.Aside = none
    by_case (locks.Leave x) = none
    by_case (locks.HandOff x successor) = none
    by_case (locks.OfOnce x) = by_once x
    by_case (locks.OfCondvar x) = by_condvar x
    by_case (locks.SeeOwner owned) = λ h. h
    by_case case = none

-- a thread that a move concerns stood in the queue
pub among_stood : (u : ℕ) (all : Bool) (q : List Queued) → is_among u (moved_of all q) ≡ true → 1 ≤ times u q
among_stood u true q h = leb-true 1 (times u q) h
among_stood u false [] h = leb-true 1 (times u []) h
among_stood u false (x ∷ q) h = let first : 1 ≤ times u (x ∷ []) = leb-true 1 (times u (x ∷ [])) h
    in either (x.thread == u) first
  where
    either : (b : Bool) → 1 ≤ (if b then 1 else 0) + 0 → 1 ≤ (if b then 1 else 0) + times u q
    either true g = omega arith
    either false g = omega arith

module _ (w : LocksState) (a t : ℕ) where
  -- a wake or a hand-over makes of no call that it was notified
  woken_none : (b : Bool) (c : CallState) (retries : Option ℕ) → Unnotified c
      → Unnotified (if b then record c {
        retries = retries;
        recalls = after_wake c.recalls;
      } else c)
  woken_none true c retries none = after_wake_none c.recalls none
  woken_none false c retries none = none

  -- only a move does
  pub told_by : (e : Event) (c : CallState) → Unnotified c → IsNotified (woken w a e t c).recalls
      → (l : ℕ) × (m : ℕ) × (all : Bool) × (owned : Bool) × (number : ℕ) × (e ≡ Moves l m all owned number)
      × (is_among t (moved_of all (w.locks l).queue) ≡ true)
  told_by Nothing c none h = absurd (none h)
  told_by (AtLock l case) c none h = absurd (by_case case h)
    where
      by_case : (x : LockCase) → IsNotified (woken w a (AtLock l x) t c).recalls → ⊥
      by_case locks.Wake g = woken_none (is_taken_by a ((w.locks l).taken t)) c (Some l) none g
      by_case (locks.HandOff x successor) g = woken_none (is_taken_by a ((w.locks l).taken t)) c None none g
      by_case x g = none g
  told_by (Moves l m all owned number) c none h = either (is_among t (moved_of all (w.locks l).queue)) refl h
    where
      either : (b : Bool) → is_among t (moved_of all (w.locks l).queue) ≡ b
          → IsNotified (if b then record c { recalls = WasMoved } else c).recalls
          → (k : ℕ) × (n : ℕ) × (every : Bool) × (free : Bool) × (count : ℕ)
          × (Moves l m all owned number ≡ Moves k n every free count)
          × (is_among t (moved_of every (w.locks k).queue) ≡ true)
      either true e g = (l, m, all, owned, number, refl, e)
      either false e g = absurd (none g)

module _ (w v : LocksState) (a : ℕ) where
  abbrev Told : Type 0
  Told = NobodyWakesByItself w v

  -- the event of a step is a move of this waiter
  module _ (t l m : ℕ) (timed : Bool) (waits : (w.calls t).purpose ≡ Some (Waits l m timed)) where
    by_move : (k n : ℕ) (all owned : Bool) (number : ℕ) → MayHappen w a (Moves k n all owned number)
        → is_among t (moved_of all (w.locks k).queue) ≡ true
        → (1 ≤ times t (w.locks l).queue) × ((u : ℕ) × IsNotifier w t l u)
    by_move k n all owned number may among =
        let names : Some (Waits k n (may.wait t among).0.0) ≡ Some (Waits l m timed) =
        sym (may.wait t among).0.1 ∙ waits in
        let same : k ≡ l = cc in (
          subst (λ j. 1 ≤ times t (w.locks j).queue) same (among_stood t all (w.locks k).queue among),
          (
            a,
            record {
              another = λ e. let both : Some (Notifies k all) ≡ Some (Waits l m timed) = sym may.notifies
                  ∙ ap (λ j. (w.calls j).purpose) e ∙ waits in cc;
              all = all;
              notifies = may.notifies ∙ ap (λ j. Some (Notifies j all)) same;
            },
          ),
        )

    told_so : (e : Event) → MayHappen w a e → (c : CallState) → Unnotified c
        → IsNotified (woken w a e t c).recalls → (1 ≤ times t (w.locks l).queue)
        × ((u : ℕ) × IsNotifier w t l u)
    told_so e may c none h = let by = told_by w a t e c none h in by_move by.0 by.1 by.2 by.3 by.4
        (subst (MayHappen w a) by.5 may) by.6

    -- whether it is the thread of the step or not
    after_event : (e : Event) (o : Outcome) → MayHappen w a e → Unnotified (w.calls t)
        → IsNotified (calls_after w a e o t).recalls → (1 ≤ times t (w.locks l).queue)
        × ((u : ℕ) × IsNotifier w t l u)
    after_event e o may none h = either (t == a) refl h
      where
        unended : (o : Outcome) (c : CallState) → IsNotified (unless_ended o c).recalls → IsNotified c.recalls
        unended (outcome.End answer) c g = absurd g
        unended o c g = g

        either : (b : Bool) → (t == a) ≡ b
            → IsNotified (if b then unless_ended o (woken w a e a (going_on e (w.calls a))) else woken w a e t
            (w.calls t)).recalls → (1 ≤ times t (w.locks l).queue) × ((u : ℕ) × IsNotifier w t l u)
        either false f g = told_so e may (w.calls t) none g
        either true f g = let same : t ≡ a = eqb-true t a f in
            told_so e may (going_on e (w.calls t)) (own_none e (w.calls t) none)
            (subst (λ j. IsNotified (woken w a e j (going_on e (w.calls j))).recalls) (sym same)
            (unended o (woken w a e a (going_on e (w.calls a))) g))

  goes : (o : Outcome) → GoesOn w a o v → Told
  goes o g t l m timed waits none h = after_event t l m timed waits g.event o g.may none
      (subst (λ (c : CallState). IsNotified c.recalls) (g.calls t) h)

  -- a call that begins was not notified, nor one whose time is up
  stays : (c : CallState) (o : Outcome) → Stays w a c o v → (Unnotified (w.calls a) → Unnotified c) → Told
  stays c o s kept t l m timed waits none h =
      absurd (either (t == a) refl (subst (λ (x : CallState). IsNotified x.recalls) (s.calls t) h))
    where
      either : (b : Bool) → (t == a) ≡ b → IsNotified (if b then c else w.calls t).recalls → ⊥
      either false f g = none g
      either true f g = kept (subst (λ j. Unnotified (w.calls j)) (eqb-true t a f) none) g

  does : (x : Turn) (o : Outcome) → Does w a x o v → Told
  does (turn.Begin c) o d = stays _ o d (λ none h. h)
  does turn.Go o d = goes o d
  does turn.Spin o d = goes o d.goes
  does turn.Late o d = stays _ o d (λ none. none)
  does turn.Ok o d = goes o d.goes
  does turn.Err o d = goes o d.goes

pub nobody_wakes : OfEachStep NobodyWakesByItself
nobody_wakes w v s o all step = elim step.1 [
  | inl now ↦ does w v s.thread s.turn o now.1
  | inr refused ↦ λ t l m timed waits none h. absurd
      (none (subst (λ (x : LocksState). IsNotified (x.calls t).recalls) refused.1.1 h))
]
