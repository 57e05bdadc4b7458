-- A thread that comes into a hand of a mutex or a semaphore was the first of the queue, or of those to
-- notify.
use Rattle.std.proofs.Common.{ℕ, Bool, true, false, Option, Some, None, if◌then◌else◌, ◌==◌, ◌≡◌, ◌≢◌, ◌⊎◌}
use Rattle.std.proofs.Common.{inl, inr, List, [], ◌∷◌, refl, sym, ◌∙◌, ap, subst, arith}
use Rattle.std.proofs.lemmas.Bool.{cases_eq, eqb-true}
use Rattle.std.proofs.lemmas.Bool.Decides.{nat_tests}
use Rattle.core_base.specs.declared.wants.Want.{Want}
use Rattle.core_base.specs.declared.wants.Want.TheVariants.{Exclusive, Upgradable, Shared}
use Rattle.spec_locks.specs.declared.calls.Turn.{Turn}
use Rattle.spec_locks.specs.declared.calls.Turn.TheVariants as turn
use Rattle.spec_locks.specs.declared.outcomes.Outcome.{Outcome}
use Rattle.spec_locks.specs.Condvars.{moved_of, taken_of}
use Rattle.spec_locks.specs.Locks as locks
use Rattle.spec_locks.specs.Locks.{LockState, LockCase, Pending, Queued, Rules, Sort, Mutex, Normal}
use Rattle.spec_locks.specs.Locks.{Recursive, Semaphore, Once, Condvar, Taken, Needs, Enter, Pend, Settle}
use Rattle.spec_locks.specs.Locks.{Leave, Convert, Park, Aside, TakeFirst, TakeAside, TakePicked, Wake}
use Rattle.spec_locks.specs.Locks.{HandOff, Late, Rollback, OfOnce, OfCondvar, SeeOwner}
use Rattle.spec_locks.specs.Locks.{IsLockState, Knows, TakesOneAtATime, after_case, converted, falling_back}
use Rattle.spec_locks.specs.Locks.{first_thread, handed, keep_from, left_after, let_go, pending_for, putting}
use Rattle.spec_locks.specs.Locks.{succeeding, taking, with_owner, without_owner}
use Rattle.spec_locks.specs.Purposes.{Waits}
use Rattle.spec_locks.specs.Runs.{LocksState, AreLockStates, Event, Nothing, AtLock, Moves, Does, GoesOn}
use Rattle.spec_locks.specs.Runs.{MayHappen, Turned, is_among, joined_by, locks_after, rules_at}
use Rattle.spec_locks.proofs.Runs.{needs_of}

-- ---------------------------------------------------------------- hands that stay

given : (t : ℕ) (x : Want) (s : LockState) → (with_owner t x s).taken ≡ s.taken
given t Exclusive s = refl
given t Upgradable s = refl
given t Shared s = refl
given t x s = refl

given_up : (t : ℕ) (x : Want) (s : LockState) → (without_owner t x s).taken ≡ s.taken
given_up t Exclusive s = refl
given_up t Upgradable s = refl
given_up t Shared s = refl
given_up t x s = refl

written : (t : ℕ) (b c : Bool) (s : LockState)
    → (if b then with_owner t Exclusive s else pending_for t c s).taken ≡ s.taken
written t true c s = refl
written t false c s = refl

turned : (t : ℕ) (x : Want) (s : LockState) → (converted t x s).taken ≡ s.taken
turned t Exclusive s = written t _ true s
turned t Upgradable s = refl
turned t Shared s = refl
turned t x s = refl

fallen : (t : ℕ) (p : Option Pending) (s : LockState) → (falling_back t p s).taken ≡ s.taken
fallen t None s = refl
fallen t (Some p) s = by_fallback p.falls_back
  where
    by_fallback : (b : Bool) → (if b then with_owner t Upgradable s else s).taken ≡ s.taken
    by_fallback true = refl
    by_fallback false = refl

succeeded : (x : Want) (u : ℕ) (s : LockState) → (succeeding x u s).taken ≡ s.taken
succeeded Exclusive u s = written u _ false s
succeeded Upgradable u s = refl
succeeded Shared u s = refl
succeeded x u s = refl

handed_on : (t : ℕ) (x : Want) (y : Option Queued) (s : LockState) → (handed t x y s).taken ≡ let_go t s.taken
handed_on t x None s = ap (let_go t) (given_up t x s)
handed_on t x (Some y) s =
    succeeded y.want y.thread (locks.sharing_handed t (without_owner t x s)) ∙ ap (let_go t) (given_up t x s)

kept_some : (t : ℕ) (o : Option Taken) → keep_from t o ≢ None → o ≢ None
kept_some t None h = absurd (h refl)
kept_some t (Some x) h = λ e. cc

not_picked : (x : Sort) → TakesOneAtATime x → Knows x Upgradable → ⊥
not_picked Mutex one knows = knows
not_picked Semaphore one knows = knows
not_picked Normal one knows = one
not_picked Recursive one knows = one
not_picked Once one knows = one
not_picked Condvar one knows = one

-- ---------------------------------------------------------------- one lock

module _ (r : Rules) (s : LockState) (t u : ℕ) (state : IsLockState r s) (one : TakesOneAtATime r.sort) where
  abbrev Was : Type 0
  Was = (s.taken u ≢ None) ⊎ (first_thread s.queue ≡ Some u)

  same : (v : LockState) → v.taken ≡ s.taken → v.taken u ≢ None → Was
  same v e some = inl (λ f. some (ap (λ (g : ℕ → Option Taken). g u) e ∙ f))

  taken_first : (x : Queued) → Needs r (TakeFirst x) s t → (after_case r (TakeFirst x) s t).taken u ≢ None
      → Was
  taken_first x needs some = elim (cases_eq u x.thread) [
    | inl e ↦ inr (ap first_thread needs.0.1 ∙ ap Some (sym e))
    | inr ne ↦ inl (λ f. some (grind (arith, nat_tests)))
  ]

  comes : (case : LockCase) → Needs r case s t → (after_case r case s t).taken u ≢ None → Was
  comes (TakeFirst x) needs some = taken_first x needs some
  comes (TakeAside y) needs some =
      absurd (subst (λ o. locks.IsSomePending o y) (state.unpending (not_picked r.sort one)).0
      (state.aside_pending y needs.0))
  comes (TakePicked start) needs some = absurd (not_picked r.sort one needs.1)
  comes Wake needs some = inl (kept_some t (s.taken u) some)
  comes (HandOff x y) needs some =
      inl (kept_some t (s.taken u) (λ f. some (ap (λ (g : ℕ → Option Taken). g u) (handed_on t x y s) ∙ f)))
  comes (OfOnce case) needs some = absurd (subst TakesOneAtATime needs.0 one)
  comes (OfCondvar case) needs some = absurd (subst TakesOneAtATime needs.0 one)
  comes (Enter x) needs some = same (with_owner t x s) (given t x s) some
  comes Pend needs some = inl some
  comes Settle needs some = inl some
  comes (Leave x) needs some = same (without_owner t x s) (given_up t x s) some
  comes (Convert x y) needs some =
      same (converted t y (without_owner t x s)) (turned t y (without_owner t x s) ∙ given_up t x s) some
  comes (Park x) needs some = inl some
  comes Aside needs some = inl some
  comes Late needs some = inl some
  comes Rollback needs some =
      same (falling_back t s.pending (record s { pending = None }))
      (fallen t s.pending (record s { pending = None })) some
  comes (SeeOwner b) needs some = inl some

-- ---------------------------------------------------------------- a step

module _ (w v : LocksState) (t : ℕ) (o : Outcome) (all : AreLockStates w) (u : ℕ) where
  -- the thread was in a hand, or the first in the queue of the lock or of a condition variable
  abbrev First : ℕ → Type 0
  First l = ((w.locks l).taken u ≢ None) ⊎ ((first_thread (w.locks l).queue ≡ Some u)
      ⊎ ((c : ℕ) × (timed : Bool) × ((w.calls u).purpose ≡ Some (Waits c l timed)) ×
      (first_thread (w.locks c).queue ≡ Some u)))

  brought : (c m n : ℕ) (every owned : Bool) → MayHappen w t (Moves c m every owned n) → (q : List Queued)
      → (w.locks c).queue ≡ q
      → taking t (taken_of owned (moved_of every q)) (w.locks m).taken u ≢ None → First m
  brought c m n every true may q e some = inl some
  brought c m n true false may [] e some = inl some
  brought c m n false false may [] e some = inl some
  brought c m n every false may (x ∷ q) e some = elim (cases_eq u x.thread) [
    | inl same ↦ inr (inr (c, (waits same).0, (waits same).1, ap first_thread e ∙ ap Some (sym same)))
    | inr ne ↦ inl (λ f. by_all every some (grind (arith, nat_tests)))
  ]
    where
      waits : u ≡ x.thread → (timed : Bool) × ((w.calls u).purpose ≡ Some (Waits c m timed))
      waits same = (may.wait u (subst (λ k. is_among u (moved_of every k) ≡ true) (sym e) (among every))).0
        where
          among : (b : Bool) → is_among u (moved_of b (x ∷ q)) ≡ true
          among true = grind (arith, nat_tests, same)
          among false = grind (arith, nat_tests, same)

      by_all : (b : Bool) → taking t (taken_of false (moved_of b (x ∷ q))) (w.locks m).taken u ≢ None
          → putting (w.locks m).taken x.thread (Some (record { by = t; want = Exclusive })) u ≡ None → ⊥
      by_all true some none = some none
      by_all false some none = some none

  by_event : (e : Event) → MayHappen w t e → (l : ℕ) → TakesOneAtATime (rules_at w l).sort
      → (locks_after w t e l).taken u ≢ None → First l
  by_event Nothing may l one some = inl some
  by_event (Moves c m every owned n) may l one some = at_mutex (l == m) refl some
    where
      at_condvar : (b : Bool) → (l == c) ≡ b
          → (if b then left_after every (w.locks c) else w.locks l).taken u ≢ None → First l
      at_condvar false e some = inl some
      at_condvar true e some = inl (subst (λ k. (w.locks k).taken u ≢ None) (sym (eqb-true l c e)) some)

      at_mutex : (b : Bool) → (l == m) ≡ b
          → (if b then joined_by owned t (moved_of every (w.locks c).queue) (w.locks m) else putting w.locks
          c (left_after every (w.locks c)) l).taken u ≢ None → First l
      at_mutex false e some = at_condvar (l == c) refl some
      at_mutex true e some =
          subst First (sym (eqb-true l m e)) (brought c m n every owned may (w.locks c).queue refl some)
  by_event (AtLock k case) may l one some = either (l == k) refl some
    where
      either : (b : Bool) → (l == k) ≡ b
          → (if b then after_case (rules_at w k) case (w.locks k) t else w.locks l).taken u ≢ None → First l
      either false e some = inl some
      either true e some = subst First (sym (eqb-true l k e))
          (elim (comes (rules_at w k) (w.locks k) t u (all k)
          (subst (λ j. TakesOneAtATime (rules_at w j).sort) (eqb-true l k e) one) case
          (needs_of w t k case (w.calls t).purpose may) some) [
            | inl was ↦ inl was
            | inr first ↦ inr (inl first)
          ])

  goes : GoesOn w t o v → (l : ℕ) → TakesOneAtATime (rules_at w l).sort → (v.locks l).taken u ≢ None → First l
  goes g l one some =
      by_event g.event g.may l one (subst (λ (s : LockState). s.taken u ≢ None) (g.locks l) some)

  does : (x : Turn) → Does w t x o v → (l : ℕ) → TakesOneAtATime (rules_at w l).sort
      → (v.locks l).taken u ≢ None → First l
  does (turn.Begin c) d l one some =
      inl (subst (λ (s : LockState). s.taken u ≢ None) (d.locks l) some)
  does turn.Late d l one some = inl (subst (λ (s : LockState). s.taken u ≢ None) (d.locks l) some)
  does turn.Go d l one some = goes d l one some
  does turn.Spin d l one some = goes d.goes l one some
  does turn.Ok d l one some = goes d.goes l one some
  does turn.Err d l one some = goes d.goes l one some

  pub first_taken : (x : Turn) → Turned w t x o v → (l : ℕ) → TakesOneAtATime (rules_at w l).sort
      → (v.locks l).taken u ≢ None → First l
  first_taken x (inl d) l one some = does x d.1 l one some
  first_taken x (inr r) l one some = inl (subst (λ (k : LocksState). (k.locks l).taken u ≢ None) r.1.1 some)
