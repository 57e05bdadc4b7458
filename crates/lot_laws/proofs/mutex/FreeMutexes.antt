-- A step by which a thread comes to own a free mutex takes nobody into a hand. A waiter that stays in a queue
-- comes closer to its front, or stays where it is.
use Rattle.lot_laws.proofs.Imports
use Imports.{ℕ, zero, suc, Bool, true, false, Option, Some, None, if◌then◌else◌, ◌==◌, ◌≡◌, ◌≢◌, ◌≤◌, ◌+◌, ◌⊎◌}
use Imports.{inl, inr, List, [], ◌∷◌, ◌++◌, refl, sym, ◌∙◌, ap, subst, arith, eqb-true, nat_tests, Want}
use Imports.{Exclusive, Upgradable, Shared, Turn, Outcome, ahead, moved_of, IsPartOf, KeepsOrderOf, LockState}
use Imports.{LockCase, Queued, Rules, Needs, Pend, Settle, Leave, Convert, Park, Aside, TakeFirst}
use Imports.{TakeAside, TakePicked, Wake, HandOff, Rollback, OfOnce, OfCondvar, SeeOwner, IsLockState}
use Imports.{after_case, left_after, putting, LocksState, AreLockStates, Event, Nothing, AtLock, Moves, Does}
use Imports.{GoesOn, MayHappen, Turned, joined_by, locks_after, rules_at, needs_of}
use Rattle.spec_locks.specs.declared.calls.Turn.TheVariants as turn
use Rattle.spec_locks.specs.Locks as locks
use Rattle.spec_locks.specs.Locks.{Mutex, Enter}
use Rattle.spec_locks.specs.Locks.{Late}
use Rattle.spec_locks.specs.Locks.{times}

-- ---------------------------------------------------------------- lines

part_times : (t : ℕ) (xs q : List Queued) → IsPartOf xs q → times t xs ≤ times t q
part_times t [] q h = omega arith
part_times t (x ∷ xs) [] h = absurd h
part_times t (x ∷ xs) (y ∷ q) (inl h) = let e : x ≡ y = h.0 in let less = part_times t xs q h.1 in grind arith
part_times t (x ∷ xs) (y ∷ q) (inr h) = let less = part_times t (x ∷ xs) q h in grind arith

part_ahead : (t : ℕ) (xs q : List Queued) → IsPartOf xs q → 1 ≤ times t xs → times t q ≤ 1
    → ahead t xs ≤ ahead t q
part_ahead t [] q h some once = absurd (let e : 1 ≤ 0 = some in omega arith)
part_ahead t (x ∷ xs) [] h some once = absurd h
part_ahead t (x ∷ xs) (y ∷ q) (inl h) some once = let e : x ≡ y = h.0 in
    grind (arith, nat_tests, part_ahead t xs q h.1)
part_ahead t (x ∷ xs) (y ∷ q) (inr h) some once = let less = part_times t (x ∷ xs) q h in
    grind (arith, nat_tests, part_ahead t (x ∷ xs) q h some)

joined_times : (t : ℕ) (q r : List Queued) → times t (q ++ r) ≡ times t q + times t r
joined_times t [] r = omega arith
joined_times t (x ∷ q) r = let more = joined_times t q r in omega arith

joined_ahead : (t : ℕ) (q r : List Queued) → 1 ≤ times t q → ahead t (q ++ r) ≡ ahead t q
joined_ahead t [] r h = absurd (let e : 1 ≤ 0 = h in omega arith)
joined_ahead t (x ∷ q) r h = grind (arith, nat_tests, joined_ahead t q r)

none_joined : (t : ℕ) (before joined : List Queued) → (1 ≤ times t joined → times t before ≡ 0)
    → 1 ≤ times t before → times t joined ≡ 0
none_joined t before joined anew some = by_number (times t joined) refl
  where
    by_number : (n : ℕ) → times t joined ≡ n → times t joined ≡ 0
    by_number zero e = e
    by_number (suc n) e = absurd (let none : times t before ≡ 0 = anew (omega arith) in omega arith)

pub comes_closer : (t : ℕ) (before now : List Queued) → KeepsOrderOf before now → 1 ≤ times t before
    → times t before ≤ 1 → 1 ≤ times t now
    → ahead t now ≤ ahead t before
comes_closer t before now order some once still =
    let none = none_joined t before order.joined (order.anew t) some in
    let sum = joined_times t order.left order.joined in
    let there : 1 ≤ times t (order.left ++ order.joined) = subst (λ q. 1 ≤ times t q) order.is still in
    let stays : 1 ≤ times t order.left = omega arith in
    let same = joined_ahead t order.left order.joined stays in
    let less = part_ahead t order.left before order.order stays once in
    let is : ahead t now ≡ ahead t (order.left ++ order.joined) = ap (ahead t) order.is in
    omega arith

-- ---------------------------------------------------------------- one lock

-- the mutex is free still, or the threads in hands stay
abbrev Gets : LockState → LockState → Type 0
Gets s v = (v.exclusive ≡ None) ⊎ (v.taken ≡ s.taken)

entered : (t : ℕ) (x : Want) (s : LockState) → (locks.with_owner t x s).taken ≡ s.taken
entered t Exclusive s = refl
entered t Upgradable s = refl
entered t Shared s = refl
entered t x s = refl

left_by : (t : ℕ) (x : Want) (s : LockState) → (locks.without_owner t x s).taken ≡ s.taken
left_by t Exclusive s = refl
left_by t Upgradable s = refl
left_by t Shared s = refl
left_by t x s = refl

module _ (r : Rules) (s : LockState) (t : ℕ) (state : IsLockState r s) (mutex : r.sort ≡ Mutex)
    (free : s.exclusive ≡ None) where
  unwritten : (s.pending ≡ None) × (s.upgradable ≡ None)
  unwritten = state.unpending (λ k. subst (λ x. locks.Knows x Upgradable) mutex k)

  no_pending : locks.IsSomePending s.pending t → ⊥
  no_pending h = subst (λ o. locks.IsSomePending o t) unwritten.0 h

  no_upgradable : s.upgradable ≢ Some t
  no_upgradable h = let e : ◌≡◌ {A = Option ℕ} None (Some t) = sym unwritten.1 ∙ h in cc

  no_owner : s.exclusive ≢ Some t
  no_owner h = let e : ◌≡◌ {A = Option ℕ} None (Some t) = sym free ∙ h in cc

  gets : (case : LockCase) → Needs r case s t → Gets s (after_case r case s t)
  gets (Enter x) needs = inr (entered t x s)
  gets Pend needs = inr refl
  gets Settle needs = inr refl
  gets (Leave x) needs = inr (left_by t x s)
  gets (Convert Exclusive x) needs = absurd (no_owner needs.0)
  gets (Convert Upgradable x) needs = absurd (no_upgradable needs.0)
  gets (Convert x y) needs = absurd needs.1
  gets (Park x) needs = inr refl
  gets Aside needs = inr refl
  gets (TakeFirst x) needs = inl free
  gets (TakeAside y) needs = inl free
  gets (TakePicked start) needs = inl free
  gets Wake needs = inl free
  gets (HandOff Exclusive y) needs = absurd (no_owner needs.0)
  gets (HandOff Upgradable y) needs = absurd (no_upgradable needs.0)
  gets (HandOff Shared y) needs = absurd (needs.1 refl)
  gets (HandOff x y) needs = absurd needs.0
  gets Late needs = inr refl
  gets Rollback needs = absurd (no_pending needs.0)
  gets (OfOnce case) needs = absurd (let e : Mutex ≡ locks.Once = sym mutex ∙ needs.0 in cc)
  gets (OfCondvar case) needs = absurd (let e : Mutex ≡ locks.Condvar = sym mutex ∙ needs.0 in cc)
  gets (SeeOwner b) needs = inr refl

-- ---------------------------------------------------------------- a step

module _ (w v : LocksState) (t l : ℕ) (o : Outcome) (all : AreLockStates w) (mutex :
    (rules_at w l).sort ≡ Mutex) (free : (w.locks l).exclusive ≡ None) where
  by_event : (e : Event) → MayHappen w t e → Gets (w.locks l) (locks_after w t e l)
  by_event Nothing may = inl free
  by_event (AtLock k case) may = either (l == k) refl
    where
      either : (b : Bool) → (l == k) ≡ b → Gets (w.locks l) (if b then after_case (rules_at w k) case
          (w.locks k) t else w.locks l)
      either false e = inl free
      either true e = let same : l ≡ k = eqb-true l k e in
          subst (λ j. Gets (w.locks j) (after_case (rules_at w k) case (w.locks k) t)) (sym same)
          (gets (rules_at w k) (w.locks k) t (all k) (subst (λ j. (rules_at w j).sort ≡ Mutex) same mutex)
          (subst (λ j. (w.locks j).exclusive ≡ None) same free) case (needs_of w t k case
          (w.calls t).purpose may))
  by_event (Moves c m every locked n) may = inl (at_mutex (l == m) refl)
    where
      at_condvar : (b : Bool) → (l == c) ≡ b → (if b then left_after every
          (w.locks c) else w.locks l).exclusive ≡ None
      at_condvar false e = free
      at_condvar true e = ap (λ j. (w.locks j).exclusive) (sym (eqb-true l c e)) ∙ free

      at_mutex : (b : Bool) → (l == m) ≡ b
          → (if b then joined_by locked t (moved_of every (w.locks c).queue)
          (w.locks m) else putting w.locks c (left_after every (w.locks c)) l).exclusive ≡ None
      at_mutex false e = at_condvar (l == c) refl
      at_mutex true e = ap (λ j. (w.locks j).exclusive) (sym (eqb-true l m e)) ∙ free

  goes : GoesOn w t o v → Gets (w.locks l) (v.locks l)
  goes g = subst (Gets (w.locks l)) (sym (g.locks l)) (by_event g.event g.may)

  same : v.locks l ≡ w.locks l → Gets (w.locks l) (v.locks l)
  same e = subst (Gets (w.locks l)) (sym e) (inl free)

  by_turn : (x : Turn) → Does w t x o v → Gets (w.locks l) (v.locks l)
  by_turn (turn.Begin c) d = same (d.locks l)
  by_turn turn.Go d = goes d
  by_turn turn.Spin d = goes d.goes
  by_turn turn.Late d = same (d.locks l)
  by_turn turn.Ok d = goes d.goes
  by_turn turn.Err d = goes d.goes

  pub gets_owner : (x : Turn) → Turned w t x o v → Gets (w.locks l) (v.locks l)
  gets_owner x (inl d) = by_turn x d.1
  gets_owner x (inr r) = same (ap (λ (k : LocksState). k.locks l) r.1.1)
