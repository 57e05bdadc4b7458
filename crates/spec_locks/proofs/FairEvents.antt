-- The effect of an event on a fair mutex while somebody waits: it stays owned, unless a fair release lets it
-- go, and nobody comes into a hand but from its queue.
use Rattle.std.proofs.Common.{ℕ, Bool, true, false, Option, Some, None, if◌then◌else◌, ◌==◌, ◌≡◌, ◌≢◌, ◌≤◌}
use Rattle.std.proofs.Common.{◌⊎◌, inl, inr, List, [], ◌∷◌, length, refl, sym, ◌∙◌, ap, subst, arith}
use Rattle.std.proofs.lemmas.Bool.{cases_eq, eqb-true}
use Rattle.std.proofs.lemmas.Bool.Decides.{nat_tests}
use Rattle.std.specs.Prelude.{drop}
use Rattle.core_base.specs.declared.wants.Want.{Want}
use Rattle.core_base.specs.declared.wants.Want.TheVariants.{Exclusive, Upgradable, Shared}
use Rattle.spec_locks.specs.declared.calls.Turn.{Turn}
use Rattle.spec_locks.specs.declared.calls.Turn.TheVariants as turn
use Rattle.spec_locks.specs.declared.outcomes.Outcome.{Outcome}
use Rattle.spec_locks.specs.Condvars.{moved_of}
use Rattle.spec_locks.specs.Locks as locks
use Rattle.spec_locks.specs.Locks.{LockState, LockCase, Mutex, Queued, Rules, Taken, Needs, Enter, Pend}
use Rattle.spec_locks.specs.Locks.{Settle, Leave, Convert, Park, Aside, TakeFirst, TakeAside, TakePicked}
use Rattle.spec_locks.specs.Locks.{Wake, HandOff, Late, Rollback, OfOnce, OfCondvar, SeeOwner, IsLockState}
use Rattle.spec_locks.specs.Locks.{after_case, keep_from, left_after, let_go, putting, times}
use Rattle.spec_locks.specs.Purposes.{Purpose, Enters, Releases, Converts, Bumps, CallsOnce, Awaits, Waits}
use Rattle.spec_locks.specs.Purposes.{Notifies, CondvarMemory, IsMadeOf}
use Rattle.spec_locks.specs.Runs.{LocksState, AreLockStates, Event, Nothing, AtLock, Moves, Does, GoesOn}
use Rattle.spec_locks.specs.Runs.{MayDo, MayHappen, Turned, is_among, joined_by, locks_after, rules_at}
use Rattle.spec_locks.specs.Bypass.{AllReleaseFairly, IsFairRelease, LetsGoWhileSomeWait, ReleasesFairly}
use Rattle.spec_locks.proofs.Runs.{needs_of}

-- ---------------------------------------------------------------- a case that gives the right up

fair_release : (k l : ℕ) (x : Want) (fair : Bool) → l ≡ k → Exclusive ≡ x → (k ≡ l → fair ≡ true)
    → IsFairRelease (Some (Releases k x fair)) l
fair_release k l x fair e wants fairly = subst (λ y. IsFairRelease (Some (Releases k y fair)) l) wants (
  sym e,
  fairly (sym e),
)

fair_bump : (k l : ℕ) (x : Want) → l ≡ k → Exclusive ≡ x → IsFairRelease (Some (Bumps k x)) l
fair_bump k l x e wants = subst (λ y. IsFairRelease (Some (Bumps k y)) l) wants (sym e)

-- a call that lets the mutex go
leave_call : (q : Purpose) (gave_up : Option ℕ) (released : Bool) (r : CondvarMemory) (l : ℕ)
    → IsMadeOf q gave_up released r l (Leave Exclusive)
    → ReleasesFairly (Some q) l → IsFairRelease (Some q) l
leave_call (Releases k x fair) g b r l made fairly = fair_release k l x fair made.0 made.1 fairly
leave_call (Bumps k x) g b r l (e, inl gives) fairly = fair_bump k l x e gives.0
leave_call (Bumps k x) g b r l (e, inr enters) fairly = absurd enters.1
leave_call (Enters k x how) g b r l made fairly = absurd made.1
leave_call (Converts k x z how) g b r l made fairly = absurd made.1
leave_call (CallsOnce k forced) g b r l made fairly = absurd made.1
leave_call (Awaits k forced timed) g b r l made fairly = absurd made.1
leave_call (Waits k m timed) g b r l (inl made) fairly = absurd made.1
leave_call (Waits k m timed) g b r l (inr made) fairly = absurd (fairly (sym made.0))
leave_call (Notifies k all) g b r l (inl made) fairly = absurd made.1
leave_call (Notifies k all) g b r l (inr made) fairly = absurd made

-- The event hands it over.
hand_call : (q : Purpose) (gave_up : Option ℕ) (released : Bool) (r : CondvarMemory) (l : ℕ)
    (y : Option Queued)
    → IsMadeOf q gave_up released r l (HandOff Exclusive y)
    → ReleasesFairly (Some q) l → IsFairRelease (Some q) l
hand_call (Releases k x fair) g b r l y made fairly = fair_release k l x fair made.0 made.1.1 fairly
hand_call (Bumps k x) g b r l y (e, inl gives) fairly = fair_bump k l x e gives.0.1
hand_call (Bumps k x) g b r l y (e, inr enters) fairly = absurd enters.1
hand_call (Enters k x how) g b r l y made fairly = absurd made.1
hand_call (Converts k x z how) g b r l y made fairly = absurd made.1
hand_call (CallsOnce k forced) g b r l y made fairly = absurd made.1
hand_call (Awaits k forced timed) g b r l y made fairly = absurd made.1
hand_call (Waits k m timed) g b r l y (inl made) fairly = absurd made.1
hand_call (Waits k m timed) g b r l y (inr made) fairly = absurd (fairly (sym made.0))
hand_call (Notifies k all) g b r l y (inl made) fairly = absurd made.1
hand_call (Notifies k all) g b r l y (inr made) fairly = absurd made

-- ---------------------------------------------------------------- one lock

abbrev Gone : LockState → LockState → ℕ → Type 0
Gone s v t = (v.exclusive ≡ None) × (s.exclusive ≡ Some t)

-- a thread that is in a hand was in one, or stood in the queue
abbrev FromQueue : LockState → LockState → Type 0
FromQueue s v = (u : ℕ) → v.taken u ≢ None → (s.taken u ≢ None) ⊎ (1 ≤ times u s.queue)

kept_some : (t : ℕ) (o : Option Taken) → keep_from t o ≢ None → o ≢ None
kept_some t None h = absurd (h refl)
kept_some t (Some x) h = λ e. cc

stood : (u : ℕ) (q : List Queued) → 1 ≤ times u q → q ≢ []
stood u [] h = absurd (let e : 1 ≤ 0 = h in omega arith)
stood u (x ∷ q) h = λ e. cc

dropped : (u : ℕ) (q : List Queued) → 1 ≤ times u (drop 1 q) → q ≢ []
dropped u [] h = absurd (let e : 1 ≤ 0 = h in omega arith)
dropped u (x ∷ q) h = λ e. cc

left_some : (u t : ℕ) (q : List Queued) → 1 ≤ times u (locks.without t q) → q ≢ []
left_some u t [] h = absurd (let e : 1 ≤ 0 = h in omega arith)
left_some u t (x ∷ q) h = λ e. cc

module _ (r : Rules) (s : LockState) (t : ℕ) (state : IsLockState r s) (mutex : r.sort ≡ Mutex) where
  unwritten : (s.pending ≡ None) × (s.upgradable ≡ None)
  unwritten = state.unpending (λ k. subst (λ x. locks.Knows x Upgradable) mutex k)

  no_pending : locks.IsSomePending s.pending t → ⊥
  no_pending h = subst (λ o. locks.IsSomePending o t) unwritten.0 h

  no_upgradable : s.upgradable ≢ Some t
  no_upgradable h = let e : ◌≡◌ {A = Option ℕ} None (Some t) = sym unwritten.1 ∙ h in cc

  unshared : locks.readers s ≡ 0
  unshared = state.unshared (λ k. subst (λ x. locks.Knows x Shared) mutex k)

  -- the case that gives the right up, or the owner is there in the end
  abbrev Stays : LockCase → LockState → Type 0
  Stays case v = (v.exclusive ≢ None) ⊎ ((case ≡ Leave Exclusive)
      ⊎ ((y : Option Queued) × (case ≡ HandOff Exclusive y)))

  same : (case : LockCase) (v : LockState) → v.exclusive ≡ s.exclusive → s.exclusive ≢ None → Stays case v
  same case v e some = inl (λ f. some (sym e ∙ f))

  -- where somebody stands in the queue after the case
  owned : (case : LockCase) (u : ℕ) → Needs r case s t → 1 ≤ times u (after_case r case s t).queue
      → (s.queue ≢ [] → s.exclusive ≢ None)
      → Stays case (after_case r case s t)
  owned (Enter Exclusive) u needs stands had = inl (λ e. cc)
  owned (Enter Upgradable) u needs stands had = absurd (subst (λ y. locks.Knows y Upgradable) mutex needs.0.0)
  owned (Enter Shared) u needs stands had = absurd (subst (λ y. locks.Knows y Shared) mutex needs.0.0)
  owned (Enter x) u needs stands had = absurd needs.1
  owned Pend u needs stands had = absurd (subst (λ y. locks.Knows y Shared) mutex needs.1)
  owned Settle u needs stands had = absurd (no_pending needs.0)
  owned (Leave Exclusive) u needs stands had = inr (inl refl)
  owned (Leave Upgradable) u needs stands had = absurd (no_upgradable needs)
  owned (Leave Shared) u needs stands had = same (Leave Shared) (after_case r (Leave Shared) s t) refl
      (had (stood u s.queue stands))
  owned (Leave x) u needs stands had = absurd needs
  owned (Convert Exclusive Shared) u needs stands had =
      absurd (subst (λ y. locks.Knows y Shared) mutex needs.2)
  owned (Convert Exclusive Upgradable) u needs stands had =
      absurd (subst (λ y. locks.Knows y Upgradable) mutex needs.2)
  owned (Convert Upgradable x) u needs stands had = absurd (no_upgradable needs.0)
  owned (Convert x y) u needs stands had = absurd needs.1
  owned (Park x) u needs stands had = same (Park x) (after_case r (Park x) s t) refl
      (λ e. needs.0.1 (subst (λ y. locks.IsFreeAt y r.limit s x) (sym mutex) e))
  owned Aside u needs stands had = absurd (no_pending needs.0)
  owned (TakeFirst x) u needs stands had = same (TakeFirst x) (after_case r (TakeFirst x) s t) refl
      (had (dropped u s.queue stands))
  owned (TakeAside y) u needs stands had =
      absurd (subst (λ o. locks.IsSomePending o y) unwritten.0 (state.aside_pending y needs.0))
  owned (TakePicked start) u needs stands had = absurd (subst (λ y. locks.Knows y Upgradable) mutex needs.1)
  owned Wake u needs stands had = same Wake (after_case r Wake s t) refl (had (stood u s.queue stands))
  owned (HandOff Exclusive y) u needs stands had = inr (inr (y, refl))
  owned (HandOff Upgradable y) u needs stands had = absurd (no_upgradable needs.0)
  owned (HandOff Shared y) u needs stands had = absurd (needs.1 refl)
  owned (HandOff x y) u needs stands had = absurd needs.0
  owned Late u needs stands had = same Late (after_case r Late s t) refl (had (left_some u t s.queue stands))
  owned Rollback u needs stands had = absurd (no_pending needs.0)
  owned (OfOnce case) u needs stands had = absurd (let e : Mutex ≡ locks.Once = sym mutex ∙ needs.0 in cc)
  owned (OfCondvar case) u needs stands had = absurd (let e : Mutex ≡ locks.Condvar = sym mutex ∙ needs.0
      in cc)
  owned (SeeOwner b) u needs stands had = same (SeeOwner b) s refl (had (stood u s.queue stands))

  held : (v : LockState) → v.taken ≡ s.taken → FromQueue s v
  held v e u some = inl (λ f. some (ap (λ (g : ℕ → Option Taken). g u) e ∙ f))

  handed_on : (y : Option Queued)
      → (locks.with_successor y (locks.sharing_handed t (locks.without_owner t Exclusive s))).taken
      ≡ let_go t s.taken
  handed_on None = refl
  handed_on (Some y) = by_want y.want
    where
      left : LockState
      left = locks.sharing_handed t (locks.without_owner t Exclusive s)

      by_readers : (b : Bool) → (if b then locks.with_owner y.thread Exclusive left else locks.pending_for
          y.thread false left).taken ≡ let_go t s.taken
      by_readers true = refl
      by_readers false = refl

      by_want : (x : Want) → (locks.succeeding x y.thread left).taken ≡ let_go t s.taken
      by_want Exclusive = by_readers (locks.readers left == 0)
      by_want Upgradable = refl
      by_want Shared = refl
      by_want x = refl

  first_taken : (x : Queued) → Needs r (TakeFirst x) s t → FromQueue s (after_case r (TakeFirst x) s t)
  first_taken x needs u some = elim (cases_eq u x.thread) [
    | inl e ↦ inr (let q : s.queue ≡ x ∷ needs.0.0 = needs.0.1 in subst (λ z. 1 ≤ times u z) (sym q)
        (grind (arith, nat_tests)))
    | inr ne ↦ inl (λ f. some (grind (arith, nat_tests)))
  ]

  from_queue : (case : LockCase) → Needs r case s t → FromQueue s (after_case r case s t)
  from_queue (TakeFirst x) needs = first_taken x needs
  from_queue (TakeAside y) needs =
      absurd (subst (λ o. locks.IsSomePending o y) unwritten.0 (state.aside_pending y needs.0))
  from_queue (TakePicked start) needs = absurd (subst (λ y. locks.Knows y Upgradable) mutex needs.1)
  from_queue Wake needs = λ u some. inl (kept_some t (s.taken u) some)
  from_queue (HandOff Exclusive y) needs = λ u some. inl
      (kept_some t (s.taken u) (λ f. some (ap (λ (g : ℕ → Option Taken). g u) (handed_on y) ∙ f)))
  from_queue (HandOff Upgradable y) needs = absurd (no_upgradable needs.0)
  from_queue (HandOff Shared y) needs = absurd (needs.1 refl)
  from_queue (HandOff x y) needs = absurd needs.0
  from_queue (Enter Exclusive) needs = held (after_case r (Enter Exclusive) s t) refl
  from_queue (Enter Upgradable) needs = held (after_case r (Enter Upgradable) s t) refl
  from_queue (Enter Shared) needs = held (after_case r (Enter Shared) s t) refl
  from_queue (Enter x) needs = absurd needs.1
  from_queue Pend needs = held (after_case r Pend s t) refl
  from_queue Settle needs = held (after_case r Settle s t) refl
  from_queue (Leave Exclusive) needs = held (after_case r (Leave Exclusive) s t) refl
  from_queue (Leave Upgradable) needs = held (after_case r (Leave Upgradable) s t) refl
  from_queue (Leave Shared) needs = held (after_case r (Leave Shared) s t) refl
  from_queue (Leave x) needs = absurd needs
  from_queue (Convert Exclusive Shared) needs = absurd (subst (λ y. locks.Knows y Shared) mutex needs.2)
  from_queue (Convert Exclusive Upgradable) needs =
      absurd (subst (λ y. locks.Knows y Upgradable) mutex needs.2)
  from_queue (Convert Upgradable x) needs = absurd (no_upgradable needs.0)
  from_queue (Convert x y) needs = absurd needs.1
  from_queue (Park x) needs = held (after_case r (Park x) s t) refl
  from_queue Aside needs = held (after_case r Aside s t) refl
  from_queue Late needs = held (after_case r Late s t) refl
  from_queue Rollback needs = absurd (no_pending needs.0)
  from_queue (OfOnce case) needs = absurd (let e : Mutex ≡ locks.Once = sym mutex ∙ needs.0 in cc)
  from_queue (OfCondvar case) needs = absurd (let e : Mutex ≡ locks.Condvar = sym mutex ∙ needs.0 in cc)
  from_queue (SeeOwner b) needs = held s refl

-- ---------------------------------------------------------------- an event

-- tells what a step leads such a lock to
pub record FairlyGoes (w v : LocksState) (t l : ℕ) : Type 0 where
  pub owned : (u : ℕ) → 1 ≤ times u (v.locks l).queue → ((w.locks l).queue ≢ [] → (w.locks l).exclusive
      ≢ None)
      → ((v.locks l).exclusive ≢ None) ⊎ LetsGoWhileSomeWait w v t l
  pub hands : FromQueue (w.locks l) (v.locks l)

moved_some : (q : List Queued) (n : ℕ) → n ≢ 0 → n ≡ length q → (x : Queued) × (is_among x.thread q ≡ true)
moved_some [] n some e = absurd (some e)
moved_some (x ∷ q) n some e = (x, grind (arith, nat_tests))

module _ (w : LocksState) (t l : ℕ) (all : AreLockStates w) (mutex : (rules_at w l).sort ≡ Mutex)
    (fairly : AllReleaseFairly w l) where
  made : (case : LockCase) (o : Option Purpose) → MayDo w t l case o → (q : Purpose) × (o ≡ Some q)
      × IsMadeOf q (w.calls t).gave_up (w.calls t).released (w.calls t).recalls l case
  made case None may = absurd may
  made case (Some q) may = (q, refl, may.0)

  -- no notification brings it waiters
  not_moved : (c m : ℕ) (every owned : Bool) (n : ℕ) → MayHappen w t (Moves c m every owned n) → l ≢ m
  not_moved c m every owned n may same =
      let some = moved_some (moved_of every (w.locks c).queue) n may.some may.number in
      let waits = (may.wait some.0.thread some.1).0 in
      (subst (λ q. ReleasesFairly q l) waits.1 (fairly some.0.thread)) (sym same)

  abbrev After : Event → LockState
  After e = locks_after w t e l

  -- tells of one event
  record Goes (e : Event) (v : LockState) : Type 0 where
    pub owned : (u : ℕ) → 1 ≤ times u v.queue → ((w.locks l).queue ≢ [] → (w.locks l).exclusive ≢ None)
        → (v.exclusive ≢ None) ⊎ (IsFairRelease (w.calls t).purpose l × ((w.locks l).exclusive ≡ Some t)
        × ((w.locks l).queue ≢ []))
    pub hands : FromQueue (w.locks l) v

  stays : (e : Event) → Goes e (w.locks l)
  stays e = record {
    owned = λ u stands had. inl (had (stood u (w.locks l).queue stands));
    hands = λ u some. inl some;
  }

  fair_call : (o : Option Purpose) (case : LockCase) → (case ≡ Leave Exclusive)
      ⊎ ((y : Option Queued) × (case ≡ HandOff Exclusive y)) → MayDo w t l case o → ReleasesFairly o l
      → IsFairRelease o l
  fair_call None case gives may f = absurd may
  fair_call (Some q) case (inl e) may f = leave_call q (w.calls t).gave_up (w.calls t).released
      (w.calls t).recalls l (subst (IsMadeOf q (w.calls t).gave_up (w.calls t).released (w.calls t).recalls l)
      e may.0) f
  fair_call (Some q) case (inr e) may f = hand_call q (w.calls t).gave_up (w.calls t).released
      (w.calls t).recalls l e.0 (subst (IsMadeOf q (w.calls t).gave_up (w.calls t).released
      (w.calls t).recalls l) e.1 may.0) f

  gives_owner : (case : LockCase) → (case ≡ Leave Exclusive)
      ⊎ ((y : Option Queued) × (case ≡ HandOff Exclusive y)) → Needs (rules_at w l) case (w.locks l) t
      → (w.locks l).exclusive ≡ Some t
  gives_owner case (inl e) needs = subst (λ x. Needs (rules_at w l) x (w.locks l) t) e needs
  gives_owner case (inr e) needs = (subst (λ x. Needs (rules_at w l) x (w.locks l) t) e.1 needs).0

  gives_queue : (case : LockCase) → (case ≡ Leave Exclusive)
      ⊎ ((y : Option Queued) × (case ≡ HandOff Exclusive y)) → (u : ℕ)
      → 1 ≤ times u (after_case (rules_at w l) case (w.locks l) t).queue → (w.locks l).queue ≢ []
  gives_queue case (inl e) u stands = stood u (w.locks l).queue
      (subst (λ x. 1 ≤ times u (after_case (rules_at w l) x (w.locks l) t).queue) e stands)
  gives_queue case (inr e) u stands = stood u (w.locks l).queue (subst (λ q. 1 ≤ times u q) (handed_queue e.0)
      (subst (λ x. 1 ≤ times u (after_case (rules_at w l) x (w.locks l) t).queue) e.1 stands))
    where
      handed_queue : (y : Option Queued) → (locks.handed t Exclusive y (w.locks l)).queue ≡ (w.locks l).queue
      handed_queue None = refl
      handed_queue (Some y) = by_want y.want
        where
          left : LockState
          left = locks.sharing_handed t (locks.without_owner t Exclusive (w.locks l))

          by_readers : (b : Bool) → (if b then locks.with_owner y.thread Exclusive left else locks.pending_for
              y.thread false left).queue ≡ (w.locks l).queue
          by_readers true = refl
          by_readers false = refl

          by_want : (x : Want) → (locks.succeeding x y.thread left).queue ≡ (w.locks l).queue
          by_want Exclusive = by_readers (locks.readers left == 0)
          by_want Upgradable = refl
          by_want Shared = refl
          by_want x = refl

  by_case : (case : LockCase) → MayDo w t l case (w.calls t).purpose
      → Goes (AtLock l case) (after_case (rules_at w l) case (w.locks l) t)
  by_case case may = let needs = needs_of w t l case (w.calls t).purpose may in record {
    owned = λ u stands had. elim (owned (rules_at w l) (w.locks l) t (all l) mutex case u needs stands had) [
      | inl still ↦ inl still
      | inr gives ↦ inr (
        fair_call (w.calls t).purpose case gives may (fairly t),
        gives_owner case gives needs,
        gives_queue case gives u stands,
      )
    ];
    hands = from_queue (rules_at w l) (w.locks l) t (all l) mutex case needs;
  }

  by_event : (e : Event) → MayHappen w t e → Goes e (locks_after w t e l)
  by_event Nothing may = stays Nothing
  by_event (AtLock k case) may = either (l == k) refl
    where
      either : (b : Bool) → (l == k) ≡ b
          → Goes (AtLock k case) (if b then after_case (rules_at w k) case (w.locks k) t else w.locks l)
      either false e = stays (AtLock k case)
      either true e = let same : l ≡ k = eqb-true l k e in
          subst (λ j. Goes (AtLock j case) (after_case (rules_at w j) case (w.locks j) t)) same
          (by_case case (subst (λ j. MayDo w t j case (w.calls t).purpose) (sym same) may))
  by_event (Moves c m every locked n) may = at_mutex (l == m) refl
    where
      at_condvar : (b : Bool) → (l == c) ≡ b → Goes (Moves c m every locked n)
          (if b then left_after every (w.locks c) else w.locks l)
      at_condvar false e = stays (Moves c m every locked n)
      at_condvar true e = absurd (let f : Mutex ≡ locks.Condvar = sym mutex
          ∙ ap (λ j. (rules_at w j).sort) (eqb-true l c e) ∙ may.sorts.0 in cc)

      at_mutex : (b : Bool) → (l == m) ≡ b
          → Goes (Moves c m every locked n) (if b then joined_by locked t (moved_of every (w.locks c).queue)
          (w.locks m) else putting w.locks c (left_after every (w.locks c)) l)
      at_mutex false e = at_condvar (l == c) refl
      at_mutex true e = absurd (not_moved c m every locked n may (eqb-true l m e))

-- ---------------------------------------------------------------- a step

module _ (w v : LocksState) (t l : ℕ) (o : Outcome) (all : AreLockStates w) (mutex : (rules_at w l).sort
    ≡ Mutex) (fairly : AllReleaseFairly w l) where
  same_lock : v.locks l ≡ w.locks l → FairlyGoes w v t l
  same_lock e = record {
    owned = λ u stands had. inl (λ f. had
        (stood u (w.locks l).queue (subst (λ (s : LockState). 1 ≤ times u s.queue) e stands))
        (ap (λ (s : LockState). s.exclusive) (sym e) ∙ f));
    hands = λ u some. inl (λ f. some (ap (λ (s : LockState). s.taken u) e ∙ f));
  }

  goes : GoesOn w t o v → FairlyGoes w v t l
  goes g = let h = by_event w t l all mutex fairly g.event g.may in record {
    owned = λ u stands had. elim (h.owned u (subst (λ (s : LockState). 1 ≤ times u s.queue) (g.locks l)
        stands) had) [
          | inl still ↦ inl (λ f. still (ap (λ (s : LockState). s.exclusive) (sym (g.locks l)) ∙ f))
          | inr gives ↦ by_owner gives (v.locks l).exclusive refl
        ];
    hands = λ u some. h.hands u (λ f. some (ap (λ (s : LockState). s.taken u) (g.locks l) ∙ f));
  }
    where
      by_owner : (IsFairRelease (w.calls t).purpose l × ((w.locks l).exclusive ≡ Some t)
          × ((w.locks l).queue ≢ [])) → (x : Option ℕ) → (v.locks l).exclusive ≡ x
          → ((v.locks l).exclusive ≢ None) ⊎ LetsGoWhileSomeWait w v t l
      by_owner h None e = inr (record { releases = h.0; owner = h.1; gone = e; waiter = h.2 })
      by_owner h (Some x) e = inl (λ f. let k : ◌≡◌ {A = Option ℕ} (Some x) None = sym e ∙ f in cc)

  does_fairly : (x : Turn) → Does w t x o v → FairlyGoes w v t l
  does_fairly (turn.Begin c) d = same_lock (d.locks l)
  does_fairly turn.Go d = goes d
  does_fairly turn.Spin d = goes d.goes
  does_fairly turn.Late d = same_lock (d.locks l)
  does_fairly turn.Ok d = goes d.goes
  does_fairly turn.Err d = goes d.goes

  pub fairly_goes : (x : Turn) → Turned w t x o v → FairlyGoes w v t l
  fairly_goes x (inl d) = does_fairly x d.1
  fairly_goes x (inr r) = same_lock (ap (λ (k : LocksState). k.locks l) r.1.1)
