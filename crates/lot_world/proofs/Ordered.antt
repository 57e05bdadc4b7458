-- A world of one lock stays one as a thread goes on, and what that leaves to the others.
use Rattle.std.proofs.Common.{ℕ, true, false, Some, None, is_none, ◌≡◌, ◌≢◌, inl, inr, refl, sym, ◌∙◌, ap}
use Rattle.std.proofs.Common.{subst}
use Rattle.spec_locks.specs.Locks.{Rights, rights_of}
use Rattle.spec_locks.specs.Purposes.{MayWait, Purpose, lock_for}
use Rattle.spec_locks.specs.Runs.{LocksState}
use Rattle.lot_steps.specs.declared.places.Place.{Place}
use Rattle.lot_steps.specs.declared.places.Place.TheVariants.{Idle, Mutex, RwLock, Once, Condvar, Semaphore}
use Rattle.lot_steps.specs.Steps.{act_of, is_idle, profile}
use Rattle.lot_machine.specs.Machine.{State, after, go_of, place_at, step_outcome}
use Rattle.lot_machine.specs.Fits.{SameSize}
use Rattle.lot_machine.proofs.Shape.{after_size}
use Rattle.lot_laws.specs.Refinement.{call_state, lock_state, locks_of, runs_closure}
use Rattle.lot_laws.specs.Promises.{IsKept}
use Rattle.lot_laws.proofs.machine.KindsStay.{after_kinds}
use Rattle.lot_laws.proofs.calls.LockSteps.{IsTurn, after_step}
use Rattle.lot_laws.proofs.promises.WorldRuns.{world_after, world_kept}
use Rattle.lot_world.specs.Drained.{Drains}
use Rattle.lot_world.specs.Few.{AllHaveFew, IsOfOneLock}
use Rattle.lot_world.proofs.Few.{calls_left, few_go_on, rights_left}
use Rattle.lot_world.specs.Standing.{MayStandAt}
use Rattle.lot_world.proofs.PlaceOwners.{no_closure, place_own}
use Rattle.lot_world.specs.Quiet.{HasOneLock}
use Rattle.lot_world.specs.Ordered.{IsOrdered}
use Rattle.lot_world.proofs.Quiet.{OnlyHere, only_here}

-- ---------------------------------------------------------------- places of one lock

pub here : (w : State) → IsOrdered w → (t : ℕ) → OnlyHere (place_at w t)
here w h t = only_here w h.lock (place_at w t) (h.world.well_formed.places t)
    (h.world.inductive.stands.calls t)

-- a thread is in no call exactly where its call is for nothing
pub idle_call : (p : Place) (rights : ℕ → Rights) → OnlyHere p → is_idle p
    ≡ is_none (call_state p rights).purpose
idle_call Idle rights only = refl
idle_call (Mutex l at) rights only = refl
idle_call (RwLock l a c) rights only = refl
idle_call (Once l at) rights (inl e) = absurd cc
idle_call (Semaphore l at) rights (inl e) = absurd cc
idle_call (Once l at) rights (inr only) = absurd only.1
idle_call (Semaphore l at) rights (inr only) = absurd only.1
idle_call (Condvar l at) rights (inl e) = absurd cc
idle_call (Condvar l at) rights (inr only) = absurd only.1

pub idle_is : (p : Place) → is_idle p ≡ true → p ≡ Idle
idle_is Idle e = refl
idle_is (Mutex l at) e = absurd cc
idle_is (RwLock l a c) e = absurd cc
idle_is (Once l at) e = absurd cc
idle_is (Semaphore l at) e = absurd cc
idle_is (Condvar l at) e = absurd cc

pub called_here : (p : Place) (rights : ℕ → Rights) (q : Purpose) → OnlyHere p → (call_state p rights).purpose
    ≡ Some q → lock_for q ≡ 0
called_here Idle rights q only e = absurd cc
called_here (Mutex l at) rights q (inl f) e = absurd cc
called_here (Mutex l at) rights q (inr only) e =
    let zero_is : l ≡ 0 = (let f = only.0 in cc) in
    let same : (profile (Mutex l at)).purpose l ≡ q = (let f : Some ((profile (Mutex l at)).purpose l)
    ≡ Some q = e in cc) in
    ap lock_for (sym same) ∙ ap (λ j. lock_for ((profile (Mutex l at)).purpose j)) zero_is
    ∙ place_own (Mutex l at) only.1 only.0
called_here (RwLock l a c) rights q (inl f) e = absurd cc
called_here (RwLock l a c) rights q (inr only) e =
    let zero_is : l ≡ 0 = (let f = only.0 in cc) in
    let same : (profile (RwLock l a c)).purpose l ≡ q = (let f : Some ((profile (RwLock l a c)).purpose l)
    ≡ Some q = e in cc) in
    ap lock_for (sym same) ∙ ap (λ j. lock_for ((profile (RwLock l a c)).purpose j)) zero_is
    ∙ place_own (RwLock l a c) only.1 only.0
called_here (Once l at) rights q (inl f) e = absurd cc
called_here (Semaphore l at) rights q (inl f) e = absurd cc
called_here (Once l at) rights q (inr only) e = absurd only.1
called_here (Semaphore l at) rights q (inr only) e = absurd only.1
called_here (Condvar l at) rights q (inl f) e = absurd cc
called_here (Condvar l at) rights q (inr only) e = absurd only.1

pub one_lock : (w : State) → IsOrdered w → IsOfOneLock (locks_of w) 0
one_lock w h = record {
  calls = λ t p e. called_here (place_at w t) (λ l. rights_of (lock_state w l) t) p (here w h t) e;
  standing = λ t stands idle. let kept : IsKept w = world_kept w h.world in subst (λ p. MayWait p 0) idle
      (kept.waiting t 0 stands);
}

stands_of : (p : Place) → OnlyHere p → MayStandAt p
stands_of p (inl e) = subst MayStandAt (sym e) tt
stands_of p (inr only) = only.1

pub never_closes : (p : Place) → OnlyHere p → runs_closure (act_of p) ≡ false
never_closes p only = no_closure p (stands_of p only)

-- ---------------------------------------------------------------- one step

module _ (w : State) (t : ℕ) (h : IsOrdered w) where
  abbrev v : State
  v = after w (go_of t)

  pub stepped : IsTurn (locks_of w) (go_of t) (step_outcome w (go_of t)) (locks_of v)
  stepped = after_step w (go_of t) h.world.well_formed h.world.inductive h.world.counted h.world.condvars

  pub same_lock : HasOneLock v
  same_lock = record {
    one = let size : SameSize w v = after_size w (go_of t) in size.locks ∙ h.lock.one;
    sort = subst (λ k. Drains (Rattle.spec_locks.specs.Purposes.rules_of k).sort)
        (sym (after_kinds w (go_of t) 0)) h.lock.sort;
  }

  few_then : AllHaveFew (locks_of v) 0
  few_then = elim stepped.1 [
    | inl did ↦ few_go_on (locks_of w) (locks_of v) 0 t (step_outcome w (go_of t))
        (world_kept w h.world).state (one_lock w h) h.few did.1
    | inr refused ↦ subst (λ x. AllHaveFew x 0) (sym refused.1.1) h.few
  ]

  pub ordered : IsOrdered v
  ordered = record { world = world_after w (go_of t) h.world; lock = same_lock; few = few_then }

  -- the others
  pub same_purpose : (u : ℕ) → u ≢ t → ((locks_of v).calls u).purpose ≡ ((locks_of w).calls u).purpose
  same_purpose u ne = elim stepped.1 [
    | inl did ↦ calls_left (locks_of w) (locks_of v) 0 t (step_outcome w (go_of t))
        (world_kept w h.world).state (one_lock w h) h.few did.1 u ne
    | inr refused ↦ ap (λ (x : LocksState). (x.calls u).purpose) refused.1.1
  ]

  pub others_idle : (u : ℕ) → u ≢ t → is_idle (place_at v u) ≡ is_idle (place_at w u)
  others_idle u ne = idle_call (place_at v u) (λ l. rights_of (lock_state v l) u) (here v ordered u)
      ∙ ap is_none (same_purpose u ne)
      ∙ sym (idle_call (place_at w u) (λ l. rights_of (lock_state w l) u) (here w h u))

  pub others_own : (u : ℕ) → u ≢ t → is_idle (place_at w u) ≡ true → rights_of (lock_state v 0) u
      ≡ rights_of (lock_state w 0) u
  others_own u ne idle = elim stepped.1 [
    | inl did ↦ rights_left (locks_of w) (locks_of v) 0 t (step_outcome w (go_of t))
        (world_kept w h.world).state (one_lock w h) h.few did.1 u ne
        (subst (λ p. (call_state p (λ l. rights_of (lock_state w l) u)).purpose ≡ None)
        (sym (idle_is (place_at w u) idle)) refl)
    | inr refused ↦ ap (λ (x : LocksState). rights_of (x.locks 0) u) refused.1.1
  ]
