-- A release begins while a lock is drained.
use Rattle.std.proofs.Common.{ℕ, Bool, true, false, Some, if◌then◌else◌, ◌==◌, nat_lt, ◌≡◌, ◌≢◌, ◌<◌, length}
use Rattle.std.proofs.Common.{inl, inr, refl, sym, ◌∙◌, ap, subst, arith}
use Rattle.std.proofs.lemmas.Bool.{cases_eq, ltb-true}
use Rattle.std.proofs.lemmas.Bool.Decides.{nat_tests}
use Rattle.core_base.specs.declared.wants.Want.{Want}
use Rattle.spec_locks.specs.declared.kinds.Kind.{Kind}
use Rattle.spec_locks.specs.declared.kinds.Kind.TheVariants as kinds
use Rattle.spec_locks.specs.declared.calls.Call.{Call}
use Rattle.spec_locks.specs.declared.calls.Call.TheVariants as calling
use Rattle.spec_locks.specs.Kinds.{has_call}
use Rattle.spec_locks.specs.Locks.{LockState, Rules, rights_of, with_right}
use Rattle.spec_locks.specs.Purposes.{Releases, rules_of}
use Rattle.spec_locks.specs.Runs.{CallState, MayBegin, Stays, new_call, no_rights, purpose_at, rights_in}
use Rattle.spec_locks.specs.Sites.{IsSite, has_readers, is_full}
use Rattle.lot_steps.specs.Steps.{is_idle}
use Rattle.lot_machine.specs.Machine.{State, after, can_begin, is_open_to, is_possible, kind_at, place_at}
use Rattle.lot_machine.specs.Machine.{state_after_begin, step_outcome}
use Rattle.lot_machine.specs.Fits.{SameSize}
use Rattle.lot_machine.proofs.Shape.{after_size, both}
use Rattle.lot_laws.specs.Refinement.{call_at, locks_of}
use Rattle.lot_laws.specs.SitesOf.{rules_in, site_of}
use Rattle.lot_laws.proofs.machine.KindsStay.{after_kinds, calls_mutex, calls_readers}
use Rattle.lot_laws.proofs.rwlock.RwLockStepsAreEvents.{rwlock_begins}
use Rattle.lot_laws.proofs.sites.TurnsKept.{idle_is}
use Rattle.lot_world.specs.Drained.{as_now}
use Rattle.lot_world.proofs.AsNow.{another}
use Rattle.lot_world.specs.Quiet.{IsDraining}
use Rattle.lot_world.specs.Full.{IsStrict}
use Rattle.lot_world.specs.Now.{DrainingBegins}
use Rattle.lot_world.specs.Ordered.{IsOrdered, begin_of}
use Rattle.lot_world.proofs.OnNow.{by_deeds, unmutexed}
use Rattle.lot_world.proofs.Releases.{begins, new_calling, ordered_begun, own_right}

one_other : (u t : ℕ) → u ≢ t → (u == t) ≡ false
one_other u t ne = grind (arith, nat_tests)

-- a lock that is shared has no call of a `Once`, of a condition variable or of a semaphore
no_once : (k : Kind) (l : ℕ) (o : _) → has_call k (calling.Once l o) ≡ true → has_readers (rules_of k).sort
    ≡ true → ⊥
no_once kinds.Mutex l o e f = cc
no_once kinds.Fair l o e f = cc
no_once (kinds.RwLock limit) l o e f = cc
no_once (kinds.Recursive limit) l o e f = cc
no_once kinds.Condvar l o e f = cc
no_once kinds.Once l o e f = cc
no_once (kinds.Semaphore permits) l o e f = cc

no_condvar : (k : Kind) (l : ℕ) (o : _) → has_call k (calling.Condvar l o) ≡ true
    → has_readers (rules_of k).sort ≡ true → ⊥
no_condvar kinds.Mutex l o e f = cc
no_condvar kinds.Fair l o e f = cc
no_condvar (kinds.RwLock limit) l o e f = cc
no_condvar (kinds.Recursive limit) l o e f = cc
no_condvar kinds.Condvar l o e f = cc
no_condvar kinds.Once l o e f = cc
no_condvar (kinds.Semaphore permits) l o e f = cc

no_semaphore : (k : Kind) (l : ℕ) (o : _) → has_call k (calling.Semaphore l o) ≡ true
    → has_readers (rules_of k).sort ≡ true → ⊥
no_semaphore kinds.Mutex l o e f = cc
no_semaphore kinds.Fair l o e f = cc
no_semaphore (kinds.RwLock limit) l o e f = cc
no_semaphore (kinds.Recursive limit) l o e f = cc
no_semaphore kinds.Condvar l o e f = cc
no_semaphore kinds.Once l o e f = cc
no_semaphore (kinds.Semaphore permits) l o e f = cc

module _ (w : State) (t : ℕ) (c : Call) (x : Want) (fair : Bool) (h : IsDraining w) (strict : IsStrict w)
    (may : MayBegin (locks_of w) t c) (releases : purpose_at (locks_of w) c ≡ Some (Releases 0 x fair)) where
  abbrev v : State
  v = after w (begin_of t c)

  abbrev Now : State → Type 0
  Now y = IsSite (rules_in y 0) (as_now (rules_in y 0) (site_of y 0))

  order : IsOrdered v
  order = ordered_begun w t c x fair strict.ordered may releases

  same_rules : rules_in v 0 ≡ rules_in w 0
  same_rules = ap rules_of (after_kinds w (begin_of t c) 0)

  unshared : has_readers (rules_in v 0).sort ≡ false → Now v
  unshared e = another (rules_in v 0) (site_of v 0) (is_full (rules_in v 0) (site_of v 0).lock)
      (order.world.inductive.sites.site 0) (λ f. f) (λ f. inl (order.world.inductive.sites.unfilled 0 e))

  shared : has_readers (rules_in w 0).sort ≡ true → Now v
  shared readers = by_possible (is_possible w (begin_of t c)) refl
    where
      at_zero : (l : ℕ) → l < length w.locks → l ≡ 0
      at_zero l lt = let n = strict.ordered.lock.one in omega arith

      by_call : (c : Call) → t < length w.places → can_begin w t c ≡ true → Now (state_after_begin w t c)
      by_call (calling.RwLock l k) there can =
          let parts = both (is_idle (place_at w t)) (is_open_to w t (calling.RwLock l k)) can in
          let open_to = both (nat_lt l (length w.locks)) _ parts.1 in
          let right = both (has_call (kind_at w l) (calling.RwLock l k)) _ open_to.1 in
          let zero_is : l ≡ 0 = at_zero l (ltb-true l (length w.locks) open_to.0) in
          let goes = rwlock_begins w t l k strict.ordered.world.inductive there
          (idle_is (place_at w t) parts.0)
          (calls_readers (kind_at w l) l k right.0) right.1 in
          subst (λ j. rules_in (state_after_begin w t (calling.RwLock l k)) j ≡ rules_in w j
          → Now (state_after_begin w t (calling.RwLock l k))) (sym zero_is)
          (λ same. by_deeds w t h strict (state_after_begin w t (calling.RwLock l k)) same readers
          (subst (Rattle.lot_world.proofs.OnNow.Led w (state_after_begin w t (calling.RwLock l k)))
          zero_is (record { ds = _; goes = goes; one = tt }))) (ap rules_of (goes.follows.kinds l))
      by_call (calling.Mutex l k) there can =
          let parts = both (is_idle (place_at w t)) (is_open_to w t (calling.Mutex l k)) can in
          let open_to = both (nat_lt l (length w.locks)) _ parts.1 in
          let right = both (has_call (kind_at w l) (calling.Mutex l k)) _ open_to.1 in
          absurd (unmutexed w t h strict (kind_at w l) (calls_mutex (kind_at w l) l k right.0)
          (subst (λ j. has_readers (rules_in w j).sort ≡ true)
          (sym (at_zero l (ltb-true l (length w.locks) open_to.0))) readers))
      by_call (calling.Once l k) there can =
          let parts = both (is_idle (place_at w t)) (is_open_to w t (calling.Once l k)) can in
          let open_to = both (nat_lt l (length w.locks)) _ parts.1 in
          let right = both (has_call (kind_at w l) (calling.Once l k)) _ open_to.1 in
          absurd (no_once (kind_at w l) l k right.0 (subst (λ j. has_readers (rules_in w j).sort ≡ true)
          (sym (at_zero l (ltb-true l (length w.locks) open_to.0))) readers))
      by_call (calling.Semaphore l k) there can =
          let parts = both (is_idle (place_at w t)) (is_open_to w t (calling.Semaphore l k)) can in
          let open_to = both (nat_lt l (length w.locks)) _ parts.1 in
          let right = both (has_call (kind_at w l) (calling.Semaphore l k)) _ open_to.1 in
          absurd (no_semaphore (kind_at w l) l k right.0 (subst (λ j. has_readers (rules_in w j).sort ≡ true)
          (sym (at_zero l (ltb-true l (length w.locks) open_to.0))) readers))
      by_call (calling.Condvar l k) there can =
          let parts = both (is_idle (place_at w t)) (is_open_to w t (calling.Condvar l k)) can in
          let open_to = both (nat_lt l (length w.locks)) _ parts.1 in
          let right = both (has_call (kind_at w l) (calling.Condvar l k)) _ open_to.1 in
          absurd (no_condvar (kind_at w l) l k right.0 (subst (λ j. has_readers (rules_in w j).sort ≡ true)
          (sym (at_zero l (ltb-true l (length w.locks) open_to.0))) readers))

      by_possible : (b : Bool) → is_possible w (begin_of t c) ≡ b
          → Now (if b then state_after_begin w t c else w)
      by_possible true e = let parts = both (nat_lt t (length w.places)) (can_begin w t c) e
          in by_call c (ltb-true t (length w.places) parts.0) parts.1
      by_possible false e = h.now

  by_sort : (b : Bool) → has_readers (rules_in w 0).sort ≡ b → Now v
  by_sort true e = shared e
  by_sort false e = unshared (ap (λ (r : Rules). has_readers r.sort) same_rules ∙ e)

  stays : Stays (locks_of w) t (new_call (purpose_at (locks_of w) c) (rights_in (locks_of w) t))
      (step_outcome w (begin_of t c)) (locks_of v)
  stays = begins w t c x fair strict.ordered may releases

  abbrev Fresh : CallState → Type 0
  Fresh d = (y : Want) (f : Bool) → d.purpose ≡ Some (Releases 0 y f) → d.released ≡ false → d.former 0
      ≡ with_right y no_rights

  new_fresh : Fresh (new_call (Some (Releases 0 x fair)) (rights_in (locks_of w) t))
  new_fresh y f is free = own_right w t c x fair strict.ordered may releases
      ∙ ap (λ z. with_right z no_rights) (let e : Some (Releases 0 x fair) ≡ Some (Releases 0 y f) = is
      in let g : x ≡ y = cc in g)

  fresh_then : (u : ℕ) → Fresh (call_at v u)
  fresh_then u = elim (cases_eq u t) [
    | inl e ↦ subst (λ j. Fresh (call_at v j)) (sym e)
        (subst Fresh (sym (new_calling w t c x fair strict.ordered may releases)) new_fresh)
    | inr ne ↦ subst Fresh (sym (stays.calls u
        ∙ ap (λ b. if b then new_call (purpose_at (locks_of w) c) (rights_in (locks_of w) t) else call_at w u)
        (one_other u t ne))) (strict.fresh u)
  ]

pub draining_begins : DrainingBegins
draining_begins w t c x fair h strict may releases = (
  record {
    world = (order w t c x fair h strict may releases).world;
    lock = (order w t c x fair h strict may releases).lock;
    few = (order w t c x fair h strict may releases).few;
    now = by_sort w t c x fair h strict may releases (has_readers (rules_in w 0).sort) refl;
  },
  record {
    ordered = order w t c x fair h strict may releases;
    fresh = fresh_then w t c x fair h strict may releases;
    past = λ u ge. ap (λ (s : LockState). rights_of s u)
        ((stays w t c x fair h strict may releases).locks 0)
        ∙ strict.past u (let size : SameSize w (after w (begin_of t c)) = after_size w (begin_of t c)
        in let n : length (after w (begin_of t c)).places ≡ length w.places = size.threads in omega arith);
  },
)
