-- A thread that owns between its calls may release what it owns.
use Rattle.std.proofs.Common.{ℕ, zero, suc, Bool, true, false, List, [], ◌∷◌, Option, Some, None, ◌==◌, ◌≡◌}
use Rattle.std.proofs.Common.{◌≢◌, ◌+◌, ◌≤◌, ◌<◌, ◌⊎◌, length, nat_lt, slice_index, sum, inl, inr, refl, sym}
use Rattle.std.proofs.Common.{◌∙◌, ap, subst, arith}
use Rattle.std.specs.Prelude.{Contains, slice_index_or}
use Rattle.std.proofs.lemmas.Bool.{ltb-true, ltb-false}
use Rattle.spec_locks.proofs.HandLimits.{sum_cons}
use Rattle.std.proofs.lemmas.Bool.Decides.{nat_tests}
use Rattle.core_base.specs.declared.wants.Want.{Want}
use Rattle.core_base.specs.declared.wants.Want.TheVariants.{Exclusive, Upgradable, Shared}
use Rattle.spec_locks.specs.declared.kinds.Kind.{Kind}
use Rattle.spec_locks.specs.declared.kinds.Kind.TheVariants as kind
use Rattle.spec_locks.specs.declared.calls.Access.TheVariants as access
use Rattle.spec_locks.specs.declared.calls.Call.{Call}
use Rattle.spec_locks.specs.declared.calls.Call.TheVariants as call
use Rattle.spec_locks.specs.declared.calls.MutexCall.TheVariants as mutex_call
use Rattle.spec_locks.specs.declared.calls.RwLockCall.TheVariants as rwlock_call
use Rattle.spec_locks.specs.Locks.{IsLockState, LockState, Owns, one_if_thread, readers, rights_of}
use Rattle.spec_locks.specs.Purposes.{Releases, purpose_of, rules_of}
use Rattle.spec_locks.specs.Calls.{lock_in}
use Rattle.spec_locks.specs.Runs.{HasRight, no_rights, purpose_at}
use Rattle.lot_steps.specs.declared.places.Place.TheVariants.{Idle}
use Rattle.lot_machine.specs.Machine.{State, kind_at, place_at}
use Rattle.lot_laws.specs.Refinement.{call_state, lock_state, locks_of}
use Rattle.lot_world.specs.Drained.{Drains}
use Rattle.lot_world.specs.Few.{HasFew, IsPlain, number}
use Rattle.lot_world.proofs.Few.{rights_are}
use Rattle.lot_world.specs.Full.{IsStrict}
use Rattle.lot_world.specs.Owners.{OwnersMayRelease, ReleaseThere, releases}

owner_is : (t : ℕ) (o : Option ℕ) → 1 ≤ one_if_thread t o → o ≡ Some t
owner_is t None h = absurd (let a : 1 ≤ 0 = h in omega arith)
owner_is t (Some u) h = either (u == t) refl
  where
    either : (b : Bool) → (u == t) ≡ b → Some u ≡ Some t
    either true e = ap Some (let f : u ≡ t = grind (arith, nat_tests) in f)
    either false e = absurd (let a : one_if_thread t (Some u) ≡ 0 = grind (arith, nat_tests) in omega arith)

pub index_sum : (xs : List ℕ) (t : ℕ) → slice_index xs t ≤ sum xs
index_sum [] t = omega arith
index_sum (x ∷ xs) zero = let all : sum (x ∷ xs) ≡ x + sum xs = sum_cons x xs
    in let first : slice_index (x ∷ xs) 0 ≡ x = refl in omega arith
index_sum (x ∷ xs) (suc t) = let all : sum (x ∷ xs) ≡ x + sum xs = sum_cons x xs
    in let first : slice_index (x ∷ xs) (suc t) ≡ slice_index xs t = refl in let ih : slice_index xs t
    ≤ sum xs = index_sum xs t in omega arith

-- one of the three
some_right : (s : LockState) (t : ℕ) → IsPlain (rights_of s t) → rights_of s t ≢ no_rights
    → (Owns s t Exclusive) ⊎ (Owns s t Upgradable ⊎ Owns s t Shared)
some_right s t plain some = by_exclusive (nat_lt 0 (one_if_thread t s.exclusive)) refl
  where
    by_upgradable : one_if_thread t s.exclusive ≡ 0 → (b : Bool) → nat_lt 0 (one_if_thread t s.upgradable) ≡ b
        → (Owns s t Exclusive) ⊎ (Owns s t Upgradable ⊎ Owns s t Shared)
    by_upgradable ne true e = inr (inl (owner_is t s.upgradable (grind (arith, nat_tests))))
    by_upgradable ne false e = inr (inr (by_shared (nat_lt 0 (slice_index s.shared t)) refl))
      where
        by_shared : (b : Bool) → nat_lt 0 (slice_index s.shared t) ≡ b → 1 ≤ slice_index s.shared t
        by_shared true f = grind (arith, nat_tests)
        by_shared false f = absurd (some (rights_are (rights_of s t) no_rights ne
            (let p : number (rights_of s t) + (rights_of s t).pending ≤ 1 = plain in omega arith)
            (let g : one_if_thread t s.upgradable ≡ 0 = grind (arith, nat_tests) in g)
            (let g : slice_index s.shared t ≡ 0 = grind (arith, nat_tests) in g)))

    by_exclusive : (b : Bool) → nat_lt 0 (one_if_thread t s.exclusive) ≡ b → (Owns s t Exclusive)
        ⊎ (Owns s t Upgradable ⊎ Owns s t Shared)
    by_exclusive true e = inl (owner_is t s.exclusive (grind (arith, nat_tests)))
    by_exclusive false e = by_upgradable (let g : one_if_thread t s.exclusive ≡ 0 = grind (arith, nat_tests)
        in g) (nat_lt 0 (one_if_thread t s.upgradable)) refl

module _ (w : State) (t : ℕ) (h : IsStrict w) (idle : place_at w t ≡ Idle)
    (some : rights_of (lock_state w 0) t ≢ no_rights) where
  abbrev s : LockState
  s = lock_state w 0

  plain : IsPlain (rights_of s t)
  plain = subst (λ p. HasFew (call_state p (λ l. rights_of (lock_state w l) t)).purpose
      ((call_state p (λ l. rights_of (lock_state w l) t)).former 0) (rights_of s t)) idle (h.ordered.few t)

  there : t < length w.places
  there = by_size (nat_lt t (length w.places)) refl
    where
      by_size : (b : Bool) → nat_lt t (length w.places) ≡ b → t < length w.places
      by_size true e = ltb-true t (length w.places) e
      by_size false e = absurd (some (h.past t (ltb-false t (length w.places) e)))

  none : ((locks_of w).calls t).purpose ≡ None
  none = ap (λ p. (call_state p (λ l. rights_of (lock_state w l) t)).purpose) idle

  first : 0 < length w.locks
  first = let one : length w.locks ≡ 1 = h.ordered.lock.one in omega arith

  may_of : (c : Call) (x : Want) (fair : Bool) → Contains (releases (kind_at w 0)) c → lock_in c ≡ 0
      → purpose_at (locks_of w) c ≡ Some (Releases 0 x fair) → Owns s t x → ReleaseThere w t
  may_of c x fair listed here releases owns = record {
    call = c;
    listed = listed;
    right = x;
    fair = fair;
    may = record {
      thread = there;
      idle = none;
      lock = subst (λ l. l < length w.locks) (sym here) first;
      right = subst (HasRight (locks_of w) t) (sym releases) owns;
    };
    releases = releases;
  }

  -- the call stands there in the list
  listed_at : {k : Kind} (n : ℕ) (c : Call) → kind_at w 0 ≡ k → n < length (releases k)
      → slice_index_or (releases k) n c ≡ c → Contains (releases (kind_at w 0)) c
  listed_at n c e lt is = subst (λ j. Contains (releases j) c) (sym e) (n, lt, is)

  by_kind : (k : Kind) → kind_at w 0 ≡ k → Drains (rules_of k).sort → IsLockState (rules_of k) s
      → ReleaseThere w t
  by_kind kind.Mutex e drains state = elim (some_right s t plain some) [
    | inl x ↦ may_of (call.Mutex 0 mutex_call.Unlock) Exclusive false
        (listed_at 0 (call.Mutex 0 mutex_call.Unlock) e (omega arith) refl) refl
        (ap (λ k. purpose_of k (call.Mutex 0 mutex_call.Unlock)) e) x
    | inr (inl u) ↦ absurd (let a : ◌≡◌ {A = Option ℕ} (Some t) None = sym u ∙ (state.unpending (λ f. f)).1
        in cc)
    | inr (inr z) ↦ absurd (let a : readers s ≡ 0 = state.unshared (λ f. f) in let b : slice_index s.shared t
        ≤ sum s.shared = index_sum s.shared t in let c : 1 ≤ slice_index s.shared t = z in omega arith)
  ]
  by_kind kind.Fair e drains state = elim (some_right s t plain some) [
    | inl x ↦ may_of (call.Mutex 0 mutex_call.Unlock) Exclusive true
        (listed_at 0 (call.Mutex 0 mutex_call.Unlock) e (omega arith) refl) refl
        (ap (λ k. purpose_of k (call.Mutex 0 mutex_call.Unlock)) e) x
    | inr (inl u) ↦ absurd (let a : ◌≡◌ {A = Option ℕ} (Some t) None = sym u ∙ (state.unpending (λ f. f)).1
        in cc)
    | inr (inr z) ↦ absurd (let a : readers s ≡ 0 = state.unshared (λ f. f) in let b : slice_index s.shared t
        ≤ sum s.shared = index_sum s.shared t in let c : 1 ≤ slice_index s.shared t = z in omega arith)
  ]
  by_kind (kind.RwLock limit) e drains state = elim (some_right s t plain some) [
    | inl x ↦ may_of (call.RwLock 0 (rwlock_call.Release access.Exclusive)) Exclusive false
        (listed_at 0 (call.RwLock 0 (rwlock_call.Release access.Exclusive)) e (omega arith) refl) refl
        (ap (λ k. purpose_of k (call.RwLock 0 (rwlock_call.Release access.Exclusive))) e) x
    | inr (inl u) ↦ may_of (call.RwLock 0 (rwlock_call.Release access.Upgradable)) Upgradable false
        (listed_at 1 (call.RwLock 0 (rwlock_call.Release access.Upgradable)) e (omega arith) refl) refl
        (ap (λ k. purpose_of k (call.RwLock 0 (rwlock_call.Release access.Upgradable))) e) u
    | inr (inr z) ↦ may_of (call.RwLock 0 (rwlock_call.Release access.Shared)) Shared false
        (listed_at 2 (call.RwLock 0 (rwlock_call.Release access.Shared)) e (omega arith) refl) refl
        (ap (λ k. purpose_of k (call.RwLock 0 (rwlock_call.Release access.Shared))) e) z
  ]
  by_kind (kind.Recursive limit) e drains state = elim (some_right s t plain some) [
    | inl x ↦ may_of (call.RwLock 0 (rwlock_call.Release access.Exclusive)) Exclusive false
        (listed_at 0 (call.RwLock 0 (rwlock_call.Release access.Exclusive)) e (omega arith) refl) refl
        (ap (λ k. purpose_of k (call.RwLock 0 (rwlock_call.Release access.Exclusive))) e) x
    | inr (inl u) ↦ may_of (call.RwLock 0 (rwlock_call.Release access.Upgradable)) Upgradable false
        (listed_at 1 (call.RwLock 0 (rwlock_call.Release access.Upgradable)) e (omega arith) refl) refl
        (ap (λ k. purpose_of k (call.RwLock 0 (rwlock_call.Release access.Upgradable))) e) u
    | inr (inr z) ↦ may_of (call.RwLock 0 (rwlock_call.Release access.Shared)) Shared false
        (listed_at 2 (call.RwLock 0 (rwlock_call.Release access.Shared)) e (omega arith) refl) refl
        (ap (λ k. purpose_of k (call.RwLock 0 (rwlock_call.Release access.Shared))) e) z
  ]
  by_kind kind.Once e drains state = absurd drains
  by_kind (kind.Semaphore permits) e drains state = absurd drains
  by_kind kind.Condvar e drains state = absurd drains

pub owners_may_release : OwnersMayRelease
owners_may_release w t h idle some = by_kind w t h idle some (kind_at w 0) refl h.ordered.lock.sort
    (h.ordered.world.inductive.sites.site 0).state
