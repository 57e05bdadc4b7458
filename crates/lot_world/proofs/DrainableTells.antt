-- The test tells whether a world may be drained.
use Rattle.std.proofs.Common.{ℕ, zero, suc, Bool, true, false, Option, Some, None, length, ◌≡◌, ◌+◌, ◌<◌, ◌≤◌}
use Rattle.std.proofs.Common.{refl, sym, ap, subst, arith, inl, inr}
use Rattle.std.specs.Prelude.{IsTrue, ◌↔◌, ◌==◌, ◌||◌, ◌&&◌, not, nat_le, nat_lt, slice_index}
use Rattle.std.proofs.lemmas.Bool.{cases_lt}
use Rattle.std.proofs.lemmas.Bool.Decides.{nat_tests, Decides-eqb}
use Rattle.std.proofs.lemmas.List.{get_or_past}
use Rattle.spec_locks.specs.declared.kinds.Kind.{Kind}
use Rattle.spec_locks.specs.declared.kinds.Kind.TheVariants as kind
use Rattle.spec_locks.specs.Kinds.{is_condvar}
use Rattle.steps_base.specs.declared.owners.Pending as owners
use Rattle.steps_base.specs.Owners.{pending_owner}
use Rattle.spec_locks.specs.Locks.{Rights, one_if_thread, one_if_pending, rights_of}
use Rattle.spec_locks.specs.Purposes.{rules_of}
use Rattle.spec_locks.specs.Runs.{no_rights}
use Rattle.steps_mutex.specs.declared.places.MutexPlace.TheVariants as mutex
use Rattle.steps_mutex.specs.declared.lock.Entry.{Entry}
use Rattle.steps_mutex.specs.declared.lock.LockAt.{LockAt}
use Rattle.steps_mutex.specs.declared.lock.LockAt.TheVariants as lock
use Rattle.core_base.specs.declared.wants.Want.TheVariants.{Exclusive}
use Rattle.spec_locks.specs.Sites.{Has}
use Rattle.lot_laws.specs.Locations.{role_on}
use Rattle.lot_steps.specs.declared.places.Place.{Place}
use Rattle.lot_steps.specs.declared.places.Place.TheVariants as place
use Rattle.lot_machine.specs.Fits.{IsOfItsKind, PlaceFits, is_once, is_semaphore}
use Rattle.lot_machine.specs.Machine.{State, filled_at, kind_at, owners_at, place_at, shares_at}
use Rattle.lot_laws.specs.Refinement.{call_state, lock_state}
use Rattle.lot_laws.specs.SitesOf.{IsWorld}
use Rattle.lot_world.specs.Drains.{Drains, HasNoneBefore, HasOneLock, IsDrainable, IsFew, PendsInCall, number}
use Rattle.lot_world.specs.Drainable.{all_hold_few, are_below, gain_of, has_only, has_owners, holds_few}
use Rattle.lot_world.specs.Drainable.{is_below, is_drainable, may_pend, pending_thread}
use Rattle.lot_world.proofs.GainsTell.{OwnsHanded, mutex_pends, mutex_tells, rwlock_pends, rwlock_tells}

-- ---------------------------------------------------------------- tests

left : (a b : Bool) → (a && b) ≡ true → a ≡ true
left true b h = refl
left false b h = h

right : (a b : Bool) → (a && b) ≡ true → b ≡ true
right true b h = h
right false b h = absurd cc

both : (a b : Bool) → a ≡ true → b ≡ true → (a && b) ≡ true
both true b h k = k
both false b h k = absurd cc

not_true : (b : Bool) → not b ≡ true → b ≡ false
not_true true h = absurd cc
not_true false h = refl

not_false : (b : Bool) → b ≡ false → not b ≡ true
not_false true h = absurd cc
not_false false h = refl

le_true : (m n : ℕ) → nat_le m n ≡ true → m ≤ n
le_true m n h = grind (arith, nat_tests)

true_le : (m n : ℕ) → m ≤ n → nat_le m n ≡ true
true_le m n h = grind (arith, nat_tests)

lt_true : (m n : ℕ) → nat_lt m n ≡ true → m < n
lt_true m n h = grind (arith, nat_tests)

true_lt : (m n : ℕ) → m < n → nat_lt m n ≡ true
true_lt m n h = grind (arith, nat_tests)

-- ---------------------------------------------------------------- one thread

-- tells what is asked of one
record Holds (p : Place) (rights : ℕ → Rights) : Type 0 where
  few : IsFew (rights 0)
  none_before : HasNoneBefore (call_state p rights)
  unpending : PendsInCall (call_state p rights).purpose (rights 0)

-- a thread that was handed the mutex owns it
abbrev Owns : Place → Rights → Type 0
Owns place.Idle r = Unit {0}
Owns (place.Mutex l m) r = OwnsHanded m r
Owns (place.RwLock l a c) r = Unit {0}
Owns (place.Once l o) r = Unit {0}
Owns (place.Semaphore l o) r = Unit {0}
Owns (place.Condvar l v) r = Unit {0}

-- a call of a lock that has owners is no other
abbrev pub IsOfOwners : Place → Type 0
IsOfOwners place.Idle = Unit {0}
IsOfOwners (place.Mutex l m) = l ≡ 0
IsOfOwners (place.RwLock l a c) = l ≡ 0
IsOfOwners (place.Once l o) = ⊥
IsOfOwners (place.Semaphore l o) = ⊥
IsOfOwners (place.Condvar l v) = ⊥

place_tells : (p : Place) (rights : ℕ → Rights) → IsOfOwners p → Owns p (rights 0) → IsFew (rights 0)
    → ((has_only (gain_of p) (rights 0) ≡ true) ↔ HasNoneBefore (call_state p rights))
    × (((may_pend p || ((rights 0).pending == 0)) ≡ true) ↔ PendsInCall (call_state p rights).purpose
    (rights 0))
place_tells place.Idle rights h owns few = ((λ e. tt, λ u. refl), Decides-eqb (rights 0).pending 0)
place_tells (place.Mutex zero m) rights h owns few = (mutex_tells m rights few owns, mutex_pends m rights)
place_tells (place.Mutex (suc l) m) rights h owns few = absurd (omega (arith, h))
place_tells (place.RwLock zero a c) rights h owns few = (rwlock_tells a c rights few, rwlock_pends a c rights)
place_tells (place.RwLock (suc l) a c) rights h owns few = absurd (omega (arith, h))
place_tells (place.Once l o) rights h owns few = absurd h
place_tells (place.Semaphore l o) rights h owns few = absurd h
place_tells (place.Condvar l v) rights h owns few = absurd h

holds_tells : (p : Place) (rights : ℕ → Rights) → IsOfOwners p → Owns p (rights 0)
    → (holds_few p (rights 0) ≡ true) ↔ Holds p rights
holds_tells p rights h owns = (there, back)
  where
    r : Rights
    r = rights 0

    there : holds_few p r ≡ true → Holds p rights
    there e =
        let few = le_true (number r) 1
        (left (nat_le (number r) 1) ((may_pend p || (r.pending == 0)) && has_only (gain_of p) r) e) in
        let others = right (nat_le (number r) 1) ((may_pend p || (r.pending == 0)) && has_only (gain_of p) r)
        e in
        let tells = place_tells p rights h owns few in
        record {
          few = few;
          none_before = tells.0.0 (right (may_pend p || (r.pending == 0)) (has_only (gain_of p) r) others);
          unpending = tells.1.0 (left (may_pend p || (r.pending == 0)) (has_only (gain_of p) r) others);
        }

    back : Holds p rights → holds_few p r ≡ true
    back k =
        let tells = place_tells p rights h owns k.few in
        both (nat_le (number r) 1) ((may_pend p || (r.pending == 0)) && has_only (gain_of p) r)
        (true_le (number r) 1 k.few)
        (both (may_pend p || (r.pending == 0)) (has_only (gain_of p) r) (tells.1.1 k.unpending)
        (tells.0.1 k.none_before))

-- ---------------------------------------------------------------- all threads

abbrev here : State → ℕ → Bool
here w t = holds_few (place_at w t) (rights_of (lock_state w 0) t)

each_of : (w : State) (t n u : ℕ) → all_hold_few w t n ≡ true → t ≤ u → u < t + n → here w u ≡ true
each_of w t zero u h low high = absurd (omega (arith, low, high))
each_of w t (suc n) u h low high = elim (cases_lt t u) [
  | inl later ↦ each_of w (suc t) n u (right (here w t) (all_hold_few w (suc t) n) h) (omega (arith, later))
      (omega (arith, high))
  | inr now ↦ subst (λ v. here w v ≡ true) (omega (arith, low, now))
      (left (here w t) (all_hold_few w (suc t) n) h)
]

all_of : (w : State) (t n : ℕ) → ((u : ℕ) → t ≤ u → u < t + n → here w u ≡ true) → all_hold_few w t n ≡ true
all_of w t zero h = refl
all_of w t (suc n) h = both (here w t) (all_hold_few w (suc t) n) (h t (omega arith) (omega arith))
    (all_of w (suc t) n (λ u low high. h u (omega (arith, low)) (omega (arith, high))))

-- ---------------------------------------------------------------- owners

owners_drain : (k : Kind) → (has_owners k ≡ true) ↔ Drains (rules_of k).sort
owners_drain kind.Mutex = (λ e. tt, λ u. refl)
owners_drain kind.Fair = (λ e. tt, λ u. refl)
owners_drain (kind.RwLock limit) = (λ e. tt, λ u. refl)
owners_drain (kind.Recursive limit) = (λ e. tt, λ u. refl)
owners_drain kind.Condvar = (λ e. absurd cc, λ u. absurd u)
owners_drain kind.Once = (λ e. absurd cc, λ u. absurd u)
owners_drain (kind.Semaphore permits) = (λ e. absurd cc, λ u. absurd u)

-- each thread that owns alone is one of n threads
past_thread : (o : Option ℕ) (n t : ℕ) → is_below o n ≡ true → n ≤ t → one_if_thread t o ≡ 0
past_thread None n t h past = refl
past_thread (Some u) n t h past = let low = lt_true u n h in grind (arith, nat_tests)

past_pending : (o : Option owners.Pending) (n t : ℕ) → is_below (pending_thread o) n ≡ true → n ≤ t
    → one_if_pending t (pending_owner o) ≡ 0
past_pending None n t h past = refl
past_pending (Some p) n t h past = let low = lt_true p.thread n h in grind (arith, nat_tests)

below_thread : (o : Option ℕ) (n : ℕ) → ((t : ℕ) → n ≤ t → one_if_thread t o ≡ 0) → is_below o n ≡ true
below_thread None n h = refl
below_thread (Some u) n h = elim (cases_lt u n) [
  | inl low ↦ true_lt u n low
  | inr high ↦ let none = h u high in absurd (grind (arith, nat_tests))
]

below_pending : (o : Option owners.Pending) (n : ℕ) → ((t : ℕ) → n ≤ t → one_if_pending t (pending_owner o)
    ≡ 0) → is_below (pending_thread o) n ≡ true
below_pending None n h = refl
below_pending (Some p) n h = elim (cases_lt p.thread n) [
  | inl low ↦ true_lt p.thread n low
  | inr high ↦ let none = h p.thread high in absurd (grind (arith, nat_tests))
]

-- ---------------------------------------------------------------- a world

no_once : (k : Kind) → is_once k ≡ true → Drains (rules_of k).sort → ⊥
no_once kind.Mutex h d = cc
no_once kind.Fair h d = cc
no_once (kind.RwLock limit) h d = cc
no_once (kind.Recursive limit) h d = cc
no_once kind.Condvar h d = d
no_once kind.Once h d = d
no_once (kind.Semaphore permits) h d = d

no_semaphore : (k : Kind) → is_semaphore k ≡ true → Drains (rules_of k).sort → ⊥
no_semaphore kind.Mutex h d = cc
no_semaphore kind.Fair h d = cc
no_semaphore (kind.RwLock limit) h d = cc
no_semaphore (kind.Recursive limit) h d = cc
no_semaphore kind.Condvar h d = d
no_semaphore kind.Once h d = d
no_semaphore (kind.Semaphore permits) h d = d

no_condvar : (k : Kind) → is_condvar k ≡ true → Drains (rules_of k).sort → ⊥
no_condvar kind.Mutex h d = cc
no_condvar kind.Fair h d = cc
no_condvar (kind.RwLock limit) h d = cc
no_condvar (kind.Recursive limit) h d = cc
no_condvar kind.Condvar h d = d
no_condvar kind.Once h d = d
no_condvar (kind.Semaphore permits) h d = d

pub of_owners : (n : ℕ) (kinds : ℕ → Kind) (p : Place) → n ≡ 1 → Drains (rules_of (kinds 0)).sort
    → PlaceFits n p → IsOfItsKind kinds p → IsOfOwners p
of_owners n kinds place.Idle one d fits is = tt
of_owners n kinds (place.Mutex l m) one d fits is = omega (arith, one, fits.0)
of_owners n kinds (place.RwLock l a c) one d fits is = omega (arith, one, fits)
of_owners n kinds (place.Once l o) one d fits is = let first : l ≡ 0 = omega (arith, one, fits)
    in no_once (kinds 0) (subst (λ k. is_once (kinds k) ≡ true) first is) d
of_owners n kinds (place.Semaphore l o) one d fits is = let first : l ≡ 0 = omega (arith, one, fits)
    in no_semaphore (kinds 0) (subst (λ k. is_semaphore (kinds k) ≡ true) first is) d
of_owners n kinds (place.Condvar l v) one d fits is = let first : l ≡ 0 = omega (arith, one, fits.0)
    in no_condvar (kinds 0) (subst (λ k. is_condvar (kinds k) ≡ true) first is.0) d

counts_itself : (o : Option ℕ) (t : ℕ) → o ≡ Some t → 1 ≤ one_if_thread t o
counts_itself o t e = subst (λ x. 1 ≤ one_if_thread t x) (sym e) (grind (arith, nat_tests))

owns_handed : (w : State) (t : ℕ) (e : Entry) (retries : Bool) (la : LockAt) → IsWorld w → place_at w t
    ≡ place.Mutex 0 (mutex.Lock e retries la) → OwnsHanded (mutex.Lock e retries la)
    (rights_of (lock_state w 0) t)
owns_handed w t e retries (lock.Handed by) world is h = counts_itself (owners_at w 0).exclusive t
    ((world.inductive.sites.site 0).held t (Has Exclusive) (ap (λ p. (role_on p 0).claims) is))
owns_handed w t e retries lock.Accept world is h = counts_itself (owners_at w 0).exclusive t
    ((world.inductive.sites.site 0).held t (Has Exclusive) (ap (λ p. (role_on p 0).claims) is))
owns_handed w t e retries lock.First world is h = absurd cc
owns_handed w t e retries lock.Load world is h = absurd cc
owns_handed w t e retries (lock.Decide seen) world is h = absurd cc
owns_handed w t e retries lock.Check world is h = absurd cc
owns_handed w t e retries (lock.Leave parked) world is h = absurd cc
owns_handed w t e retries lock.Asleep world is h = absurd cc
owns_handed w t e retries (lock.Taken by) world is h = absurd cc
owns_handed w t e retries lock.Remove world is h = absurd cc
owns_handed w t e retries lock.Clear world is h = absurd cc
owns_handed w t e retries lock.GiveUp world is h = absurd cc

owns_at : (w : State) (t : ℕ) (p : Place) → IsWorld w → IsOfOwners p → place_at w t ≡ p
    → Owns p (rights_of (lock_state w 0) t)
owns_at w t place.Idle world h is = tt
owns_at w t (place.Mutex zero (mutex.Lock e retries la)) world h is = owns_handed w t e retries la world is
owns_at w t (place.Mutex zero mutex.TryLock) world h is = tt
owns_at w t (place.Mutex zero (mutex.Unlock ua)) world h is = tt
owns_at w t (place.Mutex zero mutex.UnlockFair) world h is = tt
owns_at w t (place.Mutex zero mutex.Bump) world h is = tt
owns_at w t (place.Mutex zero (mutex.HandOff bumps ha)) world h is = tt
owns_at w t (place.Mutex (suc l) m) world h is = absurd (omega (arith, h))
owns_at w t (place.RwLock l a c) world h is = tt
owns_at w t (place.Once l o) world h is = absurd h
owns_at w t (place.Semaphore l o) world h is = absurd h
owns_at w t (place.Condvar l v) world h is = absurd h

-- tells what one thread holds, by its place
one_tells : (w : State) (t : ℕ) → IsWorld w → HasOneLock w → (here w t ≡ true) ↔ Holds (place_at w t)
    (λ l. rights_of (lock_state w l) t)
one_tells w t world single =
    let own = of_owners (length w.locks) (kind_at w) (place_at w t) single.one single.sort
    (world.well_formed.places t) (world.well_formed.kinds t) in
    holds_tells (place_at w t) (λ l. rights_of (lock_state w l) t) own (owns_at w t (place_at w t) world own
    refl)

past_rights : (w : State) (t : ℕ) → IsWorld w → are_below (owners_at w 0) (length w.places) ≡ true
    → length w.places ≤ t → rights_of (lock_state w 0) t ≡ no_rights
past_rights w t world below past =
    let o = owners_at w 0 in
    let n = length w.places in
    let others = right (is_below o.exclusive n) (is_below (pending_thread o.pending) n && is_below
    o.upgradable n) below in
    let exclusive = past_thread o.exclusive n t (left (is_below o.exclusive n)
    (is_below (pending_thread o.pending) n && is_below o.upgradable n) below) past in
    let pending = past_pending o.pending n t (left (is_below (pending_thread o.pending) n)
    (is_below o.upgradable n) others) past in
    let upgradable = past_thread o.upgradable n t (right (is_below (pending_thread o.pending) n)
    (is_below o.upgradable n) others) past in
    let shared : slice_index (shares_at w 0) t ≡ 0 = get_or_past (shares_at w 0) t 0
    (omega (arith, world.inductive.numbers.threads 0, past)) in
    λ i. record { exclusive = exclusive i; pending = pending i; upgradable = upgradable i; shared = shared i }

past_idle : (w : State) (t : ℕ) → length w.places ≤ t → place_at w t ≡ place.Idle
past_idle w t past = get_or_past w.places t place.Idle past

-- a thread that isn't there holds nothing
past_holds : (w : State) (t : ℕ) → length w.places ≤ t → rights_of (lock_state w 0) t ≡ no_rights
    → Holds (place_at w t) (λ l. rights_of (lock_state w l) t)
past_holds w t past none =
    let rights : ℕ → Rights = λ l. rights_of (lock_state w l) t in
    subst (λ p. Holds p rights) (sym (past_idle w t past)) (record {
      few = subst IsFew (sym none) (omega arith);
      none_before = tt;
      unpending = ap (λ (r : Rights). r.pending) none;
    })

abbrev each_test : State → Bool
each_test w = all_hold_few w 0 (length w.places)

abbrev owner_test : State → Bool
owner_test w = are_below (owners_at w 0) (length w.places) && each_test w

abbrev filled_test : State → Bool
filled_test w = not (filled_at w 0) && owner_test w

abbrev kind_test : State → Bool
kind_test w = has_owners (kind_at w 0) && filled_test w

abbrev thread_test : State → Bool
thread_test w = nat_le 1 (length w.places) && kind_test w

pub drainable_tells : (w : State) → IsWorld w → IsTrue (is_drainable w) ↔ IsDrainable w
drainable_tells w world = (there, back)
  where
    there : is_drainable w ≡ true → IsDrainable w
    there h =
        let threads = right (length w.locks == 1) (thread_test w) h in
        let kinds = right (nat_le 1 (length w.places)) (kind_test w) threads in
        let filled = right (has_owners (kind_at w 0)) (filled_test w) kinds in
        let owner = right (not (filled_at w 0)) (owner_test w) filled in
        let below = left (are_below (owners_at w 0) (length w.places)) (each_test w) owner in
        let each = right (are_below (owners_at w 0) (length w.places)) (each_test w) owner in
        let single : HasOneLock w = record {
          one = (Decides-eqb (length w.locks) 1).0 (left (length w.locks == 1) (thread_test w) h);
          sort = (owners_drain (kind_at w 0)).0 (left (has_owners (kind_at w 0)) (filled_test w) kinds);
        } in
        let holds : (t : ℕ) → Holds (place_at w t) (λ l. rights_of (lock_state w l) t) = λ t.
        elim (cases_lt t (length w.places)) [
          | inl within ↦ (one_tells w t world single).0 (each_of w 0 (length w.places) t each (omega arith)
              (omega (arith, within)))
          | inr past ↦ past_holds w t past (past_rights w t world below past)
        ] in record {
          lock = single;
          unfilled = not_true (filled_at w 0) (left (not (filled_at w 0)) (owner_test w) filled);
          few = λ t. (holds t).few;
          none_before = λ t. (holds t).none_before;
          some = le_true 1 (length w.places) (left (nat_le 1 (length w.places)) (kind_test w) threads);
          past = λ t past. past_rights w t world below past;
          unpending = λ t. (holds t).unpending;
        }

    back : IsDrainable w → is_drainable w ≡ true
    back d =
        let o = owners_at w 0 in
        let n = length w.places in
        let below =
        both (is_below o.exclusive n) (is_below (pending_thread o.pending) n && is_below o.upgradable n)
        (below_thread o.exclusive n (λ t past. ap (λ (r : Rights). r.exclusive) (d.past t past)))
        (both (is_below (pending_thread o.pending) n) (is_below o.upgradable n)
        (below_pending o.pending n (λ t past. ap (λ (r : Rights). r.pending) (d.past t past)))
        (below_thread o.upgradable n (λ t past. ap (λ (r : Rights). r.upgradable) (d.past t past)))) in
        let each = all_of w 0 n (λ t low high. (one_tells w t world d.lock).1 (record {
          few = d.few t;
          none_before = d.none_before t;
          unpending = d.unpending t;
        })) in
        both (length w.locks == 1) (thread_test w) ((Decides-eqb (length w.locks) 1).1 d.lock.one)
        (both (nat_le 1 n) (kind_test w) (true_le 1 n d.some)
        (both (has_owners (kind_at w 0)) (filled_test w) ((owners_drain (kind_at w 0)).1 d.lock.sort)
        (both (not (filled_at w 0)) (owner_test w) (not_false (filled_at w 0) d.unfilled)
        (both (are_below o n) (each_test w) below each))))
