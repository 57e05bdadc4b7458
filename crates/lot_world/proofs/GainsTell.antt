-- The test of a place and of rights tells: its call began with nothing, or has given up the right that it
-- began with, and has got no more than its gain.
use Rattle.std.proofs.Common.{ℕ, Bool, true, false, cond, Some, ◌≡◌, ◌+◌, ◌-◌, ◌≤◌, refl, ap, arith}
use Rattle.std.specs.Prelude.{◌↔◌, ◌==◌, ◌||◌}
use Rattle.std.proofs.lemmas.Bool.Decides.{Decides-eqb}
use Rattle.core_base.specs.declared.wants.Want.TheVariants.{Exclusive, Upgradable, Shared}
use Rattle.spec_locks.specs.declared.calls.Access.{Access}
use Rattle.spec_locks.specs.declared.calls.Access.TheVariants as access
use Rattle.spec_locks.specs.Locks.{Rights, with_right, without_right}
use Rattle.spec_locks.specs.Runs.{no_rights}
use Rattle.steps_mutex.specs.declared.places.MutexPlace.{MutexPlace}
use Rattle.steps_mutex.specs.declared.places.MutexPlace.TheVariants as mutex
use Rattle.steps_mutex.specs.declared.lock.Entry.{Entry}
use Rattle.steps_mutex.specs.declared.lock.Entry.TheVariants as entry
use Rattle.steps_mutex.specs.declared.hand_off.HandOffAt.TheVariants as hand_off
use Rattle.steps_mutex.specs.MutexProfiles.{is_bump, entry_purpose, before_entry, was_handed}
use Rattle.steps_rwlock.specs.declared.places.Admission.{Admission}
use Rattle.steps_rwlock.specs.declared.purposes.RwLockPurpose.{RwLockPurpose}
use Rattle.steps_rwlock.specs.declared.purposes.RwLockPurpose.TheVariants as purposes
use Rattle.steps_rwlock.specs.declared.places.RwLockAt.{RwLockAt}
use Rattle.steps_rwlock.specs.declared.places.RwLockAt.TheVariants as at
use Rattle.steps_rwlock.specs.RwLockSteps.{wanted}
use Rattle.steps_rwlock.specs.RwLockProfiles.{is_pending, without_pending}
use Rattle.steps_rwlock_fair.specs.declared.places.RwLockCallPlace.{RwLockCallPlace}
use Rattle.steps_rwlock_fair.specs.declared.places.RwLockCallPlace.TheVariants.{Plain, PeekQueue, HandOver}
use Rattle.steps_rwlock_fair.specs.declared.places.RwLockCallPlace.TheVariants.{Bump}
use Rattle.steps_rwlock_fair.specs.declared.places.RwLockCallPlace.TheVariants.{Handed}
use Rattle.steps_rwlock_fair.specs.declared.handed.HandedAt.{HandedAt}
use Rattle.steps_rwlock_fair.specs.declared.handed.HandedAt.TheVariants as handed
use Rattle.steps_rwlock_fair.specs.FairProfiles.{before_release, has_given}
use Rattle.spec_locks.specs.Purposes.{Bumps}
use Rattle.lot_steps.specs.declared.places.Place.TheVariants as place
use Rattle.lot_laws.specs.Refinement.{call_state}
use Rattle.lot_world.specs.declared.gains.Gain.TheVariants.{Nothing, Pending, Right}
use Rattle.lot_world.specs.Drains.{HadNone, HasNoneBefore, IsFew, PendsInCall, number}
use Rattle.lot_world.specs.Drainable.{gain_of, has_only, may_pend, nothing_if}

-- ---------------------------------------------------------------- rights

none_if : (e p u s : ℕ) → e ≡ 0 → p ≡ 0 → u ≡ 0 → s ≡ 0 → ◌≡◌ {A = Rights} (record {
  exclusive = e;
  pending = p;
  upgradable = u;
  shared = s;
}) no_rights
none_if e p u s a b c d = λ i. record { exclusive = a i; pending = b i; upgradable = c i; shared = d i }

-- no rights, but for some of one sort
pub none_tells : (r : Rights) → ((number r == 0) ≡ true) ↔ (r ≡ no_rights)
none_tells r = (
  λ h. let n = (Decides-eqb (number r) 0).0 h in none_if r.exclusive r.pending r.upgradable r.shared
      (omega (arith, n)) (omega (arith, n)) (omega (arith, n)) (omega (arith, n)),
  λ e. (Decides-eqb (number r) 0).1 (ap number e),
)

pub exclusive_tells : (r : Rights) → IsFew r → ((number r == r.exclusive) ≡ true)
    ↔ (without_right Exclusive r ≡ no_rights)
exclusive_tells r few = (
  λ h. let n = (Decides-eqb (number r) r.exclusive).0 h in none_if (r.exclusive - 1) r.pending r.upgradable
      r.shared (omega (arith, n, few)) (omega (arith, n)) (omega (arith, n)) (omega (arith, n)),
  λ e. let p = ap (λ (x : Rights). x.pending) e in let u = ap (λ (x : Rights). x.upgradable) e in let s =
      ap (λ (x : Rights). x.shared) e in (Decides-eqb (number r) r.exclusive).1 (omega (arith, p, u, s)),
)

pub upgradable_tells : (r : Rights) → IsFew r → ((number r == r.upgradable) ≡ true)
    ↔ (without_right Upgradable r ≡ no_rights)
upgradable_tells r few = (
  λ h. let n = (Decides-eqb (number r) r.upgradable).0 h in none_if r.exclusive r.pending (r.upgradable - 1)
      r.shared (omega (arith, n)) (omega (arith, n)) (omega (arith, n, few)) (omega (arith, n)),
  λ e. let p = ap (λ (x : Rights). x.pending) e in let u = ap (λ (x : Rights). x.exclusive) e in let s =
      ap (λ (x : Rights). x.shared) e in (Decides-eqb (number r) r.upgradable).1 (omega (arith, p, u, s)),
)

pub shared_tells : (r : Rights) → IsFew r → ((number r == r.shared) ≡ true)
    ↔ (without_right Shared r ≡ no_rights)
shared_tells r few = (
  λ h. let n = (Decides-eqb (number r) r.shared).0 h in none_if r.exclusive r.pending r.upgradable
      (r.shared - 1) (omega (arith, n)) (omega (arith, n)) (omega (arith, n)) (omega (arith, n, few)),
  λ e. let p = ap (λ (x : Rights). x.pending) e in let u = ap (λ (x : Rights). x.exclusive) e in let s =
      ap (λ (x : Rights). x.upgradable) e in (Decides-eqb (number r) r.shared).1 (omega (arith, p, u, s)),
)

pub pending_tells : (r : Rights) → IsFew r → ((number r == r.pending) ≡ true)
    ↔ (record r { pending = r.pending - 1 } ≡ no_rights)
pending_tells r few = (
  λ h. let n = (Decides-eqb (number r) r.pending).0 h in none_if r.exclusive (r.pending - 1) r.upgradable
      r.shared (omega (arith, n)) (omega (arith, n, few)) (omega (arith, n)) (omega (arith, n)),
  λ e. let p = ap (λ (x : Rights). x.exclusive) e in let u = ap (λ (x : Rights). x.upgradable) e in let s =
      ap (λ (x : Rights). x.shared) e in (Decides-eqb (number r) r.pending).1 (omega (arith, p, u, s)),
)

-- one right more than none
right_alone : (x : Access) (r : Rights) → (r ≡ no_rights)
    ↔ (with_right (wanted x) r ≡ with_right (wanted x) no_rights)
right_alone access.Exclusive r = (
  ap (with_right Exclusive),
  λ e. let a = ap (λ (x : Rights). x.exclusive) e
      in none_if r.exclusive r.pending r.upgradable r.shared (omega (arith, a))
      (ap (λ (x : Rights). x.pending) e) (ap (λ (x : Rights). x.upgradable) e)
      (ap (λ (x : Rights). x.shared) e),
)
right_alone access.Upgradable r = (
  ap (with_right Upgradable),
  λ e. let a =
      ap (λ (x : Rights). x.upgradable) e in none_if r.exclusive r.pending r.upgradable r.shared
      (ap (λ (x : Rights). x.exclusive) e) (ap (λ (x : Rights). x.pending) e) (omega (arith, a))
      (ap (λ (x : Rights). x.shared) e),
)
right_alone access.Shared r = (
  ap (with_right Shared),
  λ e. let a = ap (λ (x : Rights). x.shared) e
      in none_if r.exclusive r.pending r.upgradable r.shared (ap (λ (x : Rights). x.exclusive) e)
      (ap (λ (x : Rights). x.pending) e) (ap (λ (x : Rights). x.upgradable) e) (omega (arith, a)),
)

then : {A B C : Type 0} → A ↔ B → B ↔ C → A ↔ C
then p q = (λ a. q.0 (p.0 a), λ c. p.1 (q.1 c))

-- a bump that has given its own right up, and got this
bump_tells : (x : Access) (b : Bool) (r : Rights) → (b ≡ true) ↔ (r ≡ no_rights) → (b ≡ true)
    ↔ (with_right (wanted x) r ≡ with_right (wanted x) no_rights)
bump_tells x b r h = then h (right_alone x r)

always : (true ≡ true) ↔ Unit {0}
always = (λ e. tt, λ u. refl)

-- ---------------------------------------------------------------- a mutex

-- a bump was handed the mutex, and owns it
bump_handed : (r : Rights) → IsFew r → 1 ≤ r.exclusive → ((number r == r.exclusive) ≡ true)
    ↔ (r ≡ with_right Exclusive no_rights)
bump_handed r few owns = (
  λ h. let n = (Decides-eqb (number r) r.exclusive).0 h in λ i. record {
    exclusive = one (omega (arith, n, few, owns)) i;
    pending = no r.pending (omega (arith, n)) i;
    upgradable = no r.upgradable (omega (arith, n)) i;
    shared = no r.shared (omega (arith, n)) i;
  },
  λ e. let p = ap (λ (x : Rights). x.pending) e in let u = ap (λ (x : Rights). x.upgradable) e in let s =
      ap (λ (x : Rights). x.shared) e in (Decides-eqb (number r) r.exclusive).1 (omega (arith, p, u, s)),
)
  where
    one : r.exclusive ≡ 1 → r.exclusive ≡ 0 + 1
    one e = omega (arith, e)

    no : (n : ℕ) → n ≡ 0 → n ≡ 0
    no n e = e

lock_tells : (e : Entry) (b : Bool) (rights : ℕ → Rights) → IsFew (rights 0)
    → (b ≡ true → 1 ≤ (rights 0).exclusive)
    → (has_only (Some (cond b (Right access.Exclusive) Nothing)) (rights 0) ≡ true) ↔ HadNone
    (entry_purpose 0 e) (is_bump e) (before_entry 0 (is_bump e) b rights 0)
lock_tells entry.Lock false rights few owns = none_tells (rights 0)
lock_tells entry.Lock true rights few owns = exclusive_tells (rights 0) few
lock_tells entry.LockTimed false rights few owns = none_tells (rights 0)
lock_tells entry.LockTimed true rights few owns = exclusive_tells (rights 0) few
lock_tells entry.Bump false rights few owns = bump_tells access.Exclusive (number (rights 0) == 0) (rights 0)
    (none_tells (rights 0))
lock_tells entry.Bump true rights few owns = bump_handed (rights 0) few (owns refl)

-- a thread that was handed the mutex owns it
abbrev pub OwnsHanded : MutexPlace → Rights → Type 0
OwnsHanded (mutex.Lock e retries at) r = was_handed at ≡ true → 1 ≤ r.exclusive
OwnsHanded mutex.TryLock r = Unit {0}
OwnsHanded (mutex.Unlock at) r = Unit {0}
OwnsHanded mutex.UnlockFair r = Unit {0}
OwnsHanded mutex.Bump r = Unit {0}
OwnsHanded (mutex.HandOff bumps at) r = Unit {0}

pub mutex_tells : (m : MutexPlace) (rights : ℕ → Rights) → IsFew (rights 0) → OwnsHanded m (rights 0)
    → (has_only (gain_of (place.Mutex 0 m)) (rights 0) ≡ true) ↔ HasNoneBefore
    (call_state (place.Mutex 0 m) rights)
mutex_tells (mutex.Lock e retries la) rights few owns = lock_tells e (was_handed la) rights few owns
mutex_tells mutex.TryLock rights few owns = none_tells (rights 0)
mutex_tells (mutex.Unlock ua) rights few owns = always
mutex_tells mutex.UnlockFair rights few owns = always
mutex_tells mutex.Bump rights few owns = always
mutex_tells (mutex.HandOff false ha) rights few owns = always
mutex_tells (mutex.HandOff true hand_off.Enter) rights few owns = always
mutex_tells (mutex.HandOff true hand_off.Take) rights few owns = always
mutex_tells (mutex.HandOff true (hand_off.Store any none_left)) rights few owns = always
mutex_tells (mutex.HandOff true (hand_off.Leave any)) rights few owns = bump_tells access.Exclusive
    (number (rights 0) == 0) (rights 0) (none_tells (rights 0))

-- ---------------------------------------------------------------- a reader-writer lock

entry_tells : (b : Bool) (rights : ℕ → Rights) → IsFew (rights 0)
    → (has_only (Some (cond b Pending Nothing)) (rights 0) ≡ true)
    ↔ (cond b (without_pending 0 rights) rights 0 ≡ no_rights)
entry_tells true rights few = pending_tells (rights 0) few
entry_tells false rights few = none_tells (rights 0)

plain_tells : (a : Admission) (q : RwLockPurpose) (retries : Bool) (ra : RwLockAt) (rights : ℕ → Rights)
    → IsFew (rights 0)
    → let p = Plain (record {
      purpose = q;
      retries = retries;
      at = ra;
    }) in (has_only (gain_of (place.RwLock 0 a p)) (rights 0) ≡ true) ↔ HasNoneBefore
    (call_state (place.RwLock 0 a p) rights)
plain_tells a (purposes.Enter x how) retries ra rights few = entry_tells (is_pending ra) rights few
plain_tells a (purposes.Release x) retries ra rights few = always
plain_tells a (purposes.Downgrade d) retries ra rights few = always
plain_tells a (purposes.Upgrade how) retries ra rights few = always

bumping_tells : (a : Admission) (q : RwLockPurpose) (retries : Bool) (ra : RwLockAt) (rights : ℕ → Rights)
    → IsFew (rights 0)
    → let p = Bump (record {
      purpose = q;
      retries = retries;
      at = ra;
    }) in (has_only (gain_of (place.RwLock 0 a p)) (rights 0) ≡ true) ↔ HasNoneBefore
    (call_state (place.RwLock 0 a p) rights)
bumping_tells a (purposes.Enter x how) retries ra rights few =
    bump_tells x (has_only (Some (cond (is_pending ra) Pending Nothing)) (rights 0))
    (cond (is_pending ra) (without_pending 0 rights) rights 0) (entry_tells (is_pending ra) rights few)
bumping_tells a (purposes.Release x) retries (at.Wake m to) rights few = bump_tells x (number (rights 0) == 0)
    (rights 0) (none_tells (rights 0))
bumping_tells a (purposes.Release x) retries at.First rights few = always
bumping_tells a (purposes.Release x) retries at.Load rights few = always
bumping_tells a (purposes.Release x) retries (at.Decide seen) rights few = always
bumping_tells a (purposes.Release x) retries (at.Park to) rights few = always
bumping_tells a (purposes.Release x) retries at.Look rights few = always
bumping_tells a (purposes.Release x) retries (at.Count seen) rights few = always
bumping_tells a (purposes.Release x) retries at.Marked rights few = always
bumping_tells a (purposes.Release x) retries (at.Aside to) rights few = always
bumping_tells a (purposes.Release x) retries at.RollBack rights few = always
bumping_tells a (purposes.Release x) retries at.GiveWay rights few = always
bumping_tells a (purposes.Downgrade d) retries ra rights few = always
bumping_tells a (purposes.Upgrade how) retries ra rights few = always

given_tells : (x : Access) (b : Bool) (rights : ℕ → Rights)
    → (has_only (nothing_if b) (rights 0) ≡ true) ↔ HadNone (Bumps 0 (wanted x)) b
    (before_release b (wanted x) 0 rights 0)
given_tells x true rights = bump_tells x (number (rights 0) == 0) (rights 0) (none_tells (rights 0))
given_tells x false rights = always

handed_tells : (a : Admission) (x : Access) (how : _) (b : Bool) (to : HandedAt) (rights : ℕ → Rights)
    → IsFew (rights 0)
    → (has_only (gain_of (place.RwLock 0 a (Handed x how b to))) (rights 0) ≡ true) ↔ HasNoneBefore
    (call_state (place.RwLock 0 a (Handed x how b to)) rights)
handed_tells a access.Exclusive how false (handed.Asleep by true) rights few = exclusive_tells (rights 0) few
handed_tells a access.Exclusive how false (handed.Asleep by false) rights few = pending_tells (rights 0) few
handed_tells a access.Exclusive how false handed.Accept rights few = exclusive_tells (rights 0) few
handed_tells a access.Exclusive how true (handed.Asleep by true) rights few =
    bump_tells access.Exclusive (number (rights 0) == (rights 0).exclusive)
    (without_right Exclusive (rights 0)) (exclusive_tells (rights 0) few)
handed_tells a access.Exclusive how true (handed.Asleep by false) rights few =
    bump_tells access.Exclusive (number (rights 0) == (rights 0).pending) (record (rights 0) {
      pending =
          (rights 0).pending - 1;
    }) (pending_tells (rights 0) few)
handed_tells a access.Exclusive how true handed.Accept rights few = bump_tells access.Exclusive
    (number (rights 0) == (rights 0).exclusive) (without_right Exclusive (rights 0))
    (exclusive_tells (rights 0) few)
handed_tells a access.Upgradable how false (handed.Asleep by true) rights few =
    upgradable_tells (rights 0) few
handed_tells a access.Upgradable how false (handed.Asleep by false) rights few =
    upgradable_tells (rights 0) few
handed_tells a access.Upgradable how false handed.Accept rights few = upgradable_tells (rights 0) few
handed_tells a access.Upgradable how true (handed.Asleep by true) rights few =
    bump_tells access.Upgradable (number (rights 0) == (rights 0).upgradable)
    (without_right Upgradable (rights 0)) (upgradable_tells (rights 0) few)
handed_tells a access.Upgradable how true (handed.Asleep by false) rights few =
    bump_tells access.Upgradable (number (rights 0) == (rights 0).upgradable)
    (without_right Upgradable (rights 0)) (upgradable_tells (rights 0) few)
handed_tells a access.Upgradable how true handed.Accept rights few = bump_tells access.Upgradable
    (number (rights 0) == (rights 0).upgradable) (without_right Upgradable (rights 0))
    (upgradable_tells (rights 0) few)
handed_tells a access.Shared how false (handed.Asleep by true) rights few = shared_tells (rights 0) few
handed_tells a access.Shared how false (handed.Asleep by false) rights few = shared_tells (rights 0) few
handed_tells a access.Shared how false handed.Accept rights few = shared_tells (rights 0) few
handed_tells a access.Shared how true (handed.Asleep by true) rights few =
    bump_tells access.Shared (number (rights 0) == (rights 0).shared) (without_right Shared (rights 0))
    (shared_tells (rights 0) few)
handed_tells a access.Shared how true (handed.Asleep by false) rights few =
    bump_tells access.Shared (number (rights 0) == (rights 0).shared) (without_right Shared (rights 0))
    (shared_tells (rights 0) few)
handed_tells a access.Shared how true handed.Accept rights few =
    bump_tells access.Shared (number (rights 0) == (rights 0).shared) (without_right Shared (rights 0))
    (shared_tells (rights 0) few)

pub rwlock_tells : (a : Admission) (c : RwLockCallPlace) (rights : ℕ → Rights) → IsFew (rights 0)
    → (has_only (gain_of (place.RwLock 0 a c)) (rights 0) ≡ true) ↔ HasNoneBefore
    (call_state (place.RwLock 0 a c) rights)
rwlock_tells a (Plain p) rights few = plain_tells a p.purpose p.retries p.at rights few
rwlock_tells a (PeekQueue x) rights few = always
rwlock_tells a (HandOver x false to) rights few = always
rwlock_tells a (HandOver x true to) rights few = given_tells x (has_given to) rights
rwlock_tells a (Bump p) rights few = bumping_tells a p.purpose p.retries p.at rights few
rwlock_tells a (Handed x how b to) rights few = handed_tells a x how b to rights few

-- ---------------------------------------------------------------- threads that may be pending

pends_tells : (n : ℕ) → ((n == 0) ≡ true) ↔ (n ≡ 0)
pends_tells n = Decides-eqb n 0

pub mutex_pends : (m : MutexPlace) (rights : ℕ → Rights)
    → ((may_pend (place.Mutex 0 m) || ((rights 0).pending == 0)) ≡ true) ↔ PendsInCall
    (call_state (place.Mutex 0 m) rights).purpose (rights 0)
mutex_pends (mutex.Lock entry.Lock retries la) rights = always
mutex_pends (mutex.Lock entry.LockTimed retries la) rights = always
mutex_pends (mutex.Lock entry.Bump retries la) rights = always
mutex_pends mutex.TryLock rights = always
mutex_pends (mutex.Unlock ua) rights = pends_tells (rights 0).pending
mutex_pends mutex.UnlockFair rights = pends_tells (rights 0).pending
mutex_pends mutex.Bump rights = always
mutex_pends (mutex.HandOff false ha) rights = pends_tells (rights 0).pending
mutex_pends (mutex.HandOff true ha) rights = always

plain_pends : (a : Admission) (q : RwLockPurpose) (retries : Bool) (ra : RwLockAt) (rights : ℕ → Rights)
    → let p = Plain (record {
      purpose = q;
      retries = retries;
      at = ra;
    }) in ((may_pend (place.RwLock 0 a p) || ((rights 0).pending == 0)) ≡ true) ↔ PendsInCall
    (call_state (place.RwLock 0 a p) rights).purpose (rights 0)
plain_pends a (purposes.Enter x how) retries ra rights = always
plain_pends a (purposes.Release x) retries ra rights = pends_tells (rights 0).pending
plain_pends a (purposes.Downgrade d) retries ra rights = always
plain_pends a (purposes.Upgrade how) retries ra rights = always

pub rwlock_pends : (a : Admission) (c : RwLockCallPlace) (rights : ℕ → Rights)
    → ((may_pend (place.RwLock 0 a c) || ((rights 0).pending == 0)) ≡ true)
    ↔ PendsInCall (call_state (place.RwLock 0 a c) rights).purpose (rights 0)
rwlock_pends a (Plain p) rights = plain_pends a p.purpose p.retries p.at rights
rwlock_pends a (PeekQueue x) rights = always
rwlock_pends a (HandOver x false to) rights = pends_tells (rights 0).pending
rwlock_pends a (HandOver x true to) rights = always
rwlock_pends a (Bump p) rights = always
rwlock_pends a (Handed x how false to) rights = always
rwlock_pends a (Handed x how true to) rights = always
