-- How calls begin: a thread that may begin one can, and its call is then the one that it has begun.
use Rattle.lot_laws.proofs.Imports
use Imports.{ℕ, Bool, true, false, Some, None, ◌&&◌, ◌==◌, not, ◌≡◌, ◌<◌, ◌≤◌, length, refl, sym, ◌∙◌, subst}
use Imports.{nat_lt, arith, rules_of, OnceCall, once_first, SemaphoreCall, Patient, Timed, Try, semaphore_first}
use Imports.{semaphore_right, nat_tests, has_readers, ltb-true, lt-ltb, Kind, Call, MutexCall, has_call}
use Imports.{is_fair, Lock, TryLock, Unlock, UnlockFair, Place, Idle, Mutex, RwLock, Once, Condvar, Semaphore}
use Imports.{mutex_first, mutex_right, is_idle, has_right, State, place_at, owners_at, kind_at}
use Imports.{state_after_begin, can_begin, is_open_to, share_at, IsWellFormed, both, IsInductive, is_mutex}
use Imports.{rules_in, Rights, LocksState, Stays, MayBegin, HasRight, purpose_at, new_call, purpose_of}
use Imports.{mutex_purpose, rwlock_purpose, once_purpose, semaphore_purpose, owner_at, taken_at, call_state}
use Imports.{locks_of, admission_of_kind, call_first, call_right}
use Rattle.spec_locks.specs.Locks as locks
use Rattle.spec_locks.specs.declared.calls.OnceCall.TheVariants as once_call
use Rattle.spec_locks.specs.declared.calls.SemaphoreCall.TheVariants as semaphore_call
use Rattle.steps_semaphore.specs.declared.places.SemaphorePlace.TheVariants as semaphores
use Rattle.spec_locks.specs.declared.kinds.Kind.TheVariants as kind
use Rattle.spec_locks.specs.declared.calls.Call.TheVariants as call
use Rattle.spec_locks.specs.declared.calls.MutexCall.TheVariants as mutex_call
use Rattle.spec_locks.specs.declared.outcomes.Outcome.TheVariants as outcome
use Rattle.steps_mutex.specs.declared.places.MutexPlace.TheVariants.{Bump}
use Rattle.steps_mutex.specs.declared.places.MutexPlace.TheVariants.{HandOff}
use Rattle.lot_laws.proofs.machine.KindsStay.{calls_mutex, calls_readers, calls_once, calls_semaphore}
use Rattle.lot_laws.proofs.condvar.Begins.{condvar_begun, condvar_may}
use Rattle.lot_laws.proofs.machine.PlacesAlone.{placed}
use Rattle.lot_laws.proofs.rwlock.RwLockEvents.{rwlock_begins_with, rwlock_purpose_is, rwlock_right_held}
use Rattle.lot_laws.proofs.rwlock.RwLockEvents.{rwlock_right_needed, rwlock_untaken_first}
use Rattle.steps_condvar.specs.declared.places.CondvarPlace.TheVariants as condvars
use Rattle.lot_laws.proofs.machine.Parts.{is_owner, thread_is}
use Rattle.lot_laws.proofs.sites.TurnsKept.{idle_is}
use Rattle.lot_laws.proofs.calls.CallEvents.{rights}

-- a call of a mutex has its purpose
pub purpose_is : (k : Kind) (l : ℕ) (c : MutexCall) → is_mutex k ≡ true
    → purpose_of k (call.Mutex l c) ≡ Some (mutex_purpose (is_fair k) l c)
purpose_is kind.Mutex l c h = refl
purpose_is kind.Fair l c h = refl
purpose_is k l c h = absurd cc

once_purpose_is : (k : Kind) (l : ℕ) (c : OnceCall) → (rules_of k).sort ≡ locks.Once
    → purpose_of k (call.Once l c) ≡ Some (once_purpose l c)
once_purpose_is kind.Once l c h = refl
once_purpose_is k l c h = absurd cc

once_begins_with : (l : ℕ) (c : OnceCall) (r : ℕ → Rights)
    → call_state (Once l (once_first c)) r ≡ new_call (Some (once_purpose l c)) r
once_begins_with l c r = refl

semaphore_purpose_is : (k : Kind) (l : ℕ) (c : SemaphoreCall) → (rules_of k).sort ≡ locks.Semaphore
    → purpose_of k (call.Semaphore l c) ≡ Some (semaphore_purpose l c)
semaphore_purpose_is (kind.Semaphore permits) l c h = refl
semaphore_purpose_is k l c h = absurd cc

semaphore_begins_with : (l : ℕ) (c : SemaphoreCall) (r : ℕ → Rights)
    → call_state (Semaphore l (semaphore_first c)) r ≡ new_call (Some (semaphore_purpose l c)) r
semaphore_begins_with l (semaphore_call.Acquire Patient) r = refl
semaphore_begins_with l (semaphore_call.Acquire Timed) r = refl
semaphore_begins_with l (semaphore_call.Acquire Try) r = refl
semaphore_begins_with l semaphore_call.Release r = refl

no_purpose : (w : LocksState) (t : ℕ) (k : Kind) (c : Call) → has_call k c ≡ false
    → HasRight w t (purpose_of k c) → ⊥
no_purpose w t kind.Mutex (call.Mutex l c) h r = absurd cc
no_purpose w t kind.Fair (call.Mutex l c) h r = absurd cc
no_purpose w t (kind.RwLock limit) (call.RwLock l c) h r = absurd cc
no_purpose w t (kind.Recursive limit) (call.RwLock l c) h r = absurd cc
no_purpose w t kind.Once (call.Once l c) h r = absurd cc
no_purpose w t kind.Condvar (call.Condvar l c) h r = absurd cc
no_purpose w t (kind.Semaphore permits) (call.Semaphore l c) h r = absurd cc
no_purpose w t k c h r = r

no_call_idle : (p : Place) (r : ℕ → Rights) → (call_state p r).purpose ≡ None → is_idle p ≡ true
no_call_idle Idle r h = refl
no_call_idle (RwLock l a at) r h = absurd cc
no_call_idle (Once l at) r h = absurd cc
no_call_idle (Semaphore l (semaphores.Acquire timed retries at)) r h = absurd cc
no_call_idle (Semaphore l (semaphores.Try at)) r h = absurd cc
no_call_idle (Semaphore l (semaphores.Release at)) r h = absurd cc
no_call_idle (Condvar l (condvars.Wait m timed at)) r h = absurd cc
no_call_idle (Condvar l (condvars.Look all)) r h = absurd cc
no_call_idle (Condvar l (condvars.Notify all m at)) r h = absurd cc
no_call_idle (Mutex l (Lock entry retries a)) r h = absurd cc
no_call_idle (Mutex l TryLock) r h = absurd cc
no_call_idle (Mutex l (Unlock a)) r h = absurd cc
no_call_idle (Mutex l UnlockFair) r h = absurd cc
no_call_idle (Mutex l Bump) r h = absurd cc
no_call_idle (Mutex l (HandOff bumps a)) r h = absurd cc

module _ (w : State) (t l : ℕ) where
  right_held : (fair : Bool) (c : MutexCall) → mutex_right c t (owners_at w l) ≡ true
      → HasRight (locks_of w) t (Some (mutex_purpose fair l c))
  right_held fair mutex_call.Lock h = tt
  right_held fair mutex_call.LockTimed h = tt
  right_held fair mutex_call.TryLock h = tt
  right_held fair mutex_call.Unlock h = thread_is t (owner_at w l) h
  right_held fair mutex_call.UnlockFair h = thread_is t (owner_at w l) h
  right_held fair mutex_call.Bump h = thread_is t (owner_at w l) h

  right_needed : (fair : Bool) (c : MutexCall) → HasRight (locks_of w) t (Some (mutex_purpose fair l c))
      → mutex_right c t (owners_at w l) ≡ true
  right_needed fair mutex_call.Lock h = refl
  right_needed fair mutex_call.LockTimed h = refl
  right_needed fair mutex_call.TryLock h = refl
  right_needed fair mutex_call.Unlock h = is_owner t (owner_at w l) h
  right_needed fair mutex_call.UnlockFair h = is_owner t (owner_at w l) h
  right_needed fair mutex_call.Bump h = is_owner t (owner_at w l) h

  begins_with : (fair : Bool) (c : MutexCall) (r : ℕ → Rights)
      → call_state (Mutex l (mutex_first fair c)) r ≡ new_call (Some (mutex_purpose fair l c)) r
  begins_with fair mutex_call.Lock r = refl
  begins_with fair mutex_call.LockTimed r = refl
  begins_with fair mutex_call.TryLock r = refl
  begins_with true mutex_call.Unlock r = refl
  begins_with false mutex_call.Unlock r = refl
  begins_with fair mutex_call.UnlockFair r = refl
  begins_with fair mutex_call.Bump r = refl

  untaken_first : (fair : Bool) (c : MutexCall) (k : ℕ) → taken_at (Mutex l (mutex_first fair c)) k ≡ None
  untaken_first fair mutex_call.Lock k = refl
  untaken_first fair mutex_call.LockTimed k = refl
  untaken_first fair mutex_call.TryLock k = refl
  untaken_first true mutex_call.Unlock k = refl
  untaken_first false mutex_call.Unlock k = refl
  untaken_first fair mutex_call.UnlockFair k = refl
  untaken_first fair mutex_call.Bump k = refl

-- a thread that gives a permit back has one
some_held : (n : ℕ) → not (n == 0) ≡ true → 1 ≤ n
some_held n h = grind (arith, nat_tests)

held_some : (n : ℕ) → 1 ≤ n → not (n == 0) ≡ true
held_some n h = grind (arith, nat_tests)

permit_held : (w : State) (t l : ℕ) (c : SemaphoreCall) → semaphore_right c (share_at w l t) ≡ true
    → HasRight (locks_of w) t (Some (semaphore_purpose l c))
permit_held w t l (semaphore_call.Acquire how) h = tt
permit_held w t l semaphore_call.Release h = some_held (share_at w l t) h

permit_needed : (w : State) (t l : ℕ) (c : SemaphoreCall)
    → HasRight (locks_of w) t (Some (semaphore_purpose l c))
    → semaphore_right c (share_at w l t) ≡ true
permit_needed w t l (semaphore_call.Acquire how) h = refl
permit_needed w t l semaphore_call.Release h = held_some (share_at w l t) h

pub begin_goes : (w : State) (t : ℕ) (c : Call) → IsWellFormed w → IsInductive w → t < length w.places
    → can_begin w t c ≡ true
    → MayBegin (locks_of w) t c
    × Stays (locks_of w) t (new_call (purpose_at (locks_of w) c) (rights w t)) outcome.Step
    (locks_of (state_after_begin w t c))
begin_goes w t (call.RwLock l c) shape inductive there can = (
  record {
    thread = there;
    idle = rw idle refl;
    lock = ltb-true l (length w.locks) open_to.0;
    right = rw (rwlock_purpose_is (kind_at w l) l c is_kind) (rwlock_right_held w t l c held.1);
  },
  placed w t there w.sections Idle (RwLock l (admission_of_kind (kind_at w l)) (call_first c)) idle
      (rwlock_untaken_first l (admission_of_kind (kind_at w l)) c) _
      (λ r e. rwlock_begins_with l (admission_of_kind (kind_at w l)) c r
      ∙ (λ i. new_call (sym (rwlock_purpose_is (kind_at w l) l c is_kind) i) (e i))),
)
  where
    idle : place_at w t ≡ Idle
    idle = idle_is (place_at w t) (both (is_idle (place_at w t))
        (is_open_to w t (call.RwLock l c)) can).0

    open_to : (nat_lt l (length w.locks) ≡ true)
        × ((has_call (kind_at w l) (call.RwLock l c) && has_right (call.RwLock l c) t
        (owners_at w l) (share_at w l t)) ≡ true)
    open_to = both (nat_lt l (length w.locks)) _ (both (is_idle (place_at w t))
        (is_open_to w t (call.RwLock l c)) can).1

    held : (has_call (kind_at w l) (call.RwLock l c) ≡ true)
        × (call_right c t (owners_at w l) (share_at w l t) ≡ true)
    held = both (has_call (kind_at w l) (call.RwLock l c)) (call_right c t (owners_at w l)
        (share_at w l t)) open_to.1

    is_kind : has_readers (rules_in w l).sort ≡ true
    is_kind = calls_readers (kind_at w l) l c held.0
begin_goes w t (call.Once l c) shape inductive there can = (
  record {
    thread = there;
    idle = rw idle refl;
    lock = ltb-true l (length w.locks) open_to.0;
    right = rw (once_purpose_is (kind_at w l) l c is_kind) (once_right l c);
  },
  placed w t there w.sections Idle (Once l (once_first c)) idle (λ k. refl) _ (λ r e. once_begins_with l c r
      ∙ (λ i. new_call (sym (once_purpose_is (kind_at w l) l c is_kind) i) (e i))),
)
  where
    idle : place_at w t ≡ Idle
    idle = idle_is (place_at w t) (both (is_idle (place_at w t)) (is_open_to w t (call.Once l c))
        can).0

    open_to : (nat_lt l (length w.locks) ≡ true)
        × ((has_call (kind_at w l) (call.Once l c) && has_right (call.Once l c) t
        (owners_at w l) (share_at w l t)) ≡ true)
    open_to = both (nat_lt l (length w.locks)) _ (both (is_idle (place_at w t))
        (is_open_to w t (call.Once l c)) can).1

    is_kind : (rules_in w l).sort ≡ locks.Once
    is_kind = calls_once (kind_at w l) l c (both (has_call (kind_at w l) (call.Once l c)) _
        open_to.1).0

    once_right : (l : ℕ) (c : OnceCall) → HasRight (locks_of w) t (Some (once_purpose l c))
    once_right l (once_call.CallOnce forced) = tt
    once_right l (once_call.Wait forced) = tt
    once_right l once_call.WaitTimed = tt
begin_goes w t (call.Semaphore l c) shape inductive there can = (
  record {
    thread = there;
    idle = rw idle refl;
    lock = ltb-true l (length w.locks) open_to.0;
    right = rw (semaphore_purpose_is (kind_at w l) l c is_kind) (permit_held w t l c held.1);
  },
  placed w t there w.sections Idle (Semaphore l (semaphore_first c)) idle (untaken c) _
      (λ r e. semaphore_begins_with l c r
      ∙ (λ i. new_call (sym (semaphore_purpose_is (kind_at w l) l c is_kind) i) (e i))),
)
  where
    idle : place_at w t ≡ Idle
    idle = idle_is (place_at w t) (both (is_idle (place_at w t))
        (is_open_to w t (call.Semaphore l c)) can).0

    open_to : (nat_lt l (length w.locks) ≡ true)
        × ((has_call (kind_at w l) (call.Semaphore l c) && has_right
        (call.Semaphore l c) t (owners_at w l) (share_at w l t)) ≡ true)
    open_to = both (nat_lt l (length w.locks)) _ (both (is_idle (place_at w t))
        (is_open_to w t (call.Semaphore l c)) can).1

    held : (has_call (kind_at w l) (call.Semaphore l c) ≡ true)
        × (semaphore_right c (share_at w l t) ≡ true)
    held = both (has_call (kind_at w l) (call.Semaphore l c)) (semaphore_right c (share_at w l t))
        open_to.1

    is_kind : (rules_in w l).sort ≡ locks.Semaphore
    is_kind = calls_semaphore (kind_at w l) l c held.0

    untaken : (c : SemaphoreCall) (k : ℕ) → taken_at (Semaphore l (semaphore_first c)) k ≡ None
    untaken (semaphore_call.Acquire Patient) k = refl
    untaken (semaphore_call.Acquire Timed) k = refl
    untaken (semaphore_call.Acquire Try) k = refl
    untaken semaphore_call.Release k = refl
begin_goes w t (call.Condvar l c) shape inductive there can =
    condvar_begun w t l c (idle_is (place_at w t) (both (is_idle (place_at w t))
    (is_open_to w t (call.Condvar l c)) can).0) there can
begin_goes w t (call.Mutex l c) shape inductive there can = (
  record {
    thread = there;
    idle = rw idle refl;
    lock = ltb-true l (length w.locks) open_to.0;
    right = rw (purpose_is (kind_at w l) l c is_kind) (right_held w t l (is_fair (kind_at w l)) c held.1);
  },
  placed w t there w.sections Idle (Mutex l (mutex_first (is_fair (kind_at w l)) c)) idle
      (untaken_first w t l (is_fair (kind_at w l)) c) _
      (λ r e. begins_with w t l (is_fair (kind_at w l)) c r
      ∙ (λ i. new_call (sym (purpose_is (kind_at w l) l c is_kind) i) (e i))),
)
  where
    idle : place_at w t ≡ Idle
    idle = idle_is (place_at w t) (both (is_idle (place_at w t)) (is_open_to w t (call.Mutex l c))
        can).0

    open_to : (nat_lt l (length w.locks) ≡ true)
        × ((has_call (kind_at w l) (call.Mutex l c) && has_right (call.Mutex l c) t
        (owners_at w l) (share_at w l t)) ≡ true)
    open_to = both (nat_lt l (length w.locks)) _ (both (is_idle (place_at w t))
        (is_open_to w t (call.Mutex l c)) can).1

    held : (has_call (kind_at w l) (call.Mutex l c) ≡ true)
        × (mutex_right c t (owners_at w l) ≡ true)
    held = both (has_call (kind_at w l) (call.Mutex l c)) (mutex_right c t (owners_at w l))
        open_to.1

    is_kind : is_mutex (kind_at w l) ≡ true
    is_kind = calls_mutex (kind_at w l) l c held.0

-- a call that may begin can
begin_refused : (w : State) (t : ℕ) (c : Call) → can_begin w t c ≡ false → MayBegin (locks_of w) t c → ⊥
begin_refused w t (call.RwLock l c) cannot may = let idle : is_idle (place_at w t) ≡ true =
    no_call_idle (place_at w t) (rights w t) may.idle in
    let there : nat_lt l (length w.locks) ≡ true = lt-ltb l (length w.locks) may.lock
    in either (has_call (kind_at w l) (call.RwLock l c)) refl idle there
  where
    either : (b : Bool) → has_call (kind_at w l) (call.RwLock l c) ≡ b → is_idle (place_at w t)
        ≡ true
        → nat_lt l (length w.locks) ≡ true → ⊥
    either false e idle there = no_purpose (locks_of w) t (kind_at w l) (call.RwLock l c) e
        may.right
    either true e idle there = let right : HasRight (locks_of w) t (Some (rwlock_purpose l c)) =
        subst (HasRight (locks_of w) t) (rwlock_purpose_is (kind_at w l) l c
        (calls_readers (kind_at w l) l c e)) may.right in
        let held : call_right c t (owners_at w l) (share_at w l t) ≡ true = rwlock_right_needed w t l c right
        in cc
begin_refused w t (call.Once l c) cannot may = let idle : is_idle (place_at w t) ≡ true =
    no_call_idle (place_at w t) (rights w t) may.idle in
    let there : nat_lt l (length w.locks) ≡ true = lt-ltb l (length w.locks) may.lock
    in either (has_call (kind_at w l) (call.Once l c)) refl idle there
  where
    either : (b : Bool) → has_call (kind_at w l) (call.Once l c) ≡ b → is_idle (place_at w t)
        ≡ true
        → nat_lt l (length w.locks) ≡ true → ⊥
    either false e idle there = no_purpose (locks_of w) t (kind_at w l) (call.Once l c) e
        may.right
    either true e idle there = let open_now : can_begin w t (call.Once l c) ≡ true =
        rw (idle, there, e) refl in let f : true ≡ false = sym open_now ∙ cannot in cc
begin_refused w t (call.Semaphore l c) cannot may = let idle : is_idle (place_at w t) ≡ true =
    no_call_idle (place_at w t) (rights w t) may.idle in
    let there : nat_lt l (length w.locks) ≡ true = lt-ltb l (length w.locks) may.lock
    in either (has_call (kind_at w l) (call.Semaphore l c)) refl idle there
  where
    either : (b : Bool) → has_call (kind_at w l) (call.Semaphore l c) ≡ b → is_idle (place_at w t)
        ≡ true
        → nat_lt l (length w.locks) ≡ true → ⊥
    either false e idle there = no_purpose (locks_of w) t (kind_at w l) (call.Semaphore l c) e
        may.right
    either true e idle there = let right : HasRight (locks_of w) t (Some (semaphore_purpose l c)) =
        subst (HasRight (locks_of w) t) (semaphore_purpose_is (kind_at w l) l c
        (calls_semaphore (kind_at w l) l c e)) may.right in
        let held : semaphore_right c (share_at w l t) ≡ true = permit_needed w t l c right in cc
begin_refused w t (call.Condvar l c) cannot may =
    let can : can_begin w t (call.Condvar l c) ≡ true =
    condvar_may w t l c (no_call_idle (place_at w t) (rights w t) may.idle) may in let f : true ≡ false =
    sym can ∙ cannot in cc
begin_refused w t (call.Mutex l c) cannot may = let idle : is_idle (place_at w t) ≡ true =
    no_call_idle (place_at w t) (rights w t) may.idle in
    let there : nat_lt l (length w.locks) ≡ true = lt-ltb l (length w.locks) may.lock
    in either (has_call (kind_at w l) (call.Mutex l c)) refl idle there
  where
    either : (b : Bool) → has_call (kind_at w l) (call.Mutex l c) ≡ b → is_idle (place_at w t)
        ≡ true
        → nat_lt l (length w.locks) ≡ true → ⊥
    either false e idle there = no_purpose (locks_of w) t (kind_at w l) (call.Mutex l c) e
        may.right
    either true e idle there = let is_kind : is_mutex (kind_at w l) ≡ true = calls_mutex (kind_at w l) l c e
        in
        let right : HasRight (locks_of w) t (Some (mutex_purpose (is_fair (kind_at w l)) l c)) =
        subst (HasRight (locks_of w) t) (purpose_is (kind_at w l) l c is_kind) may.right in
        let held : mutex_right c t (owners_at w l) ≡ true = right_needed w t l (is_fair (kind_at w l)) c right
        in cc

pub begin_possible : (w : State) (t : ℕ) (c : Call) → MayBegin (locks_of w) t c → can_begin w t c ≡ true
begin_possible w t c may = either (can_begin w t c) refl
  where
    either : (b : Bool) → can_begin w t c ≡ b → can_begin w t c ≡ true
    either true e = e
    either false e = absurd (begin_refused w t c e may)
