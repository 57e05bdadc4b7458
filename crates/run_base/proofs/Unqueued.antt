-- Nobody is queued after a step on a word by a thread that was not.
use Rattle.std.proofs.Common.{ℕ, ◌≡◌, false, refl}
use Rattle.spec_locks.specs.declared.calls.Access.TheVariants as access
use Rattle.spec_locks.specs.declared.calls.Downgrade.{Downgrade}
use Rattle.spec_locks.specs.declared.calls.MutexCall.{MutexCall}
use Rattle.spec_locks.specs.declared.calls.MutexCall.TheVariants as calls
use Rattle.spec_locks.specs.declared.calls.OnceCall.{OnceCall}
use Rattle.spec_locks.specs.declared.calls.Patience.TheVariants.{Patient, Timed, Try}
use Rattle.steps_base.specs.declared.acts.Reply.TheVariants.{Value}
use Rattle.steps_mutex.specs.MutexSteps.{mutex_first, mutex_next}
use Rattle.steps_mutex.specs.declared.places.MutexPlace.{MutexPlace}
use Rattle.steps_once.specs.OnceSteps.{once_act, once_first, once_next}
use Rattle.steps_once.specs.declared.places.OncePlace.{OncePlace}
use Rattle.steps_rwlock.specs.declared.park.ParkAt.TheVariants as parking
use Rattle.steps_rwlock.specs.declared.places.Admission.{Admission}
use Rattle.steps_rwlock.specs.declared.places.RwLockAt.TheVariants as at
use Rattle.steps_rwlock.specs.declared.purposes.RwLockPurpose.{RwLockPurpose}
use Rattle.steps_rwlock.specs.declared.purposes.RwLockPurpose.TheVariants as purpose
use Rattle.steps_rwlock_fair.specs.FairBegins.{plain_first}
use Rattle.steps_rwlock_fair.specs.FairSteps.{call_next}
use Rattle.steps_rwlock_fair.specs.declared.places.RwLockCallPlace.{RwLockCallPlace}
use Rattle.steps_rwlock_fair.specs.declared.places.RwLockCallPlace.TheVariants.{Plain}
use Rattle.steps_semaphore.specs.SemaphoreSteps.{semaphore_act, semaphore_next}
use Rattle.steps_semaphore.specs.declared.places.SemaphorePlace.{SemaphorePlace}
use Rattle.steps_condvar.specs.CondvarSteps.{condvar_next}
use Rattle.steps_condvar.specs.declared.places.CondvarPlace.{CondvarPlace}
use Rattle.lot_steps.specs.Steps.{next_place}
use Rattle.lot_steps.specs.declared.places.Place.TheVariants.{Mutex, RwLock, Once, Condvar, Semaphore}
use Rattle.run_base.specs.Queued.{is_queued}
use Rattle.run_base.specs.RwLockCalls.{rwlock_begin, rwlock_deciding}
use Rattle.run_base.proofs.Queued.{call_same, condvar_same, mutex_same, once_same, semaphore_same}
use Rattle.run_base.proofs.Queued.{unqueued_after}
use Rattle.run_base.proofs.Queueing.{CallMayGo, CondvarMayGo, MutexInNoHand, OnceInNoHand, SemaphoreInNoHand}
use Rattle.run_base.proofs.Queueing.{call_on, call_queued, condvar_on, condvar_queued, mutex_on, mutex_queued}
use Rattle.run_base.proofs.Queueing.{once_on, once_queued, same, semaphore_on, semaphore_queued}

unqueued_mutex : (n : ℕ) (place : MutexPlace) (seen : ℕ) → MutexInNoHand place → mutex_queued place ≡ false
    → is_queued (next_place (Mutex n place) (Value seen)) ≡ false
unqueued_mutex n place seen free calm = unqueued_after (Mutex n place) seen
    (same _ _ _ _ _ _ refl (mutex_same n (mutex_next place (Value seen))) (mutex_on n place (Value seen)
    free)) calm

pub after_first : (n : ℕ) (call : MutexCall) (seen : ℕ)
    → is_queued (next_place (Mutex n (mutex_first false call)) (Value seen)) ≡ false
after_first n calls.Lock seen = unqueued_mutex n (mutex_first false calls.Lock) seen tt refl
after_first n calls.LockTimed seen = unqueued_mutex n (mutex_first false calls.LockTimed) seen tt refl
after_first n calls.TryLock seen = unqueued_mutex n (mutex_first false calls.TryLock) seen tt refl
after_first n calls.Unlock seen = unqueued_mutex n (mutex_first false calls.Unlock) seen tt refl
after_first n calls.UnlockFair seen = unqueued_mutex n (mutex_first false calls.UnlockFair) seen tt refl
after_first n calls.Bump seen = unqueued_mutex n (mutex_first false calls.Bump) seen tt refl

pub unqueued_call : (n : ℕ) (a : Admission) (c : RwLockCallPlace) (seen : ℕ) → CallMayGo c (Value seen)
    → call_queued a c ≡ false → is_queued (next_place (RwLock n a c) (Value seen)) ≡ false
unqueued_call n a c seen may calm = unqueued_after (RwLock n a c) seen (same _ _ _ _ _ _ refl
    (call_same n a (call_next a c (Value seen))) (call_on n a c (Value seen) may)) calm

pub after_decision : (n : ℕ) (a : Admission) (q : RwLockPurpose) (expected seen : ℕ)
    → is_queued (next_place (rwlock_deciding n a q expected) (Value seen)) ≡ false
after_decision n a (purpose.Enter x how) expected seen = unqueued_call n a (Plain (record {
  purpose = (purpose.Enter x how);
  retries = false;
  at = at.Decide expected;
})) seen tt refl
after_decision n a (purpose.Release x) expected seen = unqueued_call n a (Plain (record {
  purpose = (purpose.Release x);
  retries = false;
  at = at.Decide expected;
})) seen tt refl
after_decision n a (purpose.Downgrade d) expected seen = unqueued_call n a (Plain (record {
  purpose = (purpose.Downgrade d);
  retries = false;
  at = at.Decide expected;
})) seen tt refl
after_decision n a (purpose.Upgrade how) expected seen = unqueued_call n a (Plain (record {
  purpose = (purpose.Upgrade how);
  retries = false;
  at = at.Decide expected;
})) seen tt refl

pub after_begin : (n : ℕ) (a : Admission) (q : RwLockPurpose) (seen : ℕ)
    → is_queued (next_place (rwlock_begin n a q) (Value seen)) ≡ false
after_begin n a (purpose.Enter access.Shared how) seen =
    unqueued_call n a (plain_first (purpose.Enter access.Shared how)) seen tt refl
after_begin n a (purpose.Enter access.Upgradable how) seen =
    unqueued_call n a (plain_first (purpose.Enter access.Upgradable how)) seen tt refl
after_begin n a (purpose.Enter access.Exclusive how) seen =
    unqueued_call n a (plain_first (purpose.Enter access.Exclusive how)) seen tt refl
after_begin n a (purpose.Release x) seen = unqueued_call n a (plain_first (purpose.Release x)) seen tt refl
after_begin n a (purpose.Downgrade d) seen = unqueued_call n a (plain_first (purpose.Downgrade d)) seen tt
    refl
after_begin n a (purpose.Upgrade Patient) seen = unqueued_call n a (plain_first (purpose.Upgrade Patient))
    seen tt refl
after_begin n a (purpose.Upgrade Timed) seen = unqueued_call n a (plain_first (purpose.Upgrade Timed)) seen tt
    refl
after_begin n a (purpose.Upgrade Try) seen = unqueued_call n a (plain_first (purpose.Upgrade Try)) seen tt
    refl

pub unqueued_once : (n : ℕ) (place : OncePlace) (seen : ℕ) → OnceInNoHand place → once_queued place ≡ false
    → is_queued (next_place (Once n place) (Value seen)) ≡ false
unqueued_once n place seen free calm = unqueued_after (Once n place) seen
    (same _ _ _ _ (once_act n place) (Value seen) refl (once_same n (once_next place (Value seen)))
    (once_on n place (Value seen) (λ e. cc) free)) calm

pub after_once : (n : ℕ) (c : OnceCall) (seen : ℕ)
    → is_queued (next_place (Once n (once_first c)) (Value seen)) ≡ false
after_once n c seen = unqueued_once n (once_first c) seen tt refl

pub unqueued_semaphore : (n : ℕ) (place : SemaphorePlace) (seen : ℕ) → SemaphoreInNoHand place
    → semaphore_queued place ≡ false → is_queued (next_place (Semaphore n place) (Value seen)) ≡ false
unqueued_semaphore n place seen free calm = unqueued_after (Semaphore n place) seen
    (same _ _ _ _ (semaphore_act n place) (Value seen) refl
    (semaphore_same n (semaphore_next place (Value seen)))
    (semaphore_on n place (Value seen) (λ e. cc) free)) calm

pub after_condvar : (n : ℕ) (place : CondvarPlace) (seen : ℕ) → CondvarMayGo place (Value seen)
    → condvar_queued place ≡ false → is_queued (next_place (Condvar n place) (Value seen)) ≡ false
after_condvar n place seen may calm = unqueued_after (Condvar n place) seen
    (same _ _ _ _ _ _ refl (condvar_same n (condvar_next place (Value seen)))
    (condvar_on n place (Value seen) may)) calm
