-- Nothing that befalls a thread adds to its work, and a thread whose time is up has less to do.
use Rattle.std.proofs.Common.{ℕ, Bool, true, false, Option, Some, None, ◌≡◌, ◌+◌, ◌≤◌, refl, sym, subst}
use Rattle.std.proofs.Common.{arith}
use Rattle.core_base.specs.declared.notes.Note.TheVariants as note
use Rattle.spec_locks.specs.declared.calls.Access.{Access}
use Rattle.spec_locks.specs.declared.calls.Access.TheVariants as access
use Rattle.spec_locks.specs.declared.calls.Patience.{Patience}
use Rattle.spec_locks.specs.declared.calls.OnceCall.TheVariants as once_call
use Rattle.steps_base.specs.declared.acts.Next.{Next}
use Rattle.steps_base.specs.declared.acts.Next.TheVariants.{At, End}
use Rattle.steps_base.specs.declared.acts.Reply.{Reply}
use Rattle.steps_base.specs.declared.acts.Reply.TheVariants.{TakenBy, MovedTo, HandedBy, Woken, Late}
use Rattle.steps_mutex.specs.declared.lock.LockAt.TheVariants as lock
use Rattle.steps_mutex.specs.declared.unlock.UnlockAt.TheVariants as unlock
use Rattle.steps_mutex.specs.declared.hand_off.HandOffAt.TheVariants as hand_off
use Rattle.steps_mutex.specs.declared.places.MutexPlace.{MutexPlace}
use Rattle.steps_mutex.specs.declared.places.MutexPlace.TheVariants as mutex
use Rattle.steps_mutex.specs.MutexSteps.{mutex_next}
use Rattle.steps_once.specs.declared.look.LookAt.TheVariants as look
use Rattle.steps_once.specs.declared.run.RunAt.TheVariants as run
use Rattle.steps_once.specs.declared.give_up.GiveUpAt.TheVariants as give_up
use Rattle.steps_once.specs.declared.places.OncePlace.{OncePlace}
use Rattle.steps_once.specs.declared.places.OncePlace.TheVariants as once
use Rattle.steps_once.specs.OnceSteps.{once_next}
use Rattle.steps_semaphore.specs.declared.acquire.AcquireAt.TheVariants as acquire
use Rattle.steps_semaphore.specs.declared.tries.TryAt.TheVariants as tries
use Rattle.steps_semaphore.specs.declared.release.ReleaseAt.TheVariants as release
use Rattle.steps_semaphore.specs.declared.places.SemaphorePlace.{SemaphorePlace}
use Rattle.steps_semaphore.specs.declared.places.SemaphorePlace.TheVariants as semaphore
use Rattle.steps_semaphore.specs.SemaphoreSteps.{semaphore_next}
use Rattle.steps_condvar.specs.declared.notify.NotifyAt.{NotifyAt}
use Rattle.steps_condvar.specs.declared.notify.NotifyAt.TheVariants as notify
use Rattle.steps_condvar.specs.declared.wait.WaiterFate.{WaiterFate}
use Rattle.steps_condvar.specs.declared.wait.WaiterFate.TheVariants as stands
use Rattle.steps_condvar.specs.declared.wait.WaitAt.{WaitAt}
use Rattle.steps_condvar.specs.declared.wait.WaitAt.TheVariants as wait
use Rattle.steps_condvar.specs.declared.places.CondvarPlace.{CondvarPlace}
use Rattle.steps_condvar.specs.declared.places.CondvarPlace.TheVariants as condvar
use Rattle.steps_condvar.specs.CondvarSteps.{past_release, condvar_next, in_wait, relocked}
use Rattle.steps_rwlock.specs.declared.places.Admission.{Admission}
use Rattle.steps_rwlock.specs.declared.places.RwLockPlace.{RwLockPlace}
use Rattle.steps_rwlock.specs.declared.places.RwLockAt.{RwLockAt}
use Rattle.steps_rwlock.specs.declared.places.RwLockAt.TheVariants as at
use Rattle.steps_rwlock.specs.declared.park.ParkAt.TheVariants as parking
use Rattle.steps_rwlock.specs.declared.release.WakeAt.TheVariants as waking
use Rattle.steps_rwlock.specs.declared.purposes.RwLockPurpose.{RwLockPurpose}
use Rattle.steps_rwlock.specs.declared.purposes.RwLockPurpose.TheVariants as purpose
use Rattle.steps_rwlock.specs.RwLockSteps.{rwlock_next}
use Rattle.steps_rwlock_fair.specs.declared.hand_over.HandOverAt.{HandOverAt}
use Rattle.steps_rwlock_fair.specs.declared.hand_over.HandOverAt.TheVariants as handing
use Rattle.steps_rwlock_fair.specs.declared.handed.HandedAt.{HandedAt}
use Rattle.steps_rwlock_fair.specs.declared.handed.HandedAt.TheVariants as handed
use Rattle.steps_rwlock_fair.specs.declared.places.RwLockCallPlace.{RwLockCallPlace}
use Rattle.steps_rwlock_fair.specs.declared.places.RwLockCallPlace.TheVariants as fair
use Rattle.steps_rwlock_fair.specs.FairSteps.{bump_next, call_next, given, handed_by, handed_woken}
use Rattle.steps_rwlock_fair.specs.FairSteps.{plain_next, unless_given, woken_with}
use Rattle.lot_steps.specs.declared.places.Place.{Place}
use Rattle.lot_steps.specs.declared.places.Place.TheVariants.{Idle, Mutex, RwLock, Once, Condvar, Semaphore}
use Rattle.lot_steps.specs.Steps.{condvar_goes, late_key, mutex_goes, next_place, once_goes, rwlock_goes}
use Rattle.lot_steps.specs.Steps.{semaphore_goes}
use Rattle.lot_machine.proofs.Acted.{Befalls}
use Rattle.lot_rests.proofs.Work.{call_work, condvar_work, is_release, mutex_work, once_work, rwlock_work}
use Rattle.lot_rests.proofs.Work.{semaphore_work, wait_work, work, work_after, work_then}

-- ---------------------------------------------------------------- the work of the next place

pub mutex_works : (l : ℕ) (n : Next MutexPlace) → work (mutex_goes l n) ≡ work_then mutex_work n
mutex_works l (At at) = refl
mutex_works l (End answer) = refl

pub once_works : (l : ℕ) (n : Next OncePlace) → work (once_goes l n) ≡ work_then once_work n
once_works l (At at) = refl
once_works l (End answer) = refl

pub semaphore_works : (l : ℕ) (n : Next SemaphorePlace) → work (semaphore_goes l n) ≡ work_then semaphore_work
    n
semaphore_works l (At at) = refl
semaphore_works l (End answer) = refl

pub condvar_works : (l : ℕ) (n : Next CondvarPlace) → work (condvar_goes l n) ≡ work_then condvar_work n
condvar_works l (At at) = refl
condvar_works l (End answer) = refl

pub rwlock_works : (l : ℕ) (a : Admission) (n : Next RwLockCallPlace) → work (rwlock_goes l a n)
    ≡ work_then call_work n
rwlock_works l a (At c) = refl
rwlock_works l a (End answer) = refl

-- a wait that locks its mutex again has the work of that
pub relock_works : (m : ℕ) (timed late : Bool) (n : Next MutexPlace) → work_then condvar_work
    (in_wait m timed (relocked timed late n)) ≡ work_then mutex_work n
relock_works m timed late (At at) = refl
relock_works m timed late (End answer) = refl

-- ---------------------------------------------------------------- a mutex

abbrev KeepsMutex : MutexPlace → Reply → Type 0
KeepsMutex at r = work_then mutex_work (mutex_next at r) ≤ mutex_work at

pub mutex_kept : (at : MutexPlace) (r : Reply) → Befalls r → KeepsMutex at r
mutex_kept (mutex.Lock e again lock.Asleep) (TakenBy t) b = omega arith
mutex_kept (mutex.Lock e again at) (TakenBy t) b = omega arith
mutex_kept (mutex.Lock e again at) (MovedTo key) b = omega arith
mutex_kept (mutex.Lock e again at) (HandedBy t alone) b = omega arith
mutex_kept (mutex.Lock e again at) (Woken note.Normal) b = omega arith
mutex_kept (mutex.Lock e again at) (Woken note.HandOff) b = omega arith
mutex_kept (mutex.Unlock unlock.Take) (TakenBy t) b = omega arith
mutex_kept (mutex.Unlock at) (TakenBy t) b = omega arith
mutex_kept (mutex.Unlock at) (MovedTo key) b = omega arith
mutex_kept (mutex.Unlock at) (HandedBy t alone) b = omega arith
mutex_kept (mutex.Unlock at) (Woken n) b = omega arith
mutex_kept (mutex.HandOff bumps hand_off.Take) (TakenBy t) b = omega arith
mutex_kept (mutex.HandOff bumps at) (TakenBy t) b = omega arith
mutex_kept (mutex.HandOff bumps at) (MovedTo key) b = omega arith
mutex_kept (mutex.HandOff bumps at) (HandedBy t alone) b = omega arith
mutex_kept (mutex.HandOff bumps at) (Woken n) b = omega arith
mutex_kept at (TakenBy t) b = omega arith
mutex_kept at (MovedTo key) b = omega arith
mutex_kept at (HandedBy t alone) b = omega arith
mutex_kept at (Woken n) b = omega arith
mutex_kept at r b = absurd b

mutex_late : (l : ℕ) (at : MutexPlace) (key : ℕ) → late_key (Mutex l at) ≡ Some key
    → work_then mutex_work (mutex_next at Late) + 1 ≤ mutex_work at
mutex_late l (mutex.Lock e again lock.Asleep) key h = omega arith
mutex_late l (mutex.Lock e again at) key h = absurd cc
mutex_late l (mutex.Unlock at) key h = absurd cc
mutex_late l (mutex.HandOff bumps at) key h = absurd cc
mutex_late l mutex.TryLock key h = absurd cc
mutex_late l mutex.UnlockFair key h = absurd cc
mutex_late l mutex.Bump key h = absurd cc

-- ---------------------------------------------------------------- a `Once`

once_kept : (at : OncePlace) (r : Reply) → Befalls r → work_then once_work (once_next at r) ≤ once_work at
once_kept (once.Look c again look.Asleep) (TakenBy t) b = omega arith
once_kept (once.Look c again at) (TakenBy t) b = omega arith
once_kept (once.Look c again at) (MovedTo key) b = omega arith
once_kept (once.Look c again at) (HandedBy t alone) b = omega arith
once_kept (once.Look c again at) (Woken note.Normal) b = omega arith
once_kept (once.Look c again at) (Woken note.HandOff) b = omega arith
once_kept (once.Run forced (run.Take succeeded)) (TakenBy t) b = omega arith
once_kept (once.Run forced at) (TakenBy t) b = omega arith
once_kept (once.Run forced at) (MovedTo key) b = omega arith
once_kept (once.Run forced at) (HandedBy t alone) b = omega arith
once_kept (once.Run forced at) (Woken n) b = omega arith
once_kept (once.GiveUp again give_up.Remove) (TakenBy t) b = omega arith
once_kept (once.GiveUp again at) (TakenBy t) b = omega arith
once_kept (once.GiveUp again at) (MovedTo key) b = omega arith
once_kept (once.GiveUp again at) (HandedBy t alone) b = omega arith
once_kept (once.GiveUp again at) (Woken n) b = omega arith
once_kept at r b = absurd b

once_late : (l : ℕ) (at : OncePlace) (key : ℕ) → late_key (Once l at) ≡ Some key
    → work_then once_work (once_next at Late) + 1 ≤ once_work at
once_late l (once.Look once_call.WaitTimed again look.Asleep) key h = omega arith
once_late l (once.Look (once_call.CallOnce forced) again look.Asleep) key h = absurd cc
once_late l (once.Look (once_call.Wait forced) again look.Asleep) key h = absurd cc
once_late l (once.Look c again at) key h = absurd cc
once_late l (once.Run forced (run.Take succeeded)) key h = absurd cc
once_late l (once.Run forced at) key h = absurd cc
once_late l (once.GiveUp again give_up.Remove) key h = absurd cc
once_late l (once.GiveUp again at) key h = absurd cc

-- ---------------------------------------------------------------- a semaphore

semaphore_kept : (at : SemaphorePlace) (r : Reply) → Befalls r
    → work_then semaphore_work (semaphore_next at r) ≤ semaphore_work at
semaphore_kept (semaphore.Acquire timed again acquire.Asleep) (TakenBy t) b = omega arith
semaphore_kept (semaphore.Acquire timed again at) (TakenBy t) b = omega arith
semaphore_kept (semaphore.Acquire timed again at) (MovedTo key) b = omega arith
semaphore_kept (semaphore.Acquire timed again at) (HandedBy t alone) b = omega arith
semaphore_kept (semaphore.Acquire timed again at) (Woken note.Normal) b = omega arith
semaphore_kept (semaphore.Acquire timed again at) (Woken note.HandOff) b = omega arith
semaphore_kept (semaphore.Try tries.Load) (TakenBy t) b = omega arith
semaphore_kept (semaphore.Try at) (TakenBy t) b = omega arith
semaphore_kept (semaphore.Try at) (MovedTo key) b = omega arith
semaphore_kept (semaphore.Try at) (HandedBy t alone) b = omega arith
semaphore_kept (semaphore.Try at) (Woken n) b = omega arith
semaphore_kept (semaphore.Release release.Take) (TakenBy t) b = omega arith
semaphore_kept (semaphore.Release at) (TakenBy t) b = omega arith
semaphore_kept (semaphore.Release at) (MovedTo key) b = omega arith
semaphore_kept (semaphore.Release at) (HandedBy t alone) b = omega arith
semaphore_kept (semaphore.Release at) (Woken n) b = omega arith
semaphore_kept at r b = absurd b

semaphore_late : (l : ℕ) (at : SemaphorePlace) (key : ℕ) → late_key (Semaphore l at) ≡ Some key
    → work_then semaphore_work (semaphore_next at Late) + 1 ≤ semaphore_work at
semaphore_late l (semaphore.Acquire timed again acquire.Asleep) key h = omega arith
semaphore_late l (semaphore.Acquire timed again at) key h = absurd cc
semaphore_late l (semaphore.Try tries.Load) key h = absurd cc
semaphore_late l (semaphore.Try at) key h = absurd cc
semaphore_late l (semaphore.Release release.Take) key h = absurd cc
semaphore_late l (semaphore.Release at) key h = absurd cc

-- ---------------------------------------------------------------- a condition variable

-- after its release a waiter has no more to do than one that sleeps
pub after_works : (s : WaiterFate) → wait_work (past_release s) ≤ 8
after_works (stands.Noted note.Normal) = omega arith
after_works (stands.Noted note.HandOff) = omega arith
after_works s = omega arith

wait_kept : (m : ℕ) (timed : Bool) (at : WaitAt) (r : Reply) → Befalls r → work_then condvar_work
    (condvar_next (condvar.Wait m timed at) r) ≤ wait_work at
wait_kept m timed (wait.Release s at) (TakenBy t) b = omega arith
wait_kept m timed (wait.Release s at) (MovedTo key) b = omega arith
wait_kept m timed (wait.Release s at) (HandedBy t alone) b = omega arith
wait_kept m timed (wait.Release s at) (Woken n) b = omega arith
wait_kept m timed (wait.Asleep s) (TakenBy t) b = omega arith
wait_kept m timed (wait.Asleep s) (MovedTo key) b = omega arith
wait_kept m timed (wait.Asleep s) (HandedBy t alone) b = omega arith
wait_kept m timed (wait.Asleep s) (Woken n) b = after_works (stands.Noted n)
wait_kept m timed (wait.Lock late at) r b = subst (λ n. n ≤ mutex_work at)
    (sym (relock_works m timed late (mutex_next at r))) (mutex_kept at r b)
wait_kept m timed at (TakenBy t) b = omega arith
wait_kept m timed at (MovedTo key) b = omega arith
wait_kept m timed at (HandedBy t alone) b = omega arith
wait_kept m timed at (Woken n) b = omega arith
wait_kept m timed at r b = absurd b

notify_kept : (all : Bool) (m : ℕ) (at : NotifyAt) (r : Reply) → Befalls r
    → work_then condvar_work (condvar_next (condvar.Notify all m at) r) ≤ condvar_work
    (condvar.Notify all m at)
notify_kept all m notify.Enter (TakenBy t) b = omega arith
notify_kept all m at (TakenBy t) b = omega arith
notify_kept all m at (MovedTo key) b = omega arith
notify_kept all m at (HandedBy t alone) b = omega arith
notify_kept all m at (Woken n) b = omega arith
notify_kept all m at r b = absurd b

condvar_kept : (at : CondvarPlace) (r : Reply) → Befalls r → work_then condvar_work (condvar_next at r)
    ≤ condvar_work at
condvar_kept (condvar.Wait m timed at) r b = wait_kept m timed at r b
condvar_kept (condvar.Notify all m at) r b = notify_kept all m at r b
condvar_kept (condvar.Look all) (TakenBy t) b = omega arith
condvar_kept (condvar.Look all) (MovedTo key) b = omega arith
condvar_kept (condvar.Look all) (HandedBy t alone) b = omega arith
condvar_kept (condvar.Look all) (Woken n) b = omega arith
condvar_kept (condvar.Look all) r b = absurd b

condvar_late : (l : ℕ) (at : CondvarPlace) (key : ℕ) → late_key (Condvar l at) ≡ Some key
    → work_then condvar_work (condvar_next at Late) + 1 ≤ condvar_work at
condvar_late l (condvar.Wait m true (wait.Asleep stands.Listed)) key h = omega arith
condvar_late l (condvar.Wait m true (wait.Asleep stands.Moved)) key h = omega arith
condvar_late l (condvar.Wait m false (wait.Asleep s)) key h = absurd cc
condvar_late l (condvar.Wait m timed at) key h = absurd cc
condvar_late l (condvar.Notify all m at) key h = absurd cc
condvar_late l (condvar.Look all) key h = absurd cc

-- ---------------------------------------------------------------- a reader-writer lock

abbrev place : RwLockPurpose → Bool → RwLockAt → RwLockPlace
place q again to = record { purpose = q; retries = again; at = to }

-- the thread goes on in the same call, with no more to do
record Stays (a : Admission) (q : RwLockPurpose) (again : Bool) (to : RwLockAt) (r : Reply) : Type 0 where
  pub again_now : Bool
  pub now : RwLockAt
  pub is : rwlock_next a (place q again to) r ≡ At (place q again_now now)
  pub less : rwlock_work now ≤ rwlock_work to

rwlock_stays : (a : Admission) (q : RwLockPurpose) (again : Bool) (to : RwLockAt) (r : Reply) → Befalls r
    → Stays a q again to r
rwlock_stays a q again (at.Park parking.Asleep) (TakenBy t) b = record {
  again_now = _;
  now = _;
  is = refl;
  less = omega arith;
}
rwlock_stays a q again (at.Aside parking.Asleep) (TakenBy t) b = record {
  again_now = _;
  now = _;
  is = refl;
  less = omega arith;
}
rwlock_stays a q again (at.Wake m waking.Take) (TakenBy t) b = record {
  again_now = _;
  now = _;
  is = refl;
  less = omega arith;
}
rwlock_stays a q again to (TakenBy t) b = record { again_now = _; now = _; is = refl; less = omega arith }
rwlock_stays a q again to (MovedTo key) b = record { again_now = _; now = _; is = refl; less = omega arith }
rwlock_stays a q again to (HandedBy t alone) b = record {
  again_now = _;
  now = _;
  is = refl;
  less = omega arith;
}
rwlock_stays a q again to (Woken note.Normal) b = record {
  again_now = _;
  now = _;
  is = refl;
  less = omega arith;
}
rwlock_stays a q again to (Woken note.HandOff) b = record {
  again_now = _;
  now = _;
  is = refl;
  less = omega arith;
}
rwlock_stays a q again to r b = absurd b

-- where it was handed the lock it has no more to do
abbrev HasLess : RwLockAt → Option RwLockCallPlace → Type 0
HasLess to None = Unit {0}
HasLess to (Some c) = call_work c ≤ rwlock_work to

handed_less : (bumps : Bool) (q : RwLockPurpose) (to : RwLockAt) (t : ℕ) (alone : Bool)
    → HasLess to (handed_by bumps q to t alone)
handed_less bumps (purpose.Enter x how) (at.Park (parking.Taken u)) t alone = omega arith
handed_less bumps (purpose.Enter x how) (at.Park to) t alone = tt
handed_less bumps (purpose.Enter x how) to t alone = tt
handed_less bumps q to t alone = tt

pub woken_less : (x : Access) (how : Patience) (bumps alone : Bool)
    → call_work (handed_woken x how bumps alone) ≤ 10
woken_less access.Exclusive how bumps true = omega arith
woken_less access.Exclusive how true false = omega arith
woken_less access.Exclusive how false false = omega arith
woken_less access.Upgradable how bumps alone = omega arith
woken_less access.Shared how bumps alone = omega arith

noted_less : (bumps : Bool) (q : RwLockPurpose) (to : RwLockAt) → HasLess to (woken_with bumps q to)
noted_less bumps (purpose.Enter x how) (at.Park parking.Asleep) = woken_less x how bumps false
noted_less bumps (purpose.Enter x how) (at.Park to) = tt
noted_less bumps (purpose.Enter x how) to = tt
noted_less bumps q to = tt

given_less : (bumps : Bool) (q : RwLockPurpose) (again : Bool) (to : RwLockAt) (r : Reply) → Befalls r
    → HasLess to (given bumps (place q again to) r)
given_less bumps q again to (TakenBy t) b = tt
given_less bumps q again to (MovedTo key) b = tt
given_less bumps q again to (HandedBy t alone) b = handed_less bumps q to t alone
given_less bumps q again to (Woken note.Normal) b = tt
given_less bumps q again to (Woken note.HandOff) b = noted_less bumps q to
given_less bumps q again to r b = absurd b

-- given or not
unless_less : (k more : ℕ) (to : RwLockAt) (o : Option RwLockCallPlace) (n : Next RwLockCallPlace)
    → HasLess to o → k ≡ more + rwlock_work to
    → work_then call_work n ≤ k → work_then call_work (unless_given o n) ≤ k
unless_less k more to None n given is less = less
unless_less k more to (Some c) n given is less = omega arith

plain_kept : (a : Admission) (q : RwLockPurpose) (again : Bool) (to : RwLockAt) (r : Reply) → Befalls r
    → work_then call_work (call_next a (fair.Plain (place q again to)) r) ≤ rwlock_work to
plain_kept a q again to r b = let stays = rwlock_stays a q again to r b in
    unless_less (rwlock_work to) 0 to (given false (place q again to) r) _ (given_less false q again to r b)
    (omega arith)
    (subst (λ n. work_then call_work (plain_next n) ≤ rwlock_work to) (sym stays.is) stays.less)

bump_kept : (a : Admission) (q : RwLockPurpose) (again : Bool) (to : RwLockAt) (r : Reply) → Befalls r
    → work_then call_work (call_next a (fair.Bump (place q again to)) r) ≤ work_after (is_release q) 10
    + rwlock_work to
bump_kept a q again to r b = let stays = rwlock_stays a q again to r b in let less : rwlock_work stays.now
    ≤ rwlock_work to = stays.less in
    unless_less (work_after (is_release q) 10 + rwlock_work to) (work_after (is_release q) 10) to
    (given true (place q again to) r) _ (given_less true q again to r b) refl
    (subst (λ n. work_then call_work (bump_next q n) ≤ work_after (is_release q) 10 + rwlock_work to)
    (sym stays.is) (omega arith))

hand_over_kept : (a : Admission) (x : Access) (bumps : Bool) (to : HandOverAt) (r : Reply) → Befalls r
    → work_then call_work (call_next a (fair.HandOver x bumps to) r) ≤ call_work (fair.HandOver x bumps to)
hand_over_kept a x bumps handing.Take (TakenBy t) b = omega arith
hand_over_kept a x bumps to (TakenBy t) b = omega arith
hand_over_kept a x bumps to (MovedTo key) b = omega arith
hand_over_kept a x bumps to (HandedBy t alone) b = omega arith
hand_over_kept a x bumps to (Woken n) b = omega arith
hand_over_kept a x bumps to r b = absurd b

handed_kept : (a : Admission) (x : Access) (how : Patience) (bumps : Bool) (to : HandedAt) (r : Reply)
    → Befalls r
    → work_then call_work (call_next a (fair.Handed x how bumps to) r) ≤ call_work
    (fair.Handed x how bumps to)
handed_kept a x how bumps (handed.Asleep by alone) (Woken note.HandOff) b = woken_less x how bumps alone
handed_kept a x how bumps (handed.Asleep by alone) (Woken note.Normal) b = omega arith
handed_kept a x how bumps to (TakenBy t) b = omega arith
handed_kept a x how bumps to (MovedTo key) b = omega arith
handed_kept a x how bumps to (HandedBy t lone) b = omega arith
handed_kept a x how bumps to (Woken n) b = omega arith
handed_kept a x how bumps to r b = absurd b

call_kept : (a : Admission) (c : RwLockCallPlace) (r : Reply) → Befalls r → work_then call_work
    (call_next a c r) ≤ call_work c
call_kept a (fair.Plain p) r b = plain_kept a p.purpose p.retries p.at r b
call_kept a (fair.Bump p) r b = bump_kept a p.purpose p.retries p.at r b
call_kept a (fair.HandOver x bumps to) r b = hand_over_kept a x bumps to r b
call_kept a (fair.Handed x how bumps to) r b = handed_kept a x how bumps to r b
call_kept a (fair.PeekQueue x) (TakenBy t) b = omega arith
call_kept a (fair.PeekQueue x) (MovedTo key) b = omega arith
call_kept a (fair.PeekQueue x) (HandedBy t alone) b = omega arith
call_kept a (fair.PeekQueue x) (Woken n) b = omega arith
call_kept a (fair.PeekQueue x) r b = absurd b

plain_late : (l : ℕ) (a : Admission) (q : RwLockPurpose) (again : Bool) (to : RwLockAt) (key : ℕ)
    → late_key (RwLock l a (fair.Plain (place q again to))) ≡ Some key
    → work_then call_work (call_next a (fair.Plain (place q again to)) Late) + 1 ≤ rwlock_work to
plain_late l a q again (at.Park parking.Asleep) key h = omega arith
plain_late l a q again (at.Aside parking.Asleep) key h = omega arith
plain_late l a q again to key h = absurd cc

bump_late : (l : ℕ) (a : Admission) (q : RwLockPurpose) (again : Bool) (to : RwLockAt) (key : ℕ)
    → late_key (RwLock l a (fair.Bump (place q again to))) ≡ Some key
    → work_then call_work (call_next a (fair.Bump (place q again to)) Late) + 1 ≤ work_after (is_release q) 10
    + rwlock_work to
bump_late l a q again (at.Park parking.Asleep) key h = omega arith
bump_late l a q again (at.Aside parking.Asleep) key h = omega arith
bump_late l a q again to key h = absurd cc

call_late : (l : ℕ) (a : Admission) (c : RwLockCallPlace) (key : ℕ) → late_key (RwLock l a c) ≡ Some key
    → work_then call_work (call_next a c Late) + 1 ≤ call_work c
call_late l a (fair.Plain p) key h = plain_late l a p.purpose p.retries p.at key h
call_late l a (fair.Bump p) key h = bump_late l a p.purpose p.retries p.at key h
call_late l a (fair.HandOver x bumps to) key h = absurd cc
call_late l a (fair.Handed x how bumps to) key h = absurd cc
call_late l a (fair.PeekQueue x) key h = absurd cc

-- ---------------------------------------------------------------- every place

pub kept : (p : Place) (r : Reply) → Befalls r → work (next_place p r) ≤ work p
kept Idle r b = omega arith
kept (Mutex l at) r b = subst (λ n. n ≤ mutex_work at) (sym (mutex_works l (mutex_next at r)))
    (mutex_kept at r b)
kept (RwLock l a c) r b = subst (λ n. n ≤ call_work c) (sym (rwlock_works l a (call_next a c r)))
    (call_kept a c r b)
kept (Once l at) r b = subst (λ n. n ≤ once_work at) (sym (once_works l (once_next at r))) (once_kept at r b)
kept (Condvar l at) r b = subst (λ n. n ≤ condvar_work at) (sym (condvar_works l (condvar_next at r)))
    (condvar_kept at r b)
kept (Semaphore l at) r b = subst (λ n. n ≤ semaphore_work at) (sym (semaphore_works l (semaphore_next at r)))
    (semaphore_kept at r b)

pub late : (p : Place) (key : ℕ) → late_key p ≡ Some key → work (next_place p Late) + 1 ≤ work p
late Idle key h = absurd cc
late (Mutex l at) key h = subst (λ n. n + 1 ≤ mutex_work at) (sym (mutex_works l (mutex_next at Late)))
    (mutex_late l at key h)
late (RwLock l a c) key h = subst (λ n. n + 1 ≤ call_work c) (sym (rwlock_works l a (call_next a c Late)))
    (call_late l a c key h)
late (Once l at) key h = subst (λ n. n + 1 ≤ once_work at) (sym (once_works l (once_next at Late)))
    (once_late l at key h)
late (Condvar l at) key h = subst (λ n. n + 1 ≤ condvar_work at)
    (sym (condvar_works l (condvar_next at Late))) (condvar_late l at key h)
late (Semaphore l at) key h = subst (λ n. n + 1 ≤ semaphore_work at)
    (sym (semaphore_works l (semaphore_next at Late))) (semaphore_late l at key h)
