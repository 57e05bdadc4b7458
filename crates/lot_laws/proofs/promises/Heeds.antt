-- A sleeper whose time was up is in a wait that has given up: no other call sleeps once it is late.
use Rattle.lot_laws.proofs.Imports
use Imports.{ℕ, Bool, true, false, Some, ◌≡◌, inl, inr, refl, sym, ◌∙◌, ap, subst, Want, Line, Main, Second}
use Imports.{Rights, Waits, Sleep, MutexPlace, mutex_act, RwLockCallPlace, call_act, call_profile}
use Imports.{CondvarPlace, Wait, Look, Notify, WaitAt, condvar_act, wait_act, IsReached, Place, act_of, State}
use Imports.{place_at, call_state, locks_of, sleeps, IsInductive}
use Rattle.steps_mutex.specs.MutexProfiles.{mutex_profile}
use Rattle.steps_mutex.specs.declared.lock.LockAt.{LockAt}
use Rattle.steps_mutex.specs.declared.lock.LockAt.TheVariants as lock
use Rattle.steps_mutex.specs.declared.places.MutexPlace.TheVariants as mutex
use Rattle.steps_rwlock.specs.RwLockProfiles.{enters_late, is_late, late_at}
use Rattle.steps_rwlock.specs.RwLockSteps.{act_at, park_act, want_at}
use Rattle.steps_rwlock.specs.declared.park.ParkAt.{ParkAt}
use Rattle.steps_rwlock.specs.declared.park.ParkAt.TheVariants as parking
use Rattle.steps_rwlock.specs.declared.places.Admission.{Admission}
use Rattle.steps_rwlock.specs.declared.places.RwLockAt.{RwLockAt}
use Rattle.steps_rwlock.specs.declared.places.RwLockAt.TheVariants as at
use Rattle.steps_rwlock.specs.declared.places.RwLockPlace.{RwLockPlace}
use Rattle.steps_rwlock.specs.declared.purposes.RwLockPurpose.{RwLockPurpose}
use Rattle.steps_rwlock.specs.declared.purposes.RwLockPurpose.TheVariants as purpose
use Rattle.steps_rwlock.specs.declared.release.WakeAt.{WakeAt}
use Rattle.steps_rwlock.specs.declared.release.WakeAt.TheVariants as waking
use Rattle.steps_rwlock_fair.specs.declared.places.RwLockCallPlace.TheVariants as fair
use Rattle.steps_once.specs.OnceProfiles.{once_profile}
use Rattle.steps_once.specs.OnceSteps.{once_act}
use Rattle.steps_once.specs.declared.give_up.GiveUpAt.TheVariants as give_up
use Rattle.steps_once.specs.declared.look.LookAt.TheVariants as look
use Rattle.steps_once.specs.declared.places.OncePlace.{OncePlace}
use Rattle.steps_once.specs.declared.places.OncePlace.TheVariants as once
use Rattle.steps_once.specs.declared.run.RunAt.TheVariants as run
use Rattle.steps_semaphore.specs.SemaphoreProfiles.{semaphore_profile}
use Rattle.steps_semaphore.specs.SemaphoreSteps.{semaphore_act}
use Rattle.steps_semaphore.specs.declared.acquire.AcquireAt.TheVariants as acquire
use Rattle.steps_semaphore.specs.declared.places.SemaphorePlace.{SemaphorePlace}
use Rattle.steps_semaphore.specs.declared.places.SemaphorePlace.TheVariants as semaphore
use Rattle.steps_semaphore.specs.declared.release.ReleaseAt.TheVariants as release
use Rattle.steps_condvar.specs.declared.wait.WaitAt.TheVariants as wait
use Rattle.lot_steps.specs.declared.places.Place.TheVariants as places
use Rattle.spec_locks.specs.Runs.{HeedsItsTime}
use Rattle.lot_laws.proofs.calls.CallEvents.{rights}
use Rattle.lot_laws.proofs.condvar.LetsGo.{asleep_is, no_sleep}
use Rattle.lot_laws.proofs.machine.Parts.{IsSingle, fits_two, single_or_two}

-- ---------------------------------------------------------------- calls of one lock

by_mutex : (l : ℕ) (at : MutexPlace) → mutex_act l at ≡ Sleep → (mutex_profile at).late ≡ false
by_mutex l (mutex.Lock e retries at) is = by_lock at is
  where
    by_lock : (at : LockAt) → mutex_act l (mutex.Lock e retries at) ≡ Sleep
        → (mutex_profile (mutex.Lock e retries at)).late ≡ false
    by_lock lock.Asleep is = refl
    by_lock (lock.Taken by) is = refl
    by_lock (lock.Handed by) is = refl
    by_lock lock.First is = refl
    by_lock lock.Load is = refl
    by_lock (lock.Decide seen) is = refl
    by_lock lock.Check is = refl
    by_lock (lock.Leave parked) is = refl
    by_lock lock.Accept is = refl
    by_lock lock.Remove is = absurd cc
    by_lock lock.Clear is = absurd cc
    by_lock lock.GiveUp is = absurd cc
by_mutex l mutex.TryLock is = refl
by_mutex l (mutex.Unlock at) is = refl
by_mutex l mutex.UnlockFair is = refl
by_mutex l mutex.Bump is = refl
by_mutex l (mutex.HandOff bumps at) is = refl

by_parking : (l : ℕ) (a : Admission) (x : Want) (m : Line) (to : ParkAt) → park_act l a x m to ≡ Sleep
    → is_late to ≡ false
by_parking l a x m parking.Asleep is = refl
by_parking l a x m (parking.Taken by) is = refl
by_parking l a x m to is = absurd cc

by_waking : (l : ℕ) (a : Admission) (p : RwLockPlace) (m : Line) (to : WakeAt)
    → act_at l a p (at.Wake m to) ≡ Sleep → ⊥
by_waking l a p m waking.Enter is = cc
by_waking l a p m waking.Take is = cc
by_waking l a p m (waking.Clear any) is = cc
by_waking l a p m (waking.Leave any) is = cc

enters : (l : ℕ) (a : Admission) (p : RwLockPlace) (to : RwLockAt) → act_at l a p to ≡ Sleep
    → enters_late is_late to ≡ false
enters l a p (at.Park to) is = by_parking l a (want_at p) Main to is
enters l a p (at.Aside to) is = by_parking l a (want_at p) Second to is
enters l a p at.RollBack is = absurd cc
enters l a p (at.Wake m to) is = absurd (by_waking l a p m to is)
enters l a p to is = refl

by_rwlock : (l : ℕ) (a : Admission) (p : RwLockPlace) → act_at l a p p.at ≡ Sleep
    → late_at is_late p.purpose p.at ≡ false
by_rwlock l a p is = by_purpose p.purpose
  where
    by_purpose : (q : RwLockPurpose) → late_at is_late q p.at ≡ false
    by_purpose (purpose.Enter x how) = enters l a p p.at is
    by_purpose (purpose.Upgrade how) = enters l a p p.at is
    by_purpose (purpose.Release x) = refl
    by_purpose (purpose.Downgrade d) = refl

by_call : (l : ℕ) (a : Admission) (c : RwLockCallPlace) → call_act l a c ≡ Sleep
    → (call_profile a c).late ≡ false
by_call l a (fair.Plain p) is = by_rwlock l a p is
by_call l a (fair.Bump p) is = by_rwlock l a p is
by_call l a (fair.PeekQueue x) is = refl
by_call l a (fair.HandOver x b to) is = refl
by_call l a (fair.Handed x how b to) is = refl

by_once : (l : ℕ) (at : OncePlace) → once_act l at ≡ Sleep → (once_profile at).late ≡ false
by_once l (once.Look c retries look.Asleep) is = refl
by_once l (once.Look c retries (look.Taken by)) is = refl
by_once l (once.Look c retries look.Load) is = refl
by_once l (once.Look c retries (look.Decide seen)) is = refl
by_once l (once.Look c retries look.Check) is = refl
by_once l (once.Look c retries (look.Leave parked)) is = refl
by_once l (once.Run forced (run.Closure poisoned)) is = refl
by_once l (once.Run forced (run.Close succeeded)) is = refl
by_once l (once.Run forced (run.Enter succeeded)) is = refl
by_once l (once.Run forced (run.Take succeeded)) is = refl
by_once l (once.Run forced (run.Leave succeeded any)) is = refl
by_once l (once.GiveUp retries give_up.Remove) is = absurd cc
by_once l (once.GiveUp retries give_up.Clear) is = absurd cc
by_once l (once.GiveUp retries give_up.Leave) is = absurd cc

by_semaphore : (l : ℕ) (at : SemaphorePlace) → semaphore_act l at ≡ Sleep
    → (semaphore_profile at).late ≡ false
by_semaphore l (semaphore.Acquire timed retries acquire.Load) is = refl
by_semaphore l (semaphore.Acquire timed retries (acquire.Decide seen)) is = refl
by_semaphore l (semaphore.Acquire timed retries acquire.Check) is = refl
by_semaphore l (semaphore.Acquire timed retries (acquire.Leave parked)) is = refl
by_semaphore l (semaphore.Acquire timed retries acquire.Asleep) is = refl
by_semaphore l (semaphore.Acquire timed retries (acquire.Taken by)) is = refl
by_semaphore l (semaphore.Acquire timed retries acquire.Remove) is = absurd cc
by_semaphore l (semaphore.Acquire timed retries acquire.Clear) is = absurd cc
by_semaphore l (semaphore.Acquire timed retries acquire.GiveUp) is = absurd cc
by_semaphore l (semaphore.Try at) is = refl
by_semaphore l (semaphore.Release release.Add) is = refl
by_semaphore l (semaphore.Release release.Enter) is = refl
by_semaphore l (semaphore.Release release.Take) is = refl
by_semaphore l (semaphore.Release (release.Clear any)) is = refl
by_semaphore l (semaphore.Release (release.Leave any)) is = refl

by_single : (p : Place) (r : ℕ → Rights) → IsSingle p → act_of p ≡ Sleep → (call_state p r).late ≡ false
by_single places.Idle r single is = refl
by_single (places.Mutex l at) r single is = by_mutex l at is
by_single (places.RwLock l a c) r single is = by_call l a c is
by_single (places.Once l at) r single is = by_once l at is
by_single (places.Semaphore l at) r single is = by_semaphore l at is
by_single (places.Condvar l at) r single is = absurd single

-- ---------------------------------------------------------------- calls of a condition variable

-- the call is a wait that has given up
abbrev HasGivenUp : Place → (ℕ → Rights) → Type 0
HasGivenUp p r = (l m : ℕ) × ((call_state p r).purpose ≡ Some (Waits l m true))
    × ((call_state p r).gave_up ≡ Some l)

by_wait : (l m : ℕ) (timed : Bool) (at : WaitAt) (r : ℕ → Rights) → IsReached (Wait m timed at)
    → wait_act l m at ≡ Sleep → (call_state (places.Condvar l (Wait m timed at)) r).late ≡ true
    → HasGivenUp (places.Condvar l (Wait m timed at)) r
by_wait l m timed (wait.Lock true at) r reached is late =
    (l, m, ap (λ b. Some (Waits l m b)) (reached.0 refl), refl)
by_wait l m timed (wait.Release s at) r reached is late = absurd (no_sleep m at reached.0 is)
by_wait l m timed at r reached is late = absurd cc

by_place : (l : ℕ) (at : CondvarPlace) (r : ℕ → Rights) → IsReached at → condvar_act l at ≡ Sleep
    → (call_state (places.Condvar l at) r).late ≡ true → HasGivenUp (places.Condvar l at) r
by_place l (Wait m timed at) r reached is late = by_wait l m timed at r reached is late
by_place l (Look all) r reached is late = absurd cc
by_place l (Notify all m at) r reached is late = absurd cc

-- ---------------------------------------------------------------- each thread

pub heeds : (w : State) → IsInductive w → (t : ℕ) → HeedsItsTime (locks_of w) t
heeds w inductive t asleep late = elim (single_or_two (place_at w t)) [
  | inl single ↦ absurd (let f : false ≡ true = sym (by_single (place_at w t) (rights w t) single is)
      ∙ late in cc)
  | inr two ↦ subst (λ p. HasGivenUp p (rights w t)) (sym two.is) (by_place two.lock two.at (rights w t)
      (fits_two w t inductive two).reached (sym (ap act_of two.is) ∙ is)
      (sym (ap (λ p. (call_state p (rights w t)).late) two.is) ∙ late))
]
  where
    is : act_of (place_at w t) ≡ Sleep
    is = asleep_is (act_of (place_at w t)) asleep
