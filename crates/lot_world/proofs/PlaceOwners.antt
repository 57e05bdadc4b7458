-- A call is of the lock that its place names.
use Rattle.std.proofs.Common.{ℕ, Bool, true, false, Some, if◌then◌else◌, ◌==◌, not, ◌≡◌, refl}
use Rattle.spec_locks.specs.Codes.{has_aside}
use Rattle.steps_base.specs.declared.acts.Act.{Act}
use Rattle.steps_base.specs.declared.acts.Act.TheVariants as act
use Rattle.spec_locks.specs.declared.calls.Access.{Access}
use Rattle.spec_locks.specs.declared.calls.Access.TheVariants as access
use Rattle.steps_mutex.specs.MutexSteps as steps
use Rattle.steps_mutex.specs.declared.lock.LockAt.{LockAt}
use Rattle.steps_mutex.specs.declared.lock.LockAt.TheVariants as lock
use Rattle.steps_mutex.specs.declared.unlock.UnlockAt.{UnlockAt}
use Rattle.steps_mutex.specs.declared.unlock.UnlockAt.TheVariants as unlock
use Rattle.steps_mutex.specs.declared.hand_off.HandOffAt.{HandOffAt}
use Rattle.steps_mutex.specs.declared.hand_off.HandOffAt.TheVariants as hand_off
use Rattle.steps_rwlock.specs.declared.enter.Decision.{Decision}
use Rattle.steps_rwlock.specs.declared.enter.Decision.TheVariants as decisions
use Rattle.steps_rwlock.specs.declared.park.ParkAt.TheVariants as parking
use Rattle.steps_rwlock.specs.declared.release.WakeAt.TheVariants as waking
use Rattle.steps_rwlock.specs.declared.places.RwLockAt.{RwLockAt}
use Rattle.steps_rwlock.specs.declared.places.RwLockAt.TheVariants as at
use Rattle.steps_rwlock.specs.RwLockSteps.{act_at, decided, decided_act}
use Rattle.steps_rwlock_fair.specs.declared.hand_over.HandOverAt.{HandOverAt}
use Rattle.steps_rwlock_fair.specs.declared.hand_over.HandOverAt.TheVariants as handing
use Rattle.steps_rwlock_fair.specs.declared.handed.HandedAt.{HandedAt}
use Rattle.steps_rwlock_fair.specs.declared.handed.HandedAt.TheVariants as handed
use Rattle.steps_rwlock_fair.specs.FairSteps.{hand_over_act, handed_act, has_room}
use Rattle.spec_locks.specs.Purposes.{lock_for}
use Rattle.steps_mutex.specs.declared.lock.Entry.TheVariants as entry
use Rattle.steps_mutex.specs.declared.places.MutexPlace.{MutexPlace}
use Rattle.steps_mutex.specs.declared.places.MutexPlace.TheVariants as mutex
use Rattle.steps_rwlock.specs.declared.places.Admission.{Admission}
use Rattle.steps_rwlock.specs.declared.purposes.RwLockPurpose.{RwLockPurpose}
use Rattle.steps_rwlock.specs.declared.purposes.RwLockPurpose.TheVariants as purpose
use Rattle.steps_rwlock.specs.RwLockProfiles.{purpose_by}
use Rattle.steps_rwlock_fair.specs.declared.places.RwLockCallPlace.{RwLockCallPlace}
use Rattle.steps_rwlock_fair.specs.declared.places.RwLockCallPlace.TheVariants.{Plain, PeekQueue, HandOver}
use Rattle.steps_rwlock_fair.specs.declared.places.RwLockCallPlace.TheVariants.{Bump}
use Rattle.steps_rwlock_fair.specs.declared.places.RwLockCallPlace.TheVariants.{Handed}
use Rattle.steps_rwlock_fair.specs.FairProfiles.{call_profile}
use Rattle.lot_steps.specs.declared.places.Place.{Place}
use Rattle.lot_steps.specs.declared.places.Place.TheVariants.{Idle, Mutex, RwLock, Once, Condvar, Semaphore}
use Rattle.lot_steps.specs.Steps.{act_of, called_lock, profile}
use Rattle.steps_mutex.specs.MutexProfiles.{mutex_profile}
use Rattle.lot_world.specs.Standing.{MayStandAt}

mutex_own : (l : ℕ) (at : MutexPlace) → lock_for ((mutex_profile at).purpose l) ≡ l
mutex_own l (mutex.Lock entry.Lock retries to) = refl
mutex_own l (mutex.Lock entry.LockTimed retries to) = refl
mutex_own l (mutex.Lock entry.Bump retries to) = refl
mutex_own l mutex.TryLock = refl
mutex_own l (mutex.Unlock to) = refl
mutex_own l mutex.UnlockFair = refl
mutex_own l mutex.Bump = refl
mutex_own l (mutex.HandOff true to) = refl
mutex_own l (mutex.HandOff false to) = refl

plain_own : (l : ℕ) (q : RwLockPurpose) → lock_for (purpose_by q l) ≡ l
plain_own l (purpose.Enter x how) = refl
plain_own l (purpose.Release x) = refl
plain_own l (purpose.Downgrade d) = refl
plain_own l (purpose.Upgrade how) = refl

call_own : (l : ℕ) (a : Admission) (c : RwLockCallPlace) → lock_for ((call_profile a c).purpose l) ≡ l
call_own l a (Plain p) = plain_own l p.purpose
call_own l a (Bump p) = refl
call_own l a (PeekQueue x) = refl
call_own l a (HandOver x true to) = refl
call_own l a (HandOver x false to) = refl
call_own l a (Handed x how true to) = refl
call_own l a (Handed x how false to) = refl

-- whether an act runs a closure
abbrev pub runs_closure : Act → Bool
runs_closure (act.Closure state) = true
runs_closure a = false

-- at the one lock
pub place_own : (p : Place) → MayStandAt p → called_lock p ≡ Some 0 → lock_for ((profile p).purpose 0) ≡ 0
place_own Idle stands of = absurd cc
place_own (Mutex l at) stands of = mutex_own 0 at
place_own (RwLock l a c) stands of = call_own 0 a c
place_own (Once l at) stands of = absurd stands
place_own (Semaphore l at) stands of = absurd stands
place_own (Condvar l at) stands of = absurd stands

-- ---------------------------------------------------------------- no call of such a lock runs a closure

decides_plain : (l : ℕ) (q : RwLockPurpose) (seen : ℕ) (d : Decision) → runs_closure (decided_act l q seen d)
    ≡ false
decides_plain l q seen decisions.Take = refl
decides_plain l q seen decisions.Mark = refl
decides_plain l q seen decisions.Park = refl
decides_plain l q seen (decisions.Refuse answer) = refl

either_plain : (b : Bool) (x y : Act) → runs_closure x ≡ false → runs_closure y ≡ false
    → runs_closure (if b then x else y) ≡ false
either_plain true x y h k = h
either_plain false x y h k = k

lock_plain : (l : ℕ) (to : LockAt) → runs_closure (steps.lock_act l to) ≡ false
lock_plain l (lock.Decide seen) = either_plain (not (steps.is_locked seen)) _ _ refl
    (either_plain (seen == 1) _ _ refl refl)
lock_plain l lock.Check = refl
lock_plain l to = refl

unlock_plain : (l : ℕ) (to : UnlockAt) → runs_closure (steps.unlock_act l to) ≡ false
unlock_plain l unlock.Take = refl
unlock_plain l to = refl

hand_off_plain : (l : ℕ) (to : HandOffAt) → runs_closure (steps.hand_off_act l to) ≡ false
hand_off_plain l (hand_off.Store true none_left) = refl
hand_off_plain l (hand_off.Store false none_left) = refl
hand_off_plain l to = refl

act_plain : (l : ℕ) (a : Admission) (q : RwLockPurpose) (b : Bool) (to : RwLockAt)
    → runs_closure (act_at l a (record { purpose = q; retries = b; at = to }) to) ≡ false
act_plain l a q b (at.Decide seen) = decides_plain l q seen (decided a (record {
  purpose = q;
  retries = b;
  at = at.Decide seen;
}) seen)
act_plain l a q b (at.Park parking.Check) = refl
act_plain l a q b (at.Park to) = refl
act_plain l a q b (at.Count seen) = either_plain (has_aside seen) _ _ refl refl
act_plain l a q b (at.Aside parking.Check) = refl
act_plain l a q b (at.Aside to) = refl
act_plain l a q b (at.Wake m waking.Enter) = refl
act_plain l a q b (at.Wake m to) = refl
act_plain l a q b to = refl

hand_over_plain : (l : ℕ) (a : Admission) (x : Access) (to : HandOverAt)
    → runs_closure (hand_over_act l a x to) ≡ false
hand_over_plain l a x (handing.Exchange k seen) = either_plain (has_room a.limit k seen) _ _ refl refl
hand_over_plain l a x handing.Load = refl
hand_over_plain l a x to = refl

handed_plain : (l : ℕ) (x : Access) (to : HandedAt) → runs_closure (handed_act l x to) ≡ false
handed_plain l x (handed.Asleep by alone) = refl
handed_plain l access.Exclusive handed.Accept = refl
handed_plain l x handed.Accept = refl

pub no_closure : (p : Place) → MayStandAt p → runs_closure (act_of p) ≡ false
no_closure Idle stands = refl
no_closure (Mutex l (mutex.Lock e retries to)) stands = lock_plain l to
no_closure (Mutex l mutex.TryLock) stands = refl
no_closure (Mutex l (mutex.Unlock to)) stands = unlock_plain l to
no_closure (Mutex l mutex.UnlockFair) stands = refl
no_closure (Mutex l mutex.Bump) stands = refl
no_closure (Mutex l (mutex.HandOff bumps to)) stands = hand_off_plain l to
no_closure (RwLock l a (Plain p)) stands = act_plain l a p.purpose p.retries p.at
no_closure (RwLock l a (Bump p)) stands = act_plain l a p.purpose p.retries p.at
no_closure (RwLock l a (PeekQueue x)) stands = refl
no_closure (RwLock l a (HandOver x b to)) stands = hand_over_plain l a x to
no_closure (RwLock l a (Handed x how b to)) stands = handed_plain l x to
no_closure (Once l to) stands = absurd stands
no_closure (Semaphore l to) stands = absurd stands
no_closure (Condvar l to) stands = absurd stands
