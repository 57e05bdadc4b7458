-- Each exchange of a word is by what a look saw, or a try.
use Rattle.std.proofs.Common.{ℕ, Bool, true, false, Option, Some, None, if◌then◌else◌, ◌==◌, not, ◌≡◌, ◌⊎◌}
use Rattle.std.proofs.Common.{inl, inr, refl, is_some, sym, ◌∙◌, ◌+◌, ◌-◌, ◌*◌}
use Rattle.core_base.specs.declared.keys.Keys.TheVariants as keys
use Rattle.core_base.specs.declared.keys.Line.{Line}
use Rattle.core_base.specs.declared.keys.Line.TheVariants as lines
use Rattle.core_base.specs.declared.ops.Op.TheVariants as op
use Rattle.core_base.specs.declared.wants.Want.{Want}
use Rattle.spec_locks.specs.declared.calls.Access.{Access}
use Rattle.spec_locks.specs.declared.calls.Access.TheVariants as access
use Rattle.spec_locks.specs.declared.calls.Downgrade.TheVariants as downgrade
use Rattle.spec_locks.specs.Codes.{has_aside}
use Rattle.steps_base.specs.declared.acts.Act.{Act}
use Rattle.steps_base.specs.declared.acts.Act.TheVariants as act
use Rattle.steps_mutex.specs.declared.hand_off.HandOffAt.TheVariants as hand_off
use Rattle.steps_mutex.specs.declared.lock.LockAt.TheVariants as lock
use Rattle.steps_mutex.specs.declared.places.MutexPlace.{MutexPlace}
use Rattle.steps_mutex.specs.declared.places.MutexPlace.TheVariants as mutex
use Rattle.steps_mutex.specs.declared.unlock.UnlockAt.TheVariants as unlock
use Rattle.steps_mutex.specs.MutexSteps.{is_locked, mutex_act}
use Rattle.steps_semaphore.specs.declared.acquire.AcquireAt.TheVariants as acquire
use Rattle.steps_semaphore.specs.declared.places.SemaphorePlace.{SemaphorePlace}
use Rattle.steps_semaphore.specs.declared.places.SemaphorePlace.TheVariants as semaphore
use Rattle.steps_semaphore.specs.declared.release.ReleaseAt.TheVariants as release
use Rattle.steps_semaphore.specs.declared.tries.TryAt.TheVariants as tries
use Rattle.steps_semaphore.specs.SemaphoreSteps.{is_free, semaphore_act}
use Rattle.steps_once.specs.declared.give_up.GiveUpAt.TheVariants as give_up
use Rattle.steps_once.specs.declared.look.Course.{Course}
use Rattle.steps_once.specs.declared.look.Course.TheVariants as course
use Rattle.steps_once.specs.declared.look.LookAt.TheVariants as look
use Rattle.steps_once.specs.declared.places.OncePlace.{OncePlace}
use Rattle.steps_once.specs.declared.places.OncePlace.TheVariants as once
use Rattle.steps_once.specs.declared.run.RunAt.TheVariants as run
use Rattle.steps_once.specs.OnceSteps.{course_act, course_of, once_act}
use Rattle.steps_rwlock.specs.declared.enter.Decision.{Decision}
use Rattle.steps_rwlock.specs.declared.enter.Decision.TheVariants as decisions
use Rattle.steps_rwlock.specs.declared.park.ParkAt.{ParkAt}
use Rattle.steps_rwlock.specs.declared.park.ParkAt.TheVariants as parking
use Rattle.steps_rwlock.specs.declared.places.Admission.{Admission}
use Rattle.steps_rwlock.specs.declared.places.RwLockAt.{RwLockAt}
use Rattle.steps_rwlock.specs.declared.places.RwLockAt.TheVariants as at
use Rattle.steps_rwlock.specs.declared.places.RwLockPlace.{RwLockPlace}
use Rattle.steps_rwlock.specs.declared.purposes.RwLockPurpose.{RwLockPurpose}
use Rattle.steps_rwlock.specs.declared.purposes.RwLockPurpose.TheVariants as purpose
use Rattle.steps_rwlock.specs.declared.release.WakeAt.{WakeAt}
use Rattle.steps_rwlock.specs.declared.release.WakeAt.TheVariants as waking
use Rattle.steps_rwlock.specs.RwLockProfiles.{gone_to}
use Rattle.steps_rwlock.specs.RwLockSteps.{act_at, decided, decided_act, exchange, give_op, park_act, plus}
use Rattle.steps_rwlock.specs.RwLockSteps.{rollback_op, wake_act}
use Rattle.steps_rwlock_fair.specs.declared.hand_over.HandOverAt.{HandOverAt}
use Rattle.steps_rwlock_fair.specs.declared.hand_over.HandOverAt.TheVariants as handing
use Rattle.steps_rwlock_fair.specs.declared.handed.HandedAt.TheVariants as handed
use Rattle.steps_rwlock_fair.specs.declared.places.RwLockCallPlace.{RwLockCallPlace}
use Rattle.steps_rwlock_fair.specs.declared.places.RwLockCallPlace.TheVariants as call
use Rattle.steps_rwlock_fair.specs.FairProfiles.{in_call}
use Rattle.steps_rwlock_fair.specs.FairSteps.{accept_act, call_act, hand_over_act}
use Rattle.steps_condvar.specs.declared.notify.NotifyAt.TheVariants as notify
use Rattle.steps_condvar.specs.declared.places.CondvarPlace.{CondvarPlace}
use Rattle.steps_condvar.specs.declared.places.CondvarPlace.TheVariants as condvar
use Rattle.steps_condvar.specs.declared.wait.WaitAt.TheVariants as wait
use Rattle.steps_condvar.specs.CondvarCalls.{IsReached}
use Rattle.steps_condvar.specs.CondvarSteps.{condvar_act, in_lock, move_act}
use Rattle.lot_steps.specs.declared.places.Place.TheVariants.{Idle, Mutex, RwLock, Once, Condvar, Semaphore}
use Rattle.lot_steps.specs.Steps.{in_condvar, in_mutex, in_once, in_rwlock, in_semaphore}
use Rattle.lot_misses.specs.Looks.{EachExchangeIsKnown, call_looked, call_tries, condvar_looked}
use Rattle.lot_misses.specs.Looks.{condvar_tries, is_exchange, mutex_looked, mutex_tries, once_looked}
use Rattle.lot_misses.specs.Looks.{once_looked_by, rwlock_looked, rwlock_looked_by, rwlock_tries}
use Rattle.lot_misses.specs.Looks.{semaphore_looked}

-- if this act is an exchange, a look comes before it, or it is a try
abbrev Known : {A : Type 0} → Act → Option A → Bool → Type 0
Known y o is_try = is_exchange y ≡ true → (is_some o ≡ true) ⊎ (is_try ≡ true)

-- through a function that keeps what is there
through : {A B : Type 0} (g : Option A → Option B) → ((o : Option A) → is_some (g o) ≡ is_some o)
    → (y : Act) (o : Option A) (b : Bool) → Known y o b → Known y (g o) b
through g keeps y o b known h = elim (known h) [
  | inl there ↦ inl (keeps o ∙ there)
  | inr is ↦ inr is
]

-- nothing is both
not_both : (b : Bool) → b ≡ false → b ≡ true → ⊥
not_both b none some = let f : false ≡ true = sym none ∙ some in cc

-- ---------------------------------------------------------------- mutexes

mutex_known : (l : ℕ) (p : MutexPlace) → Known (mutex_act l p) (mutex_looked p) (mutex_tries p)
mutex_known l (mutex.Lock e r lock.First) h = inr refl
mutex_known l (mutex.Lock e r lock.Load) h = cc
mutex_known l (mutex.Lock e r (lock.Decide seen)) h = decides (is_locked seen) (seen == 1) h
  where
    decides : (a b : Bool) → Known (if not a then act.Word l (op.Exchange seen (seen + 1)) else if b then
        act.Word l (op.Exchange 1 3) else act.Enter (keys.One (2 * l))) (if not a then
        Some (mutex.Lock e r lock.Load) else if b then Some (mutex.Lock e r lock.Load) else None) false
    decides false b h = inl refl
    decides true true h = inl refl
    decides true false h = cc
mutex_known l (mutex.Lock e r lock.Check) h = cc
mutex_known l (mutex.Lock e r (lock.Leave parked)) h = cc
mutex_known l (mutex.Lock e r lock.Asleep) h = cc
mutex_known l (mutex.Lock e r (lock.Taken by)) h = cc
mutex_known l (mutex.Lock e r (lock.Handed by)) h = cc
mutex_known l (mutex.Lock e r lock.Accept) h = cc
mutex_known l (mutex.Lock e r lock.Remove) h = cc
mutex_known l (mutex.Lock e r lock.Clear) h = cc
mutex_known l (mutex.Lock e r lock.GiveUp) h = cc
mutex_known l mutex.TryLock h = cc
mutex_known l (mutex.Unlock unlock.Subtract) h = cc
mutex_known l (mutex.Unlock unlock.Enter) h = cc
mutex_known l (mutex.Unlock unlock.Take) h = cc
mutex_known l (mutex.Unlock (unlock.Clear any)) h = cc
mutex_known l (mutex.Unlock (unlock.Leave any)) h = cc
mutex_known l mutex.UnlockFair h = inr refl
mutex_known l mutex.Bump h = cc
mutex_known l (mutex.HandOff bumps hand_off.Enter) h = cc
mutex_known l (mutex.HandOff bumps hand_off.Take) h = cc
mutex_known l (mutex.HandOff bumps (hand_off.Store true none_left)) h = cc
mutex_known l (mutex.HandOff bumps (hand_off.Store false none_left)) h = cc
mutex_known l (mutex.HandOff bumps (hand_off.Leave any)) h = cc

-- ---------------------------------------------------------------- semaphores

semaphore_known : (l : ℕ) (p : SemaphorePlace) → Known (semaphore_act l p) (semaphore_looked p) false
semaphore_known l (semaphore.Acquire timed r acquire.Load) h = cc
semaphore_known l (semaphore.Acquire timed r (acquire.Decide seen)) h = decides (is_free seen) (seen == 0) h
  where
    decides : (a b : Bool) → Known (if a then act.Word l (op.Exchange seen (seen - 2)) else if b then
        act.Word l (op.Exchange 0 1) else act.Enter (keys.One (2 * l))) (if a then
        Some (semaphore.Acquire timed r acquire.Load) else if b then
        Some (semaphore.Acquire timed r acquire.Load) else None) false
    decides true b h = inl refl
    decides false true h = inl refl
    decides false false h = cc
semaphore_known l (semaphore.Acquire timed r acquire.Check) h = cc
semaphore_known l (semaphore.Acquire timed r (acquire.Leave parked)) h = cc
semaphore_known l (semaphore.Acquire timed r acquire.Asleep) h = cc
semaphore_known l (semaphore.Acquire timed r (acquire.Taken by)) h = cc
semaphore_known l (semaphore.Acquire timed r acquire.Remove) h = cc
semaphore_known l (semaphore.Acquire timed r acquire.Clear) h = cc
semaphore_known l (semaphore.Acquire timed r acquire.GiveUp) h = cc
semaphore_known l (semaphore.Try tries.Load) h = cc
semaphore_known l (semaphore.Try (tries.Decide seen)) h = inl refl
semaphore_known l (semaphore.Release release.Add) h = cc
semaphore_known l (semaphore.Release release.Enter) h = cc
semaphore_known l (semaphore.Release release.Take) h = cc
semaphore_known l (semaphore.Release (release.Clear any)) h = cc
semaphore_known l (semaphore.Release (release.Leave any)) h = cc

-- ---------------------------------------------------------------- calls of a `Once`

once_known : (l : ℕ) (p : OncePlace) → Known (once_act l p) (once_looked p) false
once_known l (once.Look c r look.Load) h = cc
once_known l (once.Look c r (look.Decide seen)) h = decides (course_of c seen) h
  where
    decides : (x : Course) → Known (course_act l seen x) (once_looked_by c r x) false
    decides (course.Ends answer) h = cc
    decides course.Runs h = inl refl
    decides course.Marks h = inl refl
    decides course.Parks h = cc
once_known l (once.Look c r look.Check) h = cc
once_known l (once.Look c r (look.Leave parked)) h = cc
once_known l (once.Look c r look.Asleep) h = cc
once_known l (once.Look c r (look.Taken by)) h = cc
once_known l (once.Run forced (run.Closure poisoned)) h = cc
once_known l (once.Run forced (run.Close succeeded)) h = cc
once_known l (once.Run forced (run.Enter succeeded)) h = cc
once_known l (once.Run forced (run.Take succeeded)) h = cc
once_known l (once.Run forced (run.Leave succeeded any)) h = cc
once_known l (once.GiveUp r give_up.Remove) h = cc
once_known l (once.GiveUp r give_up.Clear) h = cc
once_known l (once.GiveUp r give_up.Leave) h = cc

-- ---------------------------------------------------------------- reader-writer locks

module _ (l : ℕ) (a : Admission) where
  -- parking and waking are no exchanges
  parks : (x : Want) (m : Line) (to : ParkAt) → is_exchange (park_act l a x m to) ≡ false
  parks x m parking.Check = refl
  parks x m (parking.Leave parked) = refl
  parks x m parking.Asleep = refl
  parks x m (parking.Taken by) = refl
  parks x m parking.Remove = refl
  parks x lines.Main parking.Clear = refl
  parks x lines.Second parking.Clear = refl
  parks x m parking.GiveUp = refl

  wakes : (q : RwLockPurpose) (m : Line) (to : WakeAt) → is_exchange (wake_act l a q m to) ≡ false
  wakes q m waking.Enter = refl
  wakes q m waking.Take = refl
  wakes q lines.Main (waking.Clear any) = refl
  wakes q lines.Second (waking.Clear any) = refl
  wakes q m (waking.Leave any) = refl

  gives : (q : RwLockPurpose) → is_exchange (act.Word l (give_op q)) ≡ false
  gives (purpose.Enter x how) = refl
  gives (purpose.Release x) = refl
  gives (purpose.Downgrade downgrade.ToShared) = refl
  gives (purpose.Downgrade downgrade.ToUpgradable) = refl
  gives (purpose.Downgrade downgrade.UpgradableToShared) = refl
  gives (purpose.Upgrade how) = refl

  rolls : (q : RwLockPurpose) → is_exchange (act.Word l (rollback_op q)) ≡ false
  rolls (purpose.Enter x how) = refl
  rolls (purpose.Release x) = refl
  rolls (purpose.Downgrade d) = refl
  rolls (purpose.Upgrade how) = refl

  place_known : (p : RwLockPlace) (to : RwLockAt)
      → Known (act_at l a p to) (rwlock_looked a p to) (rwlock_tries to)
  place_known p at.First h = inr refl
  place_known p at.Load h = cc
  place_known p (at.Decide seen) h = decides (decided a p seen) h
    where
      decides : (d : Decision) → Known (decided_act l p.purpose seen d) (rwlock_looked_by d) false
      decides decisions.Take h = inl refl
      decides decisions.Mark h = inl refl
      decides decisions.Park h = cc
      decides (decisions.Refuse answer) h = cc
  place_known p (at.Park to) h = absurd (not_both _ (parks _ lines.Main to) h)
  place_known p at.Look h = cc
  place_known p (at.Count seen) h = counts (has_aside seen) h
    where
      counts : (b : Bool) → Known (if b then act.Enter (keys.One (2 * l + 1)) else exchange l seen
          (plus seen 2))
          (if b then None else Some at.Look) false
      counts true h = cc
      counts false h = inl refl
  place_known p at.Marked h = cc
  place_known p (at.Aside to) h = absurd (not_both _ (parks _ lines.Second to) h)
  place_known p at.RollBack h = absurd (not_both _ (rolls p.purpose) h)
  place_known p at.GiveWay h = absurd (not_both _ (gives p.purpose) h)
  place_known p (at.Wake m to) h = absurd (not_both _ (wakes p.purpose m to) h)

  call_there : (bumps : Bool) (p : RwLockPlace) (o : Option RwLockAt)
      → is_some (in_call bumps (gone_to p o)) ≡ is_some o
  call_there bumps p None = refl
  call_there bumps p (Some to) = refl

  hands : (x : Access) (b : Bool) (to : HandOverAt)
      → Known (hand_over_act l a x to) (call_looked a (call.HandOver x b to))
      (call_tries (call.HandOver x b to))
  hands x b handing.Load h = cc
  hands access.Shared b (handing.Free seen) h = inr refl
  hands access.Upgradable b (handing.Free seen) h = inl refl
  hands access.Exclusive b (handing.Free seen) h = inr refl
  hands x b handing.Enter h = cc
  hands x b handing.Take h = cc
  hands x b (handing.Store k) h = cc
  hands x b (handing.Look k) h = cc
  hands x b (handing.Exchange k seen) h = inl refl
  hands x b (handing.Leave any handed) h = cc

  accepts : (x : Access) → is_exchange (accept_act l x) ≡ false
  accepts access.Shared = refl
  accepts access.Upgradable = refl
  accepts access.Exclusive = refl

  call_known : (c : RwLockCallPlace) → Known (call_act l a c) (call_looked a c) (call_tries c)
  call_known (call.Plain p) h = through (λ o. in_call false (gone_to p o)) (call_there false p)
      (act_at l a p p.at) (rwlock_looked a p p.at) (rwlock_tries p.at)
      (place_known p p.at) h
  call_known (call.Bump p) h = through (λ o. in_call true (gone_to p o)) (call_there true p)
      (act_at l a p p.at) (rwlock_looked a p p.at) (rwlock_tries p.at)
      (place_known p p.at) h
  call_known (call.PeekQueue x) h = cc
  call_known (call.HandOver x b to) h = hands x b to h
  call_known (call.Handed x how b (handed.Asleep by alone)) h = cc
  call_known (call.Handed x how b handed.Accept) h = absurd (not_both _ (accepts x) h)

-- ---------------------------------------------------------------- condition variables

moves : (all locked : Bool) (l m : ℕ) → is_exchange (move_act all locked l m) ≡ false
moves true locked l m = refl
moves false true l m = refl
moves false false l m = refl

lock_there : (m : ℕ) (timed timed_out : Bool) (o : Option MutexPlace)
    → is_some (in_lock m timed timed_out o) ≡ is_some o
lock_there m timed timed_out None = refl
lock_there m timed timed_out (Some p) = refl

condvar_known : (l : ℕ) (p : CondvarPlace) → IsReached p
    → Known (condvar_act l p) (condvar_looked p) (condvar_tries p)
condvar_known l (condvar.Wait m timed wait.Enter) reached h = cc
condvar_known l (condvar.Wait m timed wait.Show) reached h = inr refl
condvar_known l (condvar.Wait m timed wait.Stand) reached h = cc
condvar_known l (condvar.Wait m timed wait.Leave) reached h = cc
condvar_known l (condvar.Wait m timed wait.Refuse) reached h = cc
condvar_known l (condvar.Wait m timed (wait.Release s (mutex.Lock e r at))) reached h = absurd reached.0
condvar_known l (condvar.Wait m timed (wait.Release s mutex.TryLock)) reached h = absurd reached.0
condvar_known l (condvar.Wait m timed (wait.Release s (mutex.Unlock unlock.Subtract))) reached h = cc
condvar_known l (condvar.Wait m timed (wait.Release s (mutex.Unlock unlock.Enter))) reached h = cc
condvar_known l (condvar.Wait m timed (wait.Release s (mutex.Unlock unlock.Take))) reached h = cc
condvar_known l (condvar.Wait m timed (wait.Release s (mutex.Unlock (unlock.Clear any)))) reached h = cc
condvar_known l (condvar.Wait m timed (wait.Release s (mutex.Unlock (unlock.Leave any)))) reached h = cc
condvar_known l (condvar.Wait m timed (wait.Release s mutex.UnlockFair)) reached h = absurd reached.0
condvar_known l (condvar.Wait m timed (wait.Release s mutex.Bump)) reached h = absurd reached.0
condvar_known l (condvar.Wait m timed (wait.Release s (mutex.HandOff bumps at))) reached h = absurd reached.0
condvar_known l (condvar.Wait m timed (wait.Asleep s)) reached h = cc
condvar_known l (condvar.Wait m timed wait.Remove) reached h = cc
condvar_known l (condvar.Wait m timed wait.Hide) reached h = cc
condvar_known l (condvar.Wait m timed wait.GiveUp) reached h = cc
condvar_known l (condvar.Wait m timed wait.RemoveMoved) reached h = cc
condvar_known l (condvar.Wait m timed (wait.GiveUpMoved none_left)) reached h = cc
condvar_known l (condvar.Wait m timed (wait.Lock timed_out at)) reached h =
    through (in_lock m timed timed_out) (lock_there m timed timed_out) (mutex_act m at) (mutex_looked at)
    (mutex_tries at) (mutex_known m at) h
condvar_known l (condvar.Look all) reached h = cc
condvar_known l (condvar.Notify all m notify.Enter) reached h = cc
condvar_known l (condvar.Notify all m notify.Again) reached h = cc
condvar_known l (condvar.Notify all m notify.Hide) reached h = cc
condvar_known l (condvar.Notify all m notify.Mark) reached h = cc
condvar_known l (condvar.Notify all m (notify.Set seen)) reached h = inl refl
condvar_known l (condvar.Notify all m (notify.Move locked)) reached h =
    absurd (let f : false ≡ true = sym (moves all locked l m) ∙ h in cc)
condvar_known l (condvar.Notify all m (notify.Clear any)) reached h = cc
condvar_known l (condvar.Notify all m (notify.MarkMoved number)) reached h = cc
condvar_known l (condvar.Notify all m (notify.Leave any number)) reached h = cc

-- ---------------------------------------------------------------- every place

in_mutex_there : (l : ℕ) (o : Option MutexPlace) → is_some (in_mutex l o) ≡ is_some o
in_mutex_there l None = refl
in_mutex_there l (Some p) = refl

in_rwlock_there : (l : ℕ) (a : Admission) (o : Option RwLockCallPlace) → is_some (in_rwlock l a o) ≡ is_some o
in_rwlock_there l a None = refl
in_rwlock_there l a (Some p) = refl

in_once_there : (l : ℕ) (o : Option OncePlace) → is_some (in_once l o) ≡ is_some o
in_once_there l None = refl
in_once_there l (Some p) = refl

in_condvar_there : (l : ℕ) (o : Option CondvarPlace) → is_some (in_condvar l o) ≡ is_some o
in_condvar_there l None = refl
in_condvar_there l (Some p) = refl

in_semaphore_there : (l : ℕ) (o : Option SemaphorePlace) → is_some (in_semaphore l o) ≡ is_some o
in_semaphore_there l None = refl
in_semaphore_there l (Some p) = refl

pub each_is_known : EachExchangeIsKnown
each_is_known Idle may h = cc
each_is_known (Mutex l p) may h = through (in_mutex l) (in_mutex_there l) (mutex_act l p) (mutex_looked p)
    (mutex_tries p) (mutex_known l p) h
each_is_known (RwLock l a c) may h = through (in_rwlock l a) (in_rwlock_there l a) (call_act l a c)
    (call_looked a c) (call_tries c) (call_known l a c) h
each_is_known (Once l p) may h = through (in_once l) (in_once_there l) (once_act l p) (once_looked p) false
    (once_known l p) h
each_is_known (Condvar l p) may h = through (in_condvar l) (in_condvar_there l) (condvar_act l p)
    (condvar_looked p) (condvar_tries p) (condvar_known l p may)
    h
each_is_known (Semaphore l p) may h =
    through (in_semaphore l) (in_semaphore_there l) (semaphore_act l p) (semaphore_looked p) false
    (semaphore_known l p) h
