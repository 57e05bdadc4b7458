-- A thread has its place in a queue wherever it sleeps, or leaves the queue.
use Rattle.std.proofs.Common.{ℕ, ◌≡◌, ◌≢◌, ◌⊎◌, ◌==◌, ◌&&◌, Bool, true, false, not, if◌then◌else◌, List}
use Rattle.std.proofs.Common.{Option, Some, None, inl, inr, refl, sym, ap, ◌∙◌, subst}
use Rattle.std.proofs.lemmas.Bool.{false≢true}
use Rattle.core_base.specs.declared.notes.Note.TheVariants.{HandOff}
use Rattle.spec_locks.specs.declared.calls.Access.{Access}
use Rattle.spec_locks.specs.declared.calls.Access.TheVariants as access
use Rattle.spec_locks.specs.declared.calls.Patience.TheVariants.{Patient, Timed, Try}
use Rattle.spec_locks.specs.Codes.{is_running, has_aside}
use Rattle.steps_base.specs.declared.acts.Act.{Act}
use Rattle.steps_base.specs.declared.acts.Act.TheVariants as act
use Rattle.steps_base.specs.declared.acts.Next.{Next}
use Rattle.steps_base.specs.declared.acts.Next.TheVariants.{At, End}
use Rattle.steps_base.specs.declared.acts.Reply.{Reply}
use Rattle.steps_base.specs.declared.acts.Reply.TheVariants.{Done, Value, Took, Woken}
use Rattle.steps_base.specs.declared.acts.TakeWhich.TheVariants as whom
use Rattle.steps_mutex.specs.MutexSteps.{decided, is_locked, lock_act, mutex_act, mutex_respin, mutex_next}
use Rattle.steps_mutex.specs.MutexSteps.{unlock_act}
use Rattle.steps_mutex.specs.declared.places.MutexPlace.{MutexPlace}
use Rattle.steps_mutex.specs.declared.places.MutexPlace.TheVariants.{Lock, TryLock, Unlock, UnlockFair, Bump}
use Rattle.steps_mutex.specs.declared.places.MutexPlace.TheVariants.{HandOff}
use Rattle.steps_mutex.specs.declared.hand_off.HandOffAt.TheVariants as hand_off
use Rattle.steps_mutex.specs.declared.lock.Entry.{Entry}
use Rattle.steps_mutex.specs.declared.lock.Entry.TheVariants as entry
use Rattle.steps_mutex.specs.declared.lock.LockAt.{LockAt}
use Rattle.steps_mutex.specs.declared.lock.LockAt.TheVariants as lock
use Rattle.steps_mutex.specs.declared.unlock.UnlockAt.{UnlockAt}
use Rattle.steps_mutex.specs.declared.unlock.UnlockAt.TheVariants as unlock
use Rattle.steps_once.specs.OnceSteps as once
use Rattle.steps_once.specs.declared.places.OncePlace.{OncePlace}
use Rattle.steps_once.specs.declared.places.OncePlace.TheVariants as onces
use Rattle.steps_once.specs.declared.look.Course.{Course}
use Rattle.steps_once.specs.declared.look.Course.TheVariants.{Ends, Runs, Marks, Parks}
use Rattle.steps_once.specs.declared.look.LookAt.TheVariants as look
use Rattle.steps_once.specs.declared.run.RunAt.TheVariants as run
use Rattle.steps_once.specs.declared.give_up.GiveUpAt.TheVariants as give_up
use Rattle.steps_rwlock.specs.RwLockCalls.{StandsAt}
use Rattle.steps_rwlock.specs.RwLockProfiles.{gone_to, is_mark, looking_at, rwlock_respin}
use Rattle.steps_rwlock.specs.RwLockSteps as rw
use Rattle.steps_rwlock.specs.declared.enter.Decision.{Decision}
use Rattle.steps_rwlock.specs.declared.enter.Decision.TheVariants as decisions
use Rattle.steps_rwlock.specs.declared.park.ParkAt.TheVariants as parking
use Rattle.steps_rwlock.specs.declared.places.Admission.{Admission}
use Rattle.steps_rwlock.specs.declared.places.RwLockAt.{RwLockAt}
use Rattle.steps_rwlock.specs.declared.places.RwLockAt.TheVariants as at
use Rattle.steps_rwlock.specs.declared.places.RwLockPlace.{RwLockPlace}
use Rattle.steps_rwlock.specs.declared.purposes.RwLockPurpose.{RwLockPurpose}
use Rattle.steps_rwlock.specs.declared.purposes.RwLockPurpose.TheVariants as purpose
use Rattle.steps_rwlock.specs.declared.release.WakeAt.TheVariants as waking
use Rattle.steps_rwlock_fair.specs.FairProfiles.{call_respin, in_call}
use Rattle.steps_rwlock_fair.specs.FairSteps as fair
use Rattle.steps_rwlock_fair.specs.declared.handed.HandedAt.TheVariants as handed
use Rattle.steps_rwlock_fair.specs.declared.hand_over.HandOverAt.{HandOverAt}
use Rattle.steps_rwlock_fair.specs.declared.hand_over.HandOverAt.TheVariants as handing
use Rattle.steps_rwlock_fair.specs.declared.places.RwLockCallPlace.{RwLockCallPlace}
use Rattle.steps_rwlock_fair.specs.declared.places.RwLockCallPlace.TheVariants as places
use Rattle.steps_semaphore.specs.SemaphoreSteps as semaphores
use Rattle.steps_semaphore.specs.declared.places.SemaphorePlace.{SemaphorePlace}
use Rattle.steps_semaphore.specs.declared.places.SemaphorePlace.TheVariants as semaphore
use Rattle.steps_semaphore.specs.declared.acquire.AcquireAt.TheVariants as acquire
use Rattle.steps_semaphore.specs.declared.release.ReleaseAt.TheVariants as release
use Rattle.steps_semaphore.specs.declared.tries.TryAt.TheVariants as tries
use Rattle.steps_condvar.specs.CondvarSteps as condvar
use Rattle.steps_condvar.specs.declared.notify.NotifyAt.TheVariants as notify
use Rattle.steps_condvar.specs.declared.places.CondvarPlace.{CondvarPlace}
use Rattle.steps_condvar.specs.declared.places.CondvarPlace.TheVariants as condvars
use Rattle.steps_condvar.specs.declared.wait.WaiterFate.TheVariants as stands
use Rattle.steps_condvar.specs.declared.wait.WaitAt.{WaitAt}
use Rattle.steps_condvar.specs.declared.wait.WaitAt.TheVariants as wait
use Rattle.lot_steps.specs.Steps.{act_of, in_condvar, in_mutex, in_once, in_rwlock, in_semaphore}
use Rattle.lot_steps.specs.Steps.{respins_from}
use Rattle.lot_steps.specs.Steps.{next_place, mutex_goes, rwlock_goes, once_goes, condvar_goes}
use Rattle.lot_steps.specs.Steps.{semaphore_goes}
use Rattle.lot_steps.specs.declared.places.Place.{Place}
use Rattle.lot_steps.specs.declared.places.Place.TheVariants.{Idle, Mutex, RwLock, Once, Condvar, Semaphore}
use Rattle.core_words.specs.declared.owners.Ownership.{Ownership}
use Rattle.core_words.specs.declared.words.WordKind.{WordKind}
use Rattle.parking_lot_core.specs.declared.lot.ParkingLot.{ParkingLot}
use Rattle.parking_lot_core.specs.declared.places.QueuePlace.{QueuePlace}
use Rattle.run_base.specs.CondvarFitting.{FitsWait}
use Rattle.run_base.specs.Fitting.{Fits, sleeper_at}
use Rattle.run_base.specs.MutexFitting.{FitsLock, FitsMutex}
use Rattle.run_base.specs.OnceFitting.{FitsOnce}
use Rattle.run_base.specs.RwLockFitting.{FitsBump, FitsCall, awaits_right}
use Rattle.run_base.specs.SemaphoreFitting.{FitsSemaphore}
use Rattle.run_base.specs.Paths.{GoesFrom}
use Rattle.run_base.specs.Queued.{GoesOn, HasPlace, KeepsPlace, StaysQueued, gets_place, is_queued}
use Rattle.run_base.specs.Queued.{needs_place, spends_place}
use Rattle.run_base.specs.Stages.{Became, ThreadState}
use Rattle.run_base.specs.declared.sleepers.Sleeper.{Sleeper}
use Rattle.run_base.proofs.Queueing.{CallMayGo, CondvarMayGo, InNoHand, MayBeHanded, MutexInNoHand}
use Rattle.run_base.proofs.Queueing.{OnceInNoHand, SemaphoreInNoHand, WaitMayGo, after, beside_same, call_on}
use Rattle.run_base.proofs.Queueing.{call_queued, condvar_on, condvar_queued, mutex_on, mutex_queued, once_on}
use Rattle.run_base.proofs.Queueing.{once_queued, same, semaphore_on, semaphore_queued}

-- ---------------------------------------------------------------- what fits at a place

lock_free : (up : Type 0) (n : ℕ) (e : Entry) (owns : List Ownership) (at : LockAt) (st : ThreadState)
    → FitsLock up n e owns at st → InNoHand at
lock_free up n e owns (lock.Taken by) st fits = absurd fits
lock_free up n e owns (lock.Handed by) st fits = absurd fits
lock_free up n e owns at st fits = tt

mutex_free : (up : Type 0) (n : ℕ) (base : List Ownership) (at : MutexPlace) (st : ThreadState)
    → FitsMutex up n base at st → MutexInNoHand at
mutex_free up n base (Lock entry.Lock retries at) st fits = lock_free up n entry.Lock base at st fits
mutex_free up n base (Lock entry.LockTimed retries at) st fits = lock_free up n entry.LockTimed base at st
    fits
mutex_free up n base (Lock entry.Bump retries at) st fits = lock_free up n entry.Bump _ at st fits
mutex_free up n base at st fits = tt

once_free : (up : Type 0) (l : ℕ) (base : List Ownership) (at : OncePlace) (st : ThreadState)
    → FitsOnce up l base at st → OnceInNoHand at
once_free up l base (onces.Look c retries (look.Taken by)) st fits = absurd fits
once_free up l base at st fits = tt

semaphore_free : (up : Type 0) (l : ℕ) (base : List Ownership) (at : SemaphorePlace) (st : ThreadState)
    → FitsSemaphore up l base at st → SemaphoreInNoHand at
semaphore_free up l base (semaphore.Acquire timed retries (acquire.Taken by)) st fits = absurd fits
semaphore_free up l base at st fits = tt

module _ (up : Type 0) (kinds : ℕ → WordKind) (at' : ℕ → ℕ) (sleeper : Sleeper) (st new : ThreadState) where
  -- only a thread that goes on where it is handed the lock is woken so
  handed_over : (a : Act) (reply : Reply) → Became up kinds at' sleeper st a reply new → reply ≡ Woken HandOff
      → sleeper.takes_over ≡ true
  handed_over a reply b e = woken a (subst (λ (r : Reply). Became up kinds at' sleeper st a r new) e b)
    where
      woken : (a : Act) → Became up kinds at' sleeper st a (Woken HandOff) new → sleeper.takes_over ≡ true
      woken act.Sleep b = b.3
      woken (act.Take key whom.First) b = absurd b.0
      woken (act.Take key whom.All) b = absurd b.0
      woken (act.Take key (whom.Picked start recursive)) b = absurd b.0
      woken a b = absurd b

  -- a thread that releases its mutex is told nothing of others
  of_itself : (m : ℕ) (at : UnlockAt) (reply : Reply) → Became up kinds at' sleeper st (unlock_act m at) reply
      new → condvar.comes_from_another reply ≡ false
  of_itself m unlock.Subtract (Value seen) b = refl
  of_itself m unlock.Subtract reply b = absurd b
  of_itself m unlock.Enter Done b = refl
  of_itself m unlock.Enter reply b = absurd b
  of_itself m unlock.Take (Took any none_left) b = refl
  of_itself m unlock.Take reply b = absurd b.0
  of_itself m (unlock.Clear any) (Value seen) b = refl
  of_itself m (unlock.Clear any) reply b = absurd b
  of_itself m (unlock.Leave any) Done b = refl
  of_itself m (unlock.Leave any) reply b = absurd b

-- a thread that is handed a reader-writer lock in a queue enters there
may_be_handed_at : (q : RwLockPurpose) (again : Bool) (to : RwLockAt) (reply : Reply) → StandsAt q again to
    → (reply ≡ Woken HandOff → awaits_right to ≡ true) → MayBeHanded q to reply
may_be_handed_at (purpose.Enter x how) again (at.Park parking.Asleep) (Woken HandOff) stands waits = tt
may_be_handed_at (purpose.Release access.Shared) again (at.Park parking.Asleep) (Woken HandOff) stands waits =
    absurd stands
may_be_handed_at (purpose.Release access.Upgradable) again (at.Park parking.Asleep) (Woken HandOff) stands
    waits = absurd stands
may_be_handed_at (purpose.Release access.Exclusive) again (at.Park parking.Asleep) (Woken HandOff) stands
    waits = absurd stands
may_be_handed_at (purpose.Downgrade d) again (at.Park parking.Asleep) (Woken HandOff) stands waits =
    absurd stands
may_be_handed_at (purpose.Upgrade Patient) true (at.Park parking.Asleep) (Woken HandOff) stands waits =
    absurd stands
may_be_handed_at (purpose.Upgrade Patient) false (at.Park parking.Asleep) (Woken HandOff) stands waits =
    absurd stands
may_be_handed_at (purpose.Upgrade Timed) true (at.Park parking.Asleep) (Woken HandOff) stands waits =
    absurd stands
may_be_handed_at (purpose.Upgrade Timed) false (at.Park parking.Asleep) (Woken HandOff) stands waits =
    absurd stands
may_be_handed_at (purpose.Upgrade Try) true (at.Park parking.Asleep) (Woken HandOff) stands waits =
    absurd stands
may_be_handed_at (purpose.Upgrade Try) false (at.Park parking.Asleep) (Woken HandOff) stands waits =
    absurd stands
may_be_handed_at q again to (Woken HandOff) stands waits = absurd (false≢true (waits refl))
may_be_handed_at q again to reply stands waits = tt

gives_way_may : (q : RwLockPurpose) (reply : Reply) → reply ≢ Woken HandOff → MayBeHanded q at.GiveWay reply
gives_way_may (purpose.Enter x how) (Woken HandOff) calm = absurd (calm refl)
gives_way_may (purpose.Release x) (Woken HandOff) calm = absurd (calm refl)
gives_way_may (purpose.Downgrade d) (Woken HandOff) calm = absurd (calm refl)
gives_way_may (purpose.Upgrade how) (Woken HandOff) calm = absurd (calm refl)
gives_way_may q reply calm = tt

bump_stands : (up : Type 0) (l : ℕ) (base : List Ownership) (a : Admission) (p : RwLockPlace) (to : RwLockAt)
    (st : ThreadState) (reply : Reply) → FitsBump up l base a p to st → p.at ≡ to
    → (reply ≡ Woken HandOff → awaits_right to ≡ true) → MayBeHanded p.purpose to reply
bump_stands up l base a p at.GiveWay st reply fits e waits =
    gives_way_may p.purpose reply (λ is. false≢true (waits is))
bump_stands up l base a p to st reply fits e waits = may_be_handed_at p.purpose p.retries to reply
    (subst (StandsAt p.purpose p.retries) e fits.stands.place) waits

call_may : (up : Type 0) (l : ℕ) (base : List Ownership) (a : Admission) (c : RwLockCallPlace)
    (st : ThreadState)
    (reply : Reply) → FitsCall up l base a c st
    → (reply ≡ Woken HandOff → (sleeper_at (RwLock l a c)).takes_over ≡ true) → CallMayGo c reply
call_may up l base a (places.Plain p) st reply fits waits = may_be_handed_at p.purpose p.retries p.at reply
    fits.stands.place waits
call_may up l base a (places.Bump p) st reply fits waits = bump_stands up l base a p p.at st reply fits.1 refl
    waits
call_may up l base a (places.Handed access.Shared how b (handed.Asleep by alone)) st reply fits waits =
    absurd fits
call_may up l base a (places.Handed access.Upgradable how b (handed.Asleep by alone)) st reply fits waits =
    absurd fits
call_may up l base a (places.Handed access.Exclusive how b (handed.Asleep by alone)) st reply fits waits =
    absurd fits
call_may up l base a c st reply fits waits = tt

wait_may : (up : Type 0) (kinds : ℕ → WordKind) (at' : ℕ → ℕ) (sleeper : Sleeper) (c m : ℕ) (timed : Bool)
    (base : List Ownership) (at : WaitAt) (st new : ThreadState) (reply : Reply)
    → FitsWait up c m timed base at st
    → Became up kinds at' sleeper st (condvar.wait_act c m at) reply new → WaitMayGo at reply
wait_may up kinds at' sleeper c m timed base (wait.Release stands.Listed (Unlock at)) st new reply fits b =
    of_itself up kinds at' sleeper st new m at reply b
wait_may up kinds at' sleeper c m timed base (wait.Release s at) st new reply fits b = absurd fits
wait_may up kinds at' sleeper c m timed base (wait.Asleep stands.Listed) st new reply fits b = tt
wait_may up kinds at' sleeper c m timed base (wait.Asleep stands.Moved) st new reply fits b = tt
wait_may up kinds at' sleeper c m timed base (wait.Asleep s) st new reply fits b = absurd fits
wait_may up kinds at' sleeper c m timed base (wait.Lock late (Lock entry.Lock retries at)) st new reply fits
    b = lock_free up m entry.Lock _ at st fits.1
wait_may up kinds at' sleeper c m timed base (wait.Lock late at) st new reply fits b = absurd fits.1
wait_may up kinds at' sleeper c m timed base at st new reply fits b = tt

condvar_may : (up : Type 0) (kinds : ℕ → WordKind) (at' : ℕ → ℕ) (base : List Ownership) (l : ℕ)
    (at : CondvarPlace) (st new : ThreadState) (reply : Reply) → Fits up base (Condvar l at) st
    → Became up kinds at' (sleeper_at (Condvar l at)) st (condvar.condvar_act l at) reply new
    → CondvarMayGo at reply
condvar_may up kinds at' base l (condvars.Wait m timed at) st new reply fits b =
    wait_may up kinds at' (sleeper_at (Condvar l (condvars.Wait m timed at))) l m timed base at st new reply
    fits b
condvar_may up kinds at' base l (condvars.Look all) st new reply fits b = absurd fits
condvar_may up kinds at' base l (condvars.Notify all m at) st new reply fits b = tt

-- ---------------------------------------------------------------- from place to place

pub mutex_same : (l : ℕ) (n : Next MutexPlace) → is_queued (mutex_goes l n) ≡ after mutex_queued n
mutex_same l (At at) = refl
mutex_same l (End answer) = refl

pub call_same : (l : ℕ) (a : Admission) (n : Next RwLockCallPlace) → is_queued (rwlock_goes l a n)
    ≡ after (call_queued a) n
call_same l a (At at) = refl
call_same l a (End answer) = refl

pub once_same : (l : ℕ) (n : Next OncePlace) → is_queued (once_goes l n) ≡ after once_queued n
once_same l (At at) = refl
once_same l (End answer) = refl

pub condvar_same : (l : ℕ) (n : Next CondvarPlace) → is_queued (condvar_goes l n) ≡ after condvar_queued n
condvar_same l (At at) = refl
condvar_same l (End answer) = refl

pub semaphore_same : (l : ℕ) (n : Next SemaphorePlace) → is_queued (semaphore_goes l n) ≡ after
    semaphore_queued n
semaphore_same l (At at) = refl
semaphore_same l (End answer) = refl

never_handed : {reply : Reply} {b : Bool} → b ≡ false → (reply ≡ Woken HandOff → b ≡ true) → reply
    ≢ Woken HandOff
never_handed calm given e = false≢true (sym calm ∙ given e)

module _ (up : Type 0) (kinds : ℕ → WordKind) (at' : ℕ → ℕ) (base : List Ownership) (st new : ThreadState)
    (reply : Reply) where
  pub queued_on : (p : Place) → Fits up base p st → Became up kinds at' (sleeper_at p) st (act_of p) reply new
      → GoesOn (is_queued p) (is_queued (next_place p reply)) (act_of p) reply
  queued_on Idle fits b = absurd fits
  queued_on (Mutex l at) fits b = same _ _ _ _ _ _ refl (mutex_same l (mutex_next at reply))
      (mutex_on l at reply (mutex_free up l base at st fits))
  queued_on (RwLock l a c) fits b = same _ _ _ _ _ _ refl (call_same l a (fair.call_next a c reply))
      (call_on l a c reply (call_may up l base a c st reply fits
      (handed_over up kinds at' (sleeper_at (RwLock l a c)) st new (fair.call_act l a c) reply b)))
  queued_on (Once l at) fits b = same _ _ _ _ _ _ refl (once_same l (once.once_next at reply))
      (once_on l at reply (never_handed refl (handed_over up kinds at' (sleeper_at (Once l at)) st new
      (once.once_act l at) reply b)) (once_free up l base at st fits))
  queued_on (Condvar l at) fits b = same _ _ _ _ _ _ refl (condvar_same l (condvar.condvar_next at reply))
      (condvar_on l at reply (condvar_may up kinds at' base l at st new reply fits b))
  queued_on (Semaphore l at) fits b = same _ _ _ _ _ _ refl
      (semaphore_same l (semaphores.semaphore_next at reply))
      (semaphore_on l at reply (never_handed refl (handed_over up kinds at' (sleeper_at (Semaphore l at)) st
      new (semaphores.semaphore_act l at) reply b)) (semaphore_free up l base at st fits))

-- ---------------------------------------------------------------- acts by a place

neither : (b : Bool) (x y : Act) → needs_place x ≡ false → needs_place y ≡ false
    → needs_place (if b then x else y) ≡ false
neither true x y e f = e
neither false x y e f = f

none_needed : {A : Type 0} {b : Bool} → b ≡ false → b ≡ true → A
none_needed calm e = absurd (false≢true (sym calm ∙ e))

lock_needs : (l : ℕ) (e : Entry) (retries : Bool) (at : LockAt) → needs_place (lock_act l at) ≡ true
    → mutex_queued (Lock e retries at) ≡ true
lock_needs l e retries lock.Asleep needs = refl
lock_needs l e retries (lock.Taken by) needs = refl
lock_needs l e retries (lock.Handed by) needs = refl
lock_needs l e retries lock.Remove needs = refl
lock_needs l e retries (lock.Decide seen) needs =
    none_needed (neither (not (is_locked seen)) _ _ refl (neither (seen == 1) _ _ refl refl)) needs
lock_needs l e retries at needs = none_needed refl needs

mutex_needs : (l : ℕ) (at : MutexPlace) → needs_place (mutex_act l at) ≡ true → mutex_queued at ≡ true
mutex_needs l (Lock e retries at) needs = lock_needs l e retries at needs
mutex_needs l TryLock needs = none_needed refl needs
mutex_needs l (Unlock unlock.Subtract) needs = none_needed refl needs
mutex_needs l (Unlock unlock.Enter) needs = none_needed refl needs
mutex_needs l (Unlock unlock.Take) needs = none_needed refl needs
mutex_needs l (Unlock (unlock.Clear any)) needs = none_needed refl needs
mutex_needs l (Unlock (unlock.Leave any)) needs = none_needed refl needs
mutex_needs l UnlockFair needs = none_needed refl needs
mutex_needs l Bump needs = none_needed refl needs
mutex_needs l (HandOff bumps hand_off.Enter) needs = none_needed refl needs
mutex_needs l (HandOff bumps hand_off.Take) needs = none_needed refl needs
mutex_needs l (HandOff bumps (hand_off.Store true none_left)) needs = none_needed refl needs
mutex_needs l (HandOff bumps (hand_off.Store false none_left)) needs = none_needed refl needs
mutex_needs l (HandOff bumps (hand_off.Leave any)) needs = none_needed refl needs

decided_needs : (l : ℕ) (q : RwLockPurpose) (seen : ℕ) (d : Decision)
    → needs_place (rw.decided_act l q seen d) ≡ false
decided_needs l q seen decisions.Take = refl
decided_needs l q seen decisions.Mark = refl
decided_needs l q seen decisions.Park = refl
decided_needs l q seen (decisions.Refuse answer) = refl

rw_needs : (l : ℕ) (a : Admission) (p : RwLockPlace) (to : RwLockAt) → p.at ≡ to
    → needs_place (rw.act_at l a p to) ≡ true → call_queued a (places.Plain (record p { at = to })) ≡ true
rw_needs l a p (at.Decide seen) e needs = none_needed (decided_needs l p.purpose seen (rw.decided a p seen))
    needs
rw_needs l a p (at.Count seen) e needs = none_needed (neither (has_aside seen) _ _ refl refl) needs
rw_needs l a p (at.Park parking.Asleep) e needs = refl
rw_needs l a p (at.Park (parking.Taken by)) e needs = refl
rw_needs l a p (at.Park parking.Remove) e needs = refl
rw_needs l a p (at.Park to) e needs = none_needed refl needs
rw_needs l a p (at.Aside parking.Asleep) e needs = refl
rw_needs l a p (at.Aside (parking.Taken by)) e needs = refl
rw_needs l a p (at.Aside parking.Remove) e needs = refl
rw_needs l a p (at.Aside to) e needs = none_needed refl needs
rw_needs l a p (at.Wake m waking.Enter) e needs = none_needed refl needs
rw_needs l a p (at.Wake m waking.Take) e needs = none_needed refl needs
rw_needs l a p (at.Wake m (waking.Clear any)) e needs = none_needed refl needs
rw_needs l a p (at.Wake m (waking.Leave any)) e needs = none_needed refl needs
rw_needs l a p to e needs = none_needed refl needs

hands_over_needs : (l : ℕ) (a : Admission) (x : Access) (to : HandOverAt)
    → needs_place (fair.hand_over_act l a x to) ≡ false
hands_over_needs l a x (handing.Exchange k seen) = neither (fair.has_room a.limit k seen) _ _ refl refl
hands_over_needs l a x to = refl

call_needs : (l : ℕ) (a : Admission) (c : RwLockCallPlace) → needs_place (fair.call_act l a c) ≡ true
    → call_queued a c ≡ true
call_needs l a (places.Plain p) needs = rw_needs l a p p.at refl needs
call_needs l a (places.Bump p) needs = rw_needs l a p p.at refl needs
call_needs l a (places.PeekQueue x) needs = none_needed refl needs
call_needs l a (places.HandOver x b to) needs = none_needed (hands_over_needs l a x to) needs
call_needs l a (places.Handed x how b (handed.Asleep by alone)) needs = refl
call_needs l a (places.Handed access.Exclusive how b handed.Accept) needs = none_needed refl needs
call_needs l a (places.Handed access.Shared how b handed.Accept) needs = none_needed refl needs
call_needs l a (places.Handed access.Upgradable how b handed.Accept) needs = none_needed refl needs

course_needs : (l v : ℕ) (course : Course) → needs_place (once.course_act l v course) ≡ false
course_needs l v (Ends answer) = refl
course_needs l v Runs = refl
course_needs l v Marks = refl
course_needs l v Parks = refl

once_needs : (l : ℕ) (at : OncePlace) → needs_place (once.once_act l at) ≡ true → once_queued at ≡ true
once_needs l (onces.Look c retries look.Asleep) needs = refl
once_needs l (onces.Look c retries (look.Taken by)) needs = refl
once_needs l (onces.Look c retries (look.Decide seen)) needs =
    none_needed (course_needs l seen (once.course_of c seen)) needs
once_needs l (onces.Look c retries at) needs = none_needed refl needs
once_needs l (onces.Run forced (run.Closure poisoned)) needs = none_needed refl needs
once_needs l (onces.Run forced (run.Close succeeded)) needs = none_needed refl needs
once_needs l (onces.Run forced (run.Enter succeeded)) needs = none_needed refl needs
once_needs l (onces.Run forced (run.Take succeeded)) needs = none_needed refl needs
once_needs l (onces.Run forced (run.Leave succeeded any)) needs = none_needed refl needs
once_needs l (onces.GiveUp retries give_up.Remove) needs = refl
once_needs l (onces.GiveUp retries give_up.Clear) needs = none_needed refl needs
once_needs l (onces.GiveUp retries give_up.Leave) needs = none_needed refl needs

semaphore_needs : (l : ℕ) (at : SemaphorePlace) → needs_place (semaphores.semaphore_act l at) ≡ true
    → semaphore_queued at ≡ true
semaphore_needs l (semaphore.Acquire timed retries acquire.Asleep) needs = refl
semaphore_needs l (semaphore.Acquire timed retries (acquire.Taken by)) needs = refl
semaphore_needs l (semaphore.Acquire timed retries acquire.Remove) needs = refl
semaphore_needs l (semaphore.Acquire timed retries (acquire.Decide seen)) needs =
    none_needed (neither (semaphores.is_free seen) _ _ refl (neither (seen == 0) _ _ refl refl)) needs
semaphore_needs l (semaphore.Acquire timed retries at) needs = none_needed refl needs
semaphore_needs l (semaphore.Try tries.Load) needs = none_needed refl needs
semaphore_needs l (semaphore.Try (tries.Decide seen)) needs =
    none_needed (neither (semaphores.is_free seen) _ _ refl refl) needs
semaphore_needs l (semaphore.Release release.Add) needs = none_needed refl needs
semaphore_needs l (semaphore.Release release.Enter) needs = none_needed refl needs
semaphore_needs l (semaphore.Release release.Take) needs = none_needed refl needs
semaphore_needs l (semaphore.Release (release.Clear any)) needs = none_needed refl needs
semaphore_needs l (semaphore.Release (release.Leave any)) needs = none_needed refl needs

moves_need : (all locked : Bool) (c m : ℕ) → needs_place (condvar.move_act all locked c m) ≡ false
moves_need true locked c m = refl
moves_need false true c m = refl
moves_need false false c m = refl

wait_needs : (up : Type 0) (c m : ℕ) (timed : Bool) (base : List Ownership) (at : WaitAt) (st : ThreadState)
    → FitsWait up c m timed base at st → needs_place (condvar.wait_act c m at) ≡ true
    → condvar_queued (condvars.Wait m timed at) ≡ true
wait_needs up c m timed base (wait.Asleep stands.Listed) st fits needs = refl
wait_needs up c m timed base (wait.Asleep stands.Moved) st fits needs = refl
wait_needs up c m timed base (wait.Asleep s) st fits needs = absurd fits
wait_needs up c m timed base wait.Remove st fits needs = refl
wait_needs up c m timed base wait.RemoveMoved st fits needs = refl
wait_needs up c m timed base (wait.Release stands.Listed at) st fits needs = refl
wait_needs up c m timed base (wait.Release s at) st fits needs = absurd fits
wait_needs up c m timed base (wait.Lock late at) st fits needs = beside_same m timed late at
    ∙ mutex_needs m at needs
wait_needs up c m timed base at st fits needs = none_needed refl needs

condvar_needs : (up : Type 0) (base : List Ownership) (l : ℕ) (at : CondvarPlace) (st : ThreadState)
    → Fits up base (Condvar l at) st → needs_place (condvar.condvar_act l at) ≡ true → condvar_queued at
    ≡ true
condvar_needs up base l (condvars.Wait m timed at) st fits needs = wait_needs up l m timed base at st fits
    needs
condvar_needs up base l (condvars.Look all) st fits needs = absurd fits
condvar_needs up base l (condvars.Notify all m (notify.Move locked)) st fits needs =
    none_needed (moves_need all locked l m) needs
condvar_needs up base l (condvars.Notify all m at) st fits needs = none_needed refl needs

-- a thread that sleeps, or leaves its queue, is queued there
pub needs_queue : (up : Type 0) (base : List Ownership) (p : Place) (st : ThreadState) → Fits up base p st
    → needs_place (act_of p) ≡ true → is_queued p ≡ true
needs_queue up base Idle st fits needs = absurd fits
needs_queue up base (Mutex l at) st fits needs = mutex_needs l at needs
needs_queue up base (RwLock l a c) st fits needs = call_needs l a c needs
needs_queue up base (Once l at) st fits needs = once_needs l at needs
needs_queue up base (Condvar l at) st fits needs = condvar_needs up base l at st fits needs
needs_queue up base (Semaphore l at) st fits needs = semaphore_needs l at needs

-- ---------------------------------------------------------------- looks in place of acts

abbrev if_there : {A : Type 0} → (A → Bool) → Option A → Bool
if_there queued None = false
if_there queued (Some x) = queued x

pick_off : {A : Type 0} (queued : A → Bool) (b : Bool) (x : A) → queued x ≡ false
    → if_there queued (if b then Some x else None) ≡ false
pick_off queued true x e = e
pick_off queued false x e = refl

mutex_looks : (at : MutexPlace) → if_there mutex_queued (mutex_respin at) ≡ false
mutex_looks (Lock e retries (lock.Decide seen)) = pick_off mutex_queued (seen == 1) _ refl
mutex_looks (Lock e retries at) = refl
mutex_looks at = refl

rw_looks : (a : Admission) (p : RwLockPlace) (to : RwLockAt) → if_there (λ q. call_queued a (places.Plain q))
    (gone_to p (looking_at a p to)) ≡ false
rw_looks a p (at.Decide seen) = gone_off (is_mark (rw.decided a p seen) && not (has_aside seen))
  where
    gone_off : (b : Bool) → if_there (λ q. call_queued a (places.Plain q))
        (gone_to p (if b then Some at.Load else None)) ≡ false
    gone_off true = refl
    gone_off false = refl
rw_looks a p (at.Count seen) = refl
rw_looks a p to = refl

in_call_off : (a : Admission) (b : Bool) (o : Option RwLockPlace) → if_there (call_queued a) (in_call b o)
    ≡ if_there (λ q. call_queued a (places.Plain q)) o
in_call_off a b None = refl
in_call_off a true (Some q) = refl
in_call_off a false (Some q) = refl

call_looks : (a : Admission) (c : RwLockCallPlace) → if_there (call_queued a) (call_respin a c) ≡ false
call_looks a (places.Plain p) = in_call_off a false (rwlock_respin a p) ∙ rw_looks a p p.at
call_looks a (places.Bump p) = in_call_off a true (rwlock_respin a p) ∙ rw_looks a p p.at
call_looks a c = refl

once_looks : (at : OncePlace) → if_there once_queued (once.once_respin at) ≡ false
once_looks (onces.Look c retries (look.Decide seen)) = pick_off once_queued
    (is_running seen && once.is_mark (once.course_of c seen)) _ refl
once_looks (onces.Look c retries at) = refl
once_looks at = refl

semaphore_looks : (at : SemaphorePlace) → if_there semaphore_queued (semaphores.semaphore_respin at) ≡ false
semaphore_looks (semaphore.Acquire timed retries (acquire.Decide seen)) = pick_off semaphore_queued
    (seen == 0) _ refl
semaphore_looks (semaphore.Acquire timed retries at) = refl
semaphore_looks at = refl

in_wait_off : (m : ℕ) (timed late : Bool) (o : Option MutexPlace)
    → if_there condvar_queued (condvar.in_lock m timed late o) ≡ if_there mutex_queued o
in_wait_off m timed late None = refl
in_wait_off m timed late (Some at) = beside_same m timed late at

condvar_looks : (at : CondvarPlace) → if_there condvar_queued (condvar.condvar_respin at) ≡ false
condvar_looks (condvars.Wait m timed (wait.Lock late at)) = in_wait_off m timed late (mutex_respin at)
    ∙ mutex_looks at
condvar_looks (condvars.Wait m timed at) = refl
condvar_looks at = refl

mutex_there : (l : ℕ) (o : Option MutexPlace) → if_there is_queued (in_mutex l o) ≡ if_there mutex_queued o
mutex_there l None = refl
mutex_there l (Some at) = refl

call_there : (l : ℕ) (a : Admission) (o : Option RwLockCallPlace) → if_there is_queued (in_rwlock l a o)
    ≡ if_there (call_queued a) o
call_there l a None = refl
call_there l a (Some at) = refl

once_there : (l : ℕ) (o : Option OncePlace) → if_there is_queued (in_once l o) ≡ if_there once_queued o
once_there l None = refl
once_there l (Some at) = refl

condvar_there : (l : ℕ) (o : Option CondvarPlace) → if_there is_queued (in_condvar l o) ≡ if_there
    condvar_queued o
condvar_there l None = refl
condvar_there l (Some at) = refl

semaphore_there : (l : ℕ) (o : Option SemaphorePlace) → if_there is_queued (in_semaphore l o)
    ≡ if_there semaphore_queued o
semaphore_there l None = refl
semaphore_there l (Some at) = refl

looks_off : (p : Place) → if_there is_queued (respins_from p) ≡ false
looks_off Idle = refl
looks_off (Mutex l at) = mutex_there l (mutex_respin at) ∙ mutex_looks at
looks_off (RwLock l a c) = call_there l a (call_respin a c) ∙ call_looks a c
looks_off (Once l at) = once_there l (once.once_respin at) ∙ once_looks at
looks_off (Condvar l at) = condvar_there l (condvar.condvar_respin at) ∙ condvar_looks at
looks_off (Semaphore l at) = semaphore_there l (semaphores.semaphore_respin at) ∙ semaphore_looks at

-- a thread that goes on from where it looks is not queued there
pub queued_from : (p q : Place) → GoesFrom p q → is_queued q ≡ true → is_queued p ≡ true
queued_from p q (inl e) queued = subst (λ (r : Place). is_queued r ≡ true) e queued
queued_from p q (inr e) queued = none_needed (sym (ap (if_there is_queued) e) ∙ looks_off p) queued

-- a step on a word queues nobody
pub unqueued_after : (p : Place) (seen : ℕ)
    → (GoesOn (is_queued p) (is_queued (next_place p (Value seen))) (act_of p) (Value seen))
    → is_queued p ≡ false → is_queued (next_place p (Value seen)) ≡ false
unqueued_after p seen goes calm = not_true (is_queued (next_place p (Value seen)))
    (λ queued. by_goes (goes queued))
  where
    not_true : (b : Bool) → (b ≡ true → ⊥) → b ≡ false
    not_true true h = absurd (h refl)
    not_true false h = refl

    gets_none : (a : Act) → gets_place a (Value seen) ≡ true → ⊥
    gets_none (act.Park _ _ _ _) e = false≢true e
    gets_none (act.Stand _ _) e = false≢true e
    gets_none a e = false≢true e

    by_goes : (gets_place (act_of p) (Value seen) ≡ true) ⊎ ((spends_place (act_of p) (Value seen) ≡ false)
        × (is_queued p ≡ true)) → ⊥
    by_goes (inl e) = gets_none (act_of p) e
    by_goes (inr e) = false≢true (sym calm ∙ e.1)

-- tells of the place that a thread has after its act
pub keeps_on : (lot : ParkingLot) (n : ℕ) (a : Act) (reply : Reply) (old new : Option QueuePlace)
    (was is : Bool) → GoesOn was is a reply → KeepsPlace lot n a reply old new
    → (was ≡ true → HasPlace lot n old) → is ≡ true → HasPlace lot n new
keeps_on lot n a reply old new was is goes keeps had queued = by_goes (goes queued)
  where
    by_goes : (gets_place a reply ≡ true) ⊎ ((spends_place a reply ≡ false) × (was ≡ true))
        → HasPlace lot n new
    by_goes (inl e) = keeps.0 e
    by_goes (inr e) = keeps.1 e.0 (had e.1)

-- a turn at what fits there
pub stays_queued : (up : Type 0) (kinds : ℕ → WordKind) (at' : ℕ → ℕ) (base : List Ownership) (p : Place)
    (st new : ThreadState) (reply : Reply)
    → Fits up base p st → Became up kinds at' (sleeper_at p) st (act_of p) reply new → StaysQueued p reply
stays_queued up kinds at' base p st new reply fits became =
    (needs_queue up base p st fits, queued_on up kinds at' base st new reply p fits became)
