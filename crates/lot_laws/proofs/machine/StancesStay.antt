-- A thread that is awake stands as it does, whatever befalls it as long as its own turn doesn't come.
use Rattle.lot_laws.proofs.Imports
use Imports.{ℕ, Bool, true, false, Option, Some, None, if◌then◌else◌, ◌==◌, ◌≡◌, ◌≢◌, refl, sym, ◌∙◌, ap}
use Imports.{get_or-set_other, is_some, One, Step, Turn, Status, Act, Sleep, At, Reply, TakenBy, MovedTo}
use Imports.{HandedBy, Woken, MutexPlace, mutex_act, mutex_respin, mutex_next, Admission, RwLockPlace}
use Imports.{RwLockAt, RwLockPurpose, act_at, rwlock_next, RwLockCallPlace, bump_next, call_act, given}
use Imports.{plain_next, unless_given, OncePlace, once_act, SemaphorePlace, semaphore_act, CondvarPlace, WaitAt}
use Imports.{NotifyAt, condvar_act, in_lock, in_wait, relocked, wait_act, Place, Idle, Mutex, RwLock, Once}
use Imports.{Condvar, Semaphore, act_of, condvar_goes, in_condvar, in_mutex, in_once, in_semaphore, late_key}
use Imports.{respins_from, mutex_goes, next_place, rwlock_goes, State, after, closed_place, is_possible}
use Imports.{place_at}
use Imports.{put, state_after_act, state_after_go, state_after_going, state_after_late_on, state_after_look}
use Imports.{state_after_turn, state_with_sections, Befalls, acted_keeps, sleeps, stance_by, stance_of}
use Rattle.core_base.specs.declared.notes.Note.TheVariants as note
use Rattle.spec_locks.specs.declared.calls.Turn.TheVariants as turn
use Rattle.steps_mutex.specs.declared.lock.LockAt.TheVariants as lock
use Rattle.steps_mutex.specs.declared.unlock.UnlockAt.TheVariants as unlock
use Rattle.steps_mutex.specs.declared.hand_off.HandOffAt.TheVariants as hand_off
use Rattle.steps_mutex.specs.declared.places.MutexPlace.TheVariants as mutex
use Rattle.steps_rwlock.specs.declared.places.RwLockAt.TheVariants as at
use Rattle.steps_rwlock.specs.declared.purposes.RwLockPurpose.TheVariants as purpose
use Rattle.steps_rwlock.specs.declared.park.ParkAt.TheVariants as parking
use Rattle.steps_rwlock.specs.declared.release.WakeAt.TheVariants as waking
use Rattle.steps_rwlock_fair.specs.declared.places.RwLockCallPlace.TheVariants as fair
use Rattle.steps_rwlock_fair.specs.declared.hand_over.HandOverAt.TheVariants as handing
use Rattle.steps_rwlock_fair.specs.declared.handed.HandedAt.TheVariants as handed
use Rattle.steps_once.specs.declared.look.LookAt.TheVariants as look
use Rattle.steps_once.specs.declared.run.RunAt.TheVariants as run
use Rattle.steps_once.specs.declared.give_up.GiveUpAt.TheVariants as give_up
use Rattle.steps_once.specs.declared.places.OncePlace.TheVariants as once
use Rattle.steps_once.specs.OnceSteps as once_steps
use Rattle.steps_semaphore.specs.declared.acquire.AcquireAt.TheVariants as acquire
use Rattle.steps_semaphore.specs.declared.tries.TryAt.TheVariants as tries
use Rattle.steps_semaphore.specs.declared.release.ReleaseAt.TheVariants as release
use Rattle.steps_semaphore.specs.declared.places.SemaphorePlace.TheVariants as semaphore
use Rattle.steps_semaphore.specs.SemaphoreSteps as semaphore_steps
use Rattle.steps_condvar.specs.declared.places.CondvarPlace.TheVariants as condvar
use Rattle.steps_condvar.specs.declared.wait.WaitAt.TheVariants as wait
use Rattle.steps_condvar.specs.declared.notify.NotifyAt.TheVariants as notify

-- by the same act, and whether it may look once more
pub stance_so : (a b : Act) (x y : Option Place) → a ≡ b → is_some x ≡ is_some y → stance_by a x
    ≡ stance_by b y
stance_so a b x y e f = λ i. record {
  asleep = sleeps (e i);
  in_closure = (stance_by (e i) x).in_closure;
  enters = (stance_by (e i) x).enters;
  may_spin = f i;
}

-- ---------------------------------------------------------------- a mutex

record StaysAwake (l : ℕ) (at : MutexPlace) (r : Reply) : Type 0 where
  pub place : MutexPlace
  pub is : mutex_next at r ≡ At place
  pub act : mutex_act l place ≡ mutex_act l at
  pub spins : is_some (mutex_respin place) ≡ is_some (mutex_respin at)

either_some : (b : Bool) (x y : MutexPlace) → is_some (if b then Some x else None) ≡ is_some
    (if b then Some y else None)
either_some true x y = refl
either_some false x y = refl

mutex_stays : (l : ℕ) (at : MutexPlace) (r : Reply) → Befalls r → mutex_act l at ≢ Sleep → StaysAwake l at r
mutex_stays l (mutex.Lock e again lock.Asleep) r b n = absurd (n refl)
mutex_stays l (mutex.Lock e again (lock.Taken by)) r b n = absurd (n refl)
mutex_stays l (mutex.Lock e again (lock.Handed by)) r b n = absurd (n refl)
mutex_stays l (mutex.Lock e again (lock.Decide seen)) (TakenBy t) b n = record {
  place = mutex.Lock e again (lock.Decide seen);
  is = refl;
  act = refl;
  spins = refl;
}
mutex_stays l (mutex.Lock e again (lock.Decide seen)) (MovedTo key) b n = record {
  place = mutex.Lock e again (lock.Decide seen);
  is = refl;
  act = refl;
  spins = refl;
}
mutex_stays l (mutex.Lock e again (lock.Decide seen)) (HandedBy t alone) b n = record {
  place = mutex.Lock e false (lock.Decide seen);
  is = refl;
  act = refl;
  spins = either_some (seen == 1) _ _;
}
mutex_stays l (mutex.Lock e again (lock.Decide seen)) (Woken note.Normal) b n = record {
  place = mutex.Lock e true (lock.Decide seen);
  is = refl;
  act = refl;
  spins = either_some (seen == 1) _ _;
}
mutex_stays l (mutex.Lock e again (lock.Decide seen)) (Woken note.HandOff) b n = record {
  place = mutex.Lock e again (lock.Decide seen);
  is = refl;
  act = refl;
  spins = refl;
}
mutex_stays l (mutex.Lock e again at) (TakenBy t) b n = record {
  place = mutex.Lock e again at;
  is = refl;
  act = refl;
  spins = refl;
}
mutex_stays l (mutex.Lock e again at) (MovedTo key) b n = record {
  place = mutex.Lock e again at;
  is = refl;
  act = refl;
  spins = refl;
}
mutex_stays l (mutex.Lock e again at) (HandedBy t alone) b n = record {
  place = mutex.Lock e false at;
  is = refl;
  act = refl;
  spins = refl;
}
mutex_stays l (mutex.Lock e again at) (Woken note.Normal) b n = record {
  place = mutex.Lock e true at;
  is = refl;
  act = refl;
  spins = refl;
}
mutex_stays l (mutex.Lock e again at) (Woken note.HandOff) b n = record {
  place = mutex.Lock e again at;
  is = refl;
  act = refl;
  spins = refl;
}
mutex_stays l mutex.TryLock (TakenBy t) b n = record {
  place = mutex.TryLock;
  is = refl;
  act = refl;
  spins = refl;
}
mutex_stays l mutex.TryLock (MovedTo key) b n = record {
  place = mutex.TryLock;
  is = refl;
  act = refl;
  spins = refl;
}
mutex_stays l mutex.TryLock (HandedBy t alone) b n = record {
  place = mutex.TryLock;
  is = refl;
  act = refl;
  spins = refl;
}
mutex_stays l mutex.TryLock (Woken m) b n = record {
  place = mutex.TryLock;
  is = refl;
  act = refl;
  spins = refl;
}
mutex_stays l (mutex.Unlock unlock.Take) (TakenBy t) b n = record {
  place = mutex.Unlock unlock.Take;
  is = refl;
  act = refl;
  spins = refl;
}
mutex_stays l (mutex.Unlock at) (TakenBy t) b n = record {
  place = mutex.Unlock at;
  is = refl;
  act = refl;
  spins = refl;
}
mutex_stays l (mutex.Unlock at) (MovedTo key) b n = record {
  place = mutex.Unlock at;
  is = refl;
  act = refl;
  spins = refl;
}
mutex_stays l (mutex.Unlock at) (HandedBy t alone) b n = record {
  place = mutex.Unlock at;
  is = refl;
  act = refl;
  spins = refl;
}
mutex_stays l (mutex.Unlock at) (Woken m) b n = record {
  place = mutex.Unlock at;
  is = refl;
  act = refl;
  spins = refl;
}
mutex_stays l mutex.UnlockFair (TakenBy t) b n = record {
  place = mutex.UnlockFair;
  is = refl;
  act = refl;
  spins = refl;
}
mutex_stays l mutex.UnlockFair (MovedTo key) b n = record {
  place = mutex.UnlockFair;
  is = refl;
  act = refl;
  spins = refl;
}
mutex_stays l mutex.UnlockFair (HandedBy t alone) b n = record {
  place = mutex.UnlockFair;
  is = refl;
  act = refl;
  spins = refl;
}
mutex_stays l mutex.UnlockFair (Woken m) b n = record {
  place = mutex.UnlockFair;
  is = refl;
  act = refl;
  spins = refl;
}
mutex_stays l mutex.Bump (TakenBy t) b n = record { place = mutex.Bump; is = refl; act = refl; spins = refl }
mutex_stays l mutex.Bump (MovedTo key) b n = record {
  place = mutex.Bump;
  is = refl;
  act = refl;
  spins = refl;
}
mutex_stays l mutex.Bump (HandedBy t alone) b n = record {
  place = mutex.Bump;
  is = refl;
  act = refl;
  spins = refl;
}
mutex_stays l mutex.Bump (Woken m) b n = record { place = mutex.Bump; is = refl; act = refl; spins = refl }
mutex_stays l (mutex.HandOff bumps hand_off.Take) (TakenBy t) b n = record {
  place = mutex.HandOff bumps hand_off.Take;
  is = refl;
  act = refl;
  spins = refl;
}
mutex_stays l (mutex.HandOff bumps at) (TakenBy t) b n = record {
  place = mutex.HandOff bumps at;
  is = refl;
  act = refl;
  spins = refl;
}
mutex_stays l (mutex.HandOff bumps at) (MovedTo key) b n = record {
  place = mutex.HandOff bumps at;
  is = refl;
  act = refl;
  spins = refl;
}
mutex_stays l (mutex.HandOff bumps at) (HandedBy t alone) b n = record {
  place = mutex.HandOff bumps at;
  is = refl;
  act = refl;
  spins = refl;
}
mutex_stays l (mutex.HandOff bumps at) (Woken m) b n = record {
  place = mutex.HandOff bumps at;
  is = refl;
  act = refl;
  spins = refl;
}
mutex_stays l at r b n = absurd b

mutex_spins : (l : ℕ) (o : Option MutexPlace) → is_some (in_mutex l o) ≡ is_some o
mutex_spins l None = refl
mutex_spins l (Some at) = refl

lock_spins : (l m : ℕ) (timed late : Bool) (o : Option MutexPlace)
    → is_some (in_condvar l (in_lock m timed late o)) ≡ is_some o
lock_spins l m timed late None = refl
lock_spins l m timed late (Some at) = refl

abbrev Stands : Place → Reply → Type 0
Stands p r = stance_of (next_place p r) ≡ stance_of p

-- the thread stays where it stands
stays_there : (p : Place) (r : Reply) → next_place p r ≡ p → Stands p r
stays_there p r e = ap stance_of e

mutex_stands : (l : ℕ) (at : MutexPlace) (r : Reply) → Befalls r → mutex_act l at ≢ Sleep
    → Stands (Mutex l at) r
mutex_stands l at r b n = let stays = mutex_stays l at r b n in
    ap (λ x. stance_of (mutex_goes l x)) stays.is
    ∙ stance_so (mutex_act l stays.place) (mutex_act l at) (in_mutex l (mutex_respin stays.place))
    (in_mutex l (mutex_respin at)) stays.act (mutex_spins l _ ∙ stays.spins ∙ sym (mutex_spins l _))

-- ---------------------------------------------------------------- a condition variable

wait_stands : (l m : ℕ) (timed : Bool) (at : WaitAt) (r : Reply) → Befalls r → wait_act l m at ≢ Sleep
    → Stands (Condvar l (condvar.Wait m timed at)) r
wait_stands l m timed (wait.Asleep s) r b n = absurd (n refl)
wait_stands l m timed (wait.Release s at) (TakenBy t) b n = refl
wait_stands l m timed (wait.Release s at) (MovedTo key) b n = refl
wait_stands l m timed (wait.Release s at) (HandedBy t alone) b n = refl
wait_stands l m timed (wait.Release s at) (Woken k) b n = refl
wait_stands l m timed (wait.Lock late at) r b n = let stays = mutex_stays m at r b n in
    ap (λ x. stance_of (condvar_goes l (in_wait m timed (relocked timed late x)))) stays.is
    ∙ stance_so (mutex_act m stays.place) (mutex_act m at)
    (in_condvar l (in_lock m timed late (mutex_respin stays.place)))
    (in_condvar l (in_lock m timed late (mutex_respin at))) stays.act
    (lock_spins l m timed late _ ∙ stays.spins ∙ sym (lock_spins l m timed late _))
wait_stands l m timed at (TakenBy t) b n = refl
wait_stands l m timed at (MovedTo key) b n = refl
wait_stands l m timed at (HandedBy t alone) b n = refl
wait_stands l m timed at (Woken k) b n = refl
wait_stands l m timed at r b n = absurd b

notify_stands : (l m : ℕ) (all : Bool) (at : NotifyAt) (r : Reply) → Befalls r
    → Stands (Condvar l (condvar.Notify all m at)) r
notify_stands l m all notify.Enter (TakenBy t) b = refl
notify_stands l m all at (TakenBy t) b = refl
notify_stands l m all at (MovedTo key) b = refl
notify_stands l m all at (HandedBy t alone) b = refl
notify_stands l m all at (Woken k) b = refl
notify_stands l m all at r b = absurd b

look_stands : (l : ℕ) (all : Bool) (r : Reply) → Befalls r → Stands (Condvar l (condvar.Look all)) r
look_stands l all (TakenBy t) b = refl
look_stands l all (MovedTo key) b = refl
look_stands l all (HandedBy t alone) b = refl
look_stands l all (Woken k) b = refl
look_stands l all r b = absurd b

condvar_stands : (l : ℕ) (at : CondvarPlace) (r : Reply) → Befalls r → condvar_act l at ≢ Sleep
    → Stands (Condvar l at) r
condvar_stands l (condvar.Wait m timed at) r b n = wait_stands l m timed at r b n
condvar_stands l (condvar.Look all) r b n = look_stands l all r b
condvar_stands l (condvar.Notify all m at) r b n = notify_stands l m all at r b

-- ---------------------------------------------------------------- a `Once`

once_spins : (l : ℕ) (b : Bool) (x y : OncePlace) → is_some (in_once l (if b then Some x else None))
    ≡ is_some (in_once l (if b then Some y else None))
once_spins l true x y = refl
once_spins l false x y = refl

once_stands : (l : ℕ) (at : OncePlace) (r : Reply) → Befalls r → once_act l at ≢ Sleep → Stands (Once l at) r
once_stands l (once.Look c again look.Asleep) r b n = absurd (n refl)
once_stands l (once.Look c again (look.Taken by)) r b n = absurd (n refl)
once_stands l (once.Look c again (look.Decide seen)) (TakenBy t) b n = refl
once_stands l (once.Look c again (look.Decide seen)) (MovedTo key) b n = refl
once_stands l (once.Look c again (look.Decide seen)) (HandedBy t alone) b n = refl
once_stands l (once.Look c again (look.Decide seen)) (Woken note.Normal) b n =
    stance_so (once_act l (once.Look c again (look.Decide seen)))
    (once_act l (once.Look c again (look.Decide seen)))
    (in_once l (once_steps.once_respin (once.Look c true (look.Decide seen))))
    (in_once l (once_steps.once_respin (once.Look c again (look.Decide seen)))) refl (once_spins l _ _ _)
once_stands l (once.Look c again (look.Decide seen)) (Woken note.HandOff) b n = refl
once_stands l (once.Look c again at) (TakenBy t) b n = refl
once_stands l (once.Look c again at) (MovedTo key) b n = refl
once_stands l (once.Look c again at) (HandedBy t alone) b n = refl
once_stands l (once.Look c again at) (Woken note.Normal) b n = refl
once_stands l (once.Look c again at) (Woken note.HandOff) b n = refl
once_stands l (once.Run forced (run.Take succeeded)) (TakenBy t) b n = refl
once_stands l (once.Run forced at) (TakenBy t) b n = refl
once_stands l (once.Run forced at) (MovedTo key) b n = refl
once_stands l (once.Run forced at) (HandedBy t alone) b n = refl
once_stands l (once.Run forced at) (Woken k) b n = refl
once_stands l (once.GiveUp again give_up.Remove) (TakenBy t) b n = refl
once_stands l (once.GiveUp again at) (TakenBy t) b n = refl
once_stands l (once.GiveUp again at) (MovedTo key) b n = refl
once_stands l (once.GiveUp again at) (HandedBy t alone) b n = refl
once_stands l (once.GiveUp again at) (Woken k) b n = refl
once_stands l at r b n = absurd b

-- ---------------------------------------------------------------- a semaphore

semaphore_spins : (l : ℕ) (b : Bool) (x y : SemaphorePlace)
    → is_some (in_semaphore l (if b then Some x else None))
    ≡ is_some (in_semaphore l (if b then Some y else None))
semaphore_spins l true x y = refl
semaphore_spins l false x y = refl

semaphore_stands : (l : ℕ) (at : SemaphorePlace) (r : Reply) → Befalls r → semaphore_act l at ≢ Sleep
    → Stands (Semaphore l at) r
semaphore_stands l (semaphore.Acquire timed again acquire.Asleep) r b n = absurd (n refl)
semaphore_stands l (semaphore.Acquire timed again (acquire.Taken by)) r b n = absurd (n refl)
semaphore_stands l (semaphore.Acquire timed again (acquire.Decide seen)) (TakenBy t) b n = refl
semaphore_stands l (semaphore.Acquire timed again (acquire.Decide seen)) (MovedTo key) b n = refl
semaphore_stands l (semaphore.Acquire timed again (acquire.Decide seen)) (HandedBy t alone) b n = refl
semaphore_stands l (semaphore.Acquire timed again (acquire.Decide seen)) (Woken note.Normal) b n =
    stance_so (semaphore_act l (semaphore.Acquire timed again (acquire.Decide seen)))
    (semaphore_act l (semaphore.Acquire timed again (acquire.Decide seen)))
    (in_semaphore l (semaphore_steps.semaphore_respin (semaphore.Acquire timed true (acquire.Decide seen))))
    (in_semaphore l (semaphore_steps.semaphore_respin (semaphore.Acquire timed again (acquire.Decide seen))))
    refl (semaphore_spins l _ _ _)
semaphore_stands l (semaphore.Acquire timed again (acquire.Decide seen)) (Woken note.HandOff) b n = refl
semaphore_stands l (semaphore.Acquire timed again at) (TakenBy t) b n = refl
semaphore_stands l (semaphore.Acquire timed again at) (MovedTo key) b n = refl
semaphore_stands l (semaphore.Acquire timed again at) (HandedBy t alone) b n = refl
semaphore_stands l (semaphore.Acquire timed again at) (Woken note.Normal) b n = refl
semaphore_stands l (semaphore.Acquire timed again at) (Woken note.HandOff) b n = refl
semaphore_stands l (semaphore.Try tries.Load) (TakenBy t) b n = refl
semaphore_stands l (semaphore.Try at) (TakenBy t) b n = refl
semaphore_stands l (semaphore.Try at) (MovedTo key) b n = refl
semaphore_stands l (semaphore.Try at) (HandedBy t alone) b n = refl
semaphore_stands l (semaphore.Try at) (Woken k) b n = refl
semaphore_stands l (semaphore.Release release.Take) (TakenBy t) b n = refl
semaphore_stands l (semaphore.Release at) (TakenBy t) b n = refl
semaphore_stands l (semaphore.Release at) (MovedTo key) b n = refl
semaphore_stands l (semaphore.Release at) (HandedBy t alone) b n = refl
semaphore_stands l (semaphore.Release at) (Woken k) b n = refl
semaphore_stands l at r b n = absurd b

-- ---------------------------------------------------------------- a reader-writer lock

abbrev there : RwLockPurpose → Bool → RwLockAt → RwLockPlace
there q again to = record { purpose = q; retries = again; at = to }

none_given : (l : ℕ) (a : Admission) (b : Bool) (q : RwLockPurpose) (again : Bool) (to : RwLockAt) (r : Reply)
    → Befalls r → act_at l a (there q again to) to ≢ Sleep → given b (there q again to) r ≡ None
none_given l a b q again to (TakenBy t) h n = refl
none_given l a b q again to (MovedTo key) h n = refl
none_given l a b q again to (Woken note.Normal) h n = refl
none_given l a b (purpose.Enter x how) again (at.Park (parking.Taken u)) (HandedBy t alone) h n =
    absurd (n refl)
none_given l a b (purpose.Enter x how) again (at.Park to) (HandedBy t alone) h n = refl
none_given l a b (purpose.Enter x how) again to (HandedBy t alone) h n = refl
none_given l a b q again to (HandedBy t alone) h n = refl
none_given l a b (purpose.Enter x how) again (at.Park parking.Asleep) (Woken note.HandOff) h n =
    absurd (n refl)
none_given l a b (purpose.Enter x how) again (at.Park to) (Woken note.HandOff) h n = refl
none_given l a b (purpose.Enter x how) again to (Woken note.HandOff) h n = refl
none_given l a b q again to (Woken note.HandOff) h n = refl
none_given l a b q again to r h n = absurd h

goes_nowhere : (l : ℕ) (a : Admission) (q : RwLockPurpose) (again : Bool) (to : RwLockAt) (r : Reply)
    → Befalls r → act_at l a (there q again to) to ≢ Sleep → rwlock_next a (there q again to) r
    ≡ At (there q again to)
goes_nowhere l a q again (at.Park parking.Asleep) r h n = absurd (n refl)
goes_nowhere l a q again (at.Park (parking.Taken u)) r h n = absurd (n refl)
goes_nowhere l a q again (at.Aside parking.Asleep) r h n = absurd (n refl)
goes_nowhere l a q again (at.Aside (parking.Taken u)) r h n = absurd (n refl)
goes_nowhere l a q again (at.Park to) (TakenBy t) h n = refl
goes_nowhere l a q again (at.Park to) (MovedTo key) h n = refl
goes_nowhere l a q again (at.Park to) (HandedBy t alone) h n = refl
goes_nowhere l a q again (at.Park to) (Woken k) h n = refl
goes_nowhere l a q again (at.Aside to) (TakenBy t) h n = refl
goes_nowhere l a q again (at.Aside to) (MovedTo key) h n = refl
goes_nowhere l a q again (at.Aside to) (HandedBy t alone) h n = refl
goes_nowhere l a q again (at.Aside to) (Woken k) h n = refl
goes_nowhere l a q again (at.Wake m waking.Take) (TakenBy t) h n = refl
goes_nowhere l a q again (at.Wake m to) (TakenBy t) h n = refl
goes_nowhere l a q again (at.Wake m to) (MovedTo key) h n = refl
goes_nowhere l a q again (at.Wake m to) (HandedBy t alone) h n = refl
goes_nowhere l a q again (at.Wake m to) (Woken k) h n = refl
goes_nowhere l a q again to (TakenBy t) h n = refl
goes_nowhere l a q again to (MovedTo key) h n = refl
goes_nowhere l a q again to (HandedBy t alone) h n = refl
goes_nowhere l a q again to (Woken k) h n = refl
goes_nowhere l a q again to r h n = absurd h

call_stands : (l : ℕ) (a : Admission) (c : RwLockCallPlace) (r : Reply) → Befalls r → call_act l a c ≢ Sleep
    → Stands (RwLock l a c) r
call_stands l a (fair.Plain p) r h n = stays_there (RwLock l a (fair.Plain p)) r
    (λ i. rwlock_goes l a (unless_given (none_given l a false p.purpose p.retries p.at r h n i)
    (plain_next (goes_nowhere l a p.purpose p.retries p.at r h n i))))
call_stands l a (fair.Bump p) r h n = stays_there (RwLock l a (fair.Bump p)) r
    (λ i. rwlock_goes l a (unless_given (none_given l a true p.purpose p.retries p.at r h n i)
    (bump_next p.purpose (goes_nowhere l a p.purpose p.retries p.at r h n i))))
call_stands l a (fair.PeekQueue x) (TakenBy t) h n = refl
call_stands l a (fair.PeekQueue x) (MovedTo key) h n = refl
call_stands l a (fair.PeekQueue x) (HandedBy t alone) h n = refl
call_stands l a (fair.PeekQueue x) (Woken k) h n = refl
call_stands l a (fair.HandOver x b handing.Load) (TakenBy t) h n = refl
call_stands l a (fair.HandOver x b to) (TakenBy t) h n = refl
call_stands l a (fair.HandOver x b to) (MovedTo key) h n = refl
call_stands l a (fair.HandOver x b to) (HandedBy t alone) h n = refl
call_stands l a (fair.HandOver x b to) (Woken k) h n = refl
call_stands l a (fair.Handed x how b (handed.Asleep by lone)) r h n = absurd (n refl)
call_stands l a (fair.Handed x how b handed.Accept) (TakenBy t) h n = refl
call_stands l a (fair.Handed x how b handed.Accept) (MovedTo key) h n = refl
call_stands l a (fair.Handed x how b handed.Accept) (HandedBy t alone) h n = refl
call_stands l a (fair.Handed x how b handed.Accept) (Woken k) h n = refl
call_stands l a c r h n = absurd h

-- ---------------------------------------------------------------- any place

pub stance_stays : (p : Place) (r : Reply) → Befalls r → act_of p ≢ Sleep → stance_of (next_place p r)
    ≡ stance_of p
stance_stays Idle r b n = refl
stance_stays (Mutex l at) r b n = mutex_stands l at r b n
stance_stays (RwLock l a c) r b n = call_stands l a c r b n
stance_stays (Once l at) r b n = once_stands l at r b n
stance_stays (Semaphore l at) r b n = semaphore_stands l at r b n
stance_stays (Condvar l at) r b n = condvar_stands l at r b n

-- ---------------------------------------------------------------- a step of another thread

module _ (s : Status) (awake : s.asleep ≡ false) where
  abbrev As : Place → Type 0
  As p = stance_of p ≡ s

  befallen : (p : Place) (r : Reply) → Befalls r → As p → As (next_place p r)
  befallen p r b h = stance_stays p r b (λ asleep. let e : true ≡ false = sym (ap sleeps asleep)
      ∙ ap (λ (x : Status). x.asleep) h ∙ awake in cc) ∙ h

  act_keeps : (w : State) (u t : ℕ) (p : Place) (a : Act) → As (place_at w u)
      → As (place_at (state_after_act w t p a) u)
  act_keeps w u t p a h = acted_keeps As w u t p a (λ any r b q e. befallen q r b e) h

  put_keeps : (b : State) (t u : ℕ) (p : Place) → u ≢ t → As (place_at b u) → As (place_at (put b t p) u)
  put_keeps b t u p ne h = ap stance_of (get_or-set_other b.places t u p Idle ne) ∙ h

  late_keeps : (w : State) (t u : ℕ) (o : Option ℕ) → u ≢ t → As (place_at w u)
      → As (place_at (state_after_late_on w t o) u)
  late_keeps w t u None ne h = h
  late_keeps w t u (Some key) ne h = put_keeps (state_with_sections w (One key) (Some t)) t u _ ne h

  went_keeps : (w : State) (t u : ℕ) (p : Place) → u ≢ t → As (place_at w u)
      → As (place_at (state_after_going w t p) u)
  went_keeps w t u p ne h = put_keeps (state_after_act w t p (act_of p)) t u _ ne
      (act_keeps w u t p (act_of p) h)

  put_went_keeps : (w : State) (t u : ℕ) (q : Place) → u ≢ t → As (place_at w u)
      → As (place_at (state_after_go (put w t q) t) u)
  put_went_keeps w t u q ne h = went_keeps (put w t q) t u (place_at (put w t q) t) ne
      (put_keeps w t u q ne h)

  spun_keeps : (w : State) (t u : ℕ) (o : Option Place) → u ≢ t → As (place_at w u)
      → As (place_at (state_after_look w t o) u)
  spun_keeps w t u None ne h = h
  spun_keeps w t u (Some q) ne h = put_went_keeps w t u q ne h

  turned_keeps : (w : State) (t u : ℕ) (x : Turn) → u ≢ t → As (place_at w u)
      → As (place_at (state_after_turn w t x) u)
  turned_keeps w t u (turn.Begin c) ne h = put_keeps w t u _ ne h
  turned_keeps w t u turn.Go ne h = went_keeps w t u (place_at w t) ne h
  turned_keeps w t u turn.Spin ne h = spun_keeps w t u (respins_from (place_at w t)) ne h
  turned_keeps w t u turn.Late ne h = late_keeps w t u (late_key (place_at w t)) ne h
  turned_keeps w t u turn.Ok ne h = put_went_keeps w t u (closed_place w t true) ne h
  turned_keeps w t u turn.Err ne h = put_went_keeps w t u (closed_place w t false) ne h

  stepped_keeps : (w : State) (x : Step) (u : ℕ) → u ≢ x.thread → As (place_at w u)
      → As (place_at (after w x) u)
  stepped_keeps w x u ne h = either (is_possible w x)
    where
      either : (b : Bool) → As (place_at (if b then state_after_turn w x.thread x.turn else w) u)
      either true = turned_keeps w x.thread u x.turn ne h
      either false = h

-- a thread that is awake stands as it did
pub awake_stay : (w : State) (x : Step) (u : ℕ) → u ≢ x.thread → sleeps (act_of (place_at w u)) ≡ false
    → stance_of (place_at (after w x) u) ≡ stance_of (place_at w u)
awake_stay w x u ne awake = stepped_keeps (stance_of (place_at w u)) awake w x u ne refl
