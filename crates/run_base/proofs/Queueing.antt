-- A thread is queued at a place only where the act before gave it a place in a queue, or left it there.
use Rattle.std.proofs.Common.{ℕ, ◌≡◌, ◌≢◌, ◌==◌, ◌&&◌, ◌||◌, Bool, true, false, not, if◌then◌else◌, is_some}
use Rattle.std.proofs.Common.{Some, None, inl, inr, refl, sym, ◌∙◌, subst}
use Rattle.std.proofs.lemmas.Bool.{false≢true}
use Rattle.core_base.specs.declared.keys.Line.{Line}
use Rattle.core_base.specs.declared.keys.Line.TheVariants.{Main, Second}
use Rattle.core_base.specs.declared.notes.Note.TheVariants.{Normal, HandOff}
use Rattle.core_base.specs.declared.wants.Want.{Want}
use Rattle.spec_locks.specs.declared.outcomes.Answer.TheVariants.{Ok}
use Rattle.spec_locks.specs.declared.calls.Access.{Access}
use Rattle.spec_locks.specs.declared.calls.Access.TheVariants as access
use Rattle.spec_locks.specs.declared.calls.Patience.{Patience}
use Rattle.spec_locks.specs.declared.calls.Patience.TheVariants.{Patient, Timed, Try}
use Rattle.spec_locks.specs.declared.calls.OnceCall.{OnceCall}
use Rattle.spec_locks.specs.Codes.{count_in, has_aside, has_parked}
use Rattle.steps_base.specs.Profiles.{hand_owner}
use Rattle.steps_base.specs.declared.acts.Act.{Act}
use Rattle.steps_base.specs.declared.acts.Act as act
use Rattle.steps_base.specs.declared.acts.Next.{Next}
use Rattle.steps_base.specs.declared.acts.Next.TheVariants.{At, End}
use Rattle.steps_base.specs.declared.acts.Reply.{Reply}
use Rattle.steps_base.specs.declared.acts.Reply.TheVariants.{Done, Value, Parked, Took, Picked, Removed}
use Rattle.steps_base.specs.declared.acts.Reply.TheVariants.{HandedBy, Late, Woken}
use Rattle.steps_mutex.specs.MutexSteps.{in_lock, lock_act, unlock_act, mutex_act, mutex_next, next_lock}
use Rattle.steps_mutex.specs.MutexSteps.{next_unlock, next_hand_off, in_unlock, in_hand_off, still_retries}
use Rattle.steps_mutex.specs.MutexSteps.{is_locked, is_parked, looked}
use Rattle.steps_mutex.specs.MutexProfiles.{mutex_profile, lock_row}
use Rattle.steps_mutex.specs.declared.places.MutexPlace.{MutexPlace}
use Rattle.steps_mutex.specs.declared.places.MutexPlace.TheVariants.{Lock, TryLock, Unlock, UnlockFair, Bump}
use Rattle.steps_mutex.specs.declared.places.MutexPlace.TheVariants.{HandOff}
use Rattle.steps_mutex.specs.declared.lock.Entry.{Entry}
use Rattle.steps_mutex.specs.declared.lock.LockAt.{LockAt}
use Rattle.steps_mutex.specs.declared.lock.LockAt.TheVariants as lock
use Rattle.steps_mutex.specs.declared.unlock.UnlockAt.{UnlockAt}
use Rattle.steps_mutex.specs.declared.unlock.UnlockAt.TheVariants as unlock
use Rattle.steps_mutex.specs.declared.hand_off.HandOffAt.{HandOffAt}
use Rattle.steps_semaphore.specs.SemaphoreSteps as semaphores
use Rattle.steps_semaphore.specs.SemaphoreProfiles.{semaphore_profile}
use Rattle.steps_semaphore.specs.declared.places.SemaphorePlace.{SemaphorePlace}
use Rattle.steps_semaphore.specs.declared.places.SemaphorePlace.TheVariants as semaphore
use Rattle.steps_semaphore.specs.declared.acquire.AcquireAt.{AcquireAt}
use Rattle.steps_semaphore.specs.declared.acquire.AcquireAt.TheVariants as acquire
use Rattle.steps_semaphore.specs.declared.tries.TryAt.{TryAt}
use Rattle.steps_semaphore.specs.declared.release.ReleaseAt.{ReleaseAt}
use Rattle.steps_semaphore.specs.declared.release.ReleaseAt.TheVariants as release
use Rattle.steps_once.specs.OnceSteps as once
use Rattle.steps_once.specs.OnceProfiles.{once_profile, look_row}
use Rattle.steps_once.specs.declared.places.OncePlace.{OncePlace}
use Rattle.steps_once.specs.declared.places.OncePlace.TheVariants as onces
use Rattle.steps_once.specs.declared.look.LookAt.{LookAt}
use Rattle.steps_once.specs.declared.look.LookAt.TheVariants as look
use Rattle.steps_once.specs.declared.look.Course.{Course}
use Rattle.steps_once.specs.declared.look.Course.TheVariants.{Ends, Runs, Marks, Parks}
use Rattle.steps_once.specs.declared.run.RunAt.{RunAt}
use Rattle.steps_once.specs.declared.run.RunAt.TheVariants as run
use Rattle.steps_once.specs.declared.give_up.GiveUpAt.{GiveUpAt}
use Rattle.steps_once.specs.declared.give_up.GiveUpAt.TheVariants as give_up
use Rattle.steps_rwlock.specs.RwLockSteps as rw
use Rattle.steps_rwlock.specs.RwLockProfiles.{stands_at, parked_hand}
use Rattle.steps_rwlock.specs.declared.enter.Decision.{Decision}
use Rattle.steps_rwlock.specs.declared.enter.Decision.TheVariants as decisions
use Rattle.steps_rwlock.specs.declared.park.ParkAt.{ParkAt}
use Rattle.steps_rwlock.specs.declared.park.ParkAt.TheVariants as parking
use Rattle.steps_rwlock.specs.declared.places.Admission.{Admission}
use Rattle.steps_rwlock.specs.declared.places.RwLockAt.{RwLockAt}
use Rattle.steps_rwlock.specs.declared.places.RwLockAt.TheVariants as at
use Rattle.steps_rwlock.specs.declared.places.RwLockPlace.{RwLockPlace}
use Rattle.steps_rwlock.specs.declared.purposes.RwLockPurpose.{RwLockPurpose}
use Rattle.steps_rwlock.specs.declared.purposes.RwLockPurpose.TheVariants as purpose
use Rattle.steps_rwlock.specs.declared.release.WakeAt.{WakeAt}
use Rattle.steps_rwlock.specs.declared.release.WakeAt.TheVariants as waking
use Rattle.steps_rwlock_fair.specs.FairSteps as fair
use Rattle.steps_rwlock_fair.specs.FairProfiles.{call_profile}
use Rattle.steps_rwlock_fair.specs.declared.places.RwLockCallPlace.{RwLockCallPlace}
use Rattle.steps_rwlock_fair.specs.declared.places.RwLockCallPlace.TheVariants as places
use Rattle.steps_rwlock_fair.specs.declared.handed.HandedAt.TheVariants as handed
use Rattle.steps_rwlock_fair.specs.declared.hand_over.HandOverAt.{HandOverAt}
use Rattle.steps_rwlock_fair.specs.declared.hand_over.HandOverAt.TheVariants as handing
use Rattle.steps_condvar.specs.CondvarSteps as condvar
use Rattle.steps_condvar.specs.CondvarProfiles.{condvar_profile, mutex_side}
use Rattle.steps_condvar.specs.declared.notify.NotifyAt.{NotifyAt}
use Rattle.steps_condvar.specs.declared.notify.NotifyAt.TheVariants as notify
use Rattle.steps_condvar.specs.declared.places.CondvarPlace.{CondvarPlace}
use Rattle.steps_condvar.specs.declared.places.CondvarPlace.TheVariants as condvars
use Rattle.steps_condvar.specs.declared.wait.WaiterFate.TheVariants as stands
use Rattle.steps_condvar.specs.declared.wait.WaitAt.{WaitAt}
use Rattle.steps_condvar.specs.declared.wait.WaitAt.TheVariants as wait
use Rattle.lot_steps.specs.Steps.{or_else}
use Rattle.run_base.specs.Queued.{GoesOn, spends_place}

-- what isn't so has no proof that it is
never : {A : Type 0} {is : Bool} → is ≡ false → is ≡ true → A
never none e = absurd (false≢true (sym none ∙ e))

pub same : (was was' is is' : Bool) (a : Act) (reply : Reply) → was ≡ was' → is ≡ is'
    → GoesOn was' is' a reply → GoesOn was is a reply
same was was' is is' a reply e f goes = subst (λ (b : Bool). GoesOn b is a reply) (sym e)
    (subst (λ (b : Bool). GoesOn was' b a reply) (sym f) goes)

-- what comes next, by whether a thread is queued there
abbrev pub after : {A : Type 0} → (A → Bool) → Next A → Bool
after queued (At at) = queued at
after queued (End answer) = false

module _ {A : Type 0} (queued : A → Bool) where
  either : (b : Bool) (x y : Next A) → after queued x ≡ false → after queued y ≡ false
      → after queued (if b then x else y) ≡ false
  either true x y e f = e
  either false x y e f = f

-- ---------------------------------------------------------------- mutexes

abbrev pub mutex_queued : MutexPlace → Bool
mutex_queued at = is_some (mutex_profile at).stands || is_some (hand_owner (mutex_profile at).hand)

abbrev lock_queued : LockAt → Bool
lock_queued at = is_some (lock_row false false at).stands || is_some
    (hand_owner (lock_row false false at).hand)

-- in a real lot nobody else tells a thread that it was taken
abbrev pub InNoHand : LockAt → Type 0
InNoHand (lock.Taken by) = ⊥
InNoHand (lock.Handed by) = ⊥
InNoHand at = Unit {0}

lock_on : (l : ℕ) (e : Entry) (at : LockAt) (reply : Reply) → InNoHand at → GoesOn (lock_queued at)
    (after lock_queued (next_lock e at reply)) (lock_act l at) reply
lock_on l e lock.First (Value seen) free = never (either lock_queued (seen == 0) _ _ refl refl)
lock_on l e (lock.Decide expected) (Value seen) free =
    never (either lock_queued (not (seen == expected)) _ _ refl (either lock_queued (is_locked seen) _ _ refl
    refl))
lock_on l e lock.Load (Value seen) free = never refl
lock_on l e (lock.Decide expected) Done free = never refl
lock_on l e lock.Accept Done free = never refl
lock_on l e lock.Clear (Value seen) free = never refl
lock_on l e lock.GiveUp Done free = never refl
lock_on l e lock.Check (Parked true) free = λ is. inl refl
lock_on l e lock.Check (Parked false) free = never refl
lock_on l e (lock.Leave true) reply free = λ is. inr (refl, refl)
lock_on l e (lock.Leave false) Done free = never refl
lock_on l e (lock.Leave false) reply free = never refl
lock_on l e lock.Remove (Removed none_left) free = never (either lock_queued none_left _ _ refl refl)
lock_on l e lock.Asleep (Woken Normal) free = never refl
lock_on l e lock.Asleep (Woken HandOff) free = never refl
lock_on l e lock.Asleep reply free = λ is. inr (refl, refl)
lock_on l e lock.Remove reply free = λ is. inr (refl, refl)
lock_on l e (lock.Taken by) reply free = absurd free
lock_on l e (lock.Handed by) reply free = absurd free
lock_on l e at reply free = never refl

-- how a call counts its tries says nothing of queues
same_lock : (e : Entry) (retries : Bool) (at : LockAt) → mutex_queued (Lock e retries at) ≡ lock_queued at
same_lock e retries (lock.Leave parked) = refl
same_lock e retries at = refl

same_next : (e : Entry) (retries : Bool) (n : Next LockAt) → after mutex_queued (in_lock e retries n)
    ≡ after lock_queued n
same_next e retries (At at) = same_lock e retries at
same_next e retries (End answer) = refl

unlocks : (n : Next UnlockAt) → after mutex_queued (in_unlock n) ≡ false
unlocks (At at) = refl
unlocks (End answer) = refl

hands : (bumps : Bool) (n : Next HandOffAt) → after mutex_queued (in_hand_off bumps n) ≡ false
hands bumps (At at) = refl
hands true (End answer) = refl
hands false (End answer) = refl

looks : (bumps b : Bool) → after mutex_queued (looked bumps b) ≡ false
looks bumps true = refl
looks bumps false = refl

abbrev pub MutexInNoHand : MutexPlace → Type 0
MutexInNoHand (Lock e retries at) = InNoHand at
MutexInNoHand at = Unit {0}

pub mutex_on : (l : ℕ) (at : MutexPlace) (reply : Reply) → MutexInNoHand at
    → GoesOn (mutex_queued at) (after mutex_queued (mutex_next at reply)) (mutex_act l at) reply
mutex_on l (Lock e retries at) reply free = same _ _ _ _ _ _ (same_lock e retries at)
    (same_next e (still_retries retries reply) (next_lock e at reply)) (lock_on l e at reply free)
mutex_on l TryLock (Value seen) free = never (either mutex_queued (is_locked seen) _ _ refl refl)
mutex_on l TryLock reply free = never refl
mutex_on l (Unlock at) reply free = never (unlocks (next_unlock at reply))
mutex_on l UnlockFair (Value seen) free = never (looks false (not (seen == 1)))
mutex_on l UnlockFair reply free = never refl
mutex_on l Bump (Value seen) free = never (looks true (is_parked seen))
mutex_on l Bump reply free = never refl
mutex_on l (HandOff bumps at) reply free = never (hands bumps (next_hand_off at reply))

-- ---------------------------------------------------------------- semaphores

abbrev pub semaphore_queued : SemaphorePlace → Bool
semaphore_queued at = is_some (semaphore_profile at).stands || is_some
    (hand_owner (semaphore_profile at).hand)

abbrev acquire_queued : AcquireAt → Bool
acquire_queued at = semaphore_queued (semaphore.Acquire false false at)

abbrev pub AcquireInNoHand : AcquireAt → Type 0
AcquireInNoHand (acquire.Taken by) = ⊥
AcquireInNoHand at = Unit {0}

acquire_on : (l : ℕ) (timed : Bool) (at : AcquireAt) (reply : Reply) → reply ≢ Woken HandOff
    → AcquireInNoHand at → GoesOn (acquire_queued at) (after acquire_queued
    (semaphores.next_acquire timed at reply)) (semaphores.acquire_act l at) reply
acquire_on l timed (acquire.Decide expected) (Value seen) calm free =
    never (either acquire_queued (not (seen == expected)) _ _ refl
    (either acquire_queued (semaphores.is_free seen) _ _ refl refl))
acquire_on l timed acquire.Load (Value seen) calm free = never refl
acquire_on l timed (acquire.Decide expected) Done calm free = never refl
acquire_on l timed acquire.Clear (Value seen) calm free = never refl
acquire_on l timed acquire.GiveUp Done calm free = never refl
acquire_on l timed acquire.Check (Parked true) calm free = λ is. inl refl
acquire_on l timed acquire.Check (Parked false) calm free = never refl
acquire_on l timed (acquire.Leave true) reply calm free = λ is. inr (refl, refl)
acquire_on l timed (acquire.Leave false) Done calm free = never refl
acquire_on l timed (acquire.Leave false) reply calm free = never refl
acquire_on l timed acquire.Remove (Removed none_left) calm free =
    never (either acquire_queued none_left _ _ refl refl)
acquire_on l timed acquire.Asleep (Woken Normal) calm free = never refl
acquire_on l timed acquire.Asleep (Woken HandOff) calm free = absurd (calm refl)
acquire_on l timed acquire.Asleep reply calm free = λ is. inr (refl, refl)
acquire_on l timed acquire.Remove reply calm free = λ is. inr (refl, refl)
acquire_on l timed (acquire.Taken by) reply calm free = absurd free
acquire_on l timed at reply calm free = never refl

same_acquire : (timed retries : Bool) (at : AcquireAt) → semaphore_queued (semaphore.Acquire timed retries at)
    ≡ acquire_queued at
same_acquire timed retries (acquire.Leave parked) = refl
same_acquire timed retries at = refl

same_acquiring : (timed retries : Bool) (n : Next AcquireAt)
    → after semaphore_queued (semaphores.in_acquire timed retries n) ≡ after acquire_queued n
same_acquiring timed retries (At at) = same_acquire timed retries at
same_acquiring timed retries (End answer) = refl

tries : (n : Next TryAt) → after semaphore_queued (semaphores.in_try n) ≡ false
tries (At at) = refl
tries (End answer) = refl

releases : (n : Next ReleaseAt) → after semaphore_queued (semaphores.in_release n) ≡ false
releases (At at) = release_off at
  where
    release_off : (at : ReleaseAt) → semaphore_queued (semaphore.Release at) ≡ false
    release_off (release.Leave any) = refl
    release_off at = refl
releases (End answer) = refl

abbrev pub SemaphoreInNoHand : SemaphorePlace → Type 0
SemaphoreInNoHand (semaphore.Acquire timed retries at) = AcquireInNoHand at
SemaphoreInNoHand at = Unit {0}

pub semaphore_on : (l : ℕ) (at : SemaphorePlace) (reply : Reply) → reply ≢ Woken HandOff
    → SemaphoreInNoHand at → GoesOn (semaphore_queued at)
    (after semaphore_queued (semaphores.semaphore_next at reply)) (semaphores.semaphore_act l at) reply
semaphore_on l (semaphore.Acquire timed retries at) reply calm free =
    same _ _ _ _ _ _ (same_acquire timed retries at) (same_acquiring timed
    (semaphores.still_retries retries reply) (semaphores.next_acquire timed at reply))
    (acquire_on l timed at reply calm free)
semaphore_on l (semaphore.Try at) reply calm free = never (tries (semaphores.next_try at reply))
semaphore_on l (semaphore.Release at) reply calm free = never (releases (semaphores.next_release at reply))

-- ---------------------------------------------------------------- onces

abbrev pub once_queued : OncePlace → Bool
once_queued at = is_some (once_profile at).stands || is_some (hand_owner (once_profile at).hand)

abbrev look_queued : LookAt → Bool
look_queued at = is_some (look_row false None at).stands || is_some (hand_owner (look_row false None at).hand)

abbrev pub LookInNoHand : LookAt → Type 0
LookInNoHand (look.Taken by) = ⊥
LookInNoHand at = Unit {0}

same_look : (c : OnceCall) (retries : Bool) (at : LookAt) → once_queued (onces.Look c retries at)
    ≡ look_queued at
same_look c retries (look.Leave parked) = refl
same_look c retries at = refl

same_looking : (c : OnceCall) (retries : Bool) (n : Next LookAt)
    → after once_queued (once.in_look c retries n) ≡ after look_queued n
same_looking c retries (At at) = same_look c retries at
same_looking c retries (End answer) = refl

looked_off : (v : ℕ) (course : Course) → after look_queued (once.looked_by v course) ≡ false
looked_off v (Ends answer) = refl
looked_off v Runs = refl
looked_off v Marks = refl
looked_off v Parks = refl

look_on : (l : ℕ) (c : OnceCall) (at : LookAt) (reply : Reply) → reply ≢ Woken HandOff → LookInNoHand at
    → GoesOn (look_queued at) (after look_queued (once.next_look c at reply)) (once.look_act l c at) reply
look_on l c look.Load (Value seen) calm free = never (looked_off seen (once.course_of c seen))
look_on l c (look.Decide expected) (Value seen) calm free =
    never (either look_queued ((seen == expected) && once.is_mark (once.course_of c seen)) _ _ refl
    (looked_off seen (once.course_of c seen)))
look_on l c (look.Decide expected) Done calm free = never refl
look_on l c look.Check (Parked true) calm free = λ is. inl refl
look_on l c look.Check (Parked false) calm free = never refl
look_on l c (look.Leave true) reply calm free = λ is. inr (refl, refl)
look_on l c (look.Leave false) Done calm free = never refl
look_on l c (look.Leave false) reply calm free = never refl
look_on l c look.Asleep (Woken Normal) calm free = never refl
look_on l c look.Asleep (Woken HandOff) calm free = absurd (calm refl)
look_on l c look.Asleep reply calm free = λ is. inr (refl, refl)
look_on l c (look.Taken by) reply calm free = absurd free
look_on l c at reply calm free = never refl

runs : (forced : Bool) (n : Next RunAt) → after once_queued (once.in_run forced n) ≡ false
runs forced (At at) = run_off at
  where
    run_off : (at : RunAt) → once_queued (onces.Run forced at) ≡ false
    run_off (run.Closure poisoned) = refl
    run_off (run.Close succeeded) = refl
    run_off (run.Enter succeeded) = refl
    run_off (run.Take succeeded) = refl
    run_off (run.Leave succeeded any) = refl
runs forced (End answer) = refl

begun_off : (forced : Bool) (reply : Reply) → once_queued (onces.Run forced (once.closure_begun reply))
    ≡ false
begun_off forced (Value seen) = refl
begun_off forced reply = refl

-- a thread that is late leaves the queue by another course of the call
by_course : (l : ℕ) (c : OnceCall) (retries : Bool) (at : LookAt) (reply : Reply) (begins late : Bool)
    → (late ≡ true → (spends_place (once.look_act l c at) reply ≡ false) × (look_queued at ≡ true))
    → GoesOn (look_queued at) (after look_queued (once.next_look c at reply)) (once.look_act l c at) reply
    → GoesOn (look_queued at) (after once_queued (if begins
    then At (onces.Run (once.is_forced c) (once.closure_begun reply)) else if late then At
    (onces.GiveUp retries give_up.Remove) else once.in_look c (once.still_retries retries reply)
    (once.next_look c at reply))) (once.look_act l c at) reply
by_course l c retries at reply true late stays goes = never (begun_off (once.is_forced c) reply)
by_course l c retries at reply false true stays goes = λ is. inr (stays refl)
by_course l c retries at reply false false stays goes = same _ _ _ _ _ _ refl
    (same_looking c (once.still_retries retries reply) (once.next_look c at reply)) goes

late_stays : (l : ℕ) (c : OnceCall) (at : LookAt) (reply : Reply) → once.is_late_asleep c at reply ≡ true
    → (spends_place (once.look_act l c at) reply ≡ false) × (look_queued at ≡ true)
late_stays l c look.Asleep Late e = (refl, refl)
late_stays l c at reply e = absurd (false≢true e)

give_up_on : (l : ℕ) (retries : Bool) (at : GiveUpAt) (reply : Reply)
    → GoesOn (once_queued (onces.GiveUp retries at))
    (after once_queued (once.in_give_up retries (once.next_give_up at reply))) (once.give_up_act l at) reply
give_up_on l retries give_up.Remove (Removed true) = never refl
give_up_on l retries give_up.Remove (Removed false) = never refl
give_up_on l retries give_up.Clear (Value seen) = never refl
give_up_on l retries give_up.Leave Done = never refl
give_up_on l retries give_up.Remove reply = λ is. inr (refl, refl)
give_up_on l retries at reply = never refl

abbrev pub OnceInNoHand : OncePlace → Type 0
OnceInNoHand (onces.Look c retries at) = LookInNoHand at
OnceInNoHand at = Unit {0}

pub once_on : (l : ℕ) (at : OncePlace) (reply : Reply) → reply ≢ Woken HandOff → OnceInNoHand at
    → GoesOn (once_queued at) (after once_queued (once.once_next at reply)) (once.once_act l at) reply
once_on l (onces.Look c retries at) reply calm free = same _ _ _ _ _ _ (same_look c retries at) refl
    (by_course l c retries at reply (once.begins_run c at reply) (once.is_late_asleep c at reply)
    (late_stays l c at reply) (look_on l c at reply calm free))
once_on l (onces.Run forced at) reply calm free = never (runs forced (once.next_run at reply))
once_on l (onces.GiveUp retries at) reply calm free = give_up_on l retries at reply

-- ---------------------------------------------------------------- reader-writer locks

abbrev rw_queued : RwLockPlace → Bool
rw_queued p = is_some (stands_at p.at) || is_some (hand_owner (parked_hand p.at))

abbrev at_queued : RwLockAt → Bool
at_queued to = is_some (stands_at to) || is_some (hand_owner (parked_hand to))

missed_off : (p : RwLockPlace) (how : Patience) → after rw_queued (rw.missed p how) ≡ false
missed_off p Patient = refl
missed_off p Timed = refl
missed_off p Try = refl

looked_by_off : (p : RwLockPlace) (seen : ℕ) (d : Decision) → after rw_queued (rw.looked_by p seen d) ≡ false
looked_by_off p seen (decisions.Refuse answer) = refl
looked_by_off p seen decisions.Take = refl
looked_by_off p seen decisions.Mark = refl
looked_by_off p seen decisions.Park = refl

looked_off_rw : (a : Admission) (p : RwLockPlace) (seen : ℕ) → after rw_queued (rw.looked a p seen) ≡ false
looked_off_rw a p seen = looked_by_off p seen (rw.decided a p seen)

came_in_off : (p : RwLockPlace) (q : RwLockPurpose) → after rw_queued (rw.came_in_for p q) ≡ false
came_in_off p (purpose.Enter access.Exclusive how) = refl
came_in_off p (purpose.Enter access.Shared how) = refl
came_in_off p (purpose.Enter access.Upgradable how) = refl
came_in_off p (purpose.Release x) = refl
came_in_off p (purpose.Downgrade d) = refl
came_in_off p (purpose.Upgrade how) = refl

exchanged_off : (a : Admission) (p : RwLockPlace) (expected seen : ℕ) (d : Decision)
    → after rw_queued (rw.exchanged_next a p expected seen d) ≡ false
exchanged_off a p expected seen decisions.Take = either rw_queued (seen == expected) _ _
    (came_in_off p p.purpose) (looked_off_rw a p seen)
exchanged_off a p expected seen decisions.Mark = either rw_queued (seen == expected) _ _ refl
    (looked_off_rw a p seen)
exchanged_off a p expected seen decisions.Park = looked_off_rw a p seen
exchanged_off a p expected seen (decisions.Refuse answer) = looked_off_rw a p seen

counted_off : (p : RwLockPlace) (seen : ℕ) → after rw_queued (rw.after_count p seen) ≡ false
counted_off p seen = either rw_queued (count_in seen == 0) _ _ refl refl

woken_off : (p : RwLockPlace) (m : Line) (b : Bool) → after rw_queued (rw.wakes_or_ends p m b) ≡ false
woken_off p m true = refl
woken_off p m false = refl

released_off : (p : RwLockPlace) (seen : ℕ) (x : Access) → after rw_queued (rw.released p seen x) ≡ false
released_off p seen access.Shared = woken_off p Second (has_aside seen && (count_in seen == 1))
released_off p seen access.Exclusive = woken_off p Main (has_parked seen)
released_off p seen access.Upgradable = woken_off p Main (has_parked seen)

gave_way_off : (p : RwLockPlace) (seen : ℕ) (q : RwLockPurpose) → after rw_queued (rw.gave_way_by p seen q)
    ≡ false
gave_way_off p seen (purpose.Enter x how) = released_off p seen x
gave_way_off p seen (purpose.Release x) = released_off p seen x
gave_way_off p seen (purpose.Downgrade d) = woken_off p Main (has_parked seen)
gave_way_off p seen (purpose.Upgrade how) = either rw_queued (count_in seen == 1) _ _ refl refl

wake_off : (p : RwLockPlace) (m : Line) (to : WakeAt) (reply : Reply)
    → after rw_queued (rw.wake_next p m to reply) ≡ false
wake_off p m waking.Enter Done = refl
wake_off p m waking.Take (Took any none_left) = refl
wake_off p m waking.Take (Picked sharers successor none_left) = refl
wake_off p m (waking.Clear any) (Value seen) = refl
wake_off p m (waking.Leave any) Done = refl
wake_off p m to reply = refl

park_on : (l : ℕ) (a : Admission) (x : Want) (m : Line) (p : RwLockPlace) (to : ParkAt) (reply : Reply)
    → reply ≢ Woken HandOff → GoesOn (at_queued (rw.parks_at m to))
    (after rw_queued (rw.park_next p m to reply)) (rw.park_act l a x m to) reply
park_on l a x Main p parking.Check (Parked true) calm = λ is. inl refl
park_on l a x Main p parking.Check (Parked false) calm = never refl
park_on l a x Main p (parking.Leave true) Done calm = λ is. inr (refl, refl)
park_on l a x Main p (parking.Leave true) reply calm = λ is. inr (refl, refl)
park_on l a x Main p (parking.Leave false) Done calm = never refl
park_on l a x Main p parking.Clear (Value seen) calm = never refl
park_on l a x Main p parking.GiveUp Done calm = never refl
park_on l a x Main p (parking.Leave false) reply calm = never refl
park_on l a x Main p parking.Asleep (Woken Normal) calm = never refl
park_on l a x Main p parking.Asleep (Woken HandOff) calm = absurd (calm refl)
park_on l a x Main p parking.Asleep reply calm = λ is. inr (refl, refl)
park_on l a x Main p (parking.Taken by) (Woken Normal) calm = never refl
park_on l a x Main p (parking.Taken by) (Woken HandOff) calm = absurd (calm refl)
park_on l a x Main p (parking.Taken by) reply calm = λ is. inr (refl, refl)
park_on l a x Main p parking.Remove (Removed true) calm = never refl
park_on l a x Main p parking.Remove (Removed false) calm = never refl
park_on l a x Main p parking.Remove reply calm = λ is. inr (refl, refl)
park_on l a x Main p to reply calm = never refl
park_on l a x Second p parking.Check (Parked true) calm = λ is. inl refl
park_on l a x Second p parking.Check (Parked false) calm = never refl
park_on l a x Second p (parking.Leave true) Done calm = λ is. inr (refl, refl)
park_on l a x Second p (parking.Leave true) reply calm = λ is. inr (refl, refl)
park_on l a x Second p (parking.Leave false) Done calm = never refl
park_on l a x Second p parking.Clear (Value seen) calm = never refl
park_on l a x Second p parking.GiveUp Done calm = never refl
park_on l a x Second p (parking.Leave false) reply calm = never refl
park_on l a x Second p parking.Asleep (Woken Normal) calm = never refl
park_on l a x Second p parking.Asleep (Woken HandOff) calm = absurd (calm refl)
park_on l a x Second p parking.Asleep reply calm = λ is. inr (refl, refl)
park_on l a x Second p (parking.Taken by) (Woken Normal) calm = never refl
park_on l a x Second p (parking.Taken by) (Woken HandOff) calm = absurd (calm refl)
park_on l a x Second p (parking.Taken by) reply calm = λ is. inr (refl, refl)
park_on l a x Second p parking.Remove (Removed none_left) calm = never refl
park_on l a x Second p parking.Remove reply calm = λ is. inr (refl, refl)
park_on l a x Second p to reply calm = never refl

rw_on : (l : ℕ) (a : Admission) (p : RwLockPlace) (to : RwLockAt) (reply : Reply) → reply ≢ Woken HandOff
    → GoesOn (at_queued to) (after rw_queued (rw.next_at a p to reply)) (rw.act_at l a p to) reply
rw_on l a p at.First (Value seen) calm =
    never (either rw_queued (seen == 0) _ _ refl (missed_off p (rw.patience_at p)))
rw_on l a p at.Load (Value seen) calm = never (looked_off_rw a p seen)
rw_on l a p (at.Decide expected) (Value seen) calm =
    never (exchanged_off a p expected seen (rw.decided a p expected))
rw_on l a p (at.Decide expected) Done calm = never refl
rw_on l a p (at.Park to) reply calm = park_on l a (rw.want_at p) Main p to reply calm
rw_on l a p at.Look (Value seen) calm = never (counted_off p seen)
rw_on l a p (at.Count expected) (Value seen) calm =
    never (either rw_queued (seen == expected) _ _ refl (counted_off p seen))
rw_on l a p (at.Count expected) Done calm = never refl
rw_on l a p at.Marked Done calm = never refl
rw_on l a p (at.Aside to) reply calm = park_on l a (rw.want_at p) Second p to reply calm
rw_on l a p at.RollBack (Value seen) calm = never (either rw_queued (has_parked seen) _ _ refl refl)
rw_on l a p at.GiveWay (Value seen) calm = never (gave_way_off p seen p.purpose)
rw_on l a p (at.Wake m to) reply calm = never (wake_off p m to reply)
rw_on l a p to reply calm = never refl

abbrev pub call_queued : Admission → RwLockCallPlace → Bool
call_queued a c = is_some (call_profile a c).stands || is_some (hand_owner (call_profile a c).hand)

plain_same : (a : Admission) (n : Next RwLockPlace) → after (call_queued a) (fair.plain_next n)
    ≡ after rw_queued n
plain_same a (At p) = refl
plain_same a (End answer) = refl

bump_same : (a : Admission) (q : RwLockPurpose) (n : Next RwLockPlace) → after (call_queued a)
    (fair.bump_next q n) ≡ after rw_queued n
bump_same a q (At p) = refl
bump_same a (purpose.Enter x how) (End answer) = refl
bump_same a (purpose.Release access.Shared) (End answer) = refl
bump_same a (purpose.Release access.Upgradable) (End answer) = refl
bump_same a (purpose.Release access.Exclusive) (End answer) = refl
bump_same a (purpose.Downgrade d) (End answer) = refl
bump_same a (purpose.Upgrade how) (End answer) = refl

-- the lock is handed over to a thread that sleeps in the main queue, in a call that enters
abbrev pub MayBeHanded : RwLockPurpose → RwLockAt → Reply → Type 0
MayBeHanded (purpose.Enter x how) (at.Park parking.Asleep) (Woken HandOff) = Unit {0}
MayBeHanded q to (Woken HandOff) = ⊥
MayBeHanded q to reply = Unit {0}

handed_off : (a : Admission) (x : Access) (how : Patience) (b : Bool) (n : Next RwLockCallPlace)
    → after (call_queued a) (fair.unless_given (Some (fair.handed_woken x how b false)) n) ≡ false
handed_off a access.Exclusive how true n = refl
handed_off a access.Exclusive how false n = refl
handed_off a access.Shared how b n = refl
handed_off a access.Upgradable how b n = refl

handed_on : (l : ℕ) (a : Admission) (b : Bool) (p : RwLockPlace) (q : RwLockPurpose) (to : RwLockAt) (by : ℕ)
    (alone : Bool) (n : Next RwLockCallPlace) → GoesOn (at_queued to) (after (call_queued a) n)
    (rw.act_at l a p to) (HandedBy by alone)
    → GoesOn (at_queued to) (after (call_queued a) (fair.unless_given (fair.handed_by b q to by alone) n))
    (rw.act_at l a p to) (HandedBy by alone)
handed_on l a b p (purpose.Enter x how) (at.Park (parking.Taken u)) by alone n goes = λ is. inr (refl, refl)
handed_on l a b p q to by alone n goes = goes

woken_on : (l : ℕ) (a : Admission) (b : Bool) (p : RwLockPlace) (q : RwLockPurpose) (to : RwLockAt)
    (n : Next RwLockCallPlace) → MayBeHanded q to (Woken HandOff)
    → GoesOn (at_queued to) (after (call_queued a) (fair.unless_given (fair.woken_with b q to) n))
    (rw.act_at l a p to) (Woken HandOff)
woken_on l a b p (purpose.Enter x how) (at.Park parking.Asleep) n may = never (handed_off a x how b n)
woken_on l a b p q to n may = absurd may

entering_on : (l : ℕ) (a : Admission) (b : Bool) (p : RwLockPlace) (reply : Reply) (n : Next RwLockPlace
    → Next RwLockCallPlace) → ((m : Next RwLockPlace) → after (call_queued a) (n m) ≡ after rw_queued m)
    → MayBeHanded p.purpose p.at reply
    → GoesOn (at_queued p.at) (after (call_queued a) (fair.unless_given (fair.given b p reply)
    (n (rw.rwlock_next a p reply)))) (rw.act_at l a p p.at) reply
entering_on l a b p (HandedBy by alone) n is may = handed_on l a b p p.purpose p.at by alone
    (n (rw.rwlock_next a p (HandedBy by alone)))
    (same _ _ _ _ _ _ refl (is (rw.rwlock_next a p (HandedBy by alone))) (rw_on l a p p.at (HandedBy by alone)
    (λ e. cc)))
entering_on l a b p (Woken HandOff) n is may = woken_on l a b p p.purpose p.at
    (n (rw.rwlock_next a p (Woken HandOff))) may
entering_on l a b p reply n is may = same _ _ _ _ _ _ refl (is (rw.rwlock_next a p reply))
    (rw_on l a p p.at reply (λ e. cc))

hands_over_off : (a : Admission) (x : Access) (b : Bool) (to : HandOverAt) (reply : Reply)
    → after (call_queued a) (fair.hand_over_next a x b to reply) ≡ false
hands_over_off a x b handing.Load (Value seen) = refl
hands_over_off a x b (handing.Free expected) (Value seen) = either (call_queued a) (seen == expected) _ _
    (enters_off x b) refl
  where
    enters_off : (x : Access) (b : Bool) → after (call_queued a) (fair.released x b) ≡ false
    enters_off access.Shared true = refl
    enters_off access.Upgradable true = refl
    enters_off access.Exclusive true = refl
    enters_off x false = refl
hands_over_off a x b (handing.Exchange k expected) (Value seen) = either (call_queued a) (seen == expected) _
    _ refl refl
hands_over_off a x b (handing.Leave any handed) Done = enters_off x b
  where
    enters_off : (x : Access) (b : Bool) → after (call_queued a) (fair.released x b) ≡ false
    enters_off access.Shared true = refl
    enters_off access.Upgradable true = refl
    enters_off access.Exclusive true = refl
    enters_off x false = refl
hands_over_off a x b handing.Enter Done = refl
hands_over_off a x b handing.Take (Picked n y none_left) = refl
hands_over_off a x b (handing.Store k) (Value seen) = refl
hands_over_off a x b (handing.Look k) (Value seen) = refl
hands_over_off a x b to reply = refl

pub glance_off : (a : Admission) (x : Access) (b : Bool)
    → after (call_queued a) (if b then At (fair.gives_up_at x) else End Ok) ≡ false
glance_off a access.Shared true = refl
glance_off a access.Upgradable true = refl
glance_off a access.Exclusive true = refl
glance_off a x false = refl

abbrev pub CallMayGo : RwLockCallPlace → Reply → Type 0
CallMayGo (places.Plain p) reply = MayBeHanded p.purpose p.at reply
CallMayGo (places.Bump p) reply = MayBeHanded p.purpose p.at reply
CallMayGo (places.Handed x how b (handed.Asleep by alone)) reply = ⊥
CallMayGo c reply = Unit {0}

pub call_on : (l : ℕ) (a : Admission) (c : RwLockCallPlace) (reply : Reply) → CallMayGo c reply
    → GoesOn (call_queued a c) (after (call_queued a) (fair.call_next a c reply)) (fair.call_act l a c) reply
call_on l a (places.Plain p) reply may = entering_on l a false p reply fair.plain_next (plain_same a) may
call_on l a (places.Bump p) reply may = entering_on l a true p reply (fair.bump_next p.purpose)
    (bump_same a p.purpose) may
call_on l a (places.PeekQueue x) (Value seen) may = never (glance_off a x (fair.gives_way a x seen))
call_on l a (places.PeekQueue x) reply may = never refl
call_on l a (places.HandOver x b to) reply may = never (hands_over_off a x b to reply)
call_on l a (places.Handed x how b (handed.Asleep by alone)) reply may = absurd may
call_on l a (places.Handed x how b handed.Accept) Done may = never refl
call_on l a (places.Handed x how b handed.Accept) (Value seen) may = never refl
call_on l a (places.Handed x how b handed.Accept) reply may = never refl

-- ---------------------------------------------------------------- condition variables

abbrev pub condvar_queued : CondvarPlace → Bool
condvar_queued at = is_some (or_else (mutex_side at).stands (condvar_profile at).stands) || is_some
    (hand_owner (or_else (mutex_side at).hand (condvar_profile at).hand))

pub beside_same : (m : ℕ) (timed late : Bool) (at : MutexPlace)
    → condvar_queued (condvars.Wait m timed (wait.Lock late at)) ≡ mutex_queued at
beside_same m timed late (Lock e retries (lock.Leave true)) = refl
beside_same m timed late (Lock e retries (lock.Leave false)) = refl
beside_same m timed late (Lock e retries at) = refl
beside_same m timed late TryLock = refl
beside_same m timed late (Unlock at) = refl
beside_same m timed late UnlockFair = refl
beside_same m timed late Bump = refl
beside_same m timed late (HandOff bumps at) = refl

relocks_same : (m : ℕ) (timed late : Bool) (n : Next MutexPlace)
    → after condvar_queued (condvar.in_wait m timed (condvar.relocked timed late n)) ≡ after mutex_queued n
relocks_same m timed late (At at) = beside_same m timed late at
relocks_same m timed late (End answer) = refl

-- a thread that releases its mutex stands in the queue of the condition variable, and one that sleeps stands
-- there or was moved
abbrev pub WaitMayGo : WaitAt → Reply → Type 0
WaitMayGo (wait.Release stands.Listed (Unlock at)) reply = condvar.comes_from_another reply ≡ false
WaitMayGo (wait.Release s at) reply = ⊥
WaitMayGo (wait.Asleep stands.Listed) reply = Unit {0}
WaitMayGo (wait.Asleep stands.Moved) reply = Unit {0}
WaitMayGo (wait.Asleep s) reply = ⊥
WaitMayGo (wait.Lock late at) reply = MutexInNoHand at
WaitMayGo at reply = Unit {0}

unlock_keeps : (m : ℕ) (at : UnlockAt) (reply : Reply) → spends_place (unlock_act m at) reply ≡ false
unlock_keeps m unlock.Subtract reply = refl
unlock_keeps m unlock.Enter reply = refl
unlock_keeps m unlock.Take reply = refl
unlock_keeps m (unlock.Clear any) reply = refl
unlock_keeps m (unlock.Leave any) reply = refl

wait_on : (c m : ℕ) (timed : Bool) (at : WaitAt) (reply : Reply) → WaitMayGo at reply
    → GoesOn (condvar_queued (condvars.Wait m timed at))
    (after condvar_queued (condvar.in_wait m timed (condvar.next_wait m timed at reply)))
    (condvar.wait_act c m at) reply
wait_on c m timed wait.Show (Value seen) may = never (shows ((seen == 0) || condvar.is_shown seen m))
  where
    shows : (b : Bool) → after condvar_queued (condvar.in_wait m timed (if b then At wait.Stand
        else At wait.Refuse)) ≡ false
    shows true = refl
    shows false = refl
wait_on c m timed wait.Enter Done may = never refl
wait_on c m timed wait.Refuse Done may = never refl
wait_on c m timed wait.Hide (Value seen) may = never refl
wait_on c m timed wait.GiveUp Done may = never refl
wait_on c m timed (wait.GiveUpMoved none_left) Done may = never refl
wait_on c m timed wait.Stand Done may = λ is. inl refl
wait_on c m timed wait.Leave reply may = λ is. inr (refl, refl)
wait_on c m timed (wait.Release stands.Listed (Unlock at)) reply may = λ is. inr (
  unlock_keeps m at reply,
  refl,
)
wait_on c m timed (wait.Release s at) reply may = absurd may
wait_on c m timed (wait.Asleep stands.Listed) (Woken Normal) may = never refl
wait_on c m timed (wait.Asleep stands.Listed) (Woken HandOff) may = never refl
wait_on c m timed (wait.Asleep stands.Listed) reply may = λ is. inr (refl, refl)
wait_on c m timed (wait.Asleep stands.Moved) (Woken Normal) may = never refl
wait_on c m timed (wait.Asleep stands.Moved) (Woken HandOff) may = never refl
wait_on c m timed (wait.Asleep stands.Moved) reply may = λ is. inr (refl, refl)
wait_on c m timed (wait.Asleep s) reply may = absurd may
wait_on c m timed wait.Remove (Removed true) may = never refl
wait_on c m timed wait.Remove (Removed false) may = never refl
wait_on c m timed wait.Remove reply may = λ is. inr (refl, refl)
wait_on c m timed wait.RemoveMoved (Removed none_left) may = never refl
wait_on c m timed wait.RemoveMoved reply may = λ is. inr (refl, refl)
wait_on c m timed (wait.Lock late at) reply may = same _ _ _ _ _ _ (beside_same m timed late at)
    (relocks_same m timed late (mutex_next at reply)) (mutex_on m at reply may)
wait_on c m timed at reply may = never refl

notify_off : (all : Bool) (m : ℕ) (n : Next NotifyAt) → after condvar_queued (condvar.in_notify all m n)
    ≡ false
notify_off all m (At at) = at_off at
  where
    at_off : (at : NotifyAt) → condvar_queued (condvars.Notify all m at) ≡ false
    at_off notify.Enter = refl
    at_off notify.Again = refl
    at_off notify.Hide = refl
    at_off notify.Mark = refl
    at_off (notify.Set seen) = refl
    at_off (notify.Move locked) = refl
    at_off (notify.Clear any) = refl
    at_off (notify.MarkMoved number) = refl
    at_off (notify.Leave any number) = refl
notify_off all m (End answer) = refl

abbrev pub CondvarMayGo : CondvarPlace → Reply → Type 0
CondvarMayGo (condvars.Wait m timed at) reply = WaitMayGo at reply
CondvarMayGo (condvars.Look all) reply = ⊥
CondvarMayGo (condvars.Notify all m at) reply = Unit {0}

pub condvar_on : (c : ℕ) (at : CondvarPlace) (reply : Reply) → CondvarMayGo at reply
    → GoesOn (condvar_queued at) (after condvar_queued (condvar.condvar_next at reply))
    (condvar.condvar_act c at) reply
condvar_on c (condvars.Wait m timed at) reply may = wait_on c m timed at reply may
condvar_on c (condvars.Look all) reply may = absurd may
condvar_on c (condvars.Notify all m at) reply may =
    never (notify_off all m (condvar.next_notify all m at reply))
