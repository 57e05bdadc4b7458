-- Each stand of a course is in the visit of a step on a word.
use Rattle.std.proofs.Common.{ℕ, ◌≡◌, ◌==◌, Bool, true, false, not, if◌then◌else◌, List, [], ◌∷◌, ◌++◌}
use Rattle.std.proofs.Common.{Option, Some, None, inl, inr, refl, sym, ◌∙◌, ap, subst}
use Rattle.std.proofs.lemmas.Bool.{false≢true}
use Rattle.core_base.specs.declared.notes.Note.TheVariants.{HandOff, Normal}
use Rattle.core_base.specs.declared.ops.Op.{Op}
use Rattle.core_base.specs.declared.ops.Op.TheVariants.{Load}
use Rattle.core_words.specs.declared.views.WordStep.{WordStep}
use Rattle.spec_locks.specs.Codes.{has_aside}
use Rattle.spec_locks.specs.declared.calls.Access.{Access}
use Rattle.spec_locks.specs.declared.calls.Access.TheVariants as access
use Rattle.spec_locks.specs.declared.calls.OnceCall.{OnceCall}
use Rattle.steps_base.specs.Acts.{holds}
use Rattle.steps_base.specs.declared.acts.Act.{Act}
use Rattle.steps_base.specs.declared.acts.Act.TheVariants as act
use Rattle.steps_base.specs.declared.acts.Next.{Next}
use Rattle.steps_base.specs.declared.acts.Next.TheVariants.{At, End}
use Rattle.steps_base.specs.declared.acts.Reply.{Reply}
use Rattle.steps_base.specs.declared.acts.Reply.TheVariants.{Done, Late, MovedTo, Parked, Picked, Removed}
use Rattle.steps_base.specs.declared.acts.Reply.TheVariants.{Requeued, Took, Value, Woken}
use Rattle.steps_mutex.specs.MutexSteps.{hand_off_act, is_locked, lock_act, mutex_act, mutex_respin}
use Rattle.steps_mutex.specs.MutexSteps.{mutex_next, unlock_act}
use Rattle.steps_mutex.specs.declared.hand_off.HandOffAt.{HandOffAt}
use Rattle.steps_mutex.specs.declared.hand_off.HandOffAt.TheVariants as hand_off
use Rattle.steps_mutex.specs.declared.lock.LockAt.{LockAt}
use Rattle.steps_mutex.specs.declared.lock.LockAt.TheVariants as lock
use Rattle.steps_mutex.specs.declared.places.MutexPlace.{MutexPlace}
use Rattle.steps_mutex.specs.declared.places.MutexPlace.TheVariants.{HandOff as HandOffMutex, Lock, Unlock}
use Rattle.steps_mutex.specs.declared.unlock.UnlockAt.{UnlockAt}
use Rattle.steps_mutex.specs.declared.unlock.UnlockAt.TheVariants as unlock
use Rattle.steps_once.specs.OnceSteps as once
use Rattle.steps_once.specs.declared.give_up.GiveUpAt.{GiveUpAt}
use Rattle.steps_once.specs.declared.give_up.GiveUpAt.TheVariants as give_up
use Rattle.steps_once.specs.declared.look.Course.{Course as OnceCourse}
use Rattle.steps_once.specs.declared.look.Course.TheVariants.{Ends}
use Rattle.steps_once.specs.declared.look.LookAt.{LookAt}
use Rattle.steps_once.specs.declared.look.LookAt.TheVariants as look
use Rattle.steps_once.specs.declared.places.OncePlace.{OncePlace}
use Rattle.steps_once.specs.declared.places.OncePlace.TheVariants as onces
use Rattle.steps_once.specs.declared.run.RunAt.{RunAt}
use Rattle.steps_once.specs.declared.run.RunAt.TheVariants as run
use Rattle.steps_rwlock.specs.RwLockSteps as rw
use Rattle.steps_rwlock.specs.declared.enter.Decision.{Decision}
use Rattle.steps_rwlock.specs.declared.enter.Decision.TheVariants as decisions
use Rattle.steps_rwlock.specs.declared.park.ParkAt.{ParkAt}
use Rattle.steps_rwlock.specs.declared.park.ParkAt.TheVariants as parking
use Rattle.steps_rwlock.specs.declared.places.Admission.{Admission}
use Rattle.steps_rwlock.specs.declared.places.RwLockAt.{RwLockAt}
use Rattle.steps_rwlock.specs.declared.places.RwLockAt.TheVariants as at
use Rattle.steps_rwlock.specs.declared.places.RwLockPlace.{RwLockPlace}
use Rattle.steps_rwlock.specs.declared.purposes.RwLockPurpose.{RwLockPurpose}
use Rattle.steps_rwlock.specs.declared.release.WakeAt.{WakeAt}
use Rattle.steps_rwlock.specs.declared.release.WakeAt.TheVariants as waking
use Rattle.core_base.specs.declared.keys.Line.{Line}
use Rattle.core_base.specs.declared.keys.Line.TheVariants.{Main, Second}
use Rattle.core_base.specs.declared.wants.Want.{Want}
use Rattle.steps_rwlock_fair.specs.FairProfiles.{call_respin}
use Rattle.steps_rwlock_fair.specs.FairSteps as fair
use Rattle.steps_rwlock_fair.specs.FairSteps.{call_act, call_next}
use Rattle.steps_rwlock_fair.specs.declared.hand_over.HandOverAt.{HandOverAt}
use Rattle.steps_rwlock_fair.specs.declared.hand_over.HandOverAt.TheVariants as handing
use Rattle.steps_rwlock_fair.specs.declared.handed.HandedAt.TheVariants as handed
use Rattle.steps_rwlock_fair.specs.declared.places.RwLockCallPlace.{RwLockCallPlace}
use Rattle.steps_rwlock_fair.specs.declared.places.RwLockCallPlace.TheVariants as places
use Rattle.steps_semaphore.specs.SemaphoreSteps as semaphores
use Rattle.steps_semaphore.specs.declared.acquire.AcquireAt.{AcquireAt}
use Rattle.steps_semaphore.specs.declared.acquire.AcquireAt.TheVariants as acquire
use Rattle.steps_semaphore.specs.declared.places.SemaphorePlace.{SemaphorePlace}
use Rattle.steps_semaphore.specs.declared.places.SemaphorePlace.TheVariants as semaphore
use Rattle.steps_semaphore.specs.declared.release.ReleaseAt.{ReleaseAt}
use Rattle.steps_semaphore.specs.declared.release.ReleaseAt.TheVariants as release
use Rattle.steps_semaphore.specs.declared.tries.TryAt.{TryAt}
use Rattle.steps_semaphore.specs.declared.tries.TryAt.TheVariants as tries
use Rattle.steps_condvar.specs.CondvarSteps as condvar
use Rattle.steps_condvar.specs.CondvarSteps.{asleep_next, comes_from_another, late_place, next_wait}
use Rattle.steps_condvar.specs.CondvarSteps.{past_release, released, relocked}
use Rattle.steps_condvar.specs.declared.notify.NotifyAt.{NotifyAt}
use Rattle.steps_condvar.specs.declared.notify.NotifyAt.TheVariants as notify
use Rattle.steps_condvar.specs.declared.places.CondvarPlace.{CondvarPlace}
use Rattle.steps_condvar.specs.declared.places.CondvarPlace.TheVariants as condvars
use Rattle.steps_condvar.specs.declared.wait.WaitAt.{WaitAt}
use Rattle.steps_condvar.specs.declared.wait.WaitAt.TheVariants as wait
use Rattle.steps_condvar.specs.declared.wait.WaiterFate.{WaiterFate}
use Rattle.steps_condvar.specs.declared.wait.WaiterFate.TheVariants as fate
use Rattle.lot_steps.specs.Steps.{act_of, condvar_goes, mutex_goes, next_place, once_goes, respins_from}
use Rattle.lot_steps.specs.Steps.{in_condvar, in_mutex, in_once, in_rwlock, in_semaphore, rwlock_goes}
use Rattle.lot_steps.specs.Steps.{semaphore_goes}
use Rattle.lot_steps.specs.declared.places.Place.{Place}
use Rattle.lot_steps.specs.declared.places.Place.TheVariants.{Idle, Mutex, RwLock, Once, Condvar, Semaphore}
use Rattle.parking_lot_core.specs.declared.tellings.Telling.{Telling}
use Rattle.run_base.specs.Courses.{BringsBy, Course, EachStandFollowsStep, PathItem, Performs, SleepsBy}
use Rattle.run_base.specs.Courses.{StandsFollowSteps, did_act, did_acts, did_enter, did_leave, did_sleep}
use Rattle.run_base.specs.Courses.{did_step, did_steps, goes, only_stands, rests, sees}
use Rattle.run_base.specs.Paths.{Brings, hands, is_wordless, other, parks, step, word}

-- ---------------------------------------------------------------- the places

-- an act from which a reply may lead to a stand alone
abbrev precedes_stand : Act → Bool
precedes_stand (act.Word lock op) = true
precedes_stand (act.Stand key _) = true
precedes_stand _ = false

either : (b : Bool) (x y : Act) → only_stands x ≡ false → only_stands y ≡ false
    → only_stands (if b then x else y) ≡ false
either true x y e f = e
either false x y e f = f

lock_off : (l : ℕ) (to : LockAt) → only_stands (lock_act l to) ≡ false
lock_off l (lock.Decide seen) =
    either (not (is_locked seen)) _ _ refl (either (seen == 1) _ _ refl refl)
lock_off l to = refl

unlock_off : (l : ℕ) (to : UnlockAt) → only_stands (unlock_act l to) ≡ false
unlock_off l unlock.Enter = refl
unlock_off l to = refl

hand_off_off : (l : ℕ) (to : HandOffAt) → only_stands (hand_off_act l to) ≡ false
hand_off_off l (hand_off.Store true none_left) = refl
hand_off_off l (hand_off.Store false none_left) = refl
hand_off_off l to = refl

mutex_off : (l : ℕ) (to : MutexPlace) → only_stands (mutex_act l to) ≡ false
mutex_off l (Lock e retries to) = lock_off l to
mutex_off l (Unlock to) = unlock_off l to
mutex_off l (HandOffMutex bumps to) = hand_off_off l to
mutex_off l to = refl

course_off : (l v : ℕ) (c : OnceCourse) → only_stands (once.course_act l v c) ≡ false
course_off l v (Ends answer) = refl
course_off l v c = refl

look_off : (l : ℕ) (c : OnceCall) (to : LookAt) → only_stands (once.look_act l c to) ≡ false
look_off l c (look.Decide seen) = course_off l seen (once.course_of c seen)
look_off l c to = refl

run_off : (l : ℕ) (to : RunAt) → only_stands (once.run_act l to) ≡ false
run_off l (run.Enter succeeded) = refl
run_off l to = refl

give_up_off : (l : ℕ) (to : GiveUpAt) → only_stands (once.give_up_act l to) ≡ false
give_up_off l give_up.Remove = refl
give_up_off l to = refl

once_off : (l : ℕ) (to : OncePlace) → only_stands (once.once_act l to) ≡ false
once_off l (onces.Look c retries to) = look_off l c to
once_off l (onces.Run forced to) = run_off l to
once_off l (onces.GiveUp retries to) = give_up_off l to

decided_off : (l : ℕ) (q : RwLockPurpose) (seen : ℕ) (d : Decision) → only_stands (rw.decided_act l q seen d)
    ≡ false
decided_off l q seen decisions.Take = refl
decided_off l q seen d = refl

park_off : (l : ℕ) (a : Admission) (x : Want) (m : Line) (to : ParkAt)
    → only_stands (rw.park_act l a x m to) ≡ false
park_off l a x m parking.Check = refl
park_off l a x m to = refl

wake_off : (l : ℕ) (a : Admission) (q : RwLockPurpose) (m : Line) (to : WakeAt)
    → only_stands (rw.wake_act l a q m to) ≡ false
wake_off l a q m waking.Enter = refl
wake_off l a q m to = refl

rw_off : (l : ℕ) (a : Admission) (p : RwLockPlace) (to : RwLockAt) → only_stands (rw.act_at l a p to) ≡ false
rw_off l a p (at.Decide seen) = decided_off l p.purpose seen (rw.decided a p seen)
rw_off l a p (at.Park to) = park_off l a (rw.want_at p) Main to
rw_off l a p (at.Count seen) = either (has_aside seen) _ _ refl refl
rw_off l a p (at.Aside to) = park_off l a (rw.want_at p) Second to
rw_off l a p (at.Wake m to) = wake_off l a p.purpose m to
rw_off l a p to = refl

hand_over_off : (l : ℕ) (a : Admission) (x : Access) (to : HandOverAt)
    → only_stands (fair.hand_over_act l a x to) ≡ false
hand_over_off l a x (handing.Exchange k seen) = either (fair.has_room a.limit k seen) _ _ refl refl
hand_over_off l a x to = refl

accept_off : (l : ℕ) (x : Access) → only_stands (fair.accept_act l x) ≡ false
accept_off l access.Exclusive = refl
accept_off l x = refl

call_off : (l : ℕ) (a : Admission) (c : RwLockCallPlace) → only_stands (call_act l a c) ≡ false
call_off l a (places.Plain p) = rw_off l a p p.at
call_off l a (places.Bump p) = rw_off l a p p.at
call_off l a (places.PeekQueue x) = refl
call_off l a (places.HandOver x b to) = hand_over_off l a x to
call_off l a (places.Handed x how b (handed.Asleep by alone)) = refl
call_off l a (places.Handed x how b handed.Accept) = accept_off l x

acquire_off : (l : ℕ) (to : AcquireAt) → only_stands (semaphores.acquire_act l to) ≡ false
acquire_off l (acquire.Decide seen) =
    either (semaphores.is_free seen) _ _ refl (either (seen == 0) _ _ refl refl)
acquire_off l to = refl

try_off : (l : ℕ) (to : TryAt) → only_stands (semaphores.try_act l to) ≡ false
try_off l (tries.Decide seen) = either (semaphores.is_free seen) _ _ refl refl
try_off l to = refl

release_off : (l : ℕ) (to : ReleaseAt) → only_stands (semaphores.release_act l to) ≡ false
release_off l release.Enter = refl
release_off l to = refl

semaphore_off : (l : ℕ) (to : SemaphorePlace) → only_stands (semaphores.semaphore_act l to) ≡ false
semaphore_off l (semaphore.Acquire timed retries to) = acquire_off l to
semaphore_off l (semaphore.Try to) = try_off l to
semaphore_off l (semaphore.Release to) = release_off l to

move_off : (all locked : Bool) (c m : ℕ) → only_stands (condvar.move_act all locked c m) ≡ false
move_off true locked c m = refl
move_off false true c m = refl
move_off false false c m = refl

notify_off : (all : Bool) (c m : ℕ) (to : NotifyAt) → only_stands (condvar.notify_act all c m to) ≡ false
notify_off all c m (notify.Move locked) = move_off all locked c m
notify_off all c m to = refl

-- whether a wait goes on to its stand
abbrev to_stand : Next WaitAt → Bool
to_stand (At wait.Stand) = true
to_stand (At _) = false
to_stand (End _) = false

wait_so : (c m : ℕ) (timed : Bool) (n : Next WaitAt)
    → only_stands (act_of (condvar_goes c (condvar.in_wait m timed n))) ≡ to_stand n
wait_so c m timed (At (wait.Release by to)) = mutex_off m to
wait_so c m timed (At (wait.Lock late to)) = mutex_off m to
wait_so c m timed (At to) = refl
wait_so c m timed (End answer) = refl

notify_so : (c m : ℕ) (all : Bool) (n : Next NotifyAt)
    → only_stands (act_of (condvar_goes c (condvar.in_notify all m n))) ≡ false
notify_so c m all (At to) = notify_off all c m to
notify_so c m all (End answer) = refl

past_off : (s : WaiterFate) → to_stand (At (past_release s)) ≡ false
past_off (fate.Noted Normal) = refl
past_off (fate.Noted HandOff) = refl
past_off s = refl

late_off : (s : WaiterFate) → to_stand (At (late_place s)) ≡ false
late_off fate.Listed = refl
late_off s = refl

asleep_off : (s : WaiterFate) (reply : Reply) → to_stand (At (asleep_next s reply)) ≡ false
asleep_off s Late = late_off s
asleep_off s reply = past_off (condvar.stands_after s reply)

released_off : (s : WaiterFate) (n : Next MutexPlace) → to_stand (At (released s n)) ≡ false
released_off s (At to) = refl
released_off s (End answer) = past_off s

either_at : (b : Bool) (x y : WaitAt) → to_stand (At x) ≡ false → to_stand (At y) ≡ false
    → to_stand (At (if b then x else y)) ≡ false
either_at true x y e f = e
either_at false x y e f = f

either_next : (b : Bool) (x y : WaitAt) → to_stand (At x) ≡ false → to_stand (At y) ≡ false
    → to_stand (if b then At x else At y) ≡ false
either_next true x y e f = e
either_next false x y e f = f

relocked_off : (timed late : Bool) (n : Next MutexPlace) → to_stand (relocked timed late n) ≡ false
relocked_off timed late (At to) = refl
relocked_off timed late (End answer) = refl

none : {A : Type 0} {b : Bool} → b ≡ false → b ≡ true → A
none off on = absurd (false≢true (sym off ∙ on))

-- a wait comes to its stand from its exchange alone, and stays there by no reply to it
wait_from : (c m : ℕ) (timed : Bool) (w : WaitAt) (reply : Reply)
    → to_stand (next_wait m timed w reply) ≡ true → precedes_stand (condvar.wait_act c m w) ≡ true
wait_from c m timed wait.Show reply e = refl
wait_from c m timed wait.Stand reply e = refl
wait_from c m timed wait.Hide reply e = refl
wait_from c m timed wait.Enter Done e = absurd (false≢true e)
wait_from c m timed wait.Enter reply e = absurd (false≢true e)
wait_from c m timed wait.Leave Done e = absurd (false≢true e)
wait_from c m timed wait.Leave reply e = absurd (false≢true e)
wait_from c m timed wait.Refuse Done e = absurd (false≢true e)
wait_from c m timed wait.Refuse reply e = absurd (false≢true e)
wait_from c m timed (wait.Release s to) reply e =
    none (either_at (comes_from_another reply) _ _ refl (released_off s (mutex_next to reply))) e
wait_from c m timed (wait.Asleep s) reply e = none (asleep_off s reply) e
wait_from c m timed wait.Remove (Removed none_left) e = none (either_next none_left _ _ refl refl) e
wait_from c m timed wait.Remove reply e = absurd (false≢true e)
wait_from c m timed wait.GiveUp Done e = absurd (false≢true e)
wait_from c m timed wait.GiveUp reply e = absurd (false≢true e)
wait_from c m timed wait.RemoveMoved (Removed none_left) e = absurd (false≢true e)
wait_from c m timed wait.RemoveMoved reply e = absurd (false≢true e)
wait_from c m timed (wait.GiveUpMoved none_left) Done e = absurd (false≢true e)
wait_from c m timed (wait.GiveUpMoved none_left) reply e = absurd (false≢true e)
wait_from c m timed (wait.Lock late to) reply e = none (relocked_off timed late (mutex_next to reply)) e

mutex_to : (l : ℕ) (n : Next MutexPlace) → only_stands (act_of (mutex_goes l n)) ≡ false
mutex_to l (At to) = mutex_off l to
mutex_to l (End answer) = refl

rwlock_to : (l : ℕ) (a : Admission) (n : Next RwLockCallPlace)
    → only_stands (act_of (rwlock_goes l a n)) ≡ false
rwlock_to l a (At to) = call_off l a to
rwlock_to l a (End answer) = refl

once_to : (l : ℕ) (n : Next OncePlace) → only_stands (act_of (once_goes l n)) ≡ false
once_to l (At to) = once_off l to
once_to l (End answer) = refl

semaphore_to : (l : ℕ) (n : Next SemaphorePlace) → only_stands (act_of (semaphore_goes l n)) ≡ false
semaphore_to l (At to) = semaphore_off l to
semaphore_to l (End answer) = refl

before_stand : (p : Place) (reply : Reply) → only_stands (act_of (next_place p reply)) ≡ true
    → precedes_stand (act_of p) ≡ true
before_stand Idle reply e = absurd (false≢true e)
before_stand (Mutex l to) reply e = none (mutex_to l (mutex_next to reply)) e
before_stand (RwLock l a to) reply e = none (rwlock_to l a (call_next a to reply)) e
before_stand (Once l to) reply e = none (once_to l (once.once_next to reply)) e
before_stand (Condvar c (condvars.Wait m timed w)) reply e =
    wait_from c m timed w reply (sym (wait_so c m timed (next_wait m timed w reply)) ∙ e)
before_stand (Condvar c (condvars.Look all)) reply e = refl
before_stand (Condvar c (condvars.Notify all m to)) reply e =
    none (notify_so c m all (condvar.next_notify all m to reply)) e
before_stand (Semaphore l to) reply e = none (semaphore_to l (semaphores.semaphore_next to reply)) e

-- a thread looks at the word once more where it does not stand
abbrev stands_there : Option Place → Bool
stands_there None = false
stands_there (Some p) = only_stands (act_of p)

mutex_there : (l : ℕ) (o : Option MutexPlace) → stands_there (in_mutex l o) ≡ false
mutex_there l None = refl
mutex_there l (Some to) = mutex_off l to

rwlock_there : (l : ℕ) (a : Admission) (o : Option RwLockCallPlace) → stands_there (in_rwlock l a o) ≡ false
rwlock_there l a None = refl
rwlock_there l a (Some to) = call_off l a to

once_there : (l : ℕ) (o : Option OncePlace) → stands_there (in_once l o) ≡ false
once_there l None = refl
once_there l (Some to) = once_off l to

semaphore_there : (l : ℕ) (o : Option SemaphorePlace) → stands_there (in_semaphore l o) ≡ false
semaphore_there l None = refl
semaphore_there l (Some to) = semaphore_off l to

lock_there : (c m : ℕ) (timed late : Bool) (o : Option MutexPlace)
    → stands_there (in_condvar c (condvar.in_lock m timed late o)) ≡ false
lock_there c m timed late None = refl
lock_there c m timed late (Some to) = mutex_off m to

condvar_there : (c : ℕ) (to : CondvarPlace) → stands_there (in_condvar c (condvar.condvar_respin to)) ≡ false
condvar_there c (condvars.Wait m timed (wait.Lock late to)) = lock_there c m timed late (mutex_respin to)
condvar_there c (condvars.Wait m timed w) = refl
condvar_there c to = refl

looks_off : (p : Place) → stands_there (respins_from p) ≡ false
looks_off Idle = refl
looks_off (Mutex l to) = mutex_there l (mutex_respin to)
looks_off (RwLock l a to) = rwlock_there l a (call_respin a to)
looks_off (Once l to) = once_there l (once.once_respin to)
looks_off (Condvar c to) = condvar_there c to
looks_off (Semaphore l to) = semaphore_there l (semaphores.semaphore_respin to)

looks_on : (p q : Place) → respins_from p ≡ Some q → only_stands (act_of q) ≡ false
looks_on p q is = sym (ap stands_there is) ∙ looks_off p

-- ---------------------------------------------------------------- the path

-- whether the thread has stepped on a word since it last entered or left a section
abbrev stepped_after : Bool → List PathItem → Bool
stepped_after b [] = b
stepped_after b (did_step _ ∷ more) = stepped_after true more
stepped_after b (did_enter _ ∷ more) = stepped_after false more
stepped_after b (did_leave _ ∷ more) = stepped_after false more
stepped_after b (did_sleep ∷ more) = stepped_after b more
stepped_after b (did_act _ ∷ more) = stepped_after b more

each_on : (b : Bool) (s t : List PathItem) → EachStandFollowsStep b s
    → EachStandFollowsStep (stepped_after b s) t → EachStandFollowsStep b (s ++ t)
each_on b [] t e f = f
each_on b (did_step _ ∷ s) t e f = each_on true s t e f
each_on b (did_enter _ ∷ s) t e f = each_on false s t e f
each_on b (did_leave _ ∷ s) t e f = each_on false s t e f
each_on b (did_sleep ∷ s) t e f = each_on b s t e f
each_on b (did_act _ ∷ s) t e f = (e.0, each_on b s t e.1 f)

after_on : (b : Bool) (s t : List PathItem) → stepped_after b (s ++ t) ≡ stepped_after (stepped_after b s) t
after_on b [] t = refl
after_on b (did_step _ ∷ s) t = after_on true s t
after_on b (did_enter _ ∷ s) t = after_on false s t
after_on b (did_leave _ ∷ s) t = after_on false s t
after_on b (did_sleep ∷ s) t = after_on b s t
after_on b (did_act _ ∷ s) t = after_on b s t

-- acts on queues after a step
acts_follow : (b : Bool) (t : List Telling) → b ≡ true → EachStandFollowsStep b (did_acts t)
acts_follow b [] e = tt
acts_follow b (one ∷ t) e = (λ stands. e, acts_follow b t e)

acts_stay : (b : Bool) (t : List Telling) → stepped_after b (did_acts t) ≡ b
acts_stay b [] = refl
acts_stay b (one ∷ t) = acts_stay b t

module _ (me : ℕ) (b : Bool) where
  no_stand : false ≡ true → b ≡ true
  no_stand e = absurd (false≢true e)

  slept : (reply : Reply) (t : List PathItem) → SleepsBy me reply t → EachStandFollowsStep b t
  slept (Woken note) t (inl woken) = subst (EachStandFollowsStep b) (sym woken) tt
  slept (Woken note) t (inr late) =
      subst (EachStandFollowsStep b) (sym late.1) (λ e. e, tt)
  slept Late t late = subst (EachStandFollowsStep b) (sym late.1) tt
  slept (MovedTo to) t moved = subst (EachStandFollowsStep b) (sym moved) tt
  slept reply t none = absurd none

  -- what was told in a section is all that was done there
  told : {t : List PathItem} {s u : List Telling} → t ≡ did_acts s → s ≡ u
      → EachStandFollowsStep b (did_acts u) → EachStandFollowsStep b t
  told done same e = subst (EachStandFollowsStep b) (sym (done ∙ ap did_acts same)) e

  -- an act with no step on a word
  follows_by : (a : Act) (reply : Reply) (t : List PathItem) → Performs me a reply t
      → is_wordless a ≡ true → (only_stands a ≡ true → b ≡ true) → EachStandFollowsStep b t
  follows_by (act.Enter _) reply t does calm stepped = subst (EachStandFollowsStep b) (sym does) tt
  follows_by (act.Leave _ _) reply t does calm stepped = subst (EachStandFollowsStep b) (sym does) tt
  follows_by act.Sleep reply t does calm stepped = slept reply t does
  follows_by (act.Stand _ _) reply t does calm stepped =
      told does.1 refl (acts_follow b does.0 (stepped refl))
  follows_by (act.Take _ _) (Took _ _) t does calm stepped = told does.1 does.2.2 (no_stand, (no_stand, tt))
  follows_by (act.Take _ _) (Picked _ _ _) t does calm stepped =
      told does.1 does.2.2 (no_stand, (no_stand, tt))
  follows_by (act.Take _ _) reply t does calm stepped = absurd does.2
  follows_by (act.Requeue _ _ _) (Requeued _ _) t does calm stepped =
      told does.1 does.2.3 (no_stand, (no_stand, tt))
  follows_by (act.Requeue _ _ _) reply t does calm stepped = told does.1 does.2 tt
  follows_by (act.Remove _) (Removed _) t does calm stepped = told does.1 does.2.1 (no_stand, (no_stand, tt))
  follows_by (act.Remove _) reply t does calm stepped = told does.1 does.2 tt
  follows_by (act.Park _ _ _ _) reply t does calm stepped = absurd (false≢true calm)
  follows_by a reply t does calm stepped = told does.1 does.2 tt

  -- nor does it lead to a stand, unless it stands itself
  stays_by : (a : Act) (reply : Reply) (t : List PathItem) → Performs me a reply t → is_wordless a ≡ true
      → (only_stands a ≡ true → b ≡ true) → precedes_stand a ≡ true → stepped_after b t ≡ true
  stays_by (act.Stand _ _) reply t does calm stepped precedes =
      ap (stepped_after b) does.1 ∙ acts_stay b does.0 ∙ stepped refl
  stays_by (act.Word _ _) reply t does calm stepped precedes = absurd (false≢true calm)
  stays_by a reply t does calm stepped precedes = absurd (false≢true precedes)

module _ (at : ℕ → ℕ) (me : ℕ) where
  abbrev Goes : Bool → Place → List PathItem → Reply → Type 0
  Goes b q y reply = EachStandFollowsStep b y
      × (only_stands (act_of (next_place q reply)) ≡ true → stepped_after b y ≡ true)

  -- acts on queues after the step of their own act
  stepped : (b : Bool) (q : Place) (x : ℕ) (op : Op) (seen : ℕ) (done : List PathItem) (reply : Reply)
      (t : List Telling) → done ≡ did_acts t → Goes b q (did_steps (step x op seen) ++ done) reply
  stepped b q x op seen done reply t e = (
    subst (EachStandFollowsStep true) (sym e) (acts_follow true t refl),
    λ stands. ap (stepped_after true) e ∙ acts_stay true t,
  )

  turned : (b : Bool) (q : Place) (steps : List WordStep) (done : List PathItem) (reply : Reply)
      → Brings at q steps reply → Performs me (act_of q) reply done
      → (only_stands (act_of q) ≡ true → b ≡ true) → Goes b q (did_steps steps ++ done) reply
  turned b _ _ done _ (word p l op seen is) does holds =
      let by = subst (λ (a : Act). Performs me a (Value seen) done) is does in
      stepped b p (at l) op seen done (Value seen) by.0 by.1
  turned b _ _ done _ (hands p l op seen is) does holds =
      let by = subst (λ (a : Act). Performs me a (Value seen) done) is does in
      stepped b p (at l) op seen done (Value seen) by.0 by.1
  turned b _ _ done _ (parks p l key check wanted seen is) does stands =
      let by = subst (λ (a : Act). Performs me a (Parked (holds check seen)) done) is does in
      stepped b p (at l) Load seen done (Parked (holds check seen)) by.0 by.1
  turned b _ _ done _ (other p reply calm _ _) does holds = (
    follows_by me b (act_of p) reply done does calm holds,
    λ stands. stays_by me b (act_of p) reply done does calm holds (before_stand p reply stands),
  )

module _ (at : ℕ → ℕ) (me : ℕ) (p : Place) where
  abbrev Follows : List PathItem → Place → Type 0
  Follows x q = EachStandFollowsStep (only_stands (act_of p)) x
      × (only_stands (act_of q) ≡ true → stepped_after (only_stands (act_of p)) x ≡ true)

  turned_on : (q : Place) (x y : List PathItem) (reply : Reply) → Follows x q → BringsBy at me q y reply
      → Follows (x ++ y) (next_place q reply)
  turned_on q x y reply before will_bring = let b = only_stands (act_of p) in
      let turn = turned at me (stepped_after b x) q will_bring.0 will_bring.1 reply will_bring.3 will_bring.4 before.1 in (
        each_on b x y before.0 (subst (EachStandFollowsStep (stepped_after b x)) (sym will_bring.2) turn.0),
        λ stands. after_on b x y ∙ ap (stepped_after (stepped_after b x)) will_bring.2 ∙ turn.1 stands,
      )

  follows_at : (q : Place) (x : List PathItem) → Course at me p x q → Follows x q
  follows_at _ _ (rests _) = (tt, λ stands. stands)
  follows_at _ _ (goes _ q x y reply course will_bring) = turned_on q x y reply (follows_at q x course) will_bring
  follows_at r x (sees _ q _ _ course is) =
      let before = follows_at q x course in (before.0, λ stands. none (looks_on q r is) stands)

pub each_stand : StandsFollowSteps
each_stand at me p path answer a = subst (EachStandFollowsStep (only_stands (act_of p))) (sym a.whole)
    (turned_on at me p a.last a.before a.more a.reply (follows_at at me p a.last a.before a.course)
    a.will_bring).0
