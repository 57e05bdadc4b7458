-- No call has more before it than this.
use Rattle.std.proofs.Common.{ℕ, Bool, true, false, if◌then◌else◌, ◌==◌, ◌+◌, ◌≤◌, arith}
use Rattle.spec_locks.specs.Codes.{has_aside, leaves_readers}
use Rattle.spec_locks.specs.declared.calls.Access.{Access}
use Rattle.steps_base.specs.Acts.{holds}
use Rattle.steps_mutex.specs.declared.lock.LockAt.{LockAt}
use Rattle.steps_mutex.specs.declared.lock.LockAt.TheVariants as lock
use Rattle.steps_mutex.specs.declared.unlock.UnlockAt.{UnlockAt}
use Rattle.steps_mutex.specs.declared.unlock.UnlockAt.TheVariants as unlock
use Rattle.steps_mutex.specs.declared.hand_off.HandOffAt.{HandOffAt}
use Rattle.steps_mutex.specs.declared.hand_off.HandOffAt.TheVariants as hand_off
use Rattle.steps_mutex.specs.declared.places.MutexPlace.{MutexPlace}
use Rattle.steps_mutex.specs.declared.places.MutexPlace.TheVariants as mutex
use Rattle.steps_once.specs.declared.look.LookAt.TheVariants as look
use Rattle.steps_once.specs.declared.run.RunAt.TheVariants as run
use Rattle.steps_once.specs.declared.give_up.GiveUpAt.TheVariants as give_up
use Rattle.steps_once.specs.declared.places.OncePlace.{OncePlace}
use Rattle.steps_once.specs.declared.places.OncePlace.TheVariants as once
use Rattle.steps_once.specs.OnceSteps.{check_of, course_of}
use Rattle.steps_semaphore.specs.declared.acquire.AcquireAt.TheVariants as acquire
use Rattle.steps_semaphore.specs.declared.tries.TryAt.TheVariants as tries
use Rattle.steps_semaphore.specs.declared.release.ReleaseAt.TheVariants as release
use Rattle.steps_semaphore.specs.declared.places.SemaphorePlace.{SemaphorePlace}
use Rattle.steps_semaphore.specs.declared.places.SemaphorePlace.TheVariants as semaphore
use Rattle.steps_condvar.specs.declared.notify.NotifyAt.{NotifyAt}
use Rattle.steps_condvar.specs.declared.notify.NotifyAt.TheVariants as notify
use Rattle.steps_condvar.specs.declared.wait.WaitAt.{WaitAt}
use Rattle.steps_condvar.specs.declared.wait.WaitAt.TheVariants as wait
use Rattle.steps_condvar.specs.declared.places.CondvarPlace.{CondvarPlace}
use Rattle.steps_condvar.specs.declared.places.CondvarPlace.TheVariants as condvar
use Rattle.steps_rwlock.specs.declared.places.Admission.{Admission}
use Rattle.steps_rwlock.specs.declared.places.RwLockPlace.{RwLockPlace}
use Rattle.steps_rwlock.specs.declared.places.RwLockAt.{RwLockAt}
use Rattle.steps_rwlock.specs.declared.places.RwLockAt.TheVariants as at
use Rattle.steps_rwlock.specs.declared.park.ParkAt.{ParkAt}
use Rattle.steps_rwlock.specs.declared.park.ParkAt.TheVariants as parking
use Rattle.steps_rwlock.specs.declared.release.WakeAt.TheVariants as waking
use Rattle.steps_rwlock.specs.RwLockSteps.{decided}
use Rattle.steps_rwlock_fair.specs.declared.hand_over.HandOverAt.{HandOverAt}
use Rattle.steps_rwlock_fair.specs.declared.hand_over.HandOverAt.TheVariants as handing
use Rattle.steps_rwlock_fair.specs.declared.handed.HandedAt.TheVariants as handed
use Rattle.steps_rwlock_fair.specs.declared.places.RwLockCallPlace.{RwLockCallPlace}
use Rattle.steps_rwlock_fair.specs.declared.places.RwLockCallPlace.TheVariants as fair
use Rattle.lot_steps.specs.declared.places.Place.{Place}
use Rattle.lot_steps.specs.declared.places.Place.TheVariants.{Idle, Mutex, RwLock, Once, Condvar, Semaphore}
use Rattle.lot_rests.proofs.Ways.{acquire_enters, call_ways, checks, condvar_ways, decides, hand_over_ways}
use Rattle.lot_rests.proofs.Ways.{is_park, leaves, loads, lock_enters, lock_ways, mutex_ways, once_ways}
use Rattle.lot_rests.proofs.Ways.{park_ways, parks, rwlock_ways, semaphore_ways, waits_in_main, ways}
use Rattle.lot_rests.proofs.Work.{call_work, condvar_work, hand_off_work, is_release, lock_work, mutex_work}
use Rattle.lot_rests.proofs.Work.{notify_work, once_work, rwlock_work, semaphore_work, unlock_work, wait_work}
use Rattle.lot_rests.proofs.Work.{work, work_after}

-- ---------------------------------------------------------------- work

lock_work_most : (at : LockAt) → lock_work at ≤ 4
lock_work_most lock.First = omega arith
lock_work_most at = omega arith

unlock_work_most : (at : UnlockAt) → unlock_work at ≤ 5
unlock_work_most unlock.Enter = omega arith
unlock_work_most at = omega arith

hand_off_work_most : (at : HandOffAt) → hand_off_work at ≤ 4
hand_off_work_most hand_off.Enter = omega arith
hand_off_work_most at = omega arith

after_most : (bumps : Bool) (again : ℕ) → work_after bumps again ≤ again
after_most true again = omega arith
after_most false again = omega arith

mutex_work_most : (at : MutexPlace) → mutex_work at ≤ 9
mutex_work_most (mutex.Lock e again at) = let a = lock_work_most at in omega arith
mutex_work_most (mutex.Unlock at) = let a = unlock_work_most at in omega arith
mutex_work_most (mutex.HandOff bumps at) = let a = hand_off_work_most at in let b = after_most bumps 4
    in omega arith
mutex_work_most at = omega arith

once_work_most : (at : OncePlace) → once_work at ≤ 21
once_work_most (once.Run forced (run.Closure poisoned)) = omega arith
once_work_most (once.Run forced at) = omega arith
once_work_most (once.GiveUp again give_up.Remove) = omega arith
once_work_most (once.GiveUp again at) = omega arith
once_work_most at = omega arith

semaphore_work_most : (at : SemaphorePlace) → semaphore_work at ≤ 21
semaphore_work_most (semaphore.Acquire timed again acquire.Load) = omega arith
semaphore_work_most (semaphore.Acquire timed again at) = omega arith
semaphore_work_most (semaphore.Release release.Add) = omega arith
semaphore_work_most (semaphore.Release at) = omega arith
semaphore_work_most at = omega arith

wait_work_most : (at : WaitAt) → wait_work at ≤ 17
wait_work_most (wait.Release s at) = let a = mutex_work_most at in omega arith
wait_work_most (wait.Lock late at) = let a = mutex_work_most at in omega arith
wait_work_most at = omega arith

notify_work_most : (at : NotifyAt) → notify_work at ≤ 7
notify_work_most notify.Enter = omega arith
notify_work_most at = omega arith

condvar_work_most : (at : CondvarPlace) → condvar_work at ≤ 21
condvar_work_most (condvar.Wait m timed at) = let a = wait_work_most at in omega arith
condvar_work_most (condvar.Notify all m at) = let a = notify_work_most at in omega arith
condvar_work_most (condvar.Look all) = omega arith

rwlock_work_most : (to : RwLockAt) → rwlock_work to ≤ 10
rwlock_work_most (at.Park parking.Check) = omega arith
rwlock_work_most (at.Park to) = omega arith
rwlock_work_most (at.Aside parking.Check) = omega arith
rwlock_work_most (at.Aside to) = omega arith
rwlock_work_most (at.Wake m waking.Enter) = omega arith
rwlock_work_most (at.Wake m to) = omega arith
rwlock_work_most to = omega arith

hand_over_work_most : (x : Access) (bumps : Bool) (to : HandOverAt) → call_work (fair.HandOver x bumps to)
    ≤ work_after bumps 10 + 5
hand_over_work_most x bumps handing.Load = omega arith
hand_over_work_most x bumps to = omega arith

call_work_most : (c : RwLockCallPlace) → call_work c ≤ 21
call_work_most (fair.Plain p) = let a = rwlock_work_most p.at in omega arith
call_work_most (fair.Bump p) = let a = rwlock_work_most p.at in let b = after_most (is_release p.purpose) 10
    in omega arith
call_work_most (fair.HandOver x bumps to) = let a = hand_over_work_most x bumps to in let b =
    after_most bumps 10 in omega arith
call_work_most (fair.Handed x how bumps handed.Accept) = omega arith
call_work_most (fair.Handed x how bumps to) = omega arith
call_work_most (fair.PeekQueue x) = omega arith

pub work_most : (p : Place) → work p ≤ 21
work_most Idle = omega arith
work_most (Mutex l at) = let a = mutex_work_most at in omega arith
work_most (RwLock l a c) = call_work_most c
work_most (Once l at) = once_work_most at
work_most (Condvar l at) = condvar_work_most at
work_most (Semaphore l at) = semaphore_work_most at

-- ---------------------------------------------------------------- ways

loads_most : (waits : Bool) → loads waits + 1 ≤ 5
loads_most true = omega arith
loads_most false = omega arith

decides_most : (enters waits now : Bool) → decides enters waits now ≤ 5
decides_most true true now = omega arith
decides_most true false now = omega arith
decides_most false waits true = omega arith
decides_most false true false = omega arith
decides_most false false false = omega arith

checks_most : (waits : Bool) → checks waits ≤ 5
checks_most true = omega arith
checks_most false = omega arith

leaves_most : (parked waits : Bool) → leaves parked waits ≤ 5
leaves_most true waits = omega arith
leaves_most false true = omega arith
leaves_most false false = omega arith

alone_most : (b : Bool) → (if b then 0 else 1) ≤ 5
alone_most true = omega arith
alone_most false = omega arith

lock_ways_most : (word : ℕ) (at : LockAt) → lock_ways word at ≤ 5
lock_ways_most word lock.First = loads_most (word == 3)
lock_ways_most word lock.Load = let a = loads_most (word == 3) in omega arith
lock_ways_most word (lock.Decide seen) = decides_most (lock_enters seen) (word == 3) (word == seen)
lock_ways_most word lock.Check = checks_most (word == 3)
lock_ways_most word (lock.Leave parked) = leaves_most parked (word == 3)
lock_ways_most word at = omega arith

mutex_ways_most : (word : ℕ) (at : MutexPlace) → mutex_ways word at ≤ 5
mutex_ways_most word (mutex.Lock e again at) = lock_ways_most word at
mutex_ways_most word at = omega arith

once_ways_most : (word : ℕ) (at : OncePlace) → once_ways word at ≤ 5
once_ways_most word (once.Look c again look.Load) = let a = loads_most (holds (check_of c) word)
    in omega arith
once_ways_most word (once.Look c again (look.Decide seen)) = decides_most (is_park (course_of c seen))
    (holds (check_of c) word) (word == seen)
once_ways_most word (once.Look c again look.Check) = checks_most (holds (check_of c) word)
once_ways_most word (once.Look c again (look.Leave parked)) = leaves_most parked (holds (check_of c) word)
once_ways_most word (once.Look c again at) = omega arith
once_ways_most word at = omega arith

semaphore_ways_most : (word : ℕ) (at : SemaphorePlace) → semaphore_ways word at ≤ 5
semaphore_ways_most word (semaphore.Acquire timed again acquire.Load) = let a = loads_most (word == 1)
    in omega arith
semaphore_ways_most word (semaphore.Acquire timed again (acquire.Decide seen)) =
    decides_most (acquire_enters seen) (word == 1) (word == seen)
semaphore_ways_most word (semaphore.Acquire timed again acquire.Check) = checks_most (word == 1)
semaphore_ways_most word (semaphore.Acquire timed again (acquire.Leave parked)) =
    leaves_most parked (word == 1)
semaphore_ways_most word (semaphore.Acquire timed again at) = omega arith
semaphore_ways_most word (semaphore.Try tries.Load) = omega arith
semaphore_ways_most word (semaphore.Try (tries.Decide seen)) = alone_most (word == seen)
semaphore_ways_most word at = omega arith

condvar_ways_most : (words : ℕ → ℕ) (at : CondvarPlace) → condvar_ways words at ≤ 5
condvar_ways_most words (condvar.Wait m timed (wait.Release s at)) = mutex_ways_most (words m) at
condvar_ways_most words (condvar.Wait m timed (wait.Lock late at)) = mutex_ways_most (words m) at
condvar_ways_most words (condvar.Wait m timed at) = omega arith
condvar_ways_most words (condvar.Notify all m (notify.Set seen)) = alone_most (words m == seen)
condvar_ways_most words (condvar.Notify all m at) = omega arith
condvar_ways_most words (condvar.Look all) = omega arith

park_ways_most : (waits : Bool) (to : ParkAt) → park_ways waits to ≤ 5
park_ways_most waits parking.Check = checks_most waits
park_ways_most waits (parking.Leave parked) = leaves_most parked waits
park_ways_most waits to = omega arith

rwlock_ways_most : (a : Admission) (word : ℕ) (p : RwLockPlace) (to : RwLockAt) → rwlock_ways a word p to ≤ 5
rwlock_ways_most a word p at.First = loads_most (waits_in_main a p word)
rwlock_ways_most a word p at.Load = let most = loads_most (waits_in_main a p word) in omega arith
rwlock_ways_most a word p (at.Decide seen) = decides_most (parks (decided a p seen)) (waits_in_main a p word)
    (word == seen)
rwlock_ways_most a word p (at.Park to) = park_ways_most (waits_in_main a p word) to
rwlock_ways_most a word p at.Look = let most = loads_most (leaves_readers word) in omega arith
rwlock_ways_most a word p (at.Count seen) = decides_most (has_aside seen) (leaves_readers word) (word == seen)
rwlock_ways_most a word p at.Marked = decides_most true (leaves_readers word) true
rwlock_ways_most a word p (at.Aside to) = park_ways_most (leaves_readers word) to
rwlock_ways_most a word p to = omega arith

hand_over_ways_most : (word : ℕ) (to : HandOverAt) → hand_over_ways word to ≤ 5
hand_over_ways_most word (handing.Free seen) = alone_most (word == seen)
hand_over_ways_most word (handing.Exchange k seen) = alone_most (word == seen)
hand_over_ways_most word to = omega arith

call_ways_most : (a : Admission) (word : ℕ) (c : RwLockCallPlace) → call_ways a word c ≤ 5
call_ways_most a word (fair.Plain p) = rwlock_ways_most a word p p.at
call_ways_most a word (fair.Bump p) = rwlock_ways_most a word p p.at
call_ways_most a word (fair.HandOver x bumps to) = hand_over_ways_most word to
call_ways_most a word c = omega arith

pub ways_most : (words : ℕ → ℕ) (p : Place) → ways words p ≤ 5
ways_most words Idle = omega arith
ways_most words (Mutex l at) = mutex_ways_most (words l) at
ways_most words (RwLock l a c) = call_ways_most a (words l) c
ways_most words (Once l at) = once_ways_most (words l) at
ways_most words (Condvar l at) = condvar_ways_most words at
ways_most words (Semaphore l at) = semaphore_ways_most (words l) at
