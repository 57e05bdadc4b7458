-- The events that a call may still bring about, by its place: changes of words and queues, wakes, and the end
-- of the call. Nothing that befalls a thread adds to them, and each step that may disturb others uses one up.
use Rattle.std.proofs.Common.{ℕ, Bool, true, false, ◌+◌}
use Rattle.steps_base.specs.declared.acts.Next.{Next}
use Rattle.steps_base.specs.declared.acts.Next.TheVariants.{At, End}
use Rattle.steps_mutex.specs.declared.lock.LockAt.{LockAt}
use Rattle.steps_mutex.specs.declared.lock.LockAt.TheVariants as lock
use Rattle.steps_mutex.specs.declared.unlock.UnlockAt.{UnlockAt}
use Rattle.steps_mutex.specs.declared.unlock.UnlockAt.TheVariants as unlock
use Rattle.steps_mutex.specs.declared.hand_off.HandOffAt.{HandOffAt}
use Rattle.steps_mutex.specs.declared.hand_off.HandOffAt.TheVariants as hand_off
use Rattle.steps_mutex.specs.declared.places.MutexPlace.{MutexPlace}
use Rattle.steps_mutex.specs.declared.places.MutexPlace.TheVariants as mutex
use Rattle.steps_once.specs.declared.run.RunAt.{RunAt}
use Rattle.steps_once.specs.declared.run.RunAt.TheVariants as run
use Rattle.steps_once.specs.declared.give_up.GiveUpAt.{GiveUpAt}
use Rattle.steps_once.specs.declared.give_up.GiveUpAt.TheVariants as give_up
use Rattle.steps_once.specs.declared.places.OncePlace.{OncePlace}
use Rattle.steps_once.specs.declared.places.OncePlace.TheVariants as once
use Rattle.steps_semaphore.specs.declared.acquire.AcquireAt.{AcquireAt}
use Rattle.steps_semaphore.specs.declared.acquire.AcquireAt.TheVariants as acquire
use Rattle.steps_semaphore.specs.declared.release.ReleaseAt.{ReleaseAt}
use Rattle.steps_semaphore.specs.declared.release.ReleaseAt.TheVariants as release
use Rattle.steps_semaphore.specs.declared.places.SemaphorePlace.{SemaphorePlace}
use Rattle.steps_semaphore.specs.declared.places.SemaphorePlace.TheVariants as semaphore
use Rattle.steps_condvar.specs.declared.notify.NotifyAt.{NotifyAt}
use Rattle.steps_condvar.specs.declared.notify.NotifyAt.TheVariants as notify
use Rattle.steps_condvar.specs.declared.wait.WaitAt.{WaitAt}
use Rattle.steps_condvar.specs.declared.wait.WaitAt.TheVariants as wait
use Rattle.steps_condvar.specs.declared.places.CondvarPlace.{CondvarPlace}
use Rattle.steps_condvar.specs.declared.places.CondvarPlace.TheVariants as condvar
use Rattle.steps_rwlock.specs.declared.places.RwLockPlace.{RwLockPlace}
use Rattle.steps_rwlock.specs.declared.places.RwLockAt.{RwLockAt}
use Rattle.steps_rwlock.specs.declared.places.RwLockAt.TheVariants as at
use Rattle.steps_rwlock.specs.declared.park.ParkAt.{ParkAt}
use Rattle.steps_rwlock.specs.declared.park.ParkAt.TheVariants as parking
use Rattle.steps_rwlock.specs.declared.release.WakeAt.{WakeAt}
use Rattle.steps_rwlock.specs.declared.release.WakeAt.TheVariants as waking
use Rattle.steps_rwlock.specs.declared.purposes.RwLockPurpose.{RwLockPurpose}
use Rattle.steps_rwlock.specs.declared.purposes.RwLockPurpose.TheVariants as purpose
use Rattle.steps_rwlock_fair.specs.declared.hand_over.HandOverAt.{HandOverAt}
use Rattle.steps_rwlock_fair.specs.declared.hand_over.HandOverAt.TheVariants as handing
use Rattle.steps_rwlock_fair.specs.declared.handed.HandedAt.{HandedAt}
use Rattle.steps_rwlock_fair.specs.declared.handed.HandedAt.TheVariants as handed
use Rattle.steps_rwlock_fair.specs.declared.places.RwLockCallPlace.{RwLockCallPlace}
use Rattle.steps_rwlock_fair.specs.declared.places.RwLockCallPlace.TheVariants as fair
use Rattle.lot_steps.specs.declared.places.Place.{Place}
use Rattle.lot_steps.specs.declared.places.Place.TheVariants.{Idle, Mutex, RwLock, Once, Condvar, Semaphore}

-- what is left of it where a call goes on, and nothing where it ends
abbrev pub work_then : {A : Type 0} → (A → ℕ) → Next A → ℕ
work_then work (At at) = work at
work_then work (End answer) = 0

-- ---------------------------------------------------------------- a mutex

abbrev pub lock_work : LockAt → ℕ
lock_work lock.First = 4
lock_work lock.Load = 4
lock_work (lock.Decide seen) = 4
lock_work lock.Check = 4
lock_work (lock.Leave parked) = 4
lock_work lock.Asleep = 4
lock_work (lock.Taken by) = 4
lock_work (lock.Handed by) = 1
lock_work lock.Accept = 1
lock_work lock.Remove = 3
lock_work lock.Clear = 2
lock_work lock.GiveUp = 1

abbrev pub unlock_work : UnlockAt → ℕ
unlock_work unlock.Subtract = 5
unlock_work unlock.Enter = 4
unlock_work unlock.Take = 3
unlock_work (unlock.Clear any) = 2
unlock_work (unlock.Leave any) = 1

abbrev pub hand_off_work : HandOffAt → ℕ
hand_off_work hand_off.Enter = 4
hand_off_work hand_off.Take = 3
hand_off_work (hand_off.Store any none_left) = 2
hand_off_work (hand_off.Leave any) = 1

-- a bump enters again
abbrev pub work_after : Bool → ℕ → ℕ
work_after true again = again
work_after false again = 0

abbrev pub mutex_work : MutexPlace → ℕ
mutex_work (mutex.Lock e retries at) = lock_work at
mutex_work mutex.TryLock = 1
mutex_work (mutex.Unlock at) = unlock_work at
mutex_work mutex.UnlockFair = 5
mutex_work mutex.Bump = 9
mutex_work (mutex.HandOff bumps at) = work_after bumps 4 + hand_off_work at

-- ---------------------------------------------------------------- a `Once`

abbrev pub run_work : RunAt → ℕ
run_work (run.Closure poisoned) = 5
run_work (run.Close succeeded) = 4
run_work (run.Enter succeeded) = 3
run_work (run.Take succeeded) = 2
run_work (run.Leave succeeded any) = 1

abbrev pub give_up_work : GiveUpAt → ℕ
give_up_work give_up.Remove = 3
give_up_work give_up.Clear = 2
give_up_work give_up.Leave = 1

abbrev pub once_work : OncePlace → ℕ
once_work (once.Look c retries at) = 6
once_work (once.Run forced at) = run_work at
once_work (once.GiveUp retries at) = give_up_work at

-- ---------------------------------------------------------------- a semaphore

abbrev pub acquire_work : AcquireAt → ℕ
acquire_work acquire.Load = 4
acquire_work (acquire.Decide seen) = 4
acquire_work acquire.Check = 4
acquire_work (acquire.Leave parked) = 4
acquire_work acquire.Asleep = 4
acquire_work (acquire.Taken by) = 4
acquire_work acquire.Remove = 3
acquire_work acquire.Clear = 2
acquire_work acquire.GiveUp = 1

abbrev pub release_work : ReleaseAt → ℕ
release_work release.Add = 5
release_work release.Enter = 4
release_work release.Take = 3
release_work (release.Clear any) = 2
release_work (release.Leave any) = 1

abbrev pub semaphore_work : SemaphorePlace → ℕ
semaphore_work (semaphore.Acquire timed retries at) = acquire_work at
semaphore_work (semaphore.Try at) = 1
semaphore_work (semaphore.Release at) = release_work at

-- ---------------------------------------------------------------- a condition variable

abbrev pub wait_work : WaitAt → ℕ
wait_work wait.Enter = 17
wait_work wait.Show = 16
wait_work wait.Stand = 15
wait_work wait.Leave = 14
wait_work wait.Refuse = 1
wait_work (wait.Release s at) = 8 + mutex_work at
wait_work (wait.Asleep s) = 8
wait_work wait.Remove = 7
wait_work wait.Hide = 6
wait_work wait.GiveUp = 5
wait_work wait.RemoveMoved = 6
wait_work (wait.GiveUpMoved none_left) = 5
wait_work (wait.Lock late at) = mutex_work at

abbrev pub notify_work : NotifyAt → ℕ
notify_work notify.Enter = 7
notify_work notify.Again = 6
notify_work notify.Hide = 5
notify_work notify.Mark = 4
notify_work (notify.Set seen) = 4
notify_work (notify.Move locked) = 3
notify_work (notify.Clear any) = 2
notify_work (notify.MarkMoved number) = 2
notify_work (notify.Leave any number) = 1

abbrev pub condvar_work : CondvarPlace → ℕ
condvar_work (condvar.Wait m timed at) = wait_work at
condvar_work (condvar.Look all) = 8
condvar_work (condvar.Notify all m at) = notify_work at

-- ---------------------------------------------------------------- a reader-writer lock

abbrev pub park_work : ParkAt → ℕ
park_work parking.Check = 10
park_work (parking.Leave parked) = 10
park_work parking.Asleep = 10
park_work (parking.Taken by) = 10
park_work parking.Remove = 3
park_work parking.Clear = 2
park_work parking.GiveUp = 1

-- a pending writer that gives up rolls back
abbrev pub aside_work : ParkAt → ℕ
aside_work parking.Check = 9
aside_work (parking.Leave parked) = 9
aside_work parking.Asleep = 9
aside_work (parking.Taken by) = 9
aside_work parking.Remove = 8
aside_work parking.Clear = 7
aside_work parking.GiveUp = 6

abbrev pub wake_work : WakeAt → ℕ
wake_work waking.Enter = 4
wake_work waking.Take = 3
wake_work (waking.Clear any) = 2
wake_work (waking.Leave any) = 1

abbrev pub rwlock_work : RwLockAt → ℕ
rwlock_work at.First = 10
rwlock_work at.Load = 10
rwlock_work (at.Decide seen) = 10
rwlock_work (at.Park to) = park_work to
rwlock_work at.Look = 9
rwlock_work (at.Count seen) = 9
rwlock_work at.Marked = 9
rwlock_work (at.Aside to) = aside_work to
rwlock_work at.RollBack = 5
rwlock_work at.GiveWay = 10
rwlock_work (at.Wake m to) = wake_work to

abbrev pub hand_over_work : HandOverAt → ℕ
hand_over_work handing.Load = 5
hand_over_work (handing.Free seen) = 5
hand_over_work handing.Enter = 4
hand_over_work handing.Take = 3
hand_over_work (handing.Store k) = 2
hand_over_work (handing.Look k) = 2
hand_over_work (handing.Exchange k seen) = 2
hand_over_work (handing.Leave any given) = 1

abbrev pub handed_work : HandedAt → ℕ
handed_work (handed.Asleep by alone) = 10
handed_work handed.Accept = 1

-- a bump that releases enters again
abbrev pub is_release : RwLockPurpose → Bool
is_release (purpose.Enter x how) = false
is_release (purpose.Release x) = true
is_release (purpose.Downgrade d) = false
is_release (purpose.Upgrade how) = false

abbrev pub plain_work : RwLockPlace → ℕ
plain_work p = rwlock_work p.at

abbrev pub bump_work : RwLockPlace → ℕ
bump_work p = work_after (is_release p.purpose) 10 + rwlock_work p.at

abbrev pub call_work : RwLockCallPlace → ℕ
call_work (fair.Plain p) = plain_work p
call_work (fair.Bump p) = bump_work p
call_work (fair.PeekQueue x) = 21
call_work (fair.HandOver x bumps to) = work_after bumps 10 + hand_over_work to
call_work (fair.Handed x how bumps to) = handed_work to

-- ---------------------------------------------------------------- every place

abbrev pub work : Place → ℕ
work Idle = 0
work (Mutex l at) = mutex_work at
work (RwLock l a c) = call_work c
work (Once l at) = once_work at
work (Condvar l at) = condvar_work at
work (Semaphore l at) = semaphore_work at
