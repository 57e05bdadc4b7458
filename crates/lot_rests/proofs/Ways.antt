-- The steps of a thread to its own next event, by its place and the word of its lock, where no other event
-- comes.
use Rattle.std.proofs.Common.{ℕ, Bool, true, false, if◌then◌else◌, ◌==◌, ◌&&◌, not, ◌≡◌, ◌+◌, ◌≤◌, refl}
use Rattle.std.proofs.Common.{arith}
use Rattle.steps_base.specs.declared.acts.Next.{Next}
use Rattle.steps_base.specs.declared.acts.Next.TheVariants.{At, End}
use Rattle.steps_mutex.specs.declared.lock.LockAt.{LockAt}
use Rattle.steps_mutex.specs.declared.lock.LockAt.TheVariants as lock
use Rattle.steps_mutex.specs.declared.places.MutexPlace.{MutexPlace}
use Rattle.steps_mutex.specs.declared.places.MutexPlace.TheVariants as mutex
use Rattle.steps_mutex.specs.MutexSteps.{is_locked}
use Rattle.steps_once.specs.declared.look.LookAt.{LookAt}
use Rattle.steps_once.specs.declared.look.LookAt.TheVariants as look
use Rattle.steps_once.specs.declared.look.Course.{Course}
use Rattle.steps_once.specs.declared.look.Course.TheVariants as course
use Rattle.steps_once.specs.declared.places.OncePlace.{OncePlace}
use Rattle.steps_once.specs.declared.places.OncePlace.TheVariants as once
use Rattle.steps_once.specs.OnceSteps.{check_of, course_of}
use Rattle.spec_locks.specs.declared.calls.OnceCall.{OnceCall}
use Rattle.steps_base.specs.Acts.{holds}
use Rattle.steps_semaphore.specs.declared.acquire.AcquireAt.{AcquireAt}
use Rattle.steps_semaphore.specs.declared.acquire.AcquireAt.TheVariants as acquire
use Rattle.steps_semaphore.specs.declared.tries.TryAt.{TryAt}
use Rattle.steps_semaphore.specs.declared.tries.TryAt.TheVariants as tries
use Rattle.steps_semaphore.specs.declared.places.SemaphorePlace.{SemaphorePlace}
use Rattle.steps_semaphore.specs.declared.places.SemaphorePlace.TheVariants as semaphore
use Rattle.steps_semaphore.specs.SemaphoreSteps.{is_free}
use Rattle.steps_condvar.specs.declared.notify.NotifyAt.{NotifyAt}
use Rattle.steps_condvar.specs.declared.notify.NotifyAt.TheVariants as notify
use Rattle.steps_condvar.specs.declared.wait.WaitAt.{WaitAt}
use Rattle.steps_condvar.specs.declared.wait.WaitAt.TheVariants as wait
use Rattle.steps_condvar.specs.declared.places.CondvarPlace.{CondvarPlace}
use Rattle.steps_condvar.specs.declared.places.CondvarPlace.TheVariants as condvar
use Rattle.core_base.specs.declared.keys.Line.TheVariants.{Main}
use Rattle.steps_rwlock.specs.declared.places.Admission.{Admission}
use Rattle.steps_rwlock.specs.declared.places.RwLockPlace.{RwLockPlace}
use Rattle.steps_rwlock.specs.declared.places.RwLockAt.{RwLockAt}
use Rattle.steps_rwlock.specs.declared.places.RwLockAt.TheVariants as at
use Rattle.steps_rwlock.specs.declared.park.ParkAt.{ParkAt}
use Rattle.steps_rwlock.specs.declared.park.ParkAt.TheVariants as parking
use Rattle.steps_rwlock.specs.declared.enter.Decision.{Decision}
use Rattle.steps_rwlock.specs.declared.enter.Decision.TheVariants as decisions
use Rattle.steps_rwlock.specs.RwLockSteps.{decided, park_check, want_at}
use Rattle.spec_locks.specs.Codes.{has_aside, leaves_readers}
use Rattle.steps_rwlock_fair.specs.declared.hand_over.HandOverAt.{HandOverAt}
use Rattle.steps_rwlock_fair.specs.declared.hand_over.HandOverAt.TheVariants as handing
use Rattle.steps_rwlock_fair.specs.declared.places.RwLockCallPlace.{RwLockCallPlace}
use Rattle.steps_rwlock_fair.specs.declared.places.RwLockCallPlace.TheVariants as fair
use Rattle.lot_steps.specs.declared.places.Place.{Place}
use Rattle.lot_steps.specs.declared.places.Place.TheVariants.{Idle, Mutex, RwLock, Once, Condvar, Semaphore}

-- ---------------------------------------------------------------- on the way into a queue

-- from a look at the word, where the word makes the thread wait or not
abbrev pub loads : Bool → ℕ
loads waits = if waits then 4 else 1

-- by the value seen last: it enters the section, or tries an exchange, which fails unless the word is so
-- still
abbrev pub decides : (enters waits same : Bool) → ℕ
decides enters waits same = if enters then (if waits then 3 else 4) else if same then 0 else loads waits

abbrev pub checks : Bool → ℕ
checks waits = if waits then 2 else 3

abbrev pub leaves : (parked waits : Bool) → ℕ
leaves parked waits = if parked then 1 else loads waits + 1

-- what makes a thread enter the section makes it wait there
pub looked : (enters waits : Bool) → (enters ≡ true → waits ≡ true) → decides enters waits true + 1
    ≤ loads waits
looked true true h = omega arith
looked true false h = absurd (let e : false ≡ true = h refl in cc)
looked false true h = omega arith
looked false false h = omega arith

pub entered : (waits same : Bool) → checks waits + 1 ≤ decides true waits same
entered true same = omega arith
entered false same = omega arith

pub checked : (waits : Bool) → leaves waits waits + 1 ≤ checks waits
checked true = omega arith
checked false = omega arith

-- ---------------------------------------------------------------- the tables

abbrev pub ways_then : {A : Type 0} → (A → ℕ) → Next A → ℕ
ways_then ways (At at) = ways at
ways_then ways (End answer) = 0

-- the thread goes into the section where the mutex is owned and its bit is set
abbrev pub lock_enters : ℕ → Bool
lock_enters seen = is_locked seen && not (seen == 1)

abbrev pub lock_ways : ℕ → LockAt → ℕ
lock_ways word lock.First = loads (word == 3) + 1
lock_ways word lock.Load = loads (word == 3)
lock_ways word (lock.Decide seen) = decides (lock_enters seen) (word == 3) (word == seen)
lock_ways word lock.Check = checks (word == 3)
lock_ways word (lock.Leave parked) = leaves parked (word == 3)
lock_ways word lock.Asleep = 0
lock_ways word (lock.Taken by) = 0
lock_ways word (lock.Handed by) = 0
lock_ways word lock.Accept = 0
lock_ways word lock.Remove = 0
lock_ways word lock.Clear = 0
lock_ways word lock.GiveUp = 0

abbrev pub mutex_ways : ℕ → MutexPlace → ℕ
mutex_ways word (mutex.Lock e retries at) = lock_ways word at
mutex_ways word mutex.TryLock = 0
mutex_ways word (mutex.Unlock at) = 0
mutex_ways word mutex.UnlockFair = 0
mutex_ways word mutex.Bump = 0
mutex_ways word (mutex.HandOff bumps at) = 0

abbrev pub is_park : Course → Bool
is_park course.Parks = true
is_park (course.Ends answer) = false
is_park course.Runs = false
is_park course.Marks = false

abbrev pub look_ways : OnceCall → ℕ → LookAt → ℕ
look_ways c word look.Load = loads (holds (check_of c) word)
look_ways c word (look.Decide seen) =
    decides (is_park (course_of c seen)) (holds (check_of c) word) (word == seen)
look_ways c word look.Check = checks (holds (check_of c) word)
look_ways c word (look.Leave parked) = leaves parked (holds (check_of c) word)
look_ways c word look.Asleep = 0
look_ways c word (look.Taken by) = 0

abbrev pub once_ways : ℕ → OncePlace → ℕ
once_ways word (once.Look c retries at) = look_ways c word at
once_ways word (once.Run forced at) = 0
once_ways word (once.GiveUp retries at) = 0

-- a thread that asks for a permit goes into the section where none is free and the bit is set
abbrev pub acquire_enters : ℕ → Bool
acquire_enters seen = not (is_free seen) && not (seen == 0)

abbrev pub acquire_ways : ℕ → AcquireAt → ℕ
acquire_ways word acquire.Load = loads (word == 1)
acquire_ways word (acquire.Decide seen) = decides (acquire_enters seen) (word == 1) (word == seen)
acquire_ways word acquire.Check = checks (word == 1)
acquire_ways word (acquire.Leave parked) = leaves parked (word == 1)
acquire_ways word acquire.Asleep = 0
acquire_ways word (acquire.Taken by) = 0
acquire_ways word acquire.Remove = 0
acquire_ways word acquire.Clear = 0
acquire_ways word acquire.GiveUp = 0

abbrev pub try_ways : ℕ → TryAt → ℕ
try_ways word tries.Load = 1
try_ways word (tries.Decide seen) = if word == seen then 0 else 1

abbrev pub semaphore_ways : ℕ → SemaphorePlace → ℕ
semaphore_ways word (semaphore.Acquire timed retries at) = acquire_ways word at
semaphore_ways word (semaphore.Try at) = try_ways word at
semaphore_ways word (semaphore.Release at) = 0

-- a wait that releases its mutex, or locks it again, goes as a call of that mutex does
abbrev pub wait_ways : ℕ → WaitAt → ℕ
wait_ways word (wait.Release s at) = mutex_ways word at
wait_ways word (wait.Lock late at) = mutex_ways word at
wait_ways word at = 0

abbrev pub notify_ways : ℕ → NotifyAt → ℕ
notify_ways word notify.Mark = 1
notify_ways word (notify.Set seen) = if word == seen then 0 else 1
notify_ways word at = 0

abbrev pub condvar_ways : (ℕ → ℕ) → CondvarPlace → ℕ
condvar_ways words (condvar.Wait m timed at) = wait_ways (words m) at
condvar_ways words (condvar.Look all) = 0
condvar_ways words (condvar.Notify all m at) = notify_ways (words m) at

abbrev pub parks : Decision → Bool
parks decisions.Park = true
parks decisions.Take = false
parks decisions.Mark = false
parks (decisions.Refuse answer) = false

-- on its way into either queue, where the word makes it wait or not
abbrev pub park_ways : Bool → ParkAt → ℕ
park_ways waits parking.Check = checks waits
park_ways waits (parking.Leave parked) = leaves parked waits
park_ways waits parking.Asleep = 0
park_ways waits (parking.Taken by) = 0
park_ways waits parking.Remove = 0
park_ways waits parking.Clear = 0
park_ways waits parking.GiveUp = 0

abbrev pub waits_in_main : Admission → RwLockPlace → ℕ → Bool
waits_in_main a p word = holds (park_check a (want_at p) Main) word

abbrev pub rwlock_ways : Admission → ℕ → RwLockPlace → RwLockAt → ℕ
rwlock_ways a word p at.First = loads (waits_in_main a p word) + 1
rwlock_ways a word p at.Load = loads (waits_in_main a p word)
rwlock_ways a word p (at.Decide seen) =
    decides (parks (decided a p seen)) (waits_in_main a p word) (word == seen)
rwlock_ways a word p (at.Park to) = park_ways (waits_in_main a p word) to
rwlock_ways a word p at.Look = loads (leaves_readers word)
rwlock_ways a word p (at.Count seen) = decides (has_aside seen) (leaves_readers word) (word == seen)
rwlock_ways a word p at.Marked = decides true (leaves_readers word) true
rwlock_ways a word p (at.Aside to) = park_ways (leaves_readers word) to
rwlock_ways a word p at.RollBack = 0
rwlock_ways a word p at.GiveWay = 0
rwlock_ways a word p (at.Wake m to) = 0

abbrev pub hand_over_ways : ℕ → HandOverAt → ℕ
hand_over_ways word handing.Load = 1
hand_over_ways word (handing.Free seen) = if word == seen then 0 else 1
hand_over_ways word (handing.Look k) = 1
hand_over_ways word (handing.Exchange k seen) = if word == seen then 0 else 1
hand_over_ways word at = 0

abbrev pub call_ways : Admission → ℕ → RwLockCallPlace → ℕ
call_ways a word (fair.Plain p) = rwlock_ways a word p p.at
call_ways a word (fair.Bump p) = rwlock_ways a word p p.at
call_ways a word (fair.PeekQueue x) = 0
call_ways a word (fair.HandOver x bumps to) = hand_over_ways word to
call_ways a word (fair.Handed x how bumps to) = 0

abbrev pub ways : (ℕ → ℕ) → Place → ℕ
ways words Idle = 0
ways words (Mutex l at) = mutex_ways (words l) at
ways words (RwLock l a c) = call_ways a (words l) c
ways words (Once l at) = once_ways (words l) at
ways words (Condvar l at) = condvar_ways words at
ways words (Semaphore l at) = semaphore_ways (words l) at
