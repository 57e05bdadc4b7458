-- The purpose of each call of a lock, and the cases that the call is made of.
use Rattle.std.specs.Prelude.{ℕ, Bool, true, false, Option, Some, None, ◌≡◌, ◌≢◌, ◌⊎◌}
use Rattle.core_base.specs.declared.wants.Want.{Want}
use Rattle.core_base.specs.declared.wants.Want.TheVariants.{Exclusive, Upgradable, Shared, Wait, CallOnce}
use Rattle.spec_locks.specs.declared.kinds.Kind.{Kind}
use Rattle.spec_locks.specs.declared.kinds.Kind.TheVariants as kind
use Rattle.spec_locks.specs.declared.calls.Call.{Call}
use Rattle.spec_locks.specs.declared.calls.Call.TheVariants as call
use Rattle.spec_locks.specs.declared.calls.MutexCall.{MutexCall}
pub use Rattle.spec_locks.specs.declared.calls.Patience.{Patience}
pub use Rattle.spec_locks.specs.declared.calls.Patience.TheVariants.{Patient, Timed, Try}
use Rattle.spec_locks.specs.declared.calls.MutexCall.TheVariants as mutex_call
use Rattle.spec_locks.specs.declared.calls.Access.{Access}
use Rattle.spec_locks.specs.declared.calls.Access.TheVariants as access
use Rattle.spec_locks.specs.declared.calls.Downgrade.{Downgrade}
use Rattle.spec_locks.specs.declared.calls.Downgrade.TheVariants as downgrade
use Rattle.spec_locks.specs.declared.calls.RwLockCall.{RwLockCall}
use Rattle.spec_locks.specs.declared.calls.RwLockCall.TheVariants as rwlock_call
use Rattle.spec_locks.specs.declared.calls.CondvarCall.{CondvarCall}
use Rattle.spec_locks.specs.declared.calls.CondvarCall.TheVariants as condvar_call
use Rattle.spec_locks.specs.declared.calls.OnceCall.{OnceCall}
use Rattle.spec_locks.specs.declared.calls.OnceCall.TheVariants as once_call
use Rattle.spec_locks.specs.declared.calls.SemaphoreCall.{SemaphoreCall}
use Rattle.spec_locks.specs.declared.calls.SemaphoreCall.TheVariants as semaphore_call
use Rattle.spec_locks.specs.Onces.{Start, Rest}
use Rattle.spec_locks.specs.Locks.{Rules, Mutex, Normal, Recursive, Once, Condvar, Semaphore, LockCase, Enter}
use Rattle.spec_locks.specs.Locks.{Pend, Settle, Leave, Convert, Park, Aside, TakeFirst, TakeAside}
use Rattle.spec_locks.specs.Locks.{TakePicked, Wake, HandOff, Late, Rollback, OfOnce, Look, Show, Hide}
use Rattle.spec_locks.specs.Locks.{OfCondvar, SeeOwner}

-- the goal of a call of a lock
pub data Purpose : Type 0 where
  Enters : (lock : ℕ) → (want : Want) → Patience → Purpose
  Releases : (lock : ℕ) → (right : Want) → (fair : Bool) → Purpose
  Converts : (lock : ℕ) → (right want : Want) → Patience → Purpose
  Bumps : (lock : ℕ) → (right : Want) → Purpose
  -- a `Once`: it runs a closure, or waits for another's run, up to a deadline or without one
  CallsOnce : (lock : ℕ) → (forced : Bool) → Purpose
  Awaits : (lock : ℕ) → (forced timed : Bool) → Purpose
  -- a condition variable: it gives the mutex up until it is notified, up to a deadline or without one; or it
  -- notifies the first, or all
  Waits : (lock mutex : ℕ) → (timed : Bool) → Purpose
  Notifies : (lock : ℕ) → (all : Bool) → Purpose

-- a fair mutex is released fairly by any release
abbrev pub mutex_purpose : Bool → ℕ → MutexCall → Purpose
mutex_purpose fair l mutex_call.Lock = Enters l Exclusive Patient
mutex_purpose fair l mutex_call.LockTimed = Enters l Exclusive Timed
mutex_purpose fair l mutex_call.TryLock = Enters l Exclusive Try
mutex_purpose fair l mutex_call.Unlock = Releases l Exclusive fair
mutex_purpose fair l mutex_call.UnlockFair = Releases l Exclusive true
mutex_purpose fair l mutex_call.Bump = Bumps l Exclusive

-- the want of a thread that is to have a right
abbrev pub wanted : Access → Want
wanted access.Shared = Shared
wanted access.Upgradable = Upgradable
wanted access.Exclusive = Exclusive

-- the greater right of a downgrade, and the lesser one
abbrev pub from_of : Downgrade → Access
from_of downgrade.ToShared = access.Exclusive
from_of downgrade.ToUpgradable = access.Exclusive
from_of downgrade.UpgradableToShared = access.Upgradable

abbrev pub to_of : Downgrade → Access
to_of downgrade.ToShared = access.Shared
to_of downgrade.ToUpgradable = access.Upgradable
to_of downgrade.UpgradableToShared = access.Shared

-- a shared right is given up as by any release, in a fair release and in a bump too
abbrev pub is_fair_bump : Want → Bool
is_fair_bump Shared = false
is_fair_bump x = true

abbrev pub rwlock_purpose : ℕ → RwLockCall → Purpose
rwlock_purpose l (rwlock_call.Enter x how) = Enters l (wanted x) how
rwlock_purpose l (rwlock_call.Release x) = Releases l (wanted x) false
rwlock_purpose l (rwlock_call.Downgrade d) =
    Converts l (wanted (from_of d)) (wanted (to_of d)) Patient
rwlock_purpose l (rwlock_call.Upgrade how) = Converts l Upgradable Exclusive how
rwlock_purpose l (rwlock_call.ReleaseFair x) = Releases l (wanted x) (is_fair_bump (wanted x))
rwlock_purpose l (rwlock_call.Bump x) = Bumps l (wanted x)

abbrev pub once_purpose : ℕ → OnceCall → Purpose
once_purpose l (once_call.CallOnce forced) = CallsOnce l forced
once_purpose l (once_call.Wait forced) = Awaits l forced false
once_purpose l once_call.WaitTimed = Awaits l false true

abbrev pub condvar_purpose : ℕ → CondvarCall → Purpose
condvar_purpose l (condvar_call.Wait m timed) = Waits l m timed
condvar_purpose l (condvar_call.Notify all) = Notifies l all

-- a permit is a shared right
abbrev pub semaphore_purpose : ℕ → SemaphoreCall → Purpose
semaphore_purpose l (semaphore_call.Acquire how) = Enters l Shared how
semaphore_purpose l semaphore_call.Release = Releases l Shared false

-- the goal of a call of a lock of this kind; nothing where the kind lacks the call
abbrev pub purpose_of : Kind → Call → Option Purpose
purpose_of kind.Mutex (call.Mutex l c) = Some (mutex_purpose false l c)
purpose_of kind.Fair (call.Mutex l c) = Some (mutex_purpose true l c)
purpose_of (kind.RwLock limit) (call.RwLock l c) = Some (rwlock_purpose l c)
purpose_of (kind.Recursive limit) (call.RwLock l c) =
    Some (rwlock_purpose l c)
purpose_of kind.Condvar (call.Condvar l c) = Some (condvar_purpose l c)
purpose_of kind.Once (call.Once l c) = Some (once_purpose l c)
purpose_of (kind.Semaphore permits) (call.Semaphore l c) =
    Some (semaphore_purpose l c)
purpose_of kind.Mutex (call.RwLock l c) = None
purpose_of kind.Mutex (call.Once l c) = None
purpose_of kind.Mutex (call.Condvar l c) = None
purpose_of kind.Fair (call.RwLock l c) = None
purpose_of kind.Fair (call.Once l c) = None
purpose_of kind.Fair (call.Condvar l c) = None
purpose_of (kind.RwLock limit) (call.Mutex l c) = None
purpose_of (kind.RwLock limit) (call.Once l c) = None
purpose_of (kind.RwLock limit) (call.Condvar l c) = None
purpose_of (kind.Recursive limit) (call.Mutex l c) = None
purpose_of (kind.Recursive limit) (call.Once l c) = None
purpose_of (kind.Recursive limit) (call.Condvar l c) = None
purpose_of kind.Condvar (call.Mutex l c) = None
purpose_of kind.Condvar (call.RwLock l c) = None
purpose_of kind.Condvar (call.Once l c) = None
purpose_of kind.Once (call.Mutex l c) = None
purpose_of kind.Once (call.RwLock l c) = None
purpose_of kind.Once (call.Condvar l c) = None
purpose_of kind.Mutex (call.Semaphore l c) = None
purpose_of kind.Fair (call.Semaphore l c) = None
purpose_of (kind.RwLock limit) (call.Semaphore l c) = None
purpose_of (kind.Recursive limit) (call.Semaphore l c) = None
purpose_of kind.Condvar (call.Semaphore l c) = None
purpose_of kind.Once (call.Semaphore l c) = None
purpose_of (kind.Semaphore permits) (call.Mutex l c) = None
purpose_of (kind.Semaphore permits) (call.RwLock l c) = None
purpose_of (kind.Semaphore permits) (call.Once l c) = None
purpose_of (kind.Semaphore permits) (call.Condvar l c) = None

-- a call of a condition variable remembers its own steps, and what a notification did to it
pub data CondvarMemory : Type 0 where
  Blank : CondvarMemory
  -- a notification has seen this mutex shown
  Saw : (mutex : ℕ) → CondvarMemory
  -- A notification saw, inside both sections, whether somebody owns the mutex.
  SawOwner : (mutex : ℕ) → (owned : Bool) → CondvarMemory
  -- a notification has taken and moved so many waiters
  HasMoved : (mutex number : ℕ) → CondvarMemory
  -- a wait was moved to its mutex: to its queue, or into a hand
  WasMoved : CondvarMemory
  -- A waiter was notified, and was woken since, or handed its mutex, or left that queue.
  WasNotified : CondvarMemory

-- the lock of which a call is
abbrev pub lock_for : Purpose → ℕ
lock_for (Enters l x how) = l
lock_for (Releases l x fair) = l
lock_for (Converts l x y how) = l
lock_for (Bumps l x) = l
lock_for (CallsOnce l forced) = l
lock_for (Awaits l forced timed) = l
lock_for (Waits l m timed) = l
lock_for (Notifies l all) = l

-- a call that may sleep until it has the lock, or until a `Once` is run
abbrev pub MayWait : Option Purpose → ℕ → Type 0
MayWait (Some (Enters l x how)) k = (l ≡ k) × (how ≢ Try)
MayWait (Some (Converts l x y how)) k = (l ≡ k) × (how ≢ Try)
MayWait (Some (Bumps l x)) k = l ≡ k
MayWait (Some (CallsOnce l forced)) k = l ≡ k
MayWait (Some (Awaits l forced timed)) k = l ≡ k
MayWait (Some (Waits l m timed)) k = (l ≡ k) ⊎ (m ≡ k)
MayWait (Some (Releases l x fair)) k = ⊥
MayWait (Some (Notifies l all)) k = ⊥
MayWait None k = ⊥

-- a call that releases the lock; a bump does so until it has, and then it enters; and a call that
-- runs a closure, once its run has begun
abbrev pub IsReleasing : Option Purpose → Bool → ℕ → Type 0
IsReleasing (Some (Releases l x fair)) released k = l ≡ k
IsReleasing (Some (Bumps l x)) released k = (l ≡ k) × (released ≡ false)
IsReleasing (Some (CallsOnce l forced)) released k = (l ≡ k) × (released ≡ true)
IsReleasing (Some (Waits l m timed)) released k = (m ≡ k) × (released ≡ false)
IsReleasing purpose released k = ⊥

-- the rules of a lock of each kind
abbrev pub rules_of : Kind → Rules
rules_of kind.Mutex = record { sort = Mutex; limit = 0 }
rules_of kind.Fair = record { sort = Mutex; limit = 0 }
rules_of (kind.RwLock limit) = record { sort = Normal; limit = limit }
rules_of (kind.Recursive limit) = record { sort = Recursive; limit = limit }
rules_of kind.Condvar = record { sort = Condvar; limit = 0 }
rules_of kind.Once = record { sort = Once; limit = 0 }
rules_of (kind.Semaphore permits) = record { sort = Semaphore; limit = permits }

-- ---------------------------------------------------------------- which cases a call is made of

-- a call that enters: it gives up only where it has a deadline, and goes back only after it gave up
abbrev pub EntersBy : Want → Patience → Option ℕ → LockCase → Type 0
EntersBy x p gave_up (Enter y) = y ≡ x
EntersBy x p gave_up Pend = (x ≡ Exclusive) × (p ≢ Try)
EntersBy x p gave_up Settle = x ≡ Exclusive
EntersBy x p gave_up (Park y) = (y ≡ x) × (p ≢ Try)
EntersBy x p gave_up Aside = x ≡ Exclusive
EntersBy x p gave_up Late = (p ≡ Timed) × (gave_up ≡ None)
EntersBy x p gave_up Rollback = gave_up ≢ None
EntersBy x p gave_up (TakePicked start) = (gave_up ≢ None) × (start ≡ None)
EntersBy x p gave_up Wake = gave_up ≢ None
EntersBy x p gave_up case = ⊥

-- a call that releases: a fair one hands over in place of waking, but the upgradable one where the
-- limit would be passed
abbrev pub ReleasesBy : Want → Bool → LockCase → Type 0
ReleasesBy x fair (Leave y) = y ≡ x
ReleasesBy x fair (TakeFirst w) = Unit {0}
ReleasesBy x fair (TakeAside u) = x ≡ Shared
ReleasesBy x fair (TakePicked start) = (x ≢ Shared) × (start ≡ None)
ReleasesBy x fair Wake = (fair ≡ false) ⊎ (x ≡ Upgradable)
ReleasesBy x fair (HandOff y successor) = (fair ≡ true) × (y ≡ x)
ReleasesBy x fair case = ⊥

-- a call that converts never lets its right go; one that tries never waits for readers
abbrev pub ConvertsBy : Want → Want → Patience → Option ℕ → LockCase → Type 0
ConvertsBy x y p gave_up (Convert a b) = (a ≡ x) × (b ≡ y)
ConvertsBy x y p gave_up Settle = (y ≡ Exclusive) × (p ≢ Try)
ConvertsBy x y p gave_up Aside = (y ≡ Exclusive) × (p ≢ Try)
ConvertsBy x y p gave_up Late = (p ≡ Timed) × (gave_up ≡ None)
ConvertsBy x y p gave_up Rollback = gave_up ≢ None
ConvertsBy x y p gave_up (TakePicked start) =
    ((y ≢ Exclusive) × (start ≡ Some y)) ⊎ ((gave_up ≢ None) × (start ≡ Some x))
ConvertsBy x y p gave_up Wake = (y ≢ Exclusive) ⊎ (gave_up ≢ None)
ConvertsBy x y p gave_up case = ⊥

-- the deed of a bump before it enters again: it gives its right up once
abbrev pub GivesWay : Want → Bool → LockCase → Type 0
GivesWay x released (Leave y) = ReleasesBy x (is_fair_bump x) (Leave y) × (released ≡ false)
GivesWay x released (HandOff y successor) =
    ReleasesBy x (is_fair_bump x) (HandOff y successor) × (released ≡ false)
GivesWay x released case = ReleasesBy x (is_fair_bump x) case

-- a call that runs a closure, or waits while another runs one; its run ends the wait of all
abbrev pub CallsOnceBy : Bool → LockCase → Type 0
CallsOnceBy forced (OfOnce (Start by)) = by ≡ forced
CallsOnceBy forced (OfOnce (Rest x by)) = (x ≡ CallOnce) × (by ≡ forced)
CallsOnceBy forced (OfOnce case) = Unit {0}
CallsOnceBy forced Wake = Unit {0}
CallsOnceBy forced case = ⊥

-- a call that only waits: it gives up where it has a deadline
abbrev pub AwaitsBy : Bool → Bool → Option ℕ → LockCase → Type 0
AwaitsBy forced timed gave_up (OfOnce (Rest x by)) = (x ≡ Wait) × (by ≡ forced)
AwaitsBy forced timed gave_up Late = (timed ≡ true) × (gave_up ≡ None)
AwaitsBy forced timed gave_up case = ⊥

-- the deeds of a wait at its condition variable: it gives up only where it has a deadline, and hides only
-- after it gave up
abbrev pub WaitsAtCondvar : ℕ → Bool → Option ℕ → Bool → LockCase → Type 0
WaitsAtCondvar m timed gave_up released (OfCondvar (Show shown)) = (shown ≡ m) × (released ≡ false)
WaitsAtCondvar m timed gave_up released (OfCondvar Hide) = gave_up ≢ None
WaitsAtCondvar m timed gave_up released (Park x) = (x ≡ Wait) × (released ≡ false)
WaitsAtCondvar m timed gave_up released Late = (timed ≡ true) × (gave_up ≡ None)
WaitsAtCondvar m timed gave_up released case = ⊥

-- a wait releases its mutex once
abbrev pub ReleasesOnce : Bool → LockCase → Type 0
ReleasesOnce released (Leave y) = (y ≡ Exclusive) × (released ≡ false)
ReleasesOnce released case = ReleasesBy Exclusive false case

-- A wait has its mutex again by that release alone. It gives up in the queue of the mutex too, where it was
-- moved there.
abbrev pub WaitsAtMutex : Bool → Option ℕ → Bool → CondvarMemory → LockCase → Type 0
WaitsAtMutex timed gave_up released recalls Late = (timed ≡ true) × (recalls ≡ WasMoved)
WaitsAtMutex timed gave_up released recalls case =
    ReleasesOnce released case ⊎ ((released ≡ true) × EntersBy Exclusive Patient gave_up case)

-- the deeds of a notification at its condition variable, and at the mutex that it has seen; its move is one
-- event of both
abbrev pub NotifiesAtCondvar : CondvarMemory → LockCase → Type 0
NotifiesAtCondvar recalls (OfCondvar (Look seen)) = recalls ≡ Blank
NotifiesAtCondvar recalls (OfCondvar Hide) = Unit {0}
NotifiesAtCondvar recalls case = ⊥

abbrev pub NotifiesAtMutex : CondvarMemory → ℕ → LockCase → Type 0
NotifiesAtMutex recalls m (SeeOwner owned) = recalls ≡ Saw m
NotifiesAtMutex recalls m Wake = (number : ℕ) × (recalls ≡ HasMoved m number)
NotifiesAtMutex recalls m case = ⊥

-- the call does this to this lock; gave_up is the lock whose queue it left because its time was up,
-- released whether it has given its right up: a bump enters only then
abbrev pub IsMadeOf : Purpose → Option ℕ → Bool → CondvarMemory → ℕ → LockCase → Type 0
IsMadeOf (Enters l x p) gave_up released recalls k case = (k ≡ l) × EntersBy x p gave_up case
IsMadeOf (Releases l x fair) gave_up released recalls k case = (k ≡ l) × ReleasesBy x fair case
IsMadeOf (Converts l x y p) gave_up released recalls k case =
    (k ≡ l) × ConvertsBy x y p gave_up case
IsMadeOf (Bumps l x) gave_up released recalls k case =
    (k ≡ l) × (GivesWay x released case ⊎ ((released ≡ true) × EntersBy x Patient gave_up case))
IsMadeOf (CallsOnce l forced) gave_up released recalls k case = (k ≡ l) × CallsOnceBy forced case
IsMadeOf (Awaits l forced timed) gave_up released recalls k case =
    (k ≡ l) × AwaitsBy forced timed gave_up case
IsMadeOf (Waits l m timed) gave_up released recalls k case =
    ((k ≡ l) × WaitsAtCondvar m timed gave_up released case)
    ⊎ ((k ≡ m) × WaitsAtMutex timed gave_up released recalls case)
IsMadeOf (Notifies l all) gave_up released recalls k case =
    ((k ≡ l) × NotifiesAtCondvar recalls case) ⊎ NotifiesAtMutex recalls k case
