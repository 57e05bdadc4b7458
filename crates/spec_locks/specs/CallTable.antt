-- The goal of each call, the turns that are possible, and what each answer says: tables of which the first page
-- is made.
use Rattle.std.specs.Prelude.{ℕ, Bool, true, false, Option, Some, None, ◌≡◌, ◌≢◌, ◌≤◌, ◌<◌, ◌⊎◌}
use Rattle.core_base.specs.declared.wants.Want.{Want}
use Rattle.core_base.specs.declared.wants.Want.TheVariants.{Exclusive, Upgradable, Shared}
use Rattle.spec_locks.specs.declared.calls.Access.TheVariants as to
use Rattle.spec_locks.specs.declared.calls.Call.{Call}
use Rattle.spec_locks.specs.declared.calls.Call.TheVariants as call
use Rattle.spec_locks.specs.declared.calls.CondvarCall.TheVariants.{Wait, Notify}
use Rattle.spec_locks.specs.declared.calls.Downgrade.TheVariants.{ToShared, ToUpgradable, UpgradableToShared}
use Rattle.spec_locks.specs.declared.calls.MutexCall.TheVariants.{Lock, LockTimed, TryLock, Unlock}
use Rattle.spec_locks.specs.declared.calls.MutexCall.TheVariants.{UnlockFair, Bump}
use Rattle.spec_locks.specs.declared.calls.OnceCall.TheVariants as once
use Rattle.spec_locks.specs.declared.calls.RwLockCall.TheVariants as rwlock
use Rattle.spec_locks.specs.declared.calls.SemaphoreCall.TheVariants as semaphore
use Rattle.spec_locks.specs.declared.calls.Turn.{Turn}
use Rattle.spec_locks.specs.declared.calls.Turn.TheVariants as turn
use Rattle.spec_locks.specs.declared.calls.Turn.TheVariants.{Begin, Go, Late, Spin}
use Rattle.spec_locks.specs.declared.outcomes.Answer.{Answer}
use Rattle.spec_locks.specs.declared.outcomes.Answer.TheVariants.{Ok, Yes, No, Notified, TimedOut, Number}
use Rattle.spec_locks.specs.declared.outcomes.Answer.TheVariants.{ReadersFull, Failed, Poisoned as IsPoisoned}
use Rattle.spec_locks.specs.declared.outcomes.Answer.TheVariants.{TwoMutexes}
use Rattle.spec_locks.specs.Calls.{lock_in}
use Rattle.spec_locks.specs.Kinds.{has_call, is_fair}
use Rattle.spec_locks.specs.Onces.{Done, Poisoned}
use Rattle.spec_locks.specs.Locks.{Mutex, IsBlocked, IsFree, Owns, count, readers}
use Rattle.spec_locks.specs.Purposes.{Purpose, Enters, Releases, Converts, Bumps, CallsOnce, Awaits, Waits}
use Rattle.spec_locks.specs.Purposes.{Notifies, HasMoved, Patient, Timed, Try}
use Rattle.spec_locks.specs.Runs.{LocksState, CallState, HasRight, IsNotified, MayBeLate, MayGo, MovedNobody}
use Rattle.spec_locks.specs.Runs.{rules_at}
use Rattle.spec_locks.specs.Trade.{OwnsBy, trade_of}

-- ---------------------------------------------------------------- goals

-- the goal of a call of the lock l, where these mutexes are fair ones: it enters by a right, gives one up,
-- turns one into another, gives it up for a while, runs a `Once` or waits for that, waits or notifies
abbrev pub goal_of : (ℕ → Bool) → Call → Purpose
goal_of fair (call.Mutex l Lock) = Enters l Exclusive Patient
goal_of fair (call.Mutex l LockTimed) = Enters l Exclusive Timed
goal_of fair (call.Mutex l TryLock) = Enters l Exclusive Try
goal_of fair (call.Mutex l Unlock) = Releases l Exclusive (fair l)
goal_of fair (call.Mutex l UnlockFair) = Releases l Exclusive true
goal_of fair (call.Mutex l Bump) = Bumps l Exclusive
goal_of fair (call.RwLock l (rwlock.Enter to.Shared how)) = Enters l Shared how
goal_of fair (call.RwLock l (rwlock.Enter to.Upgradable how)) = Enters l Upgradable how
goal_of fair (call.RwLock l (rwlock.Enter to.Exclusive how)) = Enters l Exclusive how
goal_of fair (call.RwLock l (rwlock.Release to.Shared)) = Releases l Shared false
goal_of fair (call.RwLock l (rwlock.Release to.Upgradable)) = Releases l Upgradable false
goal_of fair (call.RwLock l (rwlock.Release to.Exclusive)) = Releases l Exclusive false
goal_of fair (call.RwLock l (rwlock.ReleaseFair to.Shared)) = Releases l Shared false
goal_of fair (call.RwLock l (rwlock.ReleaseFair to.Upgradable)) = Releases l Upgradable true
goal_of fair (call.RwLock l (rwlock.ReleaseFair to.Exclusive)) = Releases l Exclusive true
goal_of fair (call.RwLock l (rwlock.Downgrade ToShared)) = Converts l Exclusive Shared Patient
goal_of fair (call.RwLock l (rwlock.Downgrade ToUpgradable)) = Converts l Exclusive Upgradable Patient
goal_of fair (call.RwLock l (rwlock.Downgrade UpgradableToShared)) = Converts l Upgradable Shared Patient
goal_of fair (call.RwLock l (rwlock.Upgrade how)) = Converts l Upgradable Exclusive how
goal_of fair (call.RwLock l (rwlock.Bump to.Shared)) = Bumps l Shared
goal_of fair (call.RwLock l (rwlock.Bump to.Upgradable)) = Bumps l Upgradable
goal_of fair (call.RwLock l (rwlock.Bump to.Exclusive)) = Bumps l Exclusive
goal_of fair (call.Once l (once.CallOnce forced)) = CallsOnce l forced
goal_of fair (call.Once l (once.Wait forced)) = Awaits l forced false
goal_of fair (call.Once l once.WaitTimed) = Awaits l false true
goal_of fair (call.Condvar l (Wait m timed)) = Waits l m timed
goal_of fair (call.Condvar l (Notify all)) = Notifies l all
goal_of fair (call.Semaphore l (semaphore.Acquire how)) = Enters l Shared how
goal_of fair (call.Semaphore l semaphore.Release) = Releases l Shared false

-- ---------------------------------------------------------------- turns

-- a call begins: the thread and the lock are there, the lock has the call, the thread is in no call, and has
-- the right that the call needs
pub record CanBegin (w : LocksState) (t : ℕ) (c : Call) : Type 0 where
  pub thread : t < w.threads
  pub idle : (w.calls t).purpose ≡ None
  pub lock : lock_in c < w.size
  pub known : has_call (w.kinds (lock_in c)) c ≡ true
  pub right : HasRight w t (Some (goal_of (λ l. is_fair (w.kinds l)) c))

-- whether a turn is possible
abbrev pub IsPossible : LocksState → ℕ → Turn → Type 0
IsPossible w t (Begin c) = CanBegin w t c
IsPossible w t Go = MayGo w t
IsPossible w t Spin = (w.stances t).may_spin ≡ true
IsPossible w t Late = MayBeLate w t
IsPossible w t turn.Ok = (w.stances t).in_closure ≡ true
IsPossible w t turn.Err = (w.stances t).in_closure ≡ true

-- ---------------------------------------------------------------- answers

-- only the limit keeps it out
abbrev pub IsFullFor : LocksState → ℕ → Want → Type 0
IsFullFor v l x = (x ≢ Exclusive) × IsFree (rules_at v l) (v.locks l) x
    × ((rules_at v l).limit ≤ count (v.locks l))

-- what an answer says of the state v in which the thread t is given it, but for what the thread owns; c is
-- what the call recalls
abbrev pub Says : Purpose → Answer → LocksState → ℕ → CallState → Type 0
Says (Enters l x Patient) Ok v t c = Owns (v.locks l) t x
Says (Enters l x Timed) Yes v t c = Owns (v.locks l) t x
Says (Enters l x Try) Yes v t c = Owns (v.locks l) t x
Says (Enters l x Timed) No v t c = c.gave_up ≡ Some l
Says (Enters l Exclusive Try) No v t c =
    (rules_at v l).sort ≡ Mutex → IsBlocked (rules_at v l) (v.locks l) Exclusive
Says (Enters l x Try) No v t c = IsBlocked (rules_at v l) (v.locks l) x
Says (Enters l x how) ReadersFull v t c = IsFullFor v l x
Says (Releases l x fair) Ok v t c = Unit {0}
Says (Converts l x y Patient) Ok v t c = Unit {0}
Says (Converts l x y Timed) Yes v t c = Unit {0}
Says (Converts l x y Try) Yes v t c = Unit {0}
Says (Converts l x y Timed) No v t c = c.gave_up ≡ Some l
Says (Converts l x y Try) No v t c = 1 ≤ readers (v.locks l)
Says (Bumps l x) Ok v t c = Owns (v.locks l) t x
Says (Bumps l x) ReadersFull v t c = IsFullFor v l x
Says (CallsOnce l forced) Ok v t c = (c.failed ≡ false) × ((v.locks l).phase ≡ Done)
Says (CallsOnce l forced) IsPoisoned v t c =
    (c.failed ≡ false) × ((v.locks l).phase ≡ Poisoned) × (forced ≡ false)
Says (CallsOnce l forced) Failed v t c = c.failed ≡ true
Says (Awaits l forced false) Ok v t c = (v.locks l).phase ≡ Done
Says (Awaits l forced true) Yes v t c = (v.locks l).phase ≡ Done
Says (Awaits l forced true) No v t c = c.gave_up ≡ Some l
Says (Awaits l forced timed) IsPoisoned v t c = ((v.locks l).phase ≡ Poisoned) × (forced ≡ false)
Says (Waits l m false) Ok v t c = IsNotified c.recalls × (c.released ≡ true)
Says (Waits l m true) Notified v t c = IsNotified c.recalls × (c.released ≡ true)
Says (Waits l m true) TimedOut v t c =
    (c.gave_up ≡ Some l) × (IsNotified c.recalls → ⊥) × (c.released ≡ true)
Says (Waits l m timed) TwoMutexes v t c =
    (c.released ≡ false) × (((v.locks l).shown ≢ None) × ((v.locks l).shown ≢ Some m))
Says (Notifies l false) Yes v t c = (m : ℕ) × (c.recalls ≡ HasMoved m 1)
Says (Notifies l false) No v t c = MovedNobody (v.locks l) c.recalls
Says (Notifies l true) (Number n) v t c = ((n ≡ 0) × MovedNobody (v.locks l) c.recalls)
    ⊎ ((n ≢ 0) × ((m : ℕ) × (c.recalls ≡ HasMoved m n)))
Says goal a v t c = ⊥

-- whether the thread has made the trade of its call, where it is answered so
abbrev pub has_traded : Purpose → Answer → Bool
has_traded (Enters l x how) Ok = true
has_traded (Enters l x how) Yes = true
has_traded (Releases l x fair) Ok = true
has_traded (Converts l x y how) Ok = true
has_traded (Converts l x y how) Yes = true
has_traded (Bumps l x) ReadersFull = true
has_traded goal a = false

-- an answer is true: of the state, and of what the thread owns
abbrev pub IsTrue : Option Purpose → Answer → LocksState → ℕ → CallState → Type 0
IsTrue None a v t c = ⊥
IsTrue (Some goal) a v t c = Says goal a v t c × OwnsBy (has_traded goal a) (trade_of goal) v t c
