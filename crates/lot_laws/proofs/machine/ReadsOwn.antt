-- A call that reads the waiters does so in the main line of its lock, which it has to itself where the thread
-- has its way.
use Rattle.lot_laws.proofs.Imports
use Imports.{ℕ, Bool, true, false, Some, ◌≡◌, inl, ap, Call, CondvarCall, MutexCall, OnceCall, RwLockCall}
use Imports.{SemaphoreCall, Kind, lock_in, first_place, called_lock, mutex_purpose, purpose_of, rwlock_purpose}
use Imports.{purpose_at, Main, State, kind_at, place_at, locks_of, IsUnobstructed, HasMainLine, HasWhatItReads}
use Rattle.spec_locks.specs.declared.calls.Access.TheVariants as access
use Rattle.spec_locks.specs.declared.calls.Call.TheVariants as call
use Rattle.spec_locks.specs.declared.calls.CondvarCall.TheVariants as condvar_call
use Rattle.spec_locks.specs.declared.calls.MutexCall.TheVariants as mutex_call
use Rattle.spec_locks.specs.declared.calls.OnceCall.TheVariants as once_call
use Rattle.spec_locks.specs.declared.calls.RwLockCall.TheVariants as rwlock_call
use Rattle.spec_locks.specs.declared.calls.SemaphoreCall.TheVariants as semaphore_call
use Rattle.spec_locks.specs.declared.kinds.Kind.TheVariants as kinds

module _ (w : State) (t l : ℕ) (own : HasMainLine w t l) where
  mutex_reads : (fair : Bool) (c : MutexCall) → HasWhatItReads w t (Some (mutex_purpose fair l c))
  mutex_reads true mutex_call.Unlock = λ sort. own
  mutex_reads false mutex_call.Unlock = tt
  mutex_reads fair mutex_call.UnlockFair = λ sort. own
  mutex_reads fair mutex_call.Bump = own
  mutex_reads fair mutex_call.Lock = tt
  mutex_reads fair mutex_call.LockTimed = tt
  mutex_reads fair mutex_call.TryLock = tt

  rwlock_reads : (c : RwLockCall) → HasWhatItReads w t (Some (rwlock_purpose l c))
  rwlock_reads (rwlock_call.Bump access.Shared) = tt
  rwlock_reads (rwlock_call.Bump access.Upgradable) = own
  rwlock_reads (rwlock_call.Bump access.Exclusive) = own
  rwlock_reads (rwlock_call.ReleaseFair access.Shared) = tt
  rwlock_reads (rwlock_call.ReleaseFair access.Upgradable) = λ sort. own
  rwlock_reads (rwlock_call.ReleaseFair access.Exclusive) = λ sort. own
  rwlock_reads (rwlock_call.Enter x how) = tt
  rwlock_reads (rwlock_call.Release x) = tt
  rwlock_reads (rwlock_call.Downgrade d) = tt
  rwlock_reads (rwlock_call.Upgrade how) = tt

  of_mutex : (k : Kind) (c : MutexCall) → HasWhatItReads w t (purpose_of k (call.Mutex l c))
  of_mutex kinds.Mutex c = mutex_reads false c
  of_mutex kinds.Fair c = mutex_reads true c
  of_mutex k c = tt

  of_rwlock : (k : Kind) (c : RwLockCall) → HasWhatItReads w t (purpose_of k (call.RwLock l c))
  of_rwlock (kinds.RwLock limit) c = rwlock_reads c
  of_rwlock (kinds.Recursive limit) c = rwlock_reads c
  of_rwlock k c = tt

  of_once : (k : Kind) (c : OnceCall) → HasWhatItReads w t (purpose_of k (call.Once l c))
  of_once kinds.Once (once_call.CallOnce forced) = tt
  of_once kinds.Once (once_call.Wait forced) = tt
  of_once kinds.Once once_call.WaitTimed = tt
  of_once k c = tt

  of_condvar : (k : Kind) (c : CondvarCall) → HasWhatItReads w t (purpose_of k (call.Condvar l c))
  of_condvar kinds.Condvar (condvar_call.Wait m timed) = tt
  of_condvar kinds.Condvar (condvar_call.Notify all) = own
  of_condvar k c = tt

  of_semaphore : (k : Kind) (c : SemaphoreCall) → HasWhatItReads w t (purpose_of k (call.Semaphore l c))
  of_semaphore (kinds.Semaphore permits) (semaphore_call.Acquire how) = tt
  of_semaphore (kinds.Semaphore permits) semaphore_call.Release = tt
  of_semaphore k c = tt

pub reads_its_own : (w : State) (t : ℕ) (c : Call) → place_at w t ≡ first_place (kind_at w (lock_in c)) c
    → IsUnobstructed w t
    → HasWhatItReads w t (purpose_at (locks_of w) c)
reads_its_own w t c is way = by_call c is
  where
    own : (l : ℕ) → called_lock (place_at w t) ≡ Some l → HasMainLine w t l
    own l calls u inside = way l u Main (inl calls) tt inside

    by_call : (c : Call) → place_at w t ≡ first_place (kind_at w (lock_in c)) c
        → HasWhatItReads w t (purpose_at (locks_of w) c)
    by_call (call.Mutex l c) is = of_mutex w t l (own l (ap called_lock is)) (kind_at w l) c
    by_call (call.RwLock l c) is = of_rwlock w t l (own l (ap called_lock is)) (kind_at w l) c
    by_call (call.Once l c) is = of_once w t l (own l (ap called_lock is)) (kind_at w l) c
    by_call (call.Condvar l c) is = of_condvar w t l (own l (ap called_lock is)) (kind_at w l) c
    by_call (call.Semaphore l c) is = of_semaphore w t l (own l (ap called_lock is)) (kind_at w l) c
