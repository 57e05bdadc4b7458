-- The tables of the first page say of a call and a turn what the second page says.
use Rattle.std.proofs.Common.{ℕ, Bool, true, false, Option, Some, None, if◌then◌else◌, ◌==◌, ◌≡◌, inl, inr}
use Rattle.std.proofs.Common.{refl, sym, ◌∙◌, ap, subst}
use Rattle.std.proofs.lemmas.Bool.{eqb-true}
use Rattle.core_base.specs.declared.wants.Want.{Want}
use Rattle.core_base.specs.declared.wants.Want.TheVariants as wants
use Rattle.spec_locks.specs.declared.calls.Access.TheVariants as to
use Rattle.spec_locks.specs.declared.calls.Call.{Call}
use Rattle.spec_locks.specs.declared.calls.Call.TheVariants as call
use Rattle.spec_locks.specs.declared.calls.CondvarCall.{CondvarCall}
use Rattle.spec_locks.specs.declared.calls.CondvarCall.TheVariants.{Wait, Notify}
use Rattle.spec_locks.specs.declared.calls.Downgrade.TheVariants.{ToShared, ToUpgradable, UpgradableToShared}
use Rattle.spec_locks.specs.declared.calls.MutexCall.{MutexCall}
use Rattle.spec_locks.specs.declared.calls.MutexCall.TheVariants.{Lock, LockTimed, TryLock, Unlock}
use Rattle.spec_locks.specs.declared.calls.MutexCall.TheVariants.{UnlockFair, Bump}
use Rattle.spec_locks.specs.declared.calls.OnceCall.{OnceCall}
use Rattle.spec_locks.specs.declared.calls.OnceCall.TheVariants as once
use Rattle.spec_locks.specs.declared.calls.RwLockCall.{RwLockCall}
use Rattle.spec_locks.specs.declared.calls.RwLockCall.TheVariants as rwlock
use Rattle.spec_locks.specs.declared.calls.SemaphoreCall.{SemaphoreCall}
use Rattle.spec_locks.specs.declared.calls.SemaphoreCall.TheVariants as semaphore
use Rattle.spec_locks.specs.declared.calls.Turn.{Turn}
use Rattle.spec_locks.specs.declared.calls.Turn.TheVariants as turn
use Rattle.spec_locks.specs.declared.kinds.Kind.{Kind}
use Rattle.spec_locks.specs.declared.kinds.Kind.TheVariants as kind
use Rattle.spec_locks.specs.declared.outcomes.Answer.{Answer}
use Rattle.spec_locks.specs.declared.outcomes.Answer.TheVariants.{Ok, Yes, No, Notified, TimedOut, Number}
use Rattle.spec_locks.specs.declared.outcomes.Answer.TheVariants.{ReadersFull, Failed, Poisoned, TwoMutexes}
use Rattle.spec_locks.specs.Calls.{lock_in}
use Rattle.spec_locks.specs.Kinds.{has_call, is_fair}
use Rattle.spec_locks.specs.Locks.{Rights, putting}
use Rattle.spec_locks.specs.Purposes.{Purpose, Enters, Releases, Converts, Bumps, CallsOnce, Awaits, Waits}
use Rattle.spec_locks.specs.Purposes.{Notifies, Patience, Patient, Timed, Try, mutex_purpose, purpose_of}
use Rattle.spec_locks.specs.Purposes.{rwlock_purpose}
use Rattle.spec_locks.specs.Runs.{LocksState, CallState, AnswerHolds, EntersAnswer, ConvertsAnswer, Gains}
use Rattle.spec_locks.specs.Runs.{HasRight, Loses, MayBegin, MayTurn, purpose_at, rights_in}
use Rattle.spec_locks.specs.CallTable.{CanBegin, IsPossible, IsTrue, goal_of}
use Rattle.spec_locks.specs.Trade.{Trades}

-- ---------------------------------------------------------------- goals

module _ (w : LocksState) (t : ℕ) where
  abbrev fair : ℕ → Bool
  fair l = is_fair (w.kinds l)

  mutex_goal : (b : Bool) (l : ℕ) (c : MutexCall) → fair l ≡ b → Some (mutex_purpose b l c) ≡ Some
      (goal_of fair (call.Mutex l c))
  mutex_goal b l Lock e = refl
  mutex_goal b l LockTimed e = refl
  mutex_goal b l TryLock e = refl
  mutex_goal b l Unlock e = ap (λ x. Some (Releases l wants.Exclusive x)) (sym e)
  mutex_goal b l UnlockFair e = refl
  mutex_goal b l Bump e = refl

  rwlock_goal : (l : ℕ) (c : RwLockCall) → Some (rwlock_purpose l c) ≡ Some (goal_of fair (call.RwLock l c))
  rwlock_goal l (rwlock.Enter to.Shared how) = refl
  rwlock_goal l (rwlock.Enter to.Upgradable how) = refl
  rwlock_goal l (rwlock.Enter to.Exclusive how) = refl
  rwlock_goal l (rwlock.Release to.Shared) = refl
  rwlock_goal l (rwlock.Release to.Upgradable) = refl
  rwlock_goal l (rwlock.Release to.Exclusive) = refl
  rwlock_goal l (rwlock.ReleaseFair to.Shared) = refl
  rwlock_goal l (rwlock.ReleaseFair to.Upgradable) = refl
  rwlock_goal l (rwlock.ReleaseFair to.Exclusive) = refl
  rwlock_goal l (rwlock.Downgrade ToShared) = refl
  rwlock_goal l (rwlock.Downgrade ToUpgradable) = refl
  rwlock_goal l (rwlock.Downgrade UpgradableToShared) = refl
  rwlock_goal l (rwlock.Upgrade how) = refl
  rwlock_goal l (rwlock.Bump to.Shared) = refl
  rwlock_goal l (rwlock.Bump to.Upgradable) = refl
  rwlock_goal l (rwlock.Bump to.Exclusive) = refl

  -- where the lock has the call
  abbrev Says : Kind → Call → Type 0
  Says k c = has_call k c ≡ true → purpose_of k c ≡ Some (goal_of fair c)

  of_mutex : (l : ℕ) (c : MutexCall) (k : Kind) → w.kinds l ≡ k → Says k (call.Mutex l c)
  of_mutex l c kind.Mutex e h = mutex_goal false l c (ap is_fair e)
  of_mutex l c kind.Fair e h = mutex_goal true l c (ap is_fair e)
  of_mutex l c (kind.RwLock limit) e h = absurd cc
  of_mutex l c (kind.Recursive limit) e h = absurd cc
  of_mutex l c kind.Condvar e h = absurd cc
  of_mutex l c kind.Once e h = absurd cc
  of_mutex l c (kind.Semaphore permits) e h = absurd cc

  of_rwlock : (l : ℕ) (c : RwLockCall) (k : Kind) → Says k (call.RwLock l c)
  of_rwlock l c (kind.RwLock limit) h = rwlock_goal l c
  of_rwlock l c (kind.Recursive limit) h = rwlock_goal l c
  of_rwlock l c kind.Mutex h = absurd cc
  of_rwlock l c kind.Fair h = absurd cc
  of_rwlock l c kind.Condvar h = absurd cc
  of_rwlock l c kind.Once h = absurd cc
  of_rwlock l c (kind.Semaphore permits) h = absurd cc

  of_once : (l : ℕ) (c : OnceCall) (k : Kind) → Says k (call.Once l c)
  of_once l (once.CallOnce forced) kind.Once h = refl
  of_once l (once.Wait forced) kind.Once h = refl
  of_once l once.WaitTimed kind.Once h = refl
  of_once l c kind.Mutex h = absurd cc
  of_once l c kind.Fair h = absurd cc
  of_once l c (kind.RwLock limit) h = absurd cc
  of_once l c (kind.Recursive limit) h = absurd cc
  of_once l c kind.Condvar h = absurd cc
  of_once l c (kind.Semaphore permits) h = absurd cc

  of_condvar : (l : ℕ) (c : CondvarCall) (k : Kind) → Says k (call.Condvar l c)
  of_condvar l (Wait m timed) kind.Condvar h = refl
  of_condvar l (Notify all) kind.Condvar h = refl
  of_condvar l c kind.Mutex h = absurd cc
  of_condvar l c kind.Fair h = absurd cc
  of_condvar l c (kind.RwLock limit) h = absurd cc
  of_condvar l c (kind.Recursive limit) h = absurd cc
  of_condvar l c kind.Once h = absurd cc
  of_condvar l c (kind.Semaphore permits) h = absurd cc

  of_semaphore : (l : ℕ) (c : SemaphoreCall) (k : Kind) → Says k (call.Semaphore l c)
  of_semaphore l (semaphore.Acquire how) (kind.Semaphore permits) h = refl
  of_semaphore l semaphore.Release (kind.Semaphore permits) h = refl
  of_semaphore l c kind.Mutex h = absurd cc
  of_semaphore l c kind.Fair h = absurd cc
  of_semaphore l c (kind.RwLock limit) h = absurd cc
  of_semaphore l c (kind.Recursive limit) h = absurd cc
  of_semaphore l c kind.Condvar h = absurd cc
  of_semaphore l c kind.Once h = absurd cc

  goal_there : (c : Call) → has_call (w.kinds (lock_in c)) c ≡ true → purpose_at w c ≡ Some (goal_of fair c)
  goal_there (call.Mutex l c) h = of_mutex l c (w.kinds l) refl h
  goal_there (call.RwLock l c) h = of_rwlock l c (w.kinds l) h
  goal_there (call.Once l c) h = of_once l c (w.kinds l) h
  goal_there (call.Condvar l c) h = of_condvar l c (w.kinds l) h
  goal_there (call.Semaphore l c) h = of_semaphore l c (w.kinds l) h

  -- a call for which its thread has the right is one of its lock
  call_there : (k : Kind) (c : Call) → HasRight w t (purpose_of k c) → has_call k c ≡ true
  call_there kind.Mutex (call.Mutex l c) h = refl
  call_there kind.Fair (call.Mutex l c) h = refl
  call_there (kind.RwLock limit) (call.RwLock l c) h = refl
  call_there (kind.Recursive limit) (call.RwLock l c) h = refl
  call_there kind.Condvar (call.Condvar l c) h = refl
  call_there kind.Once (call.Once l c) h = refl
  call_there (kind.Semaphore permits) (call.Semaphore l c) h = refl
  call_there k c h = absurd h

  pub goal_is : (c : Call) → HasRight w t (purpose_at w c) → purpose_at w c ≡ Some (goal_of fair c)
  goal_is c h = goal_there c (call_there (w.kinds (lock_in c)) c h)

  -- ---------------------------------------------------------------- turns

  can_begin : (c : Call) → MayBegin w t c → CanBegin w t c
  can_begin c may = record {
    thread = may.thread;
    idle = may.idle;
    lock = may.lock;
    known = call_there (w.kinds (lock_in c)) c may.right;
    right = subst (HasRight w t) (goal_is c may.right) may.right;
  }

  may_begin : (c : Call) → CanBegin w t c → MayBegin w t c
  may_begin c can = record {
    thread = can.thread;
    idle = can.idle;
    lock = can.lock;
    right = subst (HasRight w t) (sym (goal_there c can.known)) can.right;
  }

  pub is_possible : (x : Turn) → MayTurn w t x → IsPossible w t x
  is_possible (turn.Begin c) may = can_begin c may
  is_possible turn.Go may = may
  is_possible turn.Spin may = may
  is_possible turn.Late may = may
  is_possible turn.Ok may = may
  is_possible turn.Err may = may

  pub may_turn : (x : Turn) → IsPossible w t x → MayTurn w t x
  may_turn (turn.Begin c) may = may_begin c may
  may_turn turn.Go may = may
  may_turn turn.Spin may = may
  may_turn turn.Late may = may
  may_turn turn.Ok may = may
  may_turn turn.Err may = may

-- ---------------------------------------------------------------- answers

put_own : (f : ℕ → Rights) (l k : ℕ) → putting f l (f l) k ≡ f k
put_own f l k = either (k == l) refl
  where
    either : (b : Bool) → (k == l) ≡ b → (if b then f l else f k) ≡ f k
    either false e = refl
    either true e = ap f (sym (eqb-true k l e))

module _ (v : LocksState) (t : ℕ) (c : CallState) (l : ℕ) where
  gains : (x : Want) → Gains v t c l x → Trades v t c l None (Some x)
  gains x h k = put_own (rights_in v t) l k ∙ h k

  pub loses : (x : Want) → Loses v t c l x → Trades v t c l (Some x) None
  loses x h k = h k ∙ sym (put_own c.former l k)

  tries : (x : Want) → EntersAnswer v t c l x Try No → IsTrue (Some (Enters l x Try)) No v t c
  tries wants.Exclusive h = h
  tries wants.Upgradable h = h
  tries wants.Shared h = h
  tries wants.Wait h = h
  tries wants.CallOnce h = h

  enters : (x : Want) (how : Patience) (a : Answer) → EntersAnswer v t c l x how a
      → IsTrue (Some (Enters l x how)) a v t c
  enters x Patient Ok h = (h.0, gains x h.1)
  enters x Timed Yes h = (h.0, gains x h.1)
  enters x Timed No h = h
  enters x Try Yes h = (h.0, gains x h.1)
  enters x Try No h = tries x h
  enters x Patient ReadersFull h = h
  enters x Timed ReadersFull h = h
  enters x Try ReadersFull h = h
  enters x how a h = absurd h

  converts : (x y : Want) (how : Patience) (a : Answer) → ConvertsAnswer v t c l x y how a
      → IsTrue (Some (Converts l x y how)) a v t c
  converts x y Patient Ok h = (tt, h)
  converts x y Timed Yes h = (tt, h)
  converts x y Timed No h = h
  converts x y Try Yes h = (tt, h)
  converts x y Try No h = h
  converts x y how a h = absurd h

pub answer_is : (o : Option Purpose) (v : LocksState) (t : ℕ) (c : CallState) (a : Answer)
    → AnswerHolds o v t c a → IsTrue o a v t c
answer_is None v t c a h = absurd h
answer_is (Some (Enters l x how)) v t c a h = enters v t c l x how a h
answer_is (Some (Releases l x fair)) v t c Ok h = (tt, loses v t c l x h)
answer_is (Some (Converts l x y how)) v t c a h = converts v t c l x y how a h
answer_is (Some (Bumps l x)) v t c Ok h = h
answer_is (Some (Bumps l x)) v t c ReadersFull h = (h.0, loses v t c l x h.1)
answer_is (Some (CallsOnce l forced)) v t c Ok h = ((h.0, h.1), h.2)
answer_is (Some (CallsOnce l forced)) v t c Poisoned h = ((h.0, h.1, h.2), h.3)
answer_is (Some (CallsOnce l forced)) v t c Failed h = h
answer_is (Some (Awaits l forced false)) v t c Ok h = h
answer_is (Some (Awaits l forced true)) v t c Yes h = h
answer_is (Some (Awaits l forced true)) v t c No h = h
answer_is (Some (Awaits l forced true)) v t c Poisoned h = ((h.0, h.1), h.2)
answer_is (Some (Awaits l forced false)) v t c Poisoned h = ((h.0, h.1), h.2)
answer_is (Some (Waits l m false)) v t c Ok h = ((h.0, h.1.0), h.1.1)
answer_is (Some (Waits l m true)) v t c Notified h = ((h.0, h.1.0), h.1.1)
answer_is (Some (Waits l m true)) v t c TimedOut h = ((h.0, h.1, h.2.0), h.2.1)
answer_is (Some (Waits l m true)) v t c TwoMutexes h = ((h.0, h.1), h.2)
answer_is (Some (Waits l m false)) v t c TwoMutexes h = ((h.0, h.1), h.2)
answer_is (Some (Notifies l false)) v t c Yes h = h
answer_is (Some (Notifies l false)) v t c No h = h
answer_is (Some (Notifies l true)) v t c (Number n) (inl h) = (inl (h.0, h.1), h.2)
answer_is (Some (Notifies l true)) v t c (Number n) (inr h) = (inr (h.0, h.1), h.2)
answer_is o v t c a h = absurd h
