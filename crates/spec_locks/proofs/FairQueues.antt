-- The calls of a fair mutex release it fairly, and what a step does to such a mutex while somebody waits.
use Rattle.std.proofs.Common.{ℕ, true, false, Some, ◌≡◌, ◌≢◌, ◌⊎◌, inl, inr, refl, sym, ◌∙◌, ap, subst}
use Rattle.std.proofs.lemmas.Bool.{cases_eq}
use Rattle.spec_locks.specs.declared.calls.Call.{Call}
use Rattle.spec_locks.specs.declared.calls.Call.TheVariants as call
use Rattle.spec_locks.specs.declared.calls.MutexCall.{MutexCall}
use Rattle.spec_locks.specs.declared.calls.MutexCall.TheVariants as mutex_call
use Rattle.spec_locks.specs.declared.calls.RwLockCall.{RwLockCall}
use Rattle.spec_locks.specs.declared.calls.RwLockCall.TheVariants as rwlock_call
use Rattle.spec_locks.specs.declared.calls.OnceCall.{OnceCall}
use Rattle.spec_locks.specs.declared.calls.OnceCall.TheVariants as once_call
use Rattle.spec_locks.specs.declared.calls.CondvarCall.{CondvarCall}
use Rattle.spec_locks.specs.declared.calls.CondvarCall.TheVariants as condvar_call
use Rattle.spec_locks.specs.declared.calls.SemaphoreCall.{SemaphoreCall}
use Rattle.spec_locks.specs.declared.calls.SemaphoreCall.TheVariants as semaphore_call
use Rattle.spec_locks.specs.declared.calls.Step.{Step}
use Rattle.spec_locks.specs.declared.calls.Turn.{Turn}
use Rattle.spec_locks.specs.declared.calls.Turn.TheVariants as turn
use Rattle.spec_locks.specs.declared.kinds.Kind.{Kind}
use Rattle.spec_locks.specs.declared.kinds.Kind.TheVariants as kind
use Rattle.spec_locks.specs.declared.outcomes.Answer.{Answer}
use Rattle.spec_locks.specs.declared.outcomes.Outcome.{Outcome}
use Rattle.spec_locks.specs.declared.outcomes.Outcome.TheVariants as outcome
use Rattle.spec_locks.specs.Kinds.{is_plain_mutex}
use Rattle.spec_locks.specs.Purposes.{purpose_of, mutex_purpose, rwlock_purpose}
use Rattle.spec_locks.specs.Runs.{LocksState, CallState, Does, HasRight, MayTurn, Turned, new_call}
use Rattle.spec_locks.specs.Runs.{purpose_at, rights_in}
use Rattle.spec_locks.specs.Bypass.{AllReleaseFairly, ReleasesFairly}
use Rattle.spec_locks.proofs.Idle.{ends, goes_on, stay_own}

-- ---------------------------------------------------------------- a call that begins

no_fair : (k : Kind) → k ≡ kind.Fair → is_plain_mutex k ≡ true → ⊥
no_fair kind.Fair e h = cc
no_fair kind.Mutex e h = cc
no_fair (kind.RwLock limit) e h = cc
no_fair (kind.Recursive limit) e h = cc
no_fair kind.Condvar e h = cc
no_fair kind.Once e h = cc
no_fair (kind.Semaphore permits) e h = cc

module _ (l : ℕ) where
  mutex_fairly : (k : ℕ) (c : MutexCall) → ReleasesFairly (Some (mutex_purpose true k c)) l
  mutex_fairly k mutex_call.Lock = tt
  mutex_fairly k mutex_call.LockTimed = tt
  mutex_fairly k mutex_call.TryLock = tt
  mutex_fairly k mutex_call.Unlock = λ e. refl
  mutex_fairly k mutex_call.UnlockFair = λ e. refl
  mutex_fairly k mutex_call.Bump = tt

  mutex_elsewhere : (k : ℕ) (c : MutexCall) → k ≢ l → ReleasesFairly (Some (mutex_purpose false k c)) l
  mutex_elsewhere k mutex_call.Lock ne = tt
  mutex_elsewhere k mutex_call.LockTimed ne = tt
  mutex_elsewhere k mutex_call.TryLock ne = tt
  mutex_elsewhere k mutex_call.Unlock ne = λ e. absurd (ne e)
  mutex_elsewhere k mutex_call.UnlockFair ne = λ e. refl
  mutex_elsewhere k mutex_call.Bump ne = tt

  rwlock_elsewhere : (k : ℕ) (c : RwLockCall) → k ≢ l → ReleasesFairly (Some (rwlock_purpose k c)) l
  rwlock_elsewhere k (rwlock_call.Enter x how) ne = tt
  rwlock_elsewhere k (rwlock_call.Release x) ne = λ e. absurd (ne e)
  rwlock_elsewhere k (rwlock_call.Downgrade d) ne = tt
  rwlock_elsewhere k (rwlock_call.Upgrade how) ne = tt
  rwlock_elsewhere k (rwlock_call.ReleaseFair x) ne = λ e. absurd (ne e)
  rwlock_elsewhere k (rwlock_call.Bump x) ne = tt

  module _ (w : LocksState) (t : ℕ) (fair : w.kinds l ≡ kind.Fair) where
    elsewhere : (k : ℕ) (x : Kind) → w.kinds k ≡ x → x ≢ kind.Fair → k ≢ l
    elsewhere k x e ne same = ne (sym e ∙ ap w.kinds same ∙ fair)

    mutex_begun : (k : ℕ) (c : MutexCall) (x : Kind) → w.kinds k ≡ x
        → ReleasesFairly (purpose_of x (call.Mutex k c)) l
    mutex_begun k c kind.Mutex e = mutex_elsewhere k c (elsewhere k kind.Mutex e (λ f. cc))
    mutex_begun k c kind.Fair e = mutex_fairly k c
    mutex_begun k c (kind.RwLock limit) e = tt
    mutex_begun k c (kind.Recursive limit) e = tt
    mutex_begun k c kind.Condvar e = tt
    mutex_begun k c kind.Once e = tt
    mutex_begun k c (kind.Semaphore permits) e = tt

    rwlock_begun : (k : ℕ) (c : RwLockCall) (x : Kind) → w.kinds k ≡ x
        → ReleasesFairly (purpose_of x (call.RwLock k c)) l
    rwlock_begun k c (kind.RwLock limit) e =
        rwlock_elsewhere k c (elsewhere k (kind.RwLock limit) e (λ f. cc))
    rwlock_begun k c (kind.Recursive limit) e =
        rwlock_elsewhere k c (elsewhere k (kind.Recursive limit) e (λ f. cc))
    rwlock_begun k c kind.Mutex e = tt
    rwlock_begun k c kind.Fair e = tt
    rwlock_begun k c kind.Condvar e = tt
    rwlock_begun k c kind.Once e = tt
    rwlock_begun k c (kind.Semaphore permits) e = tt

    once_begun : (k : ℕ) (c : OnceCall) (x : Kind) → ReleasesFairly (purpose_of x (call.Once k c)) l
    once_begun k (once_call.CallOnce forced) kind.Once = tt
    once_begun k (once_call.Wait forced) kind.Once = tt
    once_begun k once_call.WaitTimed kind.Once = tt
    once_begun k c kind.Mutex = tt
    once_begun k c kind.Fair = tt
    once_begun k c (kind.RwLock limit) = tt
    once_begun k c (kind.Recursive limit) = tt
    once_begun k c kind.Condvar = tt
    once_begun k c (kind.Semaphore permits) = tt

    condvar_begun : (k : ℕ) (c : CondvarCall) (x : Kind) → HasRight w t (purpose_of x (call.Condvar k c))
        → ReleasesFairly (purpose_of x (call.Condvar k c)) l
    condvar_begun k (condvar_call.Wait m timed) kind.Condvar right = λ e. no_fair (w.kinds m) (ap w.kinds e
        ∙ fair) right.0
    condvar_begun k (condvar_call.Notify all) kind.Condvar right = tt
    condvar_begun k c kind.Mutex right = tt
    condvar_begun k c kind.Fair right = tt
    condvar_begun k c (kind.RwLock limit) right = tt
    condvar_begun k c (kind.Recursive limit) right = tt
    condvar_begun k c kind.Once right = tt
    condvar_begun k c (kind.Semaphore permits) right = tt

    semaphore_begun : (k : ℕ) (c : SemaphoreCall) (x : Kind) → w.kinds k ≡ x
        → ReleasesFairly (purpose_of x (call.Semaphore k c)) l
    semaphore_begun k (semaphore_call.Acquire how) (kind.Semaphore permits) e = tt
    semaphore_begun k semaphore_call.Release (kind.Semaphore permits) e = λ f. absurd
        (elsewhere k (kind.Semaphore permits) e (λ g. cc) f)
    semaphore_begun k c kind.Mutex e = tt
    semaphore_begun k c kind.Fair e = tt
    semaphore_begun k c (kind.RwLock limit) e = tt
    semaphore_begun k c (kind.Recursive limit) e = tt
    semaphore_begun k c kind.Condvar e = tt
    semaphore_begun k c kind.Once e = tt

    begun : (c : Call) → HasRight w t (purpose_at w c) → ReleasesFairly (purpose_at w c) l
    begun (call.Mutex k c) right = mutex_begun k c (w.kinds k) refl
    begun (call.RwLock k c) right = rwlock_begun k c (w.kinds k) refl
    begun (call.Once k c) right = once_begun k c (w.kinds k)
    begun (call.Condvar k c) right = condvar_begun k c (w.kinds k) right
    begun (call.Semaphore k c) right = semaphore_begun k c (w.kinds k) refl

-- ---------------------------------------------------------------- a step

is_end : (o : Outcome) → ((a : Answer) × (o ≡ outcome.End a))
    ⊎ ((a : Answer) → o ≢ outcome.End a)
is_end (outcome.End a) = inl (a, refl)
is_end outcome.NotNow = inr (λ a e. cc)
is_end outcome.Step = inr (λ a e. cc)
is_end outcome.Sleep = inr (λ a e. cc)
is_end (outcome.Closure state) = inr (λ a e. cc)

-- calls of the mutex are fair ones after it
module _ (w v : LocksState) (s : Step) (o : Outcome) (l : ℕ) (fair : w.kinds l ≡ kind.Fair)
    (all : AllReleaseFairly w l) (turned : Turned w s.thread s.turn o v) where
  same_call : (c d : CallState) → d.purpose ≡ c.purpose → ReleasesFairly c.purpose l
      → ReleasesFairly d.purpose l
  same_call c d e h = subst (λ p. ReleasesFairly p l) (sym e) h

  by_turn : (x : Turn) → s.turn ≡ x → ((a : Answer) → o ≢ outcome.End a) → MayTurn w s.thread x
      → Does w s.thread x o v
      → ReleasesFairly (v.calls s.thread).purpose l
  by_turn (turn.Begin c) e more may does =
      same_call (new_call (purpose_at w c) (rights_in w s.thread)) (v.calls s.thread)
      (ap (λ (d : CallState). d.purpose)
      (stay_own w v s.thread o (new_call (purpose_at w c) (rights_in w s.thread)) does))
      (begun l w s.thread fair c may.right)
  by_turn turn.Late e more may does = same_call (w.calls s.thread) (v.calls s.thread)
      (ap (λ (d : CallState). d.purpose) (stay_own w v s.thread o (record (w.calls s.thread) { late = true })
      does)) (all s.thread)
  by_turn turn.Go e more may does = same_call (w.calls s.thread) (v.calls s.thread)
      (goes_on w v s o turned s.thread
      (λ f. (
        (λ c g. let h : turn.Go ≡ turn.Begin c = sym e ∙ g in cc),
        (λ g. let h : turn.Go ≡ turn.Late = sym e ∙ g in cc),
        more,
      ))).purpose
      (all s.thread)
  by_turn turn.Spin e more may does = same_call (w.calls s.thread) (v.calls s.thread)
      (goes_on w v s o turned s.thread
      (λ f. (
        (λ c g. let h : turn.Spin ≡ turn.Begin c = sym e ∙ g in cc),
        (λ g. let h : turn.Spin ≡ turn.Late = sym e ∙ g in cc),
        more,
      ))).purpose
      (all s.thread)
  by_turn turn.Ok e more may does = same_call (w.calls s.thread) (v.calls s.thread)
      (goes_on w v s o turned s.thread
      (λ f. (
        (λ c g. let h : turn.Ok ≡ turn.Begin c = sym e ∙ g in cc),
        (λ g. let h : turn.Ok ≡ turn.Late = sym e ∙ g in cc),
        more,
      ))).purpose
      (all s.thread)
  by_turn turn.Err e more may does = same_call (w.calls s.thread) (v.calls s.thread)
      (goes_on w v s o turned s.thread
      (λ f. (
        (λ c g. let h : turn.Err ≡ turn.Begin c = sym e ∙ g in cc),
        (λ g. let h : turn.Err ≡ turn.Late = sym e ∙ g in cc),
        more,
      ))).purpose
      (all s.thread)

  own : ReleasesFairly (v.calls s.thread).purpose l
  own = elim (is_end o) [
    | inl ended ↦ subst (λ (c : CallState). ReleasesFairly c.purpose l)
        (sym (ends w v s o turned ended.0 ended.1)) tt
    | inr more ↦ elim turned [
      | inl does ↦ by_turn s.turn refl more does.0 does.1
      | inr refused ↦ subst (λ (k : LocksState). ReleasesFairly (k.calls s.thread).purpose l)
          (sym refused.1.1) (all s.thread)
    ]
  ]

  pub fair_stays : AllReleaseFairly v l
  fair_stays u = elim (cases_eq u s.thread) [
    | inl e ↦ subst (λ k. ReleasesFairly (v.calls k).purpose l) (sym e) own
    | inr ne ↦ same_call (w.calls u) (v.calls u) (goes_on w v s o turned u (λ e. absurd (ne e))).purpose
        (all u)
  ]
