-- A call that only tries enters no section, so a thread that is inside one doesn't bar it.
use Rattle.lot_laws.proofs.Imports
use Imports.{ℕ, zero, suc, Bool, true, false, Some, None, ◌≢◌, ◌⊎◌, inl, inr, if◌then◌else◌, ◌≡◌, refl, sym}
use Imports.{◌∙◌, ap, subst, Call, CondvarCall, MutexCall, OnceCall, Try, RwLockCall, SemaphoreCall, Kind}
use Imports.{Outcome, lock_in, Act, Place, Idle, Mutex, RwLock, Once, Condvar, Semaphore, act_of, first_place}
use Imports.{mutex_purpose, purpose_of, rwlock_purpose, Rights, CallState, Event, GoesOn, IsStep, LocksState}
use Imports.{going_on, purpose_at, rights_in, unless_ended, woken, State, after, alone_after, go_of, kind_at}
use Imports.{place_at, solo, step_outcome, IsTry, call_state, keys_entered, locks_of, IsWorld, key_of}
use Imports.{EntersSection, HasWhatItReads, IsBarred, OnlyTries}
use Rattle.spec_locks.specs.declared.calls.Access.TheVariants as access
use Rattle.spec_locks.specs.declared.calls.Call.TheVariants as call
use Rattle.spec_locks.specs.declared.calls.CondvarCall.TheVariants as condvar_call
use Rattle.spec_locks.specs.declared.calls.MutexCall.TheVariants as mutex_call
use Rattle.spec_locks.specs.declared.calls.OnceCall.TheVariants as once_call
use Rattle.spec_locks.specs.declared.calls.RwLockCall.TheVariants as rwlock_call
use Rattle.spec_locks.specs.declared.calls.SemaphoreCall.TheVariants as semaphore_call
use Rattle.spec_locks.specs.declared.kinds.Kind.TheVariants as kinds
use Rattle.spec_locks.specs.declared.outcomes.Outcome.TheVariants as outcome
use Rattle.steps_base.specs.declared.acts.Act.TheVariants as act
use Rattle.steps_condvar.specs.declared.places.CondvarPlace.TheVariants as condvar
use Rattle.lot_laws.proofs.machine.Parts.{same}
use Rattle.lot_laws.proofs.calls.TriesPass.{tries_go}
use Rattle.lot_alone.proofs.Answers.{gone}
use Rattle.lot_laws.proofs.calls.Purposes.{purpose_stays, woken_purpose}
use Rattle.lot_laws.proofs.promises.WorldRuns.{world_after, world_step}

-- ---------------------------------------------------------------- a step of it

-- a thread tries, or its call is over
abbrev IsTrying : LocksState → ℕ → Type 0
IsTrying w t = IsTry (w.calls t).purpose ⊎ ((w.calls t).purpose ≡ None)

abbrev then_call : LocksState → ℕ → Event → CallState
then_call w t e = woken w t e t (going_on e (w.calls t))

-- a step later it tries still, or its call is over
still_trying : (w v : LocksState) (t : ℕ) (o : Outcome) → GoesOn w t o v → IsTrying w t → IsTrying v t
still_trying w v t o g (inr none) = absurd (g.called none)
still_trying w v t o g (inl tries) = by_outcome o (g.calls t
    ∙ ap (λ (b : Bool). if b then unless_ended o (then_call w t g.event) else woken w t g.event t (w.calls t))
    (same t))
  where
    goes : v.calls t ≡ then_call w t g.event → IsTrying v t
    goes is = inl (subst IsTry (sym (ap (λ (c : CallState). c.purpose) is ∙ woken_purpose w t g.event
        (going_on g.event (w.calls t)) ∙ purpose_stays g.event (w.calls t))) tries)

    by_outcome : (o : Outcome) → v.calls t ≡ unless_ended o (then_call w t g.event) → IsTrying v t
    by_outcome (outcome.End a) is = inr (ap (λ (c : CallState). c.purpose) is)
    by_outcome o is = goes is

-- ---------------------------------------------------------------- a run of it

module _ (t : ℕ) where
  trying_then : (w : State) (o : Outcome) → step_outcome w (go_of t) ≡ o → o ≢ outcome.NotNow → IsWorld w
      → IsTrying (locks_of w) t
      → IsTrying (locks_of (after w (go_of t))) t
  trying_then w o is possible world h = still_trying (locks_of w) (locks_of (after w (go_of t))) t o
      (gone (locks_of w) (locks_of (after w (go_of t))) t o possible
      (subst (λ x. IsStep (locks_of w) (go_of t) x (locks_of (after w (go_of t)))) is
      (world_step w (go_of t) world).refines)) h

  trying_on : (n : ℕ) (w : State) (last : Outcome) → IsWorld w → IsTrying (locks_of w) t
      → IsWorld (solo n w t last).state × IsTrying (locks_of (solo n w t last).state) t
  unfolding solo
  trying_on zero w last world h = (world, h)
  trying_on (suc n) w last world h = by_outcome (step_outcome w (go_of t)) refl
      (trying_on n (after w (go_of t)) outcome.Step (world_after w (go_of t) world))
    where
      v : State
      v = after w (go_of t)

      by_outcome : (o : Outcome) → step_outcome w (go_of t) ≡ o
          → (IsTrying (locks_of v) t → IsWorld (solo n v t outcome.Step).state
          × IsTrying (locks_of (solo n v t outcome.Step).state) t)
          → IsWorld (alone_after o w v last (solo n v t outcome.Step)).state
          × IsTrying (locks_of (alone_after o w v last (solo n v t outcome.Step)).state) t
      by_outcome outcome.NotNow is on = (world, h)
      by_outcome outcome.Step is on = on (trying_then w outcome.Step is (λ e. cc) world h)
      by_outcome o is on = (world_after w (go_of t) world, trying_then w o is (λ e. cc) world h)

-- a thread whose call is over rests
rests_idle : (p : Place) (rights : ℕ → Rights) (key : ℕ) → (call_state p rights).purpose ≡ None
    → EntersSection key (act_of p) → ⊥
rests_idle Idle rights key none h = h
rests_idle (Mutex l at) rights key none h = cc
rests_idle (RwLock l a c) rights key none h = cc
rests_idle (Once l at) rights key none h = cc
rests_idle (Semaphore l at) rights key none h = cc
rests_idle (Condvar l (condvar.Wait m timed at)) rights key none h = cc
rests_idle (Condvar l (condvar.Look all)) rights key none h = cc
rests_idle (Condvar l (condvar.Notify all m at)) rights key none h = cc

never_enters : (a : Act) (key : ℕ) → keys_entered a ≡ None → EntersSection key a → ⊥
never_enters (act.Enter keys) key none h = cc
never_enters a key none h = h

-- nobody bars it
unbarred : (w : State) (t : ℕ) → IsWorld w → IsTrying (locks_of w) t → IsBarred w t → ⊥
unbarred w t world (inl tries) b = never_enters (act_of (place_at w t)) (key_of b.lock b.line)
    (tries_go w world.inductive t tries).2 b.enters
unbarred w t world (inr none) b = rests_idle (place_at w t) (rights_in (locks_of w) t) (key_of b.lock b.line)
    none b.enters

-- ---------------------------------------------------------------- a call from its beginning

-- the thread begins as one that tries, and reads no queue
abbrev Begins : State → ℕ → Kind → Call → Type 0
Begins w t k c = OnlyTries (purpose_of k c)
    → ((rights : ℕ → Rights) → IsTry (call_state (first_place k c) rights).purpose)
    × HasWhatItReads w t (purpose_of k c)

module _ (w : State) (t l : ℕ) where
  mutex_tries : (k : Kind) (fair : Bool) (c : MutexCall) → OnlyTries (Some (mutex_purpose fair l c))
      → ((rights : ℕ → Rights) → IsTry (call_state (first_place k (call.Mutex l c)) rights).purpose)
      × HasWhatItReads w t (Some (mutex_purpose fair l c))
  mutex_tries k fair mutex_call.TryLock h = ((λ rights. refl), tt)
  mutex_tries k fair mutex_call.Lock h = absurd h
  mutex_tries k fair mutex_call.LockTimed h = absurd h
  mutex_tries k fair mutex_call.Unlock h = absurd h
  mutex_tries k fair mutex_call.UnlockFair h = absurd h
  mutex_tries k fair mutex_call.Bump h = absurd h

  rwlock_tries : (k : Kind) (c : RwLockCall) → OnlyTries (Some (rwlock_purpose l c))
      → ((rights : ℕ → Rights) → IsTry (call_state (first_place k (call.RwLock l c)) rights).purpose)
      × HasWhatItReads w t (Some (rwlock_purpose l c))
  rwlock_tries k (rwlock_call.Enter access.Shared Try) h = ((λ rights. refl), tt)
  rwlock_tries k (rwlock_call.Enter access.Upgradable Try) h = ((λ rights. refl), tt)
  rwlock_tries k (rwlock_call.Enter access.Exclusive Try) h = ((λ rights. refl), tt)
  rwlock_tries k (rwlock_call.Upgrade Try) h = ((λ rights. refl), tt)
  rwlock_tries k (rwlock_call.Enter x how) h = absurd h
  rwlock_tries k (rwlock_call.Upgrade how) h = absurd h
  rwlock_tries k (rwlock_call.Release x) h = absurd h
  rwlock_tries k (rwlock_call.Downgrade d) h = absurd h
  rwlock_tries k (rwlock_call.ReleaseFair x) h = absurd h
  rwlock_tries k (rwlock_call.Bump x) h = absurd h

  of_mutex : (k : Kind) (c : MutexCall) → Begins w t k (call.Mutex l c)
  of_mutex kinds.Mutex c = mutex_tries kinds.Mutex false c
  of_mutex kinds.Fair c = mutex_tries kinds.Fair true c
  of_mutex k c = λ h. absurd h

  of_rwlock : (k : Kind) (c : RwLockCall) → Begins w t k (call.RwLock l c)
  of_rwlock (kinds.RwLock limit) c = rwlock_tries (kinds.RwLock limit) c
  of_rwlock (kinds.Recursive limit) c = rwlock_tries (kinds.Recursive limit) c
  of_rwlock k c = λ h. absurd h

  of_once : (k : Kind) (c : OnceCall) → Begins w t k (call.Once l c)
  of_once kinds.Once (once_call.CallOnce forced) = λ h. absurd h
  of_once kinds.Once (once_call.Wait forced) = λ h. absurd h
  of_once kinds.Once once_call.WaitTimed = λ h. absurd h
  of_once k c = λ h. absurd h

  of_condvar : (k : Kind) (c : CondvarCall) → Begins w t k (call.Condvar l c)
  of_condvar kinds.Condvar (condvar_call.Wait m timed) = λ h. absurd h
  of_condvar kinds.Condvar (condvar_call.Notify all) = λ h. absurd h
  of_condvar k c = λ h. absurd h

  of_semaphore : (k : Kind) (c : SemaphoreCall) → Begins w t k (call.Semaphore l c)
  of_semaphore (kinds.Semaphore permits) (semaphore_call.Acquire Try) = λ h. ((λ rights. refl), tt)
  of_semaphore (kinds.Semaphore permits) (semaphore_call.Acquire how) = λ h. absurd h
  of_semaphore (kinds.Semaphore permits) semaphore_call.Release = λ h. absurd h
  of_semaphore k c = λ h. absurd h

begins_trying : (w : State) (t : ℕ) (c : Call) → Begins w t (kind_at w (lock_in c)) c
begins_trying w t (call.Mutex l c) = of_mutex w t l (kind_at w l) c
begins_trying w t (call.RwLock l c) = of_rwlock w t l (kind_at w l) c
begins_trying w t (call.Once l c) = of_once w t l (kind_at w l) c
begins_trying w t (call.Condvar l c) = of_condvar w t l (kind_at w l) c
begins_trying w t (call.Semaphore l c) = of_semaphore w t l (kind_at w l) c

-- the thread reads no queue, and nobody bars its run
pub tries_freely : (w : State) (t : ℕ) (c : Call) → IsWorld w → place_at w t
    ≡ first_place (kind_at w (lock_in c)) c
    → OnlyTries (purpose_at (locks_of w) c) → (n : ℕ) (last : Outcome)
    → HasWhatItReads w t (purpose_at (locks_of w) c) × (IsBarred (solo n w t last).state t → ⊥)
tries_freely w t c world is only n last =
    let h = begins_trying w t c only in
    let on = trying_on t n w last world
    (inl (subst (λ p. IsTry (call_state p (rights_in (locks_of w) t)).purpose) (sym is)
    (h.0 (rights_in (locks_of w) t)))) in
    (h.1, unbarred (solo n w t last).state t on.0 on.1)
