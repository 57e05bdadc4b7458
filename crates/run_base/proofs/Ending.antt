-- The end of a call.
use Rattle.std.proofs.Common.{ℕ, ◌≡◌, ◌≢◌, Bool, true, false, List, Option, None, Some, inl, inr, refl}
use Rattle.std.proofs.Common.{ap, subst}
use Rattle.spec_locks.specs.declared.outcomes.Answer.{Answer}
use Rattle.spec_locks.specs.declared.outcomes.Answer.TheVariants.{Ok, Yes, No}
use Rattle.spec_locks.specs.declared.outcomes.OnceState.{OnceState}
use Rattle.spec_locks.specs.declared.calls.OnceCall.TheVariants.{CallOnce, WaitTimed}
use Rattle.lot_steps.specs.Steps.{act_of}
use Rattle.lot_steps.specs.declared.places.Place.{Place}
use Rattle.lot_steps.specs.declared.places.Place.TheVariants.{Idle, Mutex, RwLock, Once, Condvar, Semaphore}
use Rattle.steps_mutex.specs.MutexSteps.{mutex_act, decided}
use Rattle.steps_mutex.specs.declared.places.MutexPlace.{MutexPlace}
use Rattle.steps_mutex.specs.declared.places.MutexPlace.TheVariants as at_mutex_place
use Rattle.steps_mutex.specs.declared.hand_off.HandOffAt.TheVariants as hand_off
use Rattle.steps_mutex.specs.declared.lock.LockAt.TheVariants as lock
use Rattle.steps_mutex.specs.declared.unlock.UnlockAt.TheVariants as unlock
use Rattle.steps_condvar.specs.declared.places.CondvarPlace.{CondvarPlace}
use Rattle.steps_condvar.specs.declared.places.CondvarPlace.TheVariants as waiting
use Rattle.steps_once.specs.declared.places.OncePlace.{OncePlace}
use Rattle.steps_once.specs.declared.places.OncePlace.TheVariants.{Look, Run, GiveUp}
use Rattle.steps_once.specs.declared.run.RunAt.TheVariants as run
use Rattle.core_words.proofs.MutexSteps.{each_code}
use Rattle.steps_base.specs.declared.acts.Act.{Act}
use Rattle.steps_base.specs.declared.acts.Act.TheVariants as act
use Rattle.core_words.specs.declared.owners.Ownership.{Ownership}
use Rattle.core_words.specs.declared.words.Word.{Word}
use Rattle.core_words.specs.declared.words.WordKind.{WordKind}
use Rattle.core_words.specs.declared.words.WordKind.TheVariants as kinds
use Rattle.parking_lot_core.specs.declared.tokens.SectionRecord.{SectionRecord}
use Rattle.steps_rwlock.specs.declared.places.Admission.{Admission}
use Rattle.steps_rwlock.specs.declared.purposes.RwLockPurpose.{RwLockPurpose}
use Rattle.steps_rwlock.specs.declared.purposes.RwLockPurpose.TheVariants as purposes
use Rattle.run_base.specs.RwLockFitting.{Answers}
use Rattle.run_base.proofs.RwLockLeading.{rwlock_no_closure}
use Rattle.core_words.specs.declared.views.WordStep.{WordStep}
use Rattle.run_base.specs.Fitting.{CallPurpose, without_purpose, of_fair, of_mutex, of_notify, of_once}
use Rattle.run_base.specs.Fitting.{of_run, of_rwlock, of_semaphore, of_wait, AreWordsFor, call_purpose}
use Rattle.run_base.specs.Fitting.{answer_of, Fits, IsOver, IsStopped}
use Rattle.run_base.specs.CondvarFitting.{IsWaitOver}
use Rattle.run_base.specs.MutexFitting.{MutexPurpose, to_enter, to_release, to_hand_over, FitsMutex}
use Rattle.run_base.specs.MutexFitting.{IsMutexOver}
use Rattle.run_base.specs.Paths.{closure_of}
use Rattle.run_base.specs.SemaphoreFitting as semaphore
use Rattle.run_base.proofs.SemaphoreLeading.{semaphore_no_closure}
use Rattle.run_base.specs.Words.{single_word, at_in, kind_in}
use Rattle.run_base.specs.Stages.{SectionView, ThreadState, ActNeeds, stage}
use Rattle.run_base.specs.declared.driver.Stop.TheVariants.{Paused}

pub end_of : (a : Act) (answer : Answer) → answer_of a ≡ Some answer → a ≡ act.End answer
end_of (act.End x) answer e = cc
end_of a answer e = absurd cc

-- tells what a closure needs
closure_act : (a : Act) (state : OnceState) → closure_of a ≡ Some state → a ≡ act.Closure state
closure_act (act.Closure s) state e = cc
closure_act a state e = absurd cc

-- a thread that comes to a closure is outside all sections, and stops there
pub closes_outside : (kinds : ℕ → WordKind) (at : ℕ → ℕ) (st : ThreadState) (a : Act) (state : OnceState)
    → closure_of a ≡ Some state → ActNeeds kinds at st a → st.inside ≡ None
closes_outside kinds at st a state e needs = subst (ActNeeds kinds at st) (closure_act a state e) needs

pub closed : (up : Type 0) (base owns : List Ownership) (aim : CallPurpose) (p : Place) (state : OnceState)
    (inside : Option SectionView) (last : Option SectionRecord) (steps : List WordStep)
    → closure_of (act_of p) ≡ Some state → inside ≡ None → Fits up base p (stage owns inside last steps)
    → call_purpose p ≡ aim → IsStopped up base aim (Paused p state) (stage owns None last steps)
closed up base owns aim p state inside last steps e none fits same = (
  subst (λ (i : Option SectionView). Fits up base p (stage owns i last steps)) none fits,
  same,
  closure_act (act_of p) state e,
)

module _ (up : Type 0) (base owns : List Ownership) where
  mutex_ended : (n : ℕ) (purpose : MutexPurpose) (answer : Answer) (inside : Option SectionView)
      (last : Option SectionRecord) (steps : List WordStep) → IsMutexOver up n base purpose answer
      (stage owns inside last steps) → IsMutexOver up n base purpose answer (stage owns None last steps)
  mutex_ended n (to_enter e) answer inside last steps (inl h) = inl (h.0, (h.1.0, refl))
  mutex_ended n (to_enter e) answer inside last steps (inr h) = inr (h.0, h.1, (h.2.0, refl), h.3)
  mutex_ended n to_release answer inside last steps h = (h.0, (h.1.0, refl), h.2)
  mutex_ended n to_hand_over answer inside last steps h = (h.0, (h.1.0, refl), h.2)

  mutex_outside : (n : ℕ) (purpose : MutexPurpose) (answer : Answer) (inside : Option SectionView)
      (last : Option SectionRecord) (steps : List WordStep) → IsMutexOver up n base purpose answer
      (stage owns inside last steps) → inside ≡ None
  mutex_outside n (to_enter e) answer inside last steps (inl h) = h.1.1
  mutex_outside n (to_enter e) answer inside last steps (inr h) = h.2.1
  mutex_outside n to_release answer inside last steps h = h.1.1
  mutex_outside n to_hand_over answer inside last steps h = h.1.1

  rwlock_ended : (l : ℕ) (a : Admission) (purpose : RwLockPurpose) (answer : Answer)
      (inside : Option SectionView) (last : Option SectionRecord) (steps : List WordStep)
      → Answers up l base a purpose answer (stage owns inside last steps) → Answers up l base a purpose answer
      (stage owns None last steps)
  rwlock_ended l a (purposes.Enter x how) answer inside last steps h = h
  rwlock_ended l a (purposes.Release x) answer inside last steps h = h
  rwlock_ended l a (purposes.Downgrade d) answer inside last steps h = h
  rwlock_ended l a (purposes.Upgrade how) answer inside last steps h = h

  wait_ended : (m : ℕ) (timed : Bool) (answer : Answer) (inside : Option SectionView)
      (last : Option SectionRecord) (steps : List WordStep) → IsWaitOver up m timed base answer
      (stage owns inside last steps) → IsWaitOver up m timed base answer (stage owns None last steps)
  wait_ended m timed answer inside last steps (inl h) = inl (h.0, h.1, (h.2.0, refl))
  wait_ended m timed answer inside last steps (inr h) = inr (h.0, h.1, h.2, (h.3.0, refl))

  wait_outside : (m : ℕ) (timed : Bool) (answer : Answer) (inside : Option SectionView)
      (last : Option SectionRecord) (steps : List WordStep) → IsWaitOver up m timed base answer
      (stage owns inside last steps) → inside ≡ None
  wait_outside m timed answer inside last steps (inl h) = h.2.1
  wait_outside m timed answer inside last steps (inr h) = h.3.1

  acquire_ended : (l : ℕ) (timed : Bool) (answer : Answer) (inside : Option SectionView)
      (last : Option SectionRecord) (steps : List WordStep) → semaphore.AcquireAnswer up l timed base answer
      (stage owns inside last steps) → semaphore.AcquireAnswer up l timed base answer
      (stage owns None last steps) × (inside ≡ None)
  acquire_ended l timed Ok inside last steps h = ((h.0, (h.1.0, refl)), h.1.1)
  acquire_ended l timed Yes inside last steps h = ((h.0, (h.1.0, refl)), h.1.1)
  acquire_ended l timed No inside last steps h = ((h.0, (h.1.0, refl), h.2), h.1.1)
  acquire_ended l timed answer inside last steps h = absurd h

  try_ended : (l : ℕ) (answer : Answer) (inside : Option SectionView) (last : Option SectionRecord)
      (steps : List WordStep) → semaphore.TryAnswer l base answer (stage owns inside last steps)
      → semaphore.TryAnswer l base answer (stage owns None last steps) × (inside ≡ None)
  try_ended l Yes inside last steps h = ((h.0, refl), h.1)
  try_ended l No inside last steps h = (((h.0.0, refl), h.1), h.0.1)
  try_ended l answer inside last steps h = absurd h

  semaphore_ended : (l : ℕ) (purpose : semaphore.SemaphorePurpose) (answer : Answer)
      (inside : Option SectionView) (last : Option SectionRecord) (steps : List WordStep)
      → semaphore.IsSemaphoreOver up l base purpose answer (stage owns inside last steps)
      → semaphore.IsSemaphoreOver up l base purpose answer (stage owns None last steps) × (inside ≡ None)
  semaphore_ended l (semaphore.to_acquire timed) answer inside last steps h =
      acquire_ended l timed answer inside last steps h
  semaphore_ended l semaphore.to_try answer inside last steps h = try_ended l answer inside last steps h
  semaphore_ended l semaphore.to_release answer inside last steps h = ((h.0, (h.1.0, refl), h.2), h.1.1)

  -- where a call ended, its thread is outside all sections
  pub ended : (aim : CallPurpose) (answer : Answer) (inside : Option SectionView)
      (last : Option SectionRecord) (steps : List WordStep)
      → IsOver up base aim answer (stage owns inside last steps) → IsOver up base aim answer
      (stage owns None last steps)
  ended without_purpose answer inside last steps h = absurd h
  ended (of_mutex n purpose) answer inside last steps h = mutex_ended n purpose answer inside last steps h
  ended (of_rwlock l a purpose) answer inside last steps h =
      (refl, rwlock_ended l a purpose answer inside last steps h.1)
  ended (of_fair l a x) answer inside last steps h = (refl, h.1, h.2, h.3)
  ended (of_once l c) answer inside last steps h = (refl, h.1)
  ended (of_run l succeeded) answer inside last steps h = (refl, h.1, h.2, h.3)
  ended (of_wait l m timed) answer inside last steps h = wait_ended m timed answer inside last steps h
  ended (of_notify l m all) answer inside last steps h = ((h.0.0, refl), h.1)
  ended (of_semaphore l purpose) answer inside last steps h =
      (semaphore_ended l purpose answer inside last steps h).0

  pub outside : (aim : CallPurpose) (answer : Answer) (inside : Option SectionView)
      (last : Option SectionRecord) (steps : List WordStep)
      → IsOver up base aim answer (stage owns inside last steps) → inside ≡ None
  outside without_purpose answer inside last steps h = absurd h
  outside (of_mutex n purpose) answer inside last steps h = mutex_outside n purpose answer inside last steps h
  outside (of_rwlock l a purpose) answer inside last steps h = h.0
  outside (of_fair l a x) answer inside last steps h = h.0
  outside (of_once l c) answer inside last steps h = h.0
  outside (of_run l succeeded) answer inside last steps h = h.0
  outside (of_wait l m timed) answer inside last steps h = wait_outside m timed answer inside last steps h
  outside (of_notify l m all) answer inside last steps h = h.0.1
  outside (of_semaphore l purpose) answer inside last steps h =
      (semaphore_ended l purpose answer inside last steps h).1

-- no call of a mutex runs a closure
pub no_closure : (n : ℕ) (state : OnceState) (up : Type 0) (base : List Ownership) (at : MutexPlace)
    (st : ThreadState) → FitsMutex up n base at st → mutex_act n at ≡ act.Closure state → ⊥
no_closure n state up base (at_mutex_place.Lock e retries (lock.Decide seen)) st f is =
    each_code (λ s. decided n s ≡ act.Closure state → ⊥) (λ is. cc) (λ is. cc) (λ is. cc)
    (λ is. cc) seen f.0 is
no_closure n state up base (at_mutex_place.Unlock unlock.Take) st f is = cc
no_closure n state up base (at_mutex_place.HandOff bumps (hand_off.Store true none_left)) st f
    is = cc
no_closure n state up base (at_mutex_place.HandOff bumps (hand_off.Store false none_left)) st f
    is = cc
no_closure n state up base at st f is = cc

-- a call that runs its closure is of a `Once`
once_runs : (l n : ℕ) (purpose : MutexPurpose) (at : OncePlace) → call_purpose (Once l at) ≡ of_mutex n
    purpose → ⊥
once_runs l n purpose (Look c retries at) e = let aim : of_once l c ≡ of_mutex n purpose = e in cc
once_runs l n purpose (Run forced (run.Closure poisoned)) e = let aim : of_once l (CallOnce forced)
    ≡ of_mutex n purpose = e in cc
once_runs l n purpose (Run forced (run.Close succeeded)) e = let aim : of_run l succeeded ≡ of_mutex n
    purpose = e in cc
once_runs l n purpose (Run forced (run.Enter succeeded)) e = let aim : of_run l succeeded ≡ of_mutex n
    purpose = e in cc
once_runs l n purpose (Run forced (run.Take succeeded)) e = let aim : of_run l succeeded ≡ of_mutex n
    purpose = e in cc
once_runs l n purpose (Run forced (run.Leave succeeded any)) e = let aim : of_run l succeeded
    ≡ of_mutex n purpose = e in cc
once_runs l n purpose (GiveUp retries at) e = let aim : of_once l WaitTimed ≡ of_mutex n purpose = e in cc

-- A condition variable's call rests nowhere else.
condvar_pauses : (l n : ℕ) (purpose : MutexPurpose) (at : CondvarPlace) → call_purpose (Condvar l at)
    ≡ of_mutex n purpose → ⊥
condvar_pauses l n purpose (waiting.Wait m timed at) e = let aim : of_wait l m timed ≡ of_mutex n purpose = e
    in cc
condvar_pauses l n purpose (waiting.Look all) e = let aim : without_purpose ≡ of_mutex n purpose = e in cc
condvar_pauses l n purpose (waiting.Notify all m at) e = let aim : of_notify l m all ≡ of_mutex n purpose = e
    in cc

pub never_paused : (up : Type 0) (base : List Ownership) (n : ℕ) (purpose : MutexPurpose) (p : Place)
    (state : OnceState) (st : ThreadState) → IsStopped up base (of_mutex n purpose) (Paused p state) st → ⊥
never_paused up base n purpose Idle state st s = s.0
never_paused up base n purpose (Condvar l at) state st s = condvar_pauses l n purpose at s.1
never_paused up base n purpose (RwLock l a at) state st s = rwlock_no_closure up l a base at st state s.0 s.2
never_paused up base n purpose (Once l at) state st s = once_runs l n purpose at s.1
never_paused up base n purpose (Mutex l at) state st s = no_closure l state up base at st s.0 s.2
never_paused up base n purpose (Semaphore l at) state st s = semaphore_no_closure l state at s.2

-- no call comes to a closure that steps on a word of another kind than a `Once`'s or a condition
-- variable's
pub never_closes : (up : Type 0) (base : List Ownership) (aim : CallPurpose) (p : Place) (state : OnceState)
    (st : ThreadState) (word : Word) → word.kind ≢ kinds.Once
    → word.kind ≢ kinds.Condvar
    → AreWordsFor p (kind_in (single_word word)) (at_in (single_word word))
    → IsStopped up base aim (Paused p state) st → ⊥
never_closes up base aim Idle state st word no_once no_condvar words s = s.0
never_closes up base aim (Condvar l (waiting.Wait m timed at)) state st word no_once no_condvar words s =
    no_condvar words.1.1
never_closes up base aim (Condvar l (waiting.Look all)) state st word no_once no_condvar words s = s.0
never_closes up base aim (Condvar l (waiting.Notify all m at)) state st word no_once no_condvar words s =
    no_condvar words.1.1
never_closes up base aim (RwLock l a at) state st word no_once no_condvar words s =
    rwlock_no_closure up l a base at st state s.0 s.2
never_closes up base aim (Mutex l at) state st word no_once no_condvar words s =
    no_closure l state up base at st s.0 s.2
never_closes up base aim (Semaphore l at) state st word no_once no_condvar words s =
    semaphore_no_closure l state at s.2
never_closes up base aim (Once l at) state st word no_once no_condvar words s =
    no_once (ap (λ (g : ℕ → WordKind). g 0) words.1)
