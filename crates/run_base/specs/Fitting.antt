-- The holdings of a thread in its call, at each place and at its end. Each sort of lock has a file
-- of its own for them.
use Rattle.std.specs.Prelude.{ℕ, ◌≡◌, ◌≢◌, List, Option, Some, None, true, false, unwrap_or, Bool}
use Rattle.steps_rwlock_fair.specs.FairProfiles.{call_wants}
use Rattle.core_base.specs.declared.wants.Want.TheVariants.{Exclusive}
use Rattle.spec_locks.specs.declared.outcomes.Answer.{Answer}
use Rattle.lot_steps.specs.Steps.{act_of, next_place, next_act, respins_from, HasKeys}
use Rattle.steps_base.specs.declared.acts.Act.{Act}
use Rattle.steps_base.specs.declared.acts.Act.TheVariants as act
use Rattle.steps_base.specs.declared.acts.Reply.{Reply}
use Rattle.lot_steps.specs.declared.places.Place.{Place}
use Rattle.lot_steps.specs.declared.places.Place.TheVariants.{Idle, Mutex, RwLock, Once, Condvar, Semaphore}
use Rattle.core_words.specs.declared.owners.Ownership.{Ownership}
use Rattle.core_words.specs.declared.words.WordKind.{WordKind}
use Rattle.steps_rwlock.specs.declared.places.Admission.{Admission}
use Rattle.steps_rwlock.specs.declared.purposes.RwLockPurpose.{RwLockPurpose}
use Rattle.steps_rwlock.specs.declared.purposes.RwLockPurpose.TheVariants as purpose
use Rattle.steps_rwlock_fair.specs.declared.places.RwLockCallPlace.{RwLockCallPlace}
use Rattle.steps_rwlock_fair.specs.declared.places.RwLockCallPlace.TheVariants as places
use Rattle.spec_locks.specs.declared.calls.Access.{Access}
use Rattle.spec_locks.specs.declared.calls.OnceCall.{OnceCall}
use Rattle.spec_locks.specs.declared.calls.OnceCall.TheVariants.{CallOnce, WaitTimed}
use Rattle.steps_once.specs.OnceProfiles.{once_wants}
use Rattle.steps_once.specs.declared.places.OncePlace.{OncePlace}
use Rattle.steps_once.specs.declared.places.OncePlace.TheVariants.{Look, Run, GiveUp}
use Rattle.steps_once.specs.declared.run.RunAt.{RunAt}
use Rattle.steps_once.specs.declared.run.RunAt.TheVariants as run
use Rattle.steps_semaphore.specs.SemaphoreProfiles.{semaphore_wants}
use Rattle.steps_condvar.specs.CondvarSteps.{mutex_beside}
use Rattle.steps_condvar.specs.declared.places.CondvarPlace.{CondvarPlace}
use Rattle.steps_condvar.specs.declared.places.CondvarPlace.TheVariants as condvars
use Rattle.core_words.specs.declared.words.WordKind.TheVariants as kind
use Rattle.run_base.specs.Sleepers.{condvar_sleeper, late_key_at}
use Rattle.run_base.specs.CondvarFitting.{FitsCondvarCall, IsNotifyOver, IsWaitOver}
use Rattle.spec_locks.specs.declared.calls.Patience.TheVariants.{Patient}
use Rattle.run_base.specs.MutexFitting.{MutexPurpose, mutex_purpose_at, FitsMutex, IsMutexOver}
use Rattle.run_base.specs.RwLockFitting.{FitsCall, IsFairlyOver, IsRwLockOver, may_be_handed}
use Rattle.run_base.specs.RwLockFitting.{rwlock_purpose_in}
use Rattle.run_base.specs.OnceFitting.{FitsOnce, IsLookOver, IsRunOver}
use Rattle.run_base.specs.SemaphoreFitting.{FitsSemaphore, IsSemaphoreOver}
use Rattle.run_base.specs.SemaphoreFitting as semaphore
use Rattle.run_base.specs.Paths.{mutexes, at_mutex, rwlocks, at_rwlock, onces, at_once, semaphores}
use Rattle.run_base.specs.Paths.{at_semaphore, condvar_at, mutex_at}
use Rattle.run_base.specs.Stages.{ThreadState, ActNeeds, Became}
use Rattle.run_base.specs.declared.sleepers.Sleeper.{Sleeper}
use Rattle.run_base.specs.declared.driver.Stop.{Stop}
use Rattle.run_base.specs.declared.driver.Stop.TheVariants.{Ended, Paused}

abbrev pub answer_of : Act → Option Answer
answer_of (act.End answer) = Some answer
answer_of _ = None

-- the goal of a call, and its lock
pub data CallPurpose : Type 0 where
  without_purpose : CallPurpose
  of_mutex : ℕ → MutexPurpose → CallPurpose
  of_rwlock : ℕ → Admission → RwLockPurpose → CallPurpose
  of_fair : ℕ → Admission → Access → CallPurpose
  of_once : ℕ → OnceCall → CallPurpose
  -- to end a run, by whether it succeeded
  of_run : ℕ → Bool → CallPurpose
  -- to wait, with this mutex, up to a deadline or without one
  of_wait : ℕ → ℕ → Bool → CallPurpose
  -- to notify the first or all that wait with this mutex
  of_notify : ℕ → ℕ → Bool → CallPurpose
  of_semaphore : ℕ → semaphore.SemaphorePurpose → CallPurpose

-- a thread that hands the lock over releases it fairly, or bumps
abbrev pub handing_aim : ℕ → Admission → Access → Bool → CallPurpose
handing_aim l a x true = of_rwlock l a (purpose.Enter x Patient)
handing_aim l a x false = of_fair l a x

abbrev pub call_aim : ℕ → Admission → RwLockCallPlace → CallPurpose
call_aim l a (places.HandOver x b to) = handing_aim l a x b
call_aim l a c = of_rwlock l a (rwlock_purpose_in c)

-- a thread that begins a run goes on to its closure, and then ends the run
abbrev pub run_aim : ℕ → Bool → RunAt → CallPurpose
run_aim l forced (run.Closure poisoned) = of_once l (CallOnce forced)
run_aim l forced (run.Close succeeded) = of_run l succeeded
run_aim l forced (run.Enter succeeded) = of_run l succeeded
run_aim l forced (run.Take succeeded) = of_run l succeeded
run_aim l forced (run.Leave succeeded any) = of_run l succeeded

abbrev pub once_aim : ℕ → OncePlace → CallPurpose
once_aim l (Look c retries at) = of_once l c
once_aim l (Run forced at) = run_aim l forced at
once_aim l (GiveUp retries at) = of_once l WaitTimed

abbrev pub condvar_aim : ℕ → CondvarPlace → CallPurpose
condvar_aim l (condvars.Wait m timed at) = of_wait l m timed
condvar_aim l (condvars.Look all) = without_purpose
condvar_aim l (condvars.Notify all m at) = of_notify l m all

abbrev pub call_purpose : Place → CallPurpose
call_purpose Idle = without_purpose
call_purpose (Mutex l at) = of_mutex l (mutex_purpose_at at)
call_purpose (RwLock l a c) = call_aim l a c
call_purpose (Once l at) = once_aim l at
call_purpose (Condvar l at) = condvar_aim l at
call_purpose (Semaphore l at) = of_semaphore l (semaphore.semaphore_purpose_at at)

-- for what a thread sleeps in a call, the keys under which it may be late, and whether it goes on
-- where it is handed the lock. Nobody is moved from the queue of a lock
abbrev pub sleeper_at : Place → Sleeper
sleeper_at Idle = record
    { lock = 0; want = Exclusive; late = late_key_at Idle; moved = None; takes_over = false }
sleeper_at (Mutex l at) =
    record {
      lock = l;
      want = Exclusive;
      late = late_key_at (Mutex l at);
      moved = None;
      takes_over = true;
    }
sleeper_at (RwLock l a c) =
    record {
      lock = l;
      want = unwrap_or (call_wants c) Exclusive;
      late = late_key_at (RwLock l a c);
      moved = None;
      takes_over = may_be_handed c;
    }
sleeper_at (Once l at) =
    record {
      lock = l;
      want = unwrap_or (once_wants at) Exclusive;
      late = late_key_at (Once l at);
      moved = None;
      takes_over = false;
    }
sleeper_at (Condvar l at) = condvar_sleeper l at
sleeper_at (Semaphore l at) =
    record {
      lock = l;
      want = unwrap_or (semaphore_wants at) Exclusive;
      late = late_key_at (Semaphore l at);
      moved = None;
      takes_over = false;
    }

-- the word of a condition variable, and that of the mutex beside it
abbrev pub AreWordsBeside : ℕ → Option ℕ → (ℕ → WordKind) → (ℕ → ℕ) → Type 0
AreWordsBeside l None kinds at = ⊥
AreWordsBeside l (Some m) kinds at = (l ≢ m) × (kinds l ≡ kind.Condvar) × (at l ≡ condvar_at l)
    × (kinds m ≡ kind.Mutex) × (at m ≡ mutex_at m)

-- the keys of the call's lock are numbers, and its words are of the kinds that the call steps on
abbrev pub AreWordsFor : Place → (ℕ → WordKind) → (ℕ → ℕ) → Type 0
AreWordsFor Idle kinds at = Unit {0}
AreWordsFor (Mutex l place) kinds at =
    HasKeys (Mutex l place) × (kinds ≡ mutexes) × (at ≡ at_mutex l)
AreWordsFor (RwLock l a place) kinds at =
    HasKeys (RwLock l a place) × (kinds ≡ rwlocks) × (at ≡ at_rwlock l)
AreWordsFor (Once l place) kinds at = HasKeys (Once l place) × (kinds ≡ onces) × (at ≡ at_once l)
AreWordsFor (Condvar l place) kinds at =
    HasKeys (Condvar l place) × AreWordsBeside l (mutex_beside place) kinds at
AreWordsFor (Semaphore l place) kinds at = HasKeys (Semaphore l place)
    × ((permits : ℕ) × (kinds ≡ semaphores permits)) × (at ≡ at_semaphore l)

-- After its closure a call is about the words that it was about.
abbrev pub AreWordsAfter : Stop → (ℕ → WordKind) → (ℕ → ℕ) → Type 0
AreWordsAfter (Ended answer) kinds at = Unit {0}
AreWordsAfter (Paused place state) kinds at = AreWordsFor place kinds at

-- `up` says that the time of the call is up
module _ (up : Type 0) where
  -- the stage of a thread at a place, which owned so much as it began to run, or beside what a reader-writer
  -- place claims
  abbrev pub Fits : List Ownership → Place → ThreadState → Type 0
  Fits base Idle st = ⊥
  Fits base (Mutex l at) st = FitsMutex up l base at st
  Fits base (RwLock l a c) st = FitsCall up l base a c st
  Fits base (Once l at) st = FitsOnce up l base at st
  Fits base (Condvar l at) st = FitsCondvarCall up l base at st
  Fits base (Semaphore l at) st = FitsSemaphore up l base at st

  -- the answer at the end of a call is true
  abbrev pub IsOver : List Ownership → CallPurpose → Answer → ThreadState → Type 0
  IsOver base without_purpose answer st = ⊥
  IsOver base (of_mutex l purpose) answer st = IsMutexOver up l base purpose answer st
  IsOver base (of_rwlock l a purpose) answer st = IsRwLockOver up l base a purpose answer st
  IsOver base (of_fair l a x) answer st = IsFairlyOver l base a x answer st
  IsOver base (of_once l c) answer st = IsLookOver up l c base answer st
  IsOver base (of_run l succeeded) answer st = IsRunOver l succeeded base answer st
  IsOver base (of_wait l m timed) answer st = IsWaitOver up m timed base answer st
  IsOver base (of_notify l m all) answer st = IsNotifyOver l m all base answer st
  IsOver base (of_semaphore l purpose) answer st = IsSemaphoreOver up l base purpose answer st

  -- the end of a run: the end of its call, or a closure, which is outside all sections
  abbrev pub IsStopped : List Ownership → CallPurpose → Stop → ThreadState → Type 0
  IsStopped base aim (Ended answer) st = IsOver base aim answer st
  IsStopped base aim (Paused place state) st = Fits base place st
      × (call_purpose place ≡ aim) × (act_of place ≡ act.Closure state)

  abbrev pub ReachedBy : List Ownership → CallPurpose → Place → Option Answer → ThreadState → Type 0
  ReachedBy base aim p None st = Fits base p st × (call_purpose p ≡ aim)
  ReachedBy base aim p (Some answer) st = IsOver base aim answer st

  -- where a reply leads
  abbrev pub Reached : List Ownership → Place → Reply → ThreadState → Type 0
  Reached base p reply st =
      ReachedBy base (call_purpose p) (next_place p reply) (answer_of (next_act p reply)) st

  -- from where it looks at the word once more, it goes on too
  abbrev pub LooksLeadOn : List Ownership → Place → ThreadState → Type 0
  LooksLeadOn base p st =
      (q : Place) → respins_from p ≡ Some q → Fits base q st × (call_purpose q ≡ call_purpose p)

  -- each place's act is one that the thread may take, and each reply leads to a place that fits
  abbrev pub PlacesLead : Type 0
  PlacesLead = (kinds : ℕ → WordKind) (at : ℕ → ℕ) (base : List Ownership) (p : Place) (st : ThreadState)
      → AreWordsFor p kinds at → Fits base p st →
      ActNeeds kinds at st (act_of p)
      × LooksLeadOn base p st
      × ((reply : Reply) (new : ThreadState) → Became up kinds at (sleeper_at p) st (act_of p) reply new
      → Reached base p reply new)
