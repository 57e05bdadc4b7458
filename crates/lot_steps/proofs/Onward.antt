-- The act of a step that ends no call is the one of the next place.
use Rattle.std.proofs.Common.{◌≡◌, ◌≢◌, refl}
use Rattle.spec_locks.specs.declared.outcomes.Answer.{Answer}
use Rattle.steps_base.specs.declared.acts.Act.TheVariants as act
use Rattle.steps_base.specs.declared.acts.Next.{Next}
use Rattle.steps_base.specs.declared.acts.Next.TheVariants.{At, End}
use Rattle.steps_base.specs.declared.acts.Reply.{Reply}
use Rattle.lot_steps.specs.declared.places.Place.{Place}
use Rattle.lot_steps.specs.declared.places.Place.TheVariants.{Idle, Mutex, RwLock, Once, Condvar, Semaphore}
use Rattle.lot_steps.specs.Steps.{act_of, next_place, next_act, mutex_goes, mutex_does, rwlock_goes}
use Rattle.lot_steps.specs.Steps.{rwlock_does, once_goes, once_does, condvar_goes, condvar_does}
use Rattle.lot_steps.specs.Steps.{semaphore_goes, semaphore_does}
use Rattle.steps_condvar.specs.CondvarSteps.{condvar_next}
use Rattle.steps_condvar.specs.declared.places.CondvarPlace.{CondvarPlace}
use Rattle.steps_mutex.specs.MutexSteps.{mutex_next}
use Rattle.steps_mutex.specs.declared.places.MutexPlace.{MutexPlace}
use Rattle.steps_once.specs.OnceSteps.{once_next}
use Rattle.steps_once.specs.declared.places.OncePlace.{OncePlace}
use Rattle.steps_semaphore.specs.SemaphoreSteps.{semaphore_next}
use Rattle.steps_semaphore.specs.declared.places.SemaphorePlace.{SemaphorePlace}
use Rattle.steps_rwlock_fair.specs.FairSteps.{call_next}
use Rattle.steps_rwlock_fair.specs.declared.places.RwLockCallPlace.{RwLockCallPlace}
use Rattle.steps_semaphore.specs.SemaphoreSteps.{semaphore_next}
use Rattle.steps_semaphore.specs.declared.places.SemaphorePlace.{SemaphorePlace}

-- a step that ends no call does what its place says
pub does : (p : Place) (r : Reply) → ((x : Answer) → next_act p r ≢ act.End x) → next_act p r
    ≡ act_of (next_place p r)
does Idle r goes = refl
does (Mutex lock at) r goes = of (mutex_next at r) goes
  where
    of : (n : Next MutexPlace) → ((x : Answer) → mutex_does lock n ≢ act.End x)
        → mutex_does lock n ≡ act_of (mutex_goes lock n)
    of (At q) h = refl
    of (End x) h = absurd (h x refl)
does (RwLock lock a at) r goes = of (call_next a at r) goes
  where
    of : (n : Next RwLockCallPlace) → ((x : Answer) → rwlock_does lock a n ≢ act.End x)
        → rwlock_does lock a n ≡ act_of (rwlock_goes lock a n)
    of (At q) h = refl
    of (End x) h = absurd (h x refl)
does (Once lock at) r goes = of (once_next at r) goes
  where
    of : (n : Next OncePlace) → ((x : Answer) → once_does lock n ≢ act.End x) → once_does lock n
        ≡ act_of (once_goes lock n)
    of (At q) h = refl
    of (End x) h = absurd (h x refl)
does (Condvar lock at) r goes = of (condvar_next at r) goes
  where
    of : (n : Next CondvarPlace) → ((x : Answer) → condvar_does lock n ≢ act.End x)
        → condvar_does lock n ≡ act_of (condvar_goes lock n)
    of (At q) h = refl
    of (End x) h = absurd (h x refl)
does (Semaphore lock at) r goes = of (semaphore_next at r) goes
  where
    of : (n : Next SemaphorePlace) → ((x : Answer) → semaphore_does lock n ≢ act.End x)
        → semaphore_does lock n ≡ act_of (semaphore_goes lock n)
    of (At q) h = refl
    of (End x) h = absurd (h x refl)
