-- A thread may look at a word once more only in place of an act that leads to sleep.
use Rattle.lot_laws.proofs.Imports
use Imports.{ℕ, Bool, true, false, Option, Some, None, if◌then◌else◌, ◌==◌, ◌&&◌, not, ◌≡◌, ◌+◌, ◌*◌, ◌⊎◌}
use Imports.{is_some, inl, inr, refl, sym, ap, subst, eqb-true, has_aside, is_running, Rules, Sort, has_readers}
use Imports.{semaphore_act, One, Act, MutexPlace, mutex_act, mutex_respin, OncePlace, Course, course_act}
use Imports.{course_of, Admission, RwLockPlace, RwLockAt, Decision, act_at, count_act, decided as decides}
use Imports.{decided_act, exchange, plus, gone_to, is_mark, looking_at, in_call, in_lock, Place, Idle, Mutex}
use Imports.{RwLock, Once, Condvar, Semaphore, act_of, in_condvar, in_mutex, in_once, in_rwlock, respins_from}
use Imports.{in_semaphore, State, place_at, kind_at, FitsItsLock, IsInductive, sort_at, LeadsToSleep, SetsBit}
use Rattle.spec_locks.specs.Locks as locks
use Rattle.steps_semaphore.specs.declared.places.SemaphorePlace.TheVariants as semaphore
use Rattle.steps_semaphore.specs.declared.acquire.AcquireAt.TheVariants as acquire
use Rattle.steps_base.specs.declared.acts.Act.TheVariants as act
use Rattle.steps_mutex.specs.declared.places.MutexPlace.TheVariants as mutex
use Rattle.steps_mutex.specs.declared.lock.LockAt.TheVariants as lock
use Rattle.steps_mutex.specs.MutexSteps.{decided}
use Rattle.steps_once.specs.declared.places.OncePlace.TheVariants as once
use Rattle.steps_once.specs.declared.look.Course.TheVariants as course
use Rattle.steps_once.specs.declared.look.LookAt.TheVariants as look
use Rattle.steps_once.specs.OnceSteps as steps
use Rattle.steps_rwlock.specs.declared.places.RwLockAt.TheVariants as at
use Rattle.steps_rwlock.specs.declared.enter.Decision.TheVariants as decisions
use Rattle.steps_rwlock_fair.specs.declared.places.RwLockCallPlace.TheVariants as fair
use Rattle.steps_condvar.specs.declared.places.CondvarPlace.TheVariants as condvar
use Rattle.steps_condvar.specs.declared.wait.WaitAt.TheVariants as wait
use Rattle.lot_laws.proofs.machine.Parts.{plain_rules}
use Rattle.lot_laws.proofs.sites.StandsMoved.{mutex_rules}

-- ---------------------------------------------------------------- a mutex

decides_owned : (l seen : ℕ) → (seen == 1) ≡ true → LeadsToSleep locks.Mutex l (decided l seen)
decides_owned l seen one = subst (λ v. LeadsToSleep locks.Mutex l (decided l v)) (sym (eqb-true seen 1 one))
    (inl (1, 3, refl, (refl, refl)))

mutex_looks : (l : ℕ) (to : MutexPlace) → is_some (mutex_respin to) ≡ true
    → LeadsToSleep locks.Mutex l (mutex_act l to)
mutex_looks l (mutex.Lock e retries (lock.Decide seen)) h = by_value (seen == 1) refl h
  where
    by_value : (b : Bool) → (seen == 1) ≡ b → is_some (if b then Some (mutex.Lock e retries lock.Load)
        else None) ≡ true → LeadsToSleep locks.Mutex l (decided l seen)
    by_value true one g = decides_owned l seen one
    by_value false one g = absurd cc
mutex_looks l (mutex.Lock e retries to) h = absurd cc
mutex_looks l to h = absurd cc

-- ---------------------------------------------------------------- a reader-writer lock

abbrev Shared : ℕ → Act → Type 0
Shared l a = (sort : Sort) → has_readers sort ≡ true → LeadsToSleep sort l a

sets_bit : (sort : Sort) → has_readers sort ≡ true → (seen now : ℕ) → (has_aside seen ≡ false)
    × ((now ≡ plus seen 1) ⊎ (now ≡ plus seen 2)) → SetsBit sort seen now
sets_bit locks.Normal readers seen now h = h
sets_bit locks.Recursive readers seen now h = h
sets_bit sort readers seen now h = absurd cc

decision_looks : (l : ℕ) (a : Admission) (p : RwLockPlace) (seen : ℕ) (d : Decision) (aside : Bool)
    → has_aside seen ≡ aside
    → is_some (if is_mark d && not aside then Some at.Load else None) ≡ true
    → Shared l (decided_act l p.purpose seen d)
decision_looks l a p seen decisions.Mark false e h sort readers = inl (
  seen,
  plus seen 1,
  refl,
  sets_bit sort readers seen (plus seen 1) (e, inl refl),
)
decision_looks l a p seen decisions.Mark true e h sort readers = absurd cc
decision_looks l a p seen d aside e h sort readers = absurd cc

count_looks : (l seen : ℕ) → Shared l (count_act l seen)
count_looks l seen sort readers = by_aside (has_aside seen) refl
  where
    by_aside : (b : Bool) → has_aside seen ≡ b → LeadsToSleep sort l (if b then act.Enter (One (2 * l + 1))
        else exchange l seen (plus seen 2))
    by_aside true e = inr refl
    by_aside false e = inl (seen, plus seen 2, refl, sets_bit sort readers seen (plus seen 2) (e, inr refl))

rwlock_looks : (l : ℕ) (a : Admission) (p : RwLockPlace) (to : RwLockAt) → is_some (looking_at a p to) ≡ true
    → Shared l (act_at l a p to)
rwlock_looks l a p (at.Decide seen) h = decision_looks l a p seen (decides a p seen) (has_aside seen) refl h
rwlock_looks l a p (at.Count seen) h = count_looks l seen
rwlock_looks l a p to h = absurd cc

-- ---------------------------------------------------------------- a `Once`

course_looks : (l seen : ℕ) (c : Course) (running : Bool) → is_running seen ≡ running
    → is_some (if running && steps.is_mark c then Some look.Load else None) ≡ true
    → LeadsToSleep locks.Once l (course_act l seen c)
course_looks l seen course.Marks true e h = inl (seen, steps.marked seen, refl, (e, refl))
course_looks l seen course.Marks false e h = absurd cc
course_looks l seen c true e h = absurd cc
course_looks l seen c false e h = absurd cc

-- ---------------------------------------------------------------- any place

abbrev Looks : State → Place → Type 0
Looks w p = (l : ℕ) × LeadsToSleep (sort_at w l) l (act_of p)

-- a look in another form is there exactly where the look is
rwlock_there : (l : ℕ) (a : Admission) (p : RwLockPlace) (o : Option RwLockAt) (bumps : Bool)
    → is_some (in_rwlock l a (in_call bumps (gone_to p o))) ≡ true → is_some o ≡ true
rwlock_there l a p None bumps h = absurd cc
rwlock_there l a p (Some to) bumps h = refl

once_there : (l : ℕ) (to : OncePlace) (b : Bool) → is_some (in_once l (if b then Some to else None)) ≡ true
    → is_some (if b then Some look.Load else None) ≡ true
once_there l to true h = refl
once_there l to false h = absurd cc

mutex_there : (l : ℕ) (o : Option MutexPlace) → is_some (in_mutex l o) ≡ true → is_some o ≡ true
mutex_there l None h = absurd cc
mutex_there l (Some to) h = refl

condvar_there : (l m : ℕ) (timed timed_out : Bool) (o : Option MutexPlace)
    → is_some (in_condvar l (in_lock m timed timed_out o)) ≡ true → is_some o ≡ true
condvar_there l m timed timed_out None h = absurd cc
condvar_there l m timed timed_out (Some to) h = refl

place_looks : (w : State) (p : Place) → FitsItsLock w p → is_some (respins_from p) ≡ true → Looks w p
place_looks w Idle fits h = absurd cc
place_looks w (Mutex l to) fits h = (
  l,
  subst (λ s. LeadsToSleep s l (mutex_act l to))
      (sym (ap (λ (r : Rules). r.sort) (mutex_rules (kind_at w l) fits)))
      (mutex_looks l to (mutex_there l (mutex_respin to) h)),
)
place_looks w (RwLock l a (fair.Plain p)) fits h =
    (l, rwlock_looks l a p p.at (rwlock_there l a p (looking_at a p p.at) false h) (sort_at w l) fits.0.0)
place_looks w (RwLock l a (fair.Bump p)) fits h =
    (l, rwlock_looks l a p p.at (rwlock_there l a p (looking_at a p p.at) true h) (sort_at w l) fits.0.0)
place_looks w (RwLock l a c) fits h = absurd cc
place_looks w (Once l (once.Look c retries (look.Decide seen))) fits h = (
  l,
  subst (λ s. LeadsToSleep s l (course_act l seen (course_of c seen))) (sym fits)
      (course_looks l seen (course_of c seen) (is_running seen) refl
      (once_there l (once.Look c retries look.Load) (is_running seen && steps.is_mark (course_of c seen))
      h)),
)
place_looks w (Once l (once.Look c retries to)) fits h = absurd cc
place_looks w (Once l to) fits h = absurd cc
place_looks w (Semaphore l (semaphore.Acquire timed retries (acquire.Decide seen))) fits h = (
  l,
  subst (λ s. LeadsToSleep s l
      (semaphore_act l (semaphore.Acquire timed retries (acquire.Decide seen)))) (sym fits.0)
      (by_value (seen == 0) refl h),
)
  where
    by_value : (b : Bool) → (seen == 0) ≡ b
        → is_some (in_semaphore l (if b then Some (semaphore.Acquire timed retries acquire.Load) else None))
        ≡ true
        → LeadsToSleep locks.Semaphore l
        (semaphore_act l (semaphore.Acquire timed retries (acquire.Decide seen)))
    by_value true none g = subst (λ v. LeadsToSleep locks.Semaphore l
        (semaphore_act l (semaphore.Acquire timed retries (acquire.Decide v)))) (sym (eqb-true seen 0 none))
        (inl (0, 1, refl, (refl, refl)))
    by_value false none g = absurd cc
place_looks w (Semaphore l (semaphore.Acquire timed retries to)) fits h = absurd cc
place_looks w (Semaphore l (semaphore.Try to)) fits h = absurd cc
place_looks w (Semaphore l (semaphore.Release to)) fits h = absurd cc
place_looks w (Condvar l (condvar.Wait m timed (wait.Lock timed_out to))) fits h = (
  m,
  subst (λ s. LeadsToSleep s m (mutex_act m to))
      (sym (ap (λ (r : Rules). r.sort) (plain_rules (kind_at w m) (fits.mutex m refl))))
      (mutex_looks m to (condvar_there l m timed timed_out (mutex_respin to) h)),
)
place_looks w (Condvar l (condvar.Wait m timed to)) fits h = absurd cc
place_looks w (Condvar l to) fits h = absurd cc

pub looks : (w : State) → IsInductive w → (t : ℕ) → is_some (respins_from (place_at w t)) ≡ true
    → Looks w (place_at w t)
looks w inductive t h = place_looks w (place_at w t) (inductive.stands.calls t) h
