-- From where a thread looks at a word once more: in the same call, with the same row, and about to load.
use Rattle.std.proofs.Common.{ℕ, Bool, true, false, Option, Some, None, if◌then◌else◌, ◌≡◌, ◌<◌, refl, sym}
use Rattle.std.proofs.Common.{subst}
use Rattle.core_base.specs.declared.ops.Op.TheVariants.{Load}
use Rattle.steps_base.specs.declared.acts.Act.TheVariants.{Word}
use Rattle.steps_mutex.specs.declared.lock.Entry.{Entry}
use Rattle.steps_mutex.specs.declared.places.MutexPlace.{MutexPlace}
use Rattle.steps_mutex.specs.declared.places.MutexPlace.TheVariants.{Lock}
use Rattle.steps_mutex.specs.declared.lock.LockAt.TheVariants as lock
use Rattle.steps_mutex.specs.MutexSteps.{mutex_respin}
use Rattle.steps_rwlock.specs.declared.places.Admission.{Admission}
use Rattle.steps_rwlock.specs.declared.places.RwLockPlace.{RwLockPlace}
use Rattle.steps_rwlock.specs.declared.places.RwLockAt.{RwLockAt}
use Rattle.steps_rwlock.specs.declared.places.RwLockAt.TheVariants as at
use Rattle.steps_rwlock.specs.RwLockSteps.{rwlock_act}
use Rattle.steps_rwlock.specs.RwLockProfiles.{rwlock_respin, looking_at, gone_to}
use Rattle.steps_rwlock_fair.specs.declared.places.RwLockCallPlace.{RwLockCallPlace}
use Rattle.steps_rwlock_fair.specs.declared.places.RwLockCallPlace.TheVariants.{Plain, PeekQueue, HandOver}
use Rattle.steps_rwlock_fair.specs.declared.places.RwLockCallPlace.TheVariants.{Bump}
use Rattle.steps_rwlock_fair.specs.declared.places.RwLockCallPlace.TheVariants.{Handed}
use Rattle.steps_rwlock_fair.specs.FairSteps.{call_act}
use Rattle.steps_rwlock_fair.specs.FairProfiles.{call_respin, in_call}
use Rattle.steps_rwlock_fair.proofs.FairSleepers.{fair_looks_stand}
use Rattle.steps_once.specs.declared.places.OncePlace.{OncePlace}
use Rattle.steps_once.specs.declared.places.OncePlace.TheVariants.{Look, Run, GiveUp}
use Rattle.steps_once.specs.declared.look.LookAt.TheVariants as look_at
use Rattle.steps_once.specs.OnceSteps.{once_respin}
use Rattle.steps_semaphore.specs.declared.acquire.AcquireAt.TheVariants as acquire
use Rattle.steps_semaphore.specs.declared.places.SemaphorePlace.{SemaphorePlace}
use Rattle.steps_semaphore.specs.declared.places.SemaphorePlace.TheVariants.{Acquire, Try, Release}
use Rattle.steps_semaphore.specs.SemaphoreSteps.{semaphore_respin}
use Rattle.steps_condvar.specs.declared.places.CondvarPlace.{CondvarPlace}
use Rattle.steps_condvar.specs.declared.places.CondvarPlace.TheVariants.{Wait}
use Rattle.steps_condvar.specs.declared.wait.WaitAt.TheVariants as wait
use Rattle.steps_condvar.specs.CondvarSteps.{condvar_respin, in_lock}
use Rattle.lot_steps.specs.declared.places.Place.{Place}
use Rattle.lot_steps.specs.declared.places.Place.TheVariants.{Idle, Mutex, RwLock, Once, Condvar, Semaphore}
use Rattle.lot_steps.specs.Steps.{act_of, called_lock, respins_from, in_mutex, in_rwlock, in_once, in_condvar}
use Rattle.lot_steps.specs.Steps.{in_semaphore, profile}
use Rattle.spec_locks.specs.declared.kinds.Kind.{Kind}
use Rattle.lot_machine.specs.Fits.{IsOfItsKind, PlaceFits}

pub record IsLook (p q : Place) : Type 0 where
  pub lock : ℕ
  pub before : called_lock p ≡ Some lock
  pub now : called_lock q ≡ Some lock
  pub loaded : ℕ
  pub loads : act_of q ≡ Word loaded Load
  pub row : profile q ≡ profile p
  pub fits : (locks : ℕ) → PlaceFits locks p → PlaceFits locks q
  pub kind : (kinds : ℕ → Kind) → IsOfItsKind kinds p → IsOfItsKind kinds q
  pub there : (locks : ℕ) → PlaceFits locks p → loaded < locks

some_is : (p q : Place) → Some p ≡ Some q → p ≡ q
some_is p q e = cc

-- a look of a reader-writer call
rwlock_loads : (l : ℕ) (a : Admission) (p p2 : RwLockPlace) → rwlock_respin a p ≡ Some p2 → rwlock_act l a p2
    ≡ Word l Load
rwlock_loads l a p p2 is = loads p.at is
  where
    loads : (to : RwLockAt) → gone_to p (looking_at a p to) ≡ Some p2 → rwlock_act l a p2 ≡ Word l Load
    loads (at.Decide seen) e = by_mark _ e
      where
        by_mark : (b : Bool) → gone_to p (if b then Some at.Load else None) ≡ Some p2 → rwlock_act l a p2
            ≡ Word l Load
        by_mark true e = let there : record p { at = at.Load } ≡ p2 = cc
            in subst (λ x. rwlock_act l a x ≡ Word l Load) there refl
        by_mark false e = absurd cc
    loads (at.Count seen) e = let there : record p { at = at.Look } ≡ p2 = cc
        in subst (λ x. rwlock_act l a x ≡ Word l Load) there refl
    loads to e = absurd cc

call_loads : (l : ℕ) (a : Admission) (c d : RwLockCallPlace) → call_respin a c ≡ Some d → call_act l a d
    ≡ Word l Load
call_loads l a (Plain p) d is = by_place (rwlock_respin a p) refl is
  where
    by_place : (o : Option RwLockPlace) → rwlock_respin a p ≡ o → in_call false o ≡ Some d → call_act l a d
        ≡ Word l Load
    by_place None e is = absurd cc
    by_place (Some p2) e is = let there : Plain p2 ≡ d = cc in subst (λ x. call_act l a x ≡ Word l Load) there
        (rwlock_loads l a p p2 e)
call_loads l a (Bump p) d is = by_place (rwlock_respin a p) refl is
  where
    by_place : (o : Option RwLockPlace) → rwlock_respin a p ≡ o → in_call true o ≡ Some d → call_act l a d
        ≡ Word l Load
    by_place None e is = absurd cc
    by_place (Some p2) e is = let there : Bump p2 ≡ d = cc in subst (λ x. call_act l a x ≡ Word l Load) there
        (rwlock_loads l a p p2 e)
call_loads l a (PeekQueue x) d is = absurd cc
call_loads l a (HandOver x b to) d is = absurd cc
call_loads l a (Handed x how b to) d is = absurd cc

rwlock_look : (l : ℕ) (a : Admission) (c : RwLockCallPlace) (q : Place) → in_rwlock l a (call_respin a c)
    ≡ Some q → IsLook (RwLock l a c) q
rwlock_look l a c q is = by_place (call_respin a c) refl is
  where
    by_place : (o : Option RwLockCallPlace) → call_respin a c ≡ o → in_rwlock l a o ≡ Some q
        → IsLook (RwLock l a c) q
    by_place None e is = absurd cc
    by_place (Some d) e is = subst (IsLook (RwLock l a c)) (some_is (RwLock l a d) q is)
        (record {
          lock = l;
          before = refl;
          now = refl;
          loaded = l;
          loads = call_loads l a c d e;
          row = (fair_looks_stand a c d e).0;
          fits = λ locks h. h;
          kind = λ kinds h. h;
          there = λ locks h. h;
        })

pub look : (p q : Place) → respins_from p ≡ Some q → IsLook p q
look Idle q is = absurd cc
look (RwLock l a at) q is = rwlock_look l a at q is
look (Mutex l at) q is = mutex_look at is
  where
    by_mark : (b : Bool) (at at2 : MutexPlace) → IsLook (Mutex l at) (Mutex l at2)
        → in_mutex l (if b then Some at2 else None) ≡ Some q → IsLook (Mutex l at) q
    by_mark true at at2 h is = subst (IsLook (Mutex l at)) (some_is (Mutex l at2) q is) h
    by_mark false at at2 h is = absurd cc

    mutex_look : (at : MutexPlace) → in_mutex l (mutex_respin at) ≡ Some q → IsLook (Mutex l at) q
    mutex_look (Lock e again (lock.Decide seen)) is =
        by_mark _ (Lock e again (lock.Decide seen)) (Lock e again lock.Load) (record {
          lock = l;
          before = refl;
          now = refl;
          loaded = l;
          loads = refl;
          row = refl;
          fits = λ locks h. (h.0, tt);
          kind = λ kinds h. h;
          there = λ locks h. h.0;
        }) is
    mutex_look (Lock e again to) is = absurd cc
    mutex_look at is = absurd cc
look (Once l at) q is = once_look at is
  where
    by_mark : (b : Bool) (at at2 : OncePlace) → IsLook (Once l at) (Once l at2)
        → in_once l (if b then Some at2 else None) ≡ Some q → IsLook (Once l at) q
    by_mark true at at2 h is = subst (IsLook (Once l at)) (some_is (Once l at2) q is) h
    by_mark false at at2 h is = absurd cc

    once_look : (at : OncePlace) → in_once l (once_respin at) ≡ Some q → IsLook (Once l at) q
    once_look (Look c again (look_at.Decide seen)) is =
        by_mark _ (Look c again (look_at.Decide seen)) (Look c again look_at.Load) (record {
          lock = l;
          before = refl;
          now = refl;
          loaded = l;
          loads = refl;
          row = refl;
          fits = λ locks h. h;
          kind = λ kinds h. h;
          there = λ locks h. h;
        }) is
    once_look (Look c again to) is = absurd cc
    once_look (Run forced to) is = absurd cc
    once_look (GiveUp again to) is = absurd cc
look (Semaphore l at) q is = semaphore_look at is
  where
    by_mark : (b : Bool) (at at2 : SemaphorePlace) → IsLook (Semaphore l at) (Semaphore l at2)
        → in_semaphore l (if b then Some at2 else None) ≡ Some q → IsLook (Semaphore l at) q
    by_mark true at at2 h is = subst (IsLook (Semaphore l at)) (some_is (Semaphore l at2) q is) h
    by_mark false at at2 h is = absurd cc

    semaphore_look : (at : SemaphorePlace) → in_semaphore l (semaphore_respin at) ≡ Some q
        → IsLook (Semaphore l at) q
    semaphore_look (Acquire timed again (acquire.Decide seen)) is =
        by_mark _ (Acquire timed again (acquire.Decide seen)) (Acquire timed again acquire.Load) (record {
          lock = l;
          before = refl;
          now = refl;
          loaded = l;
          loads = refl;
          row = refl;
          fits = λ locks h. h;
          kind = λ kinds h. h;
          there = λ locks h. h;
        }) is
    semaphore_look (Acquire timed again to) is = absurd cc
    semaphore_look (Try to) is = absurd cc
    semaphore_look (Release to) is = absurd cc
look (Condvar l at) q is = condvar_look at is
  where
    by_mark : (b : Bool) (m : ℕ) (timed late : Bool) (at at2 : MutexPlace)
        → IsLook (Condvar l (Wait m timed (wait.Lock late at)))
        (Condvar l (Wait m timed (wait.Lock late at2)))
        → in_condvar l (in_lock m timed late (if b then Some at2 else None)) ≡ Some q
        → IsLook (Condvar l (Wait m timed (wait.Lock late at))) q
    by_mark true m timed late at at2 h is = subst (IsLook (Condvar l (Wait m timed (wait.Lock late at))))
        (some_is (Condvar l (Wait m timed (wait.Lock late at2))) q is) h
    by_mark false m timed late at at2 h is = absurd cc

    locks : (m : ℕ) (timed late : Bool) (at : MutexPlace)
        → in_condvar l (in_lock m timed late (mutex_respin at)) ≡ Some q
        → IsLook (Condvar l (Wait m timed (wait.Lock late at))) q
    locks m timed late (Lock e again (lock.Decide seen)) is =
        by_mark _ m timed late (Lock e again (lock.Decide seen)) (Lock e again lock.Load) (record {
          lock = l;
          before = refl;
          now = refl;
          loaded = m;
          loads = refl;
          row = refl;
          fits = λ locks h. h;
          kind = λ kinds h. h;
          there = λ locks h. h.1;
        }) is
    locks m timed late (Lock e again to) is = absurd cc
    locks m timed late at is = absurd cc

    condvar_look : (at : CondvarPlace) → in_condvar l (condvar_respin at) ≡ Some q → IsLook (Condvar l at) q
    condvar_look (Wait m timed (wait.Lock late at)) is = locks m timed late at is
    condvar_look at is = absurd cc

-- a thread that looks at a mutex's word enters it
pub mutex_looks : (l : ℕ) (at : MutexPlace) (q : Place) → respins_from (Mutex l at) ≡ Some q → (e : Entry)
    × (again : Bool) × (q ≡ Mutex l (Lock e again lock.Load))
mutex_looks l (Lock e again (lock.Decide seen)) q is = by_mark _ is
  where
    by_mark : (b : Bool) → in_mutex l (if b then Some (Lock e again lock.Load) else None) ≡ Some q
        → (e : Entry) × (again : Bool) × (q ≡ Mutex l (Lock e again lock.Load))
    by_mark true is = (e, again, sym (some_is (Mutex l (Lock e again lock.Load)) q is))
    by_mark false is = absurd cc
mutex_looks l (Lock e again to) q is = absurd cc
mutex_looks l at q is = absurd cc
