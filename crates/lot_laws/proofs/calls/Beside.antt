-- From where a thread looks at a word once more, its place says the same of the lock beside.
use Rattle.lot_laws.proofs.Imports
use Imports.{ℕ, Bool, true, false, Option, Some, None, if◌then◌else◌, ◌≡◌, refl, subst, CondvarPlace, Wait}
use Imports.{condvar_respin, in_lock, MutexPlace, Lock, mutex_respin, OncePlace, once_respin}
use Imports.{RwLockCallPlace, SemaphorePlace, semaphore_respin, call_respin, Place, Idle, Mutex, RwLock, Once}
use Imports.{Condvar, Semaphore, beside_of, in_condvar, in_mutex, in_once, in_rwlock, in_semaphore}
use Imports.{respins_from}
use Imports.{profile_at_mutex}
use Rattle.steps_condvar.specs.declared.wait.WaitAt.TheVariants as wait
use Rattle.steps_mutex.specs.declared.lock.LockAt.TheVariants as lock

abbrev pub SameBeside : Place → Place → Type 0
SameBeside p q = (beside_of q ≡ beside_of p) × (profile_at_mutex q ≡ profile_at_mutex p)

pub looks_beside : (p q : Place) → respins_from p ≡ Some q → SameBeside p q
looks_beside Idle q is = absurd cc
looks_beside (Mutex l at) q is = by_place (mutex_respin at) is
  where
    by_place : (o : Option MutexPlace) → in_mutex l o ≡ Some q → SameBeside (Mutex l at) q
    by_place None e = absurd cc
    by_place (Some at2) e = let there : Mutex l at2 ≡ q = cc in subst (SameBeside (Mutex l at)) there (
      refl,
      refl,
    )
looks_beside (RwLock l a c) q is = by_place (call_respin a c) is
  where
    by_place : (o : Option RwLockCallPlace) → in_rwlock l a o ≡ Some q → SameBeside (RwLock l a c) q
    by_place None e = absurd cc
    by_place (Some d) e = let there : RwLock l a d ≡ q = cc in subst (SameBeside (RwLock l a c)) there (
      refl,
      refl,
    )
looks_beside (Once l at) q is = by_place (once_respin at) is
  where
    by_place : (o : Option OncePlace) → in_once l o ≡ Some q → SameBeside (Once l at) q
    by_place None e = absurd cc
    by_place (Some at2) e = let there : Once l at2 ≡ q = cc in subst (SameBeside (Once l at)) there (
      refl,
      refl,
    )
looks_beside (Semaphore l at) q is = by_place (semaphore_respin at) is
  where
    by_place : (o : Option SemaphorePlace) → in_semaphore l o ≡ Some q → SameBeside (Semaphore l at) q
    by_place None e = absurd cc
    by_place (Some at2) e = let there : Semaphore l at2 ≡ q = cc in subst (SameBeside (Semaphore l at)) there
        (refl, refl)
looks_beside (Condvar l at) q is = condvar_look at is
  where
    locks : (m : ℕ) (timed late : Bool) (at : MutexPlace)
        → in_condvar l (in_lock m timed late (mutex_respin at)) ≡ Some q
        → SameBeside (Condvar l (Wait m timed (wait.Lock late at))) q
    locks m timed late (Lock e again (lock.Decide seen)) is = by_mark _ is
      where
        by_mark : (b : Bool) → in_condvar l (in_lock m timed late (if b then Some (Lock e again lock.Load)
            else None)) ≡ Some q
            → SameBeside (Condvar l (Wait m timed (wait.Lock late (Lock e again (lock.Decide seen))))) q
        by_mark true is = let there : Condvar l (Wait m timed (wait.Lock late (Lock e again lock.Load))) ≡ q =
            cc in subst (SameBeside (Condvar l
            (Wait m timed (wait.Lock late (Lock e again (lock.Decide seen)))))) there (refl, refl)
        by_mark false is = absurd cc
    locks m timed late (Lock e again to) is = absurd cc
    locks m timed late at is = absurd cc

    condvar_look : (at : CondvarPlace) → in_condvar l (condvar_respin at) ≡ Some q
        → SameBeside (Condvar l at) q
    condvar_look (Wait m timed (wait.Lock late at)) is = locks m timed late at is
    condvar_look at is = absurd cc
