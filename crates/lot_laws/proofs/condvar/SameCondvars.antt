-- A condition variable is as it was where these are: what it shows, its waiters, the thread inside, and what
-- places say of it.
use Rattle.lot_laws.proofs.Imports
use Imports.{ℕ, Bool, true, false, Option, Some, None, if◌then◌else◌, ◌==◌, ◌≡◌, ◌<◌, length, get_or-set_other}
use Imports.{get_or-set_same, inl, inr, refl, sym, ◌∙◌, ap, subst, cases_eq, SemaphorePlace, semaphore_respin}
use Imports.{MutexPlace, mutex_respin, OncePlace, once_respin, RwLockCallPlace, call_respin, Look, Notify}
use Imports.{Wait, in_lock, Place, Condvar, Idle, Mutex, Once, RwLock, Semaphore, in_condvar, in_mutex, in_once}
use Imports.{in_rwlock, respins_from, profile_at, in_semaphore, IsCondvar, LockState, Main, State, closed_place}
use Imports.{place_at, put, section_at, lock_state, AreCondvars, condvar_of, inside_as, key_of}
use Rattle.steps_mutex.specs.declared.lock.LockAt.TheVariants as lock
use Rattle.steps_mutex.specs.declared.places.MutexPlace.TheVariants as mutex
use Rattle.steps_condvar.specs.declared.wait.WaitAt.TheVariants as wait
use Rattle.lot_laws.proofs.calls.Closings.{closing, is_after}
use Rattle.lot_laws.proofs.calls.Closures.{RunsOne}
use Rattle.lot_laws.proofs.condvar.CondvarRows.{names_of, row_says, stage_of}

-- the thread leaves the mutex that is shown, and the waiters
abbrev pub Kept : LockState → LockState → Type 0
Kept s s2 = (s2.shown ≡ s.shown) × (s2.queue ≡ s.queue)

pub same_condvar : (w v : State) (k : ℕ) → Kept (lock_state w k) (lock_state v k)
    → section_at v (key_of k Main) ≡ section_at w (key_of k Main)
    → ((u : ℕ) → (stage_of (place_at v u) k ≡ stage_of (place_at w u) k)
    × (names_of (place_at v u) k ≡ names_of (place_at w u) k))
    → condvar_of v k ≡ condvar_of w k
same_condvar w v k lock section says = λ i. record {
  shown = lock.0 i;
  waiters = lock.1 i;
  inside = inside_as (section i) (λ u. stage_now u i);
  waits_with = λ u. names_now u i;
}
  where
    stage_now : (u : ℕ) → (profile_at (place_at v u) k).stage ≡ (profile_at (place_at w u) k).stage
    stage_now u = (row_says (place_at v u) k).0 ∙ (says u).0 ∙ sym (row_says (place_at w u) k).0

    names_now : (u : ℕ) → (profile_at (place_at v u) k).names ≡ (profile_at (place_at w u) k).names
    names_now u = (row_says (place_at v u) k).1 ∙ (says u).1 ∙ sym (row_says (place_at w u) k).1

-- a thread that stands elsewhere, where its place says the same of it, leaves each as it was
pub put_condvars : (w : State) (t : ℕ) (q : Place) → t < length w.places
    → ((k : ℕ) → (stage_of q k ≡ stage_of (place_at w t) k) × (names_of q k ≡ names_of (place_at w t) k))
    → AreCondvars w
    → AreCondvars (put w t q)
put_condvars w t q there says condvars k sort =
    subst IsCondvar (sym (same_condvar w (put w t q) k (refl, refl) refl says_now)) (condvars k sort)
  where
    says_now : (u : ℕ)
        → (stage_of (place_at (put w t q) u) k ≡ stage_of (place_at w u) k)
        × (names_of (place_at (put w t q) u) k ≡ names_of (place_at w u) k)
    says_now u = elim (cases_eq u t) [
      | inl e ↦ rw (e, get_or-set_same w.places t q Idle there) (says k)
      | inr ne ↦ let stays = get_or-set_other w.places t u q Idle ne in (
        ap (λ p. stage_of p k) stays,
        ap (λ p. names_of p k) stays,
      )
    ]

-- ---------------------------------------------------------------- another place of its call

abbrev Says : Place → Place → Type 0
Says p q = (k : ℕ) → (stage_of q k ≡ stage_of p k) × (names_of q k ≡ names_of p k)

-- from where it looks at the word once more
looks_alike : (p q : Place) → respins_from p ≡ Some q → Says p q
looks_alike Idle q is = absurd cc
looks_alike (Mutex l at) q is = by_place (mutex_respin at) is
  where
    by_place : (o : Option MutexPlace) → in_mutex l o ≡ Some q → Says (Mutex l at) q
    by_place None e = absurd cc
    by_place (Some to) e = let there : Mutex l to ≡ q = cc in subst (Says (Mutex l at)) there
        (λ k. (refl, refl))
looks_alike (RwLock l a c) q is = by_place (call_respin a c) is
  where
    by_place : (o : Option RwLockCallPlace) → in_rwlock l a o ≡ Some q → Says (RwLock l a c) q
    by_place None e = absurd cc
    by_place (Some to) e = let there : RwLock l a to ≡ q = cc in subst (Says (RwLock l a c)) there
        (λ k. (refl, refl))
looks_alike (Once l at) q is = by_place (once_respin at) is
  where
    by_place : (o : Option OncePlace) → in_once l o ≡ Some q → Says (Once l at) q
    by_place None e = absurd cc
    by_place (Some to) e = let there : Once l to ≡ q = cc
        in subst (Says (Once l at)) there (λ k. (refl, refl))
looks_alike (Semaphore l at) q is = by_place (semaphore_respin at) is
  where
    by_place : (o : Option SemaphorePlace) → in_semaphore l o ≡ Some q → Says (Semaphore l at) q
    by_place None e = absurd cc
    by_place (Some to) e = let there : Semaphore l to ≡ q = cc in subst (Says (Semaphore l at)) there
        (λ k. (refl, refl))
looks_alike (Condvar l (Wait m timed (wait.Lock late (mutex.Lock e again (lock.Decide seen))))) q is =
    by_word (seen == 1) is
  where
    by_word : (b : Bool) → in_condvar l (in_lock m timed late (if b then Some (mutex.Lock e again lock.Load)
        else None)) ≡ Some q
        → Says (Condvar l (Wait m timed (wait.Lock late (mutex.Lock e again (lock.Decide seen))))) q
    by_word true f = let there : Condvar l (Wait m timed (wait.Lock late (mutex.Lock e again lock.Load)))
        ≡ q = cc in
        subst (Says (Condvar l (Wait m timed (wait.Lock late (mutex.Lock e again (lock.Decide seen)))))) there
        (λ k. (refl, refl))
    by_word false f = absurd cc
looks_alike (Condvar l (Wait m timed (wait.Lock late (mutex.Lock e again a)))) q is = absurd cc
looks_alike (Condvar l (Wait m timed (wait.Lock late a))) q is = absurd cc
looks_alike (Condvar l (Wait m timed p)) q is = absurd cc
looks_alike (Condvar l (Look all)) q is = absurd cc
looks_alike (Condvar l (Notify all m p)) q is = absurd cc

pub looking_condvars : (w : State) (t : ℕ) (q : Place) → t < length w.places → respins_from (place_at w t)
    ≡ Some q
    → AreCondvars w
    → AreCondvars (put w t q)
looking_condvars w t q there is condvars = put_condvars w t q there (looks_alike (place_at w t) q is) condvars

-- A thread whose closure has ended leaves each condition variable as it was.
pub closing_condvars : (w : State) (t : ℕ) (there : t < length w.places) (succeeded : Bool)
    (one : RunsOne (place_at w t))
    → AreCondvars w → AreCondvars (closing w t there succeeded one)
closing_condvars w t there succeeded one condvars = put_condvars w t (closed_place w t succeeded) there
    (λ k. (
      ap (λ q. stage_of q k) (is_after w t there succeeded one) ∙ sym (ap (λ q. stage_of q k) one.is),
      ap (λ q. names_of q k) (is_after w t there succeeded one) ∙ sym (ap (λ q. names_of q k) one.is),
    )) condvars
