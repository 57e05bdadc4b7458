-- The exclusive owner of a mutex after a step on its word.
use Rattle.lot_laws.proofs.Imports
use Imports.{ℕ, Bool, true, false, Option, Some, None, if◌then◌else◌, ◌==◌, ◌&&◌, not, ◌≡◌, inl, inr, refl}
use Imports.{Owners, Lock, TryLock, Unlock, UnlockFair, LockAt, First, Decide, UnlockAt, is_locked}
use Imports.{mutex_owners, MutexPlace, with_exclusive, IsMutexWord}
use Rattle.steps_mutex.specs.declared.places.MutexPlace.TheVariants.{Bump}
use Rattle.steps_mutex.specs.declared.places.MutexPlace.TheVariants.{HandOff}
use Rattle.steps_mutex.specs.declared.unlock.UnlockAt.TheVariants as unlock
use Rattle.steps_mutex.specs.declared.hand_off.HandOffAt.TheVariants as hand_off

abbrev pub lock_owner : LockAt → ℕ → ℕ → Option ℕ → Option ℕ
lock_owner First t v o = if v == 0 then Some t else o
lock_owner (Decide s) t v o = if (v == s) && not (is_locked v) then Some t else o
lock_owner at t v o = o

abbrev pub unlock_owner : UnlockAt → Option ℕ → Option ℕ
unlock_owner unlock.Subtract o = None
unlock_owner at o = o

-- the exclusive owner after a step on the word that saw v, but for one to which it hands the lock
abbrev pub mutex_owner_after : MutexPlace → ℕ → ℕ → Option ℕ → Option ℕ
mutex_owner_after (Lock entry retries at) t v o = lock_owner at t v o
mutex_owner_after TryLock t v o = if is_locked v then o else Some t
mutex_owner_after (Unlock at) t v o = unlock_owner at o
mutex_owner_after UnlockFair t v o = if v == 1 then None else o
mutex_owner_after Bump t v o = o
mutex_owner_after (HandOff bumps (hand_off.Store any none_left)) t v o = None
mutex_owner_after (HandOff bumps at) t v o = o

pub mutex_is : (at : MutexPlace) (t v : ℕ) (r : Owners) → (mutex_owners at t v r).exclusive
    ≡ mutex_owner_after at t v r.exclusive
mutex_is (Lock entry retries First) t v r = either (v == 0)
  where
    either : (b : Bool) → (if b then with_exclusive r (Some t) else r).exclusive
        ≡ (if b then Some t else r.exclusive)
    either true = refl
    either false = refl
mutex_is (Lock entry retries (Decide s)) t v r = either ((v == s) && not (is_locked v))
  where
    either : (b : Bool) → (if b then with_exclusive r (Some t) else r).exclusive
        ≡ (if b then Some t else r.exclusive)
    either true = refl
    either false = refl
mutex_is (Lock entry retries at) t v r = refl
mutex_is TryLock t v r = either (is_locked v)
  where
    either : (b : Bool) → (if b then r else with_exclusive r (Some t)).exclusive
        ≡ (if b then r.exclusive else Some t)
    either true = refl
    either false = refl
mutex_is (Unlock unlock.Subtract) t v r = refl
mutex_is (Unlock at) t v r = refl
mutex_is UnlockFair t v r = either (v == 1)
  where
    either : (b : Bool) → (if b then with_exclusive r None else r).exclusive
        ≡ (if b then None else r.exclusive)
    either true = refl
    either false = refl
mutex_is Bump t v r = refl
mutex_is (HandOff bumps (hand_off.Store any none_left)) t v r = refl
mutex_is (HandOff bumps at) t v r = refl

-- ---------------------------------------------------------------- words

-- the four words of a mutex
pub by_code : (P : ℕ → Option ℕ → Type 0) → P 0 None → P 2 None → ((u : ℕ) → P 1 (Some u))
    → ((u : ℕ) → P 3 (Some u))
    → (v : ℕ) (o : Option ℕ) → IsMutexWord v o → P v o
by_code P a b c d v None (inl e) = rw e a
by_code P a b c d v None (inr e) = rw e b
by_code P a b c d v (Some u) (inl e) = rw e (c u)
by_code P a b c d v (Some u) (inr e) = rw e (d u)
