-- The promises of a fair release. It lets a mutex go only where its word told of nobody, or nobody waits.
-- Else the first waiter owns it in its place. At a lock that is shared each waiter that it takes has its
-- right in that one step, or would pass the limit, and is woken.
use Rattle.std.specs.Prelude.{ℕ, true, false, Some, None, MatchOption, ◌≡◌, ◌≢◌, ◌⊎◌, []}
use Rattle.core_base.specs.declared.wants.Want.{Want}
use Rattle.core_base.specs.declared.wants.Want.TheVariants.{Exclusive, Shared}
use Rattle.steps_mutex.specs.MutexSteps.{is_locked, is_parked}
use Rattle.lot_machine.specs.Machine.{State, kind_at, word_at}
use Rattle.steps_rwlock_fair.specs.FairGives.{IsToGive, GivesToAll, LetsGo as LetsItGo, WakesThem}
use Rattle.lot_laws.specs.SitesOf.{is_mutex, rules_in}
use Rattle.spec_locks.specs.Locks.{LockState, Rules, Owns, IsTaken, HasTakenNobody, first_thread}
pub use Rattle.spec_locks.specs.Bypass.{IsFairRelease}
use Rattle.spec_locks.specs.Purposes.{lock_for}
use Rattle.spec_locks.specs.Runs.{CallState}
use Rattle.spec_locks.specs.Sites.{has_readers}
use Rattle.lot_laws.specs.Refinement.{lock_state, call_at}

-- an owner that releases its mutex fairly
abbrev pub OwnerReleasesFairly : State → ℕ → ℕ → Type 0
OwnerReleasesFairly w t l =
    IsFairRelease (call_at w t).purpose l × Owns (lock_state w l) t Exclusive
    × (is_mutex (kind_at w l) ≡ true)

-- the releasing thread owns the mutex still
abbrev pub OwnsOn : State → ℕ → ℕ → Type 0
OwnsOn v t l = Owns (lock_state v l) t Exclusive × (is_locked (word_at v l) ≡ true)

-- the waiter that it has taken owns the mutex in its place, and the word stays locked
abbrev pub HandsMutexOver : State → State → ℕ → ℕ → Type 0
HandsMutexOver w v t l =
    (u : ℕ) × IsTaken (lock_state w l) t u Exclusive × Owns (lock_state v l) u Exclusive
    × (is_locked (word_at v l) ≡ true)

-- nobody owns the mutex then: it had taken nobody, and the parked bit was clear or the queue empty
abbrev pub LetsMutexGo : State → State → ℕ → ℕ → Type 0
LetsMutexGo w v t l =
    ((lock_state v l).exclusive ≡ None) × HasTakenNobody (lock_state w l) t
    × ((is_parked (word_at w l) ≡ false) ⊎ ((lock_state w l).queue ≡ []))

-- ---------------------------------------------------------------- a shared lock

-- the call is to give this right to the lock up fairly, and has it still
abbrev pub IsToGiveAt : CallState → ℕ → Want → Type 0
IsToGiveAt c l x = MatchOption c.purpose ⊥ (λ p. (lock_for p ≡ l) × IsToGive p c.released x)

-- an owner that gives more than a shared right up fairly
abbrev pub GivesUpFairly : State → ℕ → ℕ → Want → Type 0
GivesUpFairly w t l x =
    IsToGiveAt (call_at w t) l x × (x ≢ Shared) × Owns (lock_state w l) t x
    × (has_readers (rules_in w l).sort ≡ true)

-- from s to s2 it owns still; or all that it has taken have what they waited for; or it had taken
-- nobody, and the word told of nobody; or they would pass the limit, and it is to wake them
abbrev pub FairReleaseComesTo : Rules → (s s2 : LockState) → (word t : ℕ) → Want → Type 0
FairReleaseComesTo r s s2 word t x =
    Owns s2 t x ⊎ (GivesToAll s s2 t ⊎ (LetsItGo s word t ⊎ WakesThem r s s2 t x))

-- a step of any thread, from w to v
pub record IsFair (w v : State) : Type 0 where
  pub gives : (t l : ℕ) → OwnerReleasesFairly w t l
      → OwnsOn v t l ⊎ (HandsMutexOver w v t l ⊎ LetsMutexGo w v t l)
  -- the waiter that it has taken was the first of the queue
  pub takes : (t l u : ℕ) → OwnerReleasesFairly w t l → IsTaken (lock_state v l) t u Exclusive
      → IsTaken (lock_state w l) t u Exclusive ⊎ (first_thread (lock_state w l).queue ≡ Some u)
  pub shared : (t l : ℕ) (x : Want) → GivesUpFairly w t l x
      → FairReleaseComesTo (rules_in w l) (lock_state w l) (lock_state v l) (word_at w l) t x
