-- While a thread is k-th in the queue of a mutex that is released fairly, at most k others come to own it.
use Rattle.std.specs.Prelude.{ℕ, Option, Some, None, if◌then◌else◌, ◌==◌, ◌+◌, ◌≡◌, ◌≢◌, ◌≤◌, ◌⊎◌, List, []}
use Rattle.std.specs.Prelude.{◌∷◌}
use Rattle.spec_locks.specs.declared.calls.Step.{Step}
use Rattle.spec_locks.specs.declared.kinds.Kind.TheVariants as kind
use Rattle.spec_locks.specs.Bypass.{AllReleaseFairly, ahead}
use Rattle.lot_steps.specs.Steps.{beside_of}
use Rattle.lot_machine.specs.Machine.{State, after, kind_at, place_at}
use Rattle.lot_laws.specs.Promises.{WaitsFor}
use Rattle.lot_laws.specs.Refinement.{lock_state, locks_of, owner_at}

-- a lock has an owner, which wasn't its owner before
abbrev pub newly_owned : Option ℕ → Option ℕ → ℕ
newly_owned before None = 0
newly_owned None (Some b) = 1
newly_owned (Some a) (Some b) = if a == b then 0 else 1

-- how often it has a new owner in these steps: it is handed over, or a thread comes in while it is free
abbrev pub new_owners : State → List Step → ℕ → ℕ
new_owners w [] l = 0
new_owners w (s ∷ ss) l = newly_owned (owner_at w l) (owner_at (after w s) l) + new_owners (after w s) ss l

-- a thread stands in the queue of a lock before, between and after these steps
abbrev pub StandsThroughout : State → List Step → ℕ → ℕ → Type 0
StandsThroughout w [] l t = WaitsFor w t l
StandsThroughout w (s ∷ ss) l t = WaitsFor w t l × StandsThroughout (after w s) ss l t

-- each call under way that releases the mutex does so fairly, and none of a condition variable names it
pub record IsGivenUpFairly (w : State) (l : ℕ) : Type 0 where
  pub calls : AllReleaseFairly (locks_of w) l
  pub apart : (t : ℕ) → beside_of (place_at w t) ≢ Some l

-- the mutex is given up fairly before each of these steps
abbrev pub FairlyThroughout : State → List Step → ℕ → Type 0
FairlyThroughout w [] l = Unit {0}
FairlyThroughout w (s ∷ ss) l = IsGivenUpFairly w l × FairlyThroughout (after w s) ss l

-- a fair mutex; and a plain one while each call gives it up fairly
abbrev pub IsReleasedFairly : State → List Step → ℕ → Type 0
IsReleasedFairly w ss l = (kind_at w l ≡ kind.Fair) ⊎ ((kind_at w l ≡ kind.Mutex) × FairlyThroughout w ss l)

-- While a thread stands in the queue of such a mutex, another comes to own it once at most, and once more for
-- each waiter ahead that has gone.
abbrev pub NobodyIsOvertaken : State → List Step → State → Type 0
NobodyIsOvertaken w ss v =
    (t l : ℕ) → IsReleasedFairly w ss l → StandsThroughout w ss l t
    → new_owners w ss l + ahead t (lock_state v l).queue ≤ ahead t (lock_state w l).queue + 1
