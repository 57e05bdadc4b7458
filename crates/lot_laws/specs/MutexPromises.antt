-- The promises of every state, in the words of a mutex.
use Rattle.std.specs.Prelude.{ℕ, true, false, Option, None, Some, ◌≡◌, ◌≢◌, ◌+◌, ◌*◌, ◌⊎◌, ◌↔◌}
use Rattle.core_base.specs.declared.keys.Keys.TheVariants.{One}
use Rattle.core_base.specs.declared.wants.Want.TheVariants.{Exclusive}
use Rattle.steps_base.specs.declared.acts.Act.TheVariants.{Enter, Sleep}
use Rattle.spec_locks.specs.declared.outcomes.Outcome.{Outcome}
use Rattle.spec_locks.specs.declared.outcomes.Outcome.TheVariants as told
use Rattle.steps_mutex.specs.MutexSteps.{is_parked}
use Rattle.lot_steps.specs.Steps.{act_of, owes_on}
use Rattle.spec_locks.specs.Locks.{one_if_some, standing}
use Rattle.spec_locks.specs.Purposes.{Notifies, Purpose, CondvarMemory, Releases, Waits}
use Rattle.spec_locks.specs.Sites.{Main}
use Rattle.lot_machine.specs.Machine.{State, place_at, word_at, kind_at}
use Rattle.lot_laws.specs.Refinement.{owner_at, lock_state, call_at}
use Rattle.lot_laws.specs.SitesOf.{is_mutex}
use Rattle.lot_laws.specs.Owing.{Owes, IsInside, IsWait, ReleasesLock, OwesSince}
use Rattle.lot_laws.specs.Promises.{WaitsFor, WaitHasReleased, IsAboutToMark, IsKept, mutex_seen}

-- a word says whether there is an owner, beside the parked bit
abbrev pub IsMutexWord : ℕ → Option ℕ → Type 0
IsMutexWord v o = (v ≡ one_if_some o) ⊎ (v ≡ one_if_some o + 2)

-- a call that is to wake a waiter of the mutex: it releases the mutex, or waits with it on a
-- condition variable, or notifies one that it has seen to show the mutex
abbrev pub WakesOne : Option Purpose → CondvarMemory → ℕ → Type 0
WakesOne (Some (Releases k x fair)) recalls l = (k ≡ l) × (x ≡ Exclusive) × (fair ≡ false)
WakesOne (Some (Waits k m timed)) recalls l = m ≡ l
WakesOne (Some (Notifies k all)) recalls l = mutex_seen recalls ≡ Some l
WakesOne purpose recalls l = ⊥

-- the call of a thread is a wait that has released the mutex
abbrev pub HasReleasedIt : State → ℕ → ℕ → Type 0
HasReleasedIt w t l = WaitHasReleased (call_at w t).purpose (call_at w t).released l Main

-- some thread, which is awake, owes a wake on the mutex in such a call, or was woken on it and is
-- about to try again; it stands in no queue and isn't taken, but for a wait that has released the
-- mutex and owes, which may be moved or taken
pub record HasDebtor (w : State) (l : ℕ) : Type 0 where
  pub debtor : ℕ
  pub debt : (Owes w debtor l Main
      × WakesOne (call_at w debtor).purpose (call_at w debtor).recalls l)
      ⊎ ((call_at w debtor).retries ≡ Some l)
  pub awake : act_of (place_at w debtor) ≢ Sleep
  pub stands_nowhere : (k : ℕ)
      → (standing debtor (lock_state w k) ≡ 0) ⊎ (HasReleasedIt w debtor l × Owes w debtor l Main)

-- a thread is shown to owe a wake on a lock
abbrev pub IsShownToOwe : State → ℕ → ℕ → Type 0
IsShownToOwe w t l = owes_on (place_at w t) l ≡ true

-- a call that releases the mutex, or a wait that has, and enters the section of its queue next
abbrev pub GoesToRelease : State → ℕ → ℕ → Type 0
GoesToRelease w t l = (act_of (place_at w t) ≡ Enter (One (2 * l)))
    × (ReleasesLock w t l ⊎ HasReleasedIt w t l)

pub record IsMutexKept (w : State) (l : ℕ) : Type 0 where
  -- the word says whether the mutex is owned
  pub coded : IsMutexWord (word_at w l) (owner_at w l)
  -- a waiter implies the parked bit, or a thread inside the section that has just moved it from a
  -- condition variable and is about to set the bit
  pub parked : (t : ℕ) → WaitsFor w t l
      → (is_parked (word_at w l) ≡ true)
      ⊎ ((u : ℕ) × IsInside w u l Main × IsAboutToMark w u l)
  -- a thread that is shown to owe a wake is inside the section of the queue, or releases the mutex, or has in
  -- a wait, on its way into it
  pub owing : (t : ℕ) → IsShownToOwe w t l → IsInside w t l Main ⊎ GoesToRelease w t l
  -- each thread inside does, and each on its way but for a wait, which may be about to lock the mutex again
  pub inside_owes : (t : ℕ) → IsInside w t l Main → IsShownToOwe w t l
  pub going_owes : (t : ℕ) → GoesToRelease w t l → IsShownToOwe w t l ⊎ IsWait (call_at w t).purpose
  -- a thread that waits for a mutex that nobody owns has a debtor
  pub nobody_forgotten : (t : ℕ) → WaitsFor w t l → owner_at w l ≡ None → HasDebtor w l

-- each promise says so of a mutex
abbrev pub MutexesAreKept : Type 0
MutexesAreKept = (w : State) (l : ℕ) → IsKept w → is_mutex (kind_at w l) ≡ true → IsMutexKept w l

-- ---------------------------------------------------------------- and of every step

-- a call that releases the mutex finds a word that says that somebody may wait, and goes on; a
-- wait, by the step with which it releases the mutex
abbrev pub SeesParkedBit : State → ℕ → ℕ → Outcome → State → Type 0
SeesParkedBit w t l o v = ReleasesLock w t l × (is_parked (word_at w l) ≡ true) × (o ≡ told.Step)
    × (IsWait (call_at w t).purpose → (call_at v t).released ≡ true)

-- the thread of a step from w to v begins and ends to owe by what it sees and where it is, and no
-- other thread does
pub record OwesMutexSince (w : State) (t l : ℕ) (o : Outcome) (v : State) : Type 0 where
  pub own : o ≢ told.NotNow → IsShownToOwe v t l ↔ (IsInside v t l Main ⊎ SeesParkedBit w t l o v)
  pub others : (u : ℕ) → u ≢ t → IsShownToOwe v u l ↔ IsShownToOwe w u l

-- the promises of every step say so of a mutex
abbrev pub MutexesOwe : Type 0
MutexesOwe =
    (w v : State) (t l : ℕ) (o : Outcome) → OwesSince w t o v → IsKept v
    → is_mutex (kind_at w l) ≡ true
    → is_mutex (kind_at v l) ≡ true → OwesMutexSince w t l o v
