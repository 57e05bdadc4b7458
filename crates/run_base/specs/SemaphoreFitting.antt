-- The holdings of a thread in a call of a semaphore, at each place and at its end.
use Rattle.std.specs.Prelude.{ℕ, ◌≡◌, Bool, true, false, List, ◌∷◌, ◌++◌}
use Rattle.core_base.specs.declared.ops.Op.{Op}
use Rattle.spec_locks.specs.declared.outcomes.Answer.{Answer}
use Rattle.spec_locks.specs.declared.outcomes.Answer.TheVariants as answers
use Rattle.steps_semaphore.specs.SemaphoreSteps.{is_free}
use Rattle.steps_semaphore.specs.declared.acquire.AcquireAt.{AcquireAt}
use Rattle.steps_semaphore.specs.declared.acquire.AcquireAt.TheVariants as acquire
use Rattle.steps_semaphore.specs.declared.tries.TryAt.{TryAt}
use Rattle.steps_semaphore.specs.declared.tries.TryAt.TheVariants as tries
use Rattle.steps_semaphore.specs.declared.release.ReleaseAt.{ReleaseAt}
use Rattle.steps_semaphore.specs.declared.release.ReleaseAt.TheVariants as release
use Rattle.steps_semaphore.specs.declared.places.SemaphorePlace.{SemaphorePlace}
use Rattle.steps_semaphore.specs.declared.places.SemaphorePlace.TheVariants.{Acquire, Try, Release}
use Rattle.core_words.specs.Views.{owning}
use Rattle.core_words.specs.declared.owners.Owner.TheVariants.{Shared}
use Rattle.core_words.specs.declared.owners.Ownership.{Ownership}
use Rattle.core_words.specs.declared.views.WordStep.{WordStep}
use Rattle.run_base.specs.MutexFitting.{HasTook, Outside, TookAt, Within}
use Rattle.run_base.specs.Paths.{semaphore_at, step}
use Rattle.run_base.specs.Stages.{ThreadState, TookNobodyAt}

-- the goal of a call of a semaphore: to acquire a permit, up to a deadline or without one, to try to, or to
-- end a release that has given its permit back
pub data SemaphorePurpose : Type 0 where
  to_acquire : (timed : Bool) → SemaphorePurpose
  to_try : SemaphorePurpose
  to_release : SemaphorePurpose

abbrev pub semaphore_purpose_at : SemaphorePlace → SemaphorePurpose
semaphore_purpose_at (Acquire timed retries at) = to_acquire timed
semaphore_purpose_at (Try at) = to_try
semaphore_purpose_at (Release at) = to_release

-- a permit that is held
abbrev pub permit : ℕ → Ownership
permit l = owning (semaphore_at l) Shared

-- a try that fails saw no permit free by its last step
abbrev pub SawNoneFree : ℕ → List WordStep → Type 0
SawNoneFree l steps = (before : List WordStep) × (op : Op) × (seen : ℕ) × (is_free seen ≡ false)
    × (steps ≡ before ++ step (semaphore_at l) op seen)

abbrev pub FitsTry : List Ownership → TryAt → ThreadState → Type 0
FitsTry base tries.Load st = Outside base st
FitsTry base (tries.Decide seen) st = (is_free seen ≡ true) × Outside base st

-- a release, after its addition
abbrev pub FitsRelease : ℕ → List Ownership → ReleaseAt → ThreadState → Type 0
FitsRelease l base release.Add st = ⊥
FitsRelease l base release.Enter st = Outside base st
FitsRelease l base release.Take st = Within l base st
FitsRelease l base (release.Clear any) st = HasTook l any base st
FitsRelease l base (release.Leave any) st = HasTook l any base st

-- the answer of a try is true
abbrev pub TryAnswer : ℕ → List Ownership → Answer → ThreadState → Type 0
TryAnswer l base answers.Yes st = Outside (permit l ∷ base) st
TryAnswer l base answers.No st = Outside base st × SawNoneFree l st.steps
TryAnswer l base answer st = ⊥

-- `up` says that the time of the call is up
module _ (up : Type 0) where
  abbrev pub GaveUp : Bool → Type 0
  GaveUp timed = (timed ≡ true) × up

  -- a thread that waits for a permit
  abbrev pub FitsAcquire : ℕ → Bool → List Ownership → AcquireAt → ThreadState → Type 0
  FitsAcquire l timed base acquire.Load st = Outside base st
  FitsAcquire l timed base (acquire.Decide seen) st = Outside base st
  FitsAcquire l timed base acquire.Check st = Within l base st
  FitsAcquire l timed base (acquire.Leave parked) st = Within l base st
  FitsAcquire l timed base acquire.Asleep st = Outside base st
  FitsAcquire l timed base (acquire.Taken by) st = ⊥
  FitsAcquire l timed base acquire.Remove st = GaveUp timed × Within l base st
  FitsAcquire l timed base acquire.Clear st = GaveUp timed × Within l base st
  FitsAcquire l timed base acquire.GiveUp st = GaveUp timed × Within l base st

  -- the ownership of a thread in a call of a semaphore, which owned so much as it began to run
  abbrev pub FitsSemaphore : ℕ → List Ownership → SemaphorePlace → ThreadState → Type 0
  FitsSemaphore l base (Acquire timed retries at) st = FitsAcquire l timed base at st
  FitsSemaphore l base (Try at) st = FitsTry base at st
  FitsSemaphore l base (Release at) st = FitsRelease l base at st

  -- the answer of a call that acquires is true
  abbrev pub AcquireAnswer : ℕ → Bool → List Ownership → Answer → ThreadState → Type 0
  AcquireAnswer l timed base answers.Ok st =
      (timed ≡ false) × Outside (permit l ∷ base) st
  AcquireAnswer l timed base answers.Yes st = (timed ≡ true) × Outside (permit l ∷ base) st
  AcquireAnswer l timed base answers.No st =
      GaveUp timed × Outside base st × TookNobodyAt l st.last
  AcquireAnswer l timed base answer st = ⊥

  abbrev pub IsSemaphoreOver : ℕ → List Ownership → SemaphorePurpose → Answer → ThreadState → Type 0
  IsSemaphoreOver l base (to_acquire timed) answer st = AcquireAnswer l timed base answer st
  IsSemaphoreOver l base to_try answer st = TryAnswer l base answer st
  IsSemaphoreOver l base to_release answer st =
      (answer ≡ answers.Ok) × Outside base st × TookAt l st.last
