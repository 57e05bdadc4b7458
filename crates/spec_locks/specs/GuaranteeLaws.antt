-- The consequences of the guarantees, each in one sentence.
use Rattle.std.specs.Prelude.{ℕ, Bool, true, Some, None, ◌≡◌, ◌≢◌, ◌≤◌, ◌⊎◌, List, [], ◌∷◌}
use Rattle.spec_locks.specs.declared.calls.Step.{Step}
use Rattle.spec_locks.specs.declared.kinds.Kind.{Kind}
use Rattle.spec_locks.specs.declared.outcomes.Answer.{Answer}
use Rattle.spec_locks.specs.declared.outcomes.Answer.TheVariants as answer
use Rattle.spec_locks.specs.declared.outcomes.Outcome.{Outcome}
use Rattle.spec_locks.specs.declared.outcomes.Outcome.TheVariants as outcome
use Rattle.spec_locks.specs.Locks.{Condvar, times}
use Rattle.spec_locks.specs.Purposes.{Blank, Notifies, Saw}
use Rattle.spec_locks.specs.Runs.{LocksState, AreLockStates, IsBeingEmptied, IsOpening, IsRun, IsStep, MayGo}
use Rattle.spec_locks.specs.EachState.{IsAwake, StateHolds}
use Rattle.spec_locks.specs.Rest.{IsQuiet, WaitersWaitRightly, sort_in}
use Rattle.spec_locks.specs.Guarantees.{IsGuaranteed}
use Rattle.spec_locks.specs.Headline.{IsSafe, MayTell}

-- ---------------------------------------------------------------- exclusion

-- In each state of each run of the abstract locks owners exclude each other.
abbrev pub OwnersExcludeInRuns : Type 0
OwnersExcludeInRuns =
    (w v : LocksState) (steps : List Step) (told : List Outcome) → IsOpening w → IsRun w steps told v
    → AreLockStates v

-- ---------------------------------------------------------------- no stuck world

-- A thread in a call that is awake and runs no closure can go on, or another can.
abbrev pub SomebodyGoes : Type 0
SomebodyGoes =
    (w : LocksState) (full : ℕ → Bool) (t : ℕ) → IsSafe w full → (w.calls t).purpose ≢ None
    → IsAwake (w.stances t) → (u : ℕ) × MayGo w u

-- ---------------------------------------------------------------- no lost wake-up

-- Where no thread has anything to do, each waiter waits for an owner, a permit, a run or a
-- notification: nobody waits for a lock that is open.
abbrev pub QuietWorldsRest : Type 0
QuietWorldsRest = (w : LocksState) (full : ℕ → Bool) → IsSafe w full → IsQuiet w → WaitersWaitRightly w full

-- ---------------------------------------------------------------- no lost notification

-- all that wait do so with another mutex than the one that it has seen
pub record WaitWithAnother (w v : LocksState) (t c : ℕ) : Type 0 where
  pub mutex : ℕ
  pub shown : (v.locks c).shown ≡ Some mutex
  pub unseen : (w.calls t).recalls ≢ Saw mutex

-- the answer of a notification that has moved nobody
abbrev pub TellsNobody : Outcome → Type 0
TellsNobody o = (o ≡ outcome.End answer.No)
    ⊎ (o ≡ outcome.End (answer.Number 0))

-- A notification answers that it has moved nobody only where nobody waits, all wait with another mutex
-- than it has seen, or a notification of all is about to move them.
abbrev pub NoNotificationIsLost : Type 0
NoNotificationIsLost =
    (w v : LocksState) (s : Step) (o : Outcome) (c : ℕ) (all : Bool) → sort_in v c ≡ Condvar
    → IsStep w s o v → (w.calls s.thread).purpose ≡ Some (Notifies c all) → TellsNobody o
    → ((v.locks c).queue ≡ []) ⊎ (WaitWithAnother w v s.thread c ⊎ IsBeingEmptied v c)

-- a thread stands in the list of a condition variable, which another notifies all of
pub record IsToBeReached (w : LocksState) (c t u : ℕ) : Type 0 where
  pub sort : sort_in w c ≡ Condvar
  pub stands : 1 ≤ times t (w.locks c).queue
  pub notifies : (w.calls u).purpose ≡ Some (Notifies c true)
  pub safe : (full : ℕ → Bool) × IsSafe w full

-- A run whose steps each keep this.
abbrev pub GoesOnSo : ℕ → ℕ → ℕ → LocksState → List Step → List Outcome → LocksState → Type 0
GoesOnSo c t u w [] [] v = v ≡ w
GoesOnSo c t u w (s ∷ ss) (o ∷ os) v =
    (x : LocksState) × IsStep w s o x × IsToBeReached x c t u × GoesOnSo c t u x ss os v
GoesOnSo c t u w ss os v = ⊥

-- A waiter that is in the list as a notification of all begins, and is there until it has answered, is about
-- to be moved by another. Each other waiter is moved by then, or its time was up.
abbrev pub NotificationsReach : Type 0
NotificationsReach =
    (c t u : ℕ) (w v z : LocksState) (steps : List Step) (told : List Outcome) (s : Step) (a : Answer)
    → IsToBeReached w c t u → (w.calls u).recalls ≡ Blank → GoesOnSo c t u w steps told v
    → s.thread ≡ u → IsStep v s (outcome.End a) z → sort_in z c ≡ Condvar
    → 1 ≤ times t (z.locks c).queue → ((full : ℕ → Bool) × IsSafe z full)
    → IsBeingEmptied z c

-- ---------------------------------------------------------------- the first page follows of the second

abbrev pub SafeStatesHold : Type 0
SafeStatesHold = (w : LocksState) (full : ℕ → Bool) → IsSafe w full → StateHolds w full

abbrev pub HeadlineGuarantees : Type 0
HeadlineGuarantees =
    (kinds : List Kind) (threads : ℕ) (steps : List Step) (told : List Outcome)
    → MayTell kinds threads steps told
    → (states : ℕ → LocksState) × IsGuaranteed kinds threads states steps told
