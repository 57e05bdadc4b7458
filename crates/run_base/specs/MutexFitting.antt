-- The holdings of a thread in a call of a mutex, at each place and at its end.
use Rattle.std.specs.Prelude.{ℕ, ◌≡◌, ◌<◌, ◌*◌, ◌⊎◌, Bool, true, false, List, [], ◌∷◌, Option, Some, None}
use Rattle.core_base.specs.Lines.{threads_of}
use Rattle.core_base.specs.declared.keys.Keys.TheVariants.{One}
use Rattle.core_base.specs.declared.wants.Waiter.{Waiter}
use Rattle.spec_locks.specs.declared.outcomes.Answer.{Answer}
use Rattle.spec_locks.specs.declared.outcomes.Answer.TheVariants as answers
use Rattle.steps_mutex.specs.MutexSteps.{is_timed, entered}
use Rattle.steps_mutex.specs.declared.places.MutexPlace.{MutexPlace}
use Rattle.steps_mutex.specs.declared.places.MutexPlace.TheVariants.{Lock, Unlock, UnlockFair, Bump, HandOff}
use Rattle.steps_mutex.specs.declared.hand_off.HandOffAt.{HandOffAt}
use Rattle.steps_mutex.specs.declared.hand_off.HandOffAt.TheVariants as hand_off
use Rattle.steps_mutex.specs.declared.lock.Entry.{Entry}
use Rattle.steps_mutex.specs.declared.lock.Entry.TheVariants as entry
use Rattle.steps_mutex.specs.declared.lock.LockAt.{LockAt}
use Rattle.steps_mutex.specs.declared.lock.LockAt.TheVariants as lock
use Rattle.steps_mutex.specs.declared.unlock.UnlockAt.{UnlockAt}
use Rattle.steps_mutex.specs.declared.unlock.UnlockAt.TheVariants as unlock
use Rattle.core_words.specs.Steps.{has, without}
use Rattle.core_words.specs.Views.{owning}
use Rattle.core_words.specs.declared.owners.Owner.TheVariants.{Exclusive}
use Rattle.core_words.specs.declared.owners.Ownership.{Ownership}
use Rattle.parking_lot_core.specs.declared.tokens.Did.TheVariants.{TakeFirst}
use Rattle.parking_lot_core.specs.declared.tokens.SectionRecord.{SectionRecord}
use Rattle.run_base.specs.Paths.{mutex_at}
use Rattle.run_base.specs.Stages.{HasDone, ThreadState, TookNobodyAt, entered_now, having_taken, is_there}
use Rattle.run_base.specs.Stages.{listed}

-- the goal of a call of a mutex: to enter, to end a release that has given the lock up, or to hand it over
pub data MutexPurpose : Type 0 where
  to_enter : Entry → MutexPurpose
  to_release : MutexPurpose
  to_hand_over : MutexPurpose

-- a bump enters again
abbrev pub hands_for : Bool → MutexPurpose
hands_for true = to_enter entry.Bump
hands_for false = to_hand_over

abbrev pub mutex_purpose_at : MutexPlace → MutexPurpose
mutex_purpose_at (Lock e retries at) = to_enter e
mutex_purpose_at UnlockFair = to_hand_over
mutex_purpose_at Bump = to_enter entry.Bump
mutex_purpose_at (HandOff bumps at) = hands_for bumps
mutex_purpose_at _ = to_release

-- a mutex that is owned
abbrev pub mutex_ownership : ℕ → Ownership
mutex_ownership n = owning (mutex_at n) Exclusive

-- the ownership of an entering thread beside the mutex: one that bumps had it as the call began
abbrev pub beside : ℕ → Entry → List Ownership → List Ownership
beside n entry.Bump base = without (mutex_ownership n) base
beside n _ base = base

-- a thread that owns this, outside all sections
abbrev pub Outside : List Ownership → ThreadState → Type 0
Outside owns st = (st.owns ≡ owns) × (st.inside ≡ None)

-- one that is in the section of the mutex's main key, where it has done nothing
abbrev pub Within : ℕ → List Ownership → ThreadState → Type 0
Within n owns st = (st.owns ≡ owns) × (st.inside ≡ entered_now (One (2 * n)))

-- A stage that has taken the first of the queue, if any. A taken waiter has no right yet.
abbrev pub Took : ℕ → Option Waiter → List ℕ → List Ownership → ThreadState → Type 0
Took n first rightless owns st = (st.owns ≡ owns)
    × (st.inside ≡ Some (having_taken (One (2 * n)) (TakeFirst (2 * n)) (listed first) rightless))

-- A stage that has taken some thread, or none. A taken waiter has no right yet.
abbrev pub HasTook : ℕ → Bool → List Ownership → ThreadState → Type 0
HasTook n any owns st = (first : Option Waiter) × (any ≡ is_there first)
    × Took n first (threads_of (listed first)) owns st

-- the section that was left last is one of this key, where the first of the queue was taken
abbrev pub TookAt : ℕ → Option SectionRecord → Type 0
TookAt n last = HasDone (2 * n) (TakeFirst (2 * n)) last

-- a release, after its subtraction
abbrev pub FitsUnlock : ℕ → List Ownership → UnlockAt → ThreadState → Type 0
FitsUnlock n base unlock.Subtract st = ⊥
FitsUnlock n base unlock.Enter st = Outside base st
FitsUnlock n base unlock.Take st = Within n base st
FitsUnlock n base (unlock.Clear any) st = HasTook n any base st
FitsUnlock n base (unlock.Leave any) st = HasTook n any base st

-- an owner that saw a waiter, until its store, and after that
abbrev pub FitsHandOff : ℕ → List Ownership → HandOffAt → ThreadState → Type 0
FitsHandOff n base hand_off.Enter st = (has (mutex_ownership n) base ≡ true) × Outside base st
FitsHandOff n base hand_off.Take st = (has (mutex_ownership n) base ≡ true) × Within n base st
FitsHandOff n base (hand_off.Store any none_left) st =
    (has (mutex_ownership n) base ≡ true) × HasTook n any base st
FitsHandOff n base (hand_off.Leave any) st =
    (first : Option Waiter) × (any ≡ is_there first)
    × Took n first [] (without (mutex_ownership n) base) st

-- `up` says that the time of the call is up
module _ (up : Type 0) where
  -- a thread that gives up is in a timed call
  abbrev pub GaveUp : Entry → Type 0
  GaveUp e = (is_timed e ≡ true) × up

  -- a thread that enters, beside what it owns
  abbrev pub FitsLock : ℕ → Entry → List Ownership → LockAt → ThreadState → Type 0
  FitsLock n e owns lock.First st = Outside owns st
  FitsLock n e owns lock.Load st = Outside owns st
  FitsLock n e owns (lock.Decide seen) st = (seen < 4) × Outside owns st
  FitsLock n e owns lock.Check st = Within n owns st
  FitsLock n e owns (lock.Leave parked) st = Within n owns st
  FitsLock n e owns lock.Asleep st = Outside owns st
  FitsLock n e owns lock.Accept st = Outside (mutex_ownership n ∷ owns) st
  FitsLock n e owns lock.Remove st = GaveUp e × Within n owns st
  FitsLock n e owns lock.Clear st = GaveUp e × Within n owns st
  FitsLock n e owns lock.GiveUp st = GaveUp e × Within n owns st
  FitsLock n e owns _ st = ⊥

  -- the ownership of a thread in a call of a mutex, which owned so much as it began to run. The first step of
  -- a release or a bump is taken before
  abbrev pub FitsMutex : ℕ → List Ownership → MutexPlace → ThreadState → Type 0
  FitsMutex n base (Lock e retries at) st = FitsLock n e (beside n e base) at st
  FitsMutex n base (Unlock at) st = FitsUnlock n base at st
  FitsMutex n base (HandOff bumps at) st = FitsHandOff n base at st
  FitsMutex n base _ st = ⊥

  -- the answer at its end is true
  abbrev pub IsMutexOver : ℕ → List Ownership → MutexPurpose → Answer → ThreadState → Type 0
  IsMutexOver n base (to_enter e) answer st =
      ((answer ≡ entered e) × Outside (mutex_ownership n ∷ beside n e base) st)
      ⊎ ((answer ≡ answers.No) × GaveUp e × Outside (beside n e base) st
      × TookNobodyAt n st.last)
  IsMutexOver n base to_release answer st =
      (answer ≡ answers.Ok) × Outside base st × TookAt n st.last
  IsMutexOver n base to_hand_over answer st = (answer ≡ answers.Ok)
      × Outside (without (mutex_ownership n) base) st × TookAt n st.last
