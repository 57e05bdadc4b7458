-- The effects of the calls of a mutex.
use Rattle.std.specs.Prelude.{ℕ, ◌≡◌, ◌≢◌, ◌<◌, ◌==◌, not, Bool, true, false, List, [], ◌++◌, Option, None}
use Rattle.core_base.specs.declared.ops.Op.{Op}
use Rattle.core_base.specs.declared.ops.Op.TheVariants.{Load, Sub, Or, Exchange}
use Rattle.spec_locks.specs.declared.calls.MutexCall.{MutexCall}
use Rattle.spec_locks.specs.declared.calls.MutexCall.TheVariants as call
use Rattle.steps_mutex.specs.MutexSteps.{mutex_first, is_locked, is_parked}
use Rattle.steps_mutex.specs.declared.lock.Entry.TheVariants as entry
use Rattle.lot_steps.specs.declared.places.Place.{Place}
use Rattle.lot_steps.specs.declared.places.Place.TheVariants.{Mutex}
use Rattle.core_words.specs.Lots.{IsWordOf}
use Rattle.core_words.specs.Steps.{has}
use Rattle.core_words.specs.declared.owners.Ownership.{Ownership}
use Rattle.core_words.specs.declared.views.WordStep.{WordStep}
use Rattle.core_words.specs.declared.words.Word.{Word}
use Rattle.core_words.specs.declared.words.WordKind.TheVariants as kinds
use Rattle.parking_lot_core.specs.declared.lot.ParkingLot.{ParkingLot}
use Rattle.parking_lot_core.specs.declared.tokens.SectionRecord.{SectionRecord}
use Rattle.run_base.specs.MutexFitting.{MutexPurpose, to_enter, to_release, to_hand_over, TookAt}
use Rattle.run_base.specs.MutexFitting.{mutex_ownership}
use Rattle.spec_locks.specs.declared.outcomes.Answer.{Answer}
use Rattle.parking_lot_core.specs.Tokens.{IsTokenOf, told_of}
use Rattle.parking_lot_core.specs.declared.tokens.Token.{Token}
use Rattle.run_base.specs.Courses.{Courses, trail_of}
use Rattle.run_base.specs.Paths.{step, mutex_at, at_mutex}
use Rattle.run_base.specs.Telling.{steps_of}

-- a thread of the lot, and a mutex of it whose keys are numbers
abbrev pub MeetAt : ParkingLot → Token → Word → Type 0
MeetAt lot token word = IsTokenOf lot token × IsWordOf lot.words word
    × (word.kind ≡ kinds.Mutex) × (word.number < 9223372036854775808)

-- where a call of a mutex begins
abbrev pub beginning : ℕ → MutexCall → Place
beginning n c = Mutex n (mutex_first false c)

-- the first operation of a call on the word
abbrev pub first_op : MutexCall → Op
first_op call.Lock = Exchange 0 1
first_op call.LockTimed = Exchange 0 1
first_op call.TryLock = Or 1
first_op call.Unlock = Sub 1
first_op call.UnlockFair = Exchange 1 0
first_op call.Bump = Load

-- the aim of a call after its first operation
abbrev pub purpose_in : MutexCall → MutexPurpose
purpose_in call.Lock = to_enter entry.Lock
purpose_in call.LockTimed = to_enter entry.LockTimed
purpose_in call.UnlockFair = to_hand_over
purpose_in call.Bump = to_enter entry.Bump
purpose_in _ = to_release

-- a call goes on after the value that its first operation saw; a thread that is to hand the mutex over owns
-- it
abbrev pub IsUnfinished : ℕ → MutexCall → ℕ → List Ownership → Type 0
IsUnfinished n call.Lock seen owns = 0 < seen
IsUnfinished n call.LockTimed seen owns = 0 < seen
IsUnfinished n call.TryLock seen owns = ⊥
IsUnfinished n call.Unlock seen owns = is_parked seen ≡ true
IsUnfinished n call.UnlockFair seen owns = (seen ≢ 1) × (has (mutex_ownership n) owns ≡ true)
IsUnfinished n call.Bump seen owns = (is_parked seen ≡ true) × (has (mutex_ownership n) owns ≡ true)

-- a thread that saw a waiter left the section in which it took the first of the queue; one that saw none took
-- no further step
abbrev pub TookIfParked : ℕ → Bool → List WordStep → Option SectionRecord → Type 0
TookIfParked n true more last = TookAt n last
TookIfParked n false more last = (more ≡ []) × (last ≡ None)

-- whether the first operation of a release saw a waiter
abbrev pub saw_waiter : MutexCall → ℕ → Bool
saw_waiter call.UnlockFair seen = not (seen == 1)
saw_waiter _ seen = is_parked seen

-- a release took a waiter by what its first operation saw
abbrev pub TookIfSeen : ℕ → MutexCall → List WordStep → List WordStep → Option SectionRecord → Type 0
TookIfSeen n c old new last = (seen : ℕ) × (more : List WordStep)
    × (new ≡ (old ++ step (mutex_at n) (first_op c) seen) ++ more)
    × TookIfParked n (saw_waiter c seen) more last

-- the word was loaded once, and told that the mutex is locked or not
abbrev pub SawWhetherLocked : ℕ → Bool → List WordStep → List WordStep → Type 0
SawWhetherLocked n locked old new = (seen : ℕ) × (new ≡ old ++ step (mutex_at n) Load seen)
    × (is_locked seen ≡ locked)

-- the call of a fair mutex: its unlock hands over
abbrev pub fairly : MutexCall → MutexCall
fairly call.Unlock = call.UnlockFair
fairly c = c

-- the steps of a call, and what the queues told it, lead from its beginning to the answer
abbrev pub HasWalkedMutex : ℕ → MutexCall → Answer → Token → Token → Type 0
HasWalkedMutex n c answer old new =
    Courses (at_mutex n) old.number (beginning n c) (trail_of old None) (trail_of new None) answer

-- The call's steps and tellings after its first step, which was taken before and saw this.
abbrev pub WalksAfter : ℕ → MutexCall → ℕ → Token → Token → Answer → Type 0
WalksAfter n c seen old new answer = (before : Token) → old.number ≡ before.number
    → steps_of old ≡ steps_of before ++ step (mutex_at n) (first_op c) seen
    → told_of old ≡ told_of before
    → HasWalkedMutex n c answer before new
