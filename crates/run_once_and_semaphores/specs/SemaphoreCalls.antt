-- The calls of a semaphore, by the steps that they took.
use Rattle.std.specs.Prelude.{ℕ, ◌≡◌, ◌<◌, ◌-◌, Bool, true, false, List, [], ◌++◌, Option, Some, None}
use Rattle.spec_locks.specs.Codes.{has_parked}
use Rattle.core_base.specs.declared.ops.Op.TheVariants.{Add, Exchange, Load}
use Rattle.spec_locks.specs.declared.calls.SemaphoreCall.{SemaphoreCall}
use Rattle.spec_locks.specs.declared.outcomes.Answer.{Answer}
use Rattle.spec_locks.specs.declared.outcomes.Answer.TheVariants as answers
use Rattle.steps_semaphore.specs.SemaphoreSteps.{semaphore_first}
use Rattle.steps_semaphore.specs.declared.acquire.AcquireAt.TheVariants as acquire
use Rattle.steps_semaphore.specs.declared.tries.TryAt.TheVariants as tries
use Rattle.steps_semaphore.specs.declared.release.ReleaseAt.TheVariants as release
use Rattle.steps_semaphore.specs.declared.places.SemaphorePlace.TheVariants.{Acquire, Try, Release}
use Rattle.lot_steps.specs.declared.places.Place.{Place}
use Rattle.lot_steps.specs.declared.places.Place.TheVariants.{Semaphore}
use Rattle.core_words.specs.Lots.{IsWordOf}
use Rattle.core_words.specs.declared.views.WordStep.{WordStep}
use Rattle.core_words.specs.declared.words.Word.{Word}
use Rattle.core_words.specs.declared.words.WordKind.TheVariants as kinds
use Rattle.parking_lot_core.specs.Tokens.{IsTokenOf, last_of, told_of}
use Rattle.parking_lot_core.specs.declared.lot.ParkingLot.{ParkingLot}
use Rattle.parking_lot_core.specs.declared.tokens.SectionRecord.{SectionRecord}
use Rattle.parking_lot_core.specs.declared.tokens.Token.{Token}
use Rattle.run_base.specs.MutexFitting.{TookAt}
use Rattle.run_base.specs.Courses.{Courses, trail_of}
use Rattle.run_base.specs.Paths.{at_semaphore, semaphore_at, step}
use Rattle.run_base.specs.Telling.{owns_of, steps_of}

-- a word of a semaphore, whatever its permits are
abbrev pub IsSemaphore : Word → Type 0
IsSemaphore word = (permits : ℕ) × (word.kind ≡ kinds.Semaphore permits)

-- a thread of the lot, and a semaphore of it whose keys are numbers
abbrev pub MeetsSemaphore : ParkingLot → Token → Word → Type 0
MeetsSemaphore lot token word = IsTokenOf lot token × IsWordOf lot.words word × IsSemaphore word
    × (word.number < 9223372036854775808)

-- where a call begins, and where it stands that has seen this
abbrev pub semaphore_begin : ℕ → SemaphoreCall → Place
semaphore_begin n call = Semaphore n (semaphore_first call)

abbrev pub waiting : ℕ → Bool → Place
waiting n timed = Semaphore n (Acquire timed false acquire.Load)

abbrev pub deciding : ℕ → Bool → ℕ → Place
deciding n timed seen = Semaphore n (Acquire timed false (acquire.Decide seen))

abbrev pub try_place : ℕ → ℕ → Place
try_place n seen = Semaphore n (Try (tries.Decide seen))

-- where a release goes on that saw that a thread may be parked
abbrev pub waking : ℕ → Place
waking n = Semaphore n (Release release.Enter)

-- two tokens are of one thread, which owns what it did
abbrev pub StaysAs : Token → Token → Type 0
StaysAs old new = (new.number ≡ old.number) × (owns_of new ≡ owns_of old)

-- a thread loaded the word once and found this
abbrev pub HasLooked : ℕ → ℕ → Token → Token → Type 0
HasLooked n seen old new = StaysAs old new × (last_of new ≡ None)
    × (steps_of new ≡ steps_of old ++ step (semaphore_at n) Load seen) × (told_of new ≡ told_of old)

-- a thread exchanged a value for the one that has a permit less, and found this
abbrev pub HasFound : ℕ → ℕ → ℕ → Token → Token → Type 0
HasFound n seen found old new = (new.number ≡ old.number) × (last_of new ≡ None)
    × (steps_of new ≡ steps_of old ++ step (semaphore_at n) (Exchange seen (seen - 2)) found)
    × (told_of new ≡ told_of old)

-- a thread gave a permit back, and found this
abbrev pub HasAdded : ℕ → ℕ → Token → Token → Type 0
HasAdded n seen old new = (new.number ≡ old.number)
    × (steps_of new ≡ steps_of old ++ step (semaphore_at n) (Add 2) seen)
    × (told_of new ≡ told_of old)

-- the steps of a thread, and what the queues told it, lead from a place of its call to an answer
abbrev pub HasGone : ℕ → Place → Answer → Token → Token → Type 0
HasGone n p answer old new =
    Courses (at_semaphore n) old.number p (trail_of old None) (trail_of new None) answer

-- items that lead from the beginning of the call
abbrev pub HasWalkedSemaphore : ℕ → SemaphoreCall → Answer → Token → Token → Type 0
HasWalkedSemaphore n call answer old new = HasGone n (semaphore_begin n call) answer old new

-- a call that waits, up to a deadline or without one
abbrev pub HasAcquired : ℕ → Bool → Answer → Token → Token → Type 0
HasAcquired n timed answer old new = HasGone n (waiting n timed) answer old new

-- the answer of a call that gives a permit, or none
abbrev pub permit_answer : {P : Type 0} → Answer → Option P → Answer
permit_answer given None = answers.No
permit_answer given (Some permit) = given

-- a release whose addition saw that a thread may be parked left the section in which it took the
-- first of the queue, and else there was no further step
abbrev pub WokeIfParked : ℕ → Bool → List WordStep → Option SectionRecord → Type 0
WokeIfParked n true more last = TookAt n last
WokeIfParked n false more last = (more ≡ []) × (last ≡ None)

abbrev pub HasReleased : ℕ → Token → Token → Type 0
HasReleased n old new = (seen : ℕ) × (more : List WordStep)
    × (steps_of new ≡ (steps_of old ++ step (semaphore_at n) (Add 2) seen) ++ more)
    × WokeIfParked n (has_parked seen) more (last_of new)
