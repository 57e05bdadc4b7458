-- The calls of a condition variable, by the steps that they took.
use Rattle.std.specs.Prelude.{ℕ, ◌≡◌, ◌≢◌, ◌<◌, ◌==◌, ◌*◌, ◌+◌, ◌++◌, ◌⊎◌, Bool, true, false, cond, List}
use Rattle.std.specs.Prelude.{None, Ok, Err, if◌then◌else◌}
use Rattle.std.specs.declared.result.Result.{Result}
use Rattle.core_base.specs.declared.faults.Fault.{Fault}
use Rattle.core_base.specs.declared.faults.Fault.TheVariants as faults
use Rattle.core_base.specs.declared.ops.Op.TheVariants.{Load}
use Rattle.spec_locks.specs.declared.outcomes.Answer.{Answer}
use Rattle.spec_locks.specs.declared.outcomes.Answer.TheVariants.{Number, TimedOut, TwoMutexes, Yes}
use Rattle.steps_condvar.specs.CondvarSteps.{notified, waited}
use Rattle.steps_condvar.specs.declared.notify.NotifyAt.TheVariants as notify
use Rattle.steps_condvar.specs.declared.places.CondvarPlace.TheVariants.{Wait, Look, Notify}
use Rattle.steps_condvar.specs.declared.wait.WaitAt.TheVariants as wait
use Rattle.lot_steps.specs.declared.places.Place.{Place}
use Rattle.lot_steps.specs.declared.places.Place.TheVariants.{Condvar}
use Rattle.core_words.specs.Codes.{ShowsBeside}
use Rattle.core_words.specs.Lots.{IsWordOf}
use Rattle.core_words.specs.declared.views.WordStep.{WordStep}
use Rattle.core_words.specs.declared.words.Word.{Word}
use Rattle.core_words.specs.declared.words.WordKind.TheVariants as kind
use Rattle.parking_lot_core.specs.Tokens.{IsTokenOf, last_of, told_of}
use Rattle.parking_lot_core.specs.declared.lot.ParkingLot.{ParkingLot}
use Rattle.parking_lot_core.specs.declared.tokens.Token.{Token}
use Rattle.run_base.specs.Calls.{MeetAt}
use Rattle.run_base.specs.CondvarFitting.{move_did}
use Rattle.run_base.specs.Courses.{Courses, trail_of}
use Rattle.run_base.specs.Paths.{condvar_at, mutex_at, step}
use Rattle.run_base.specs.Stages.{HasLeft, TookNobodyAt}
use Rattle.run_base.specs.Telling.{owns_of, steps_of}

-- a thread of the lot, a mutex of it, and a condition variable of it of another number, whose keys
-- are numbers
abbrev pub MeetBeside : ParkingLot → Token → Word → Word → Type 0
MeetBeside lot token condvar mutex = MeetAt lot token mutex × IsWordOf lot.words condvar
    × (condvar.kind ≡ kind.Condvar) × (condvar.number < 9223372036854775808)
    × (condvar.number ≢ mutex.number)

-- where the word of each lock of such a call stands
abbrev pub at_condvar : ℕ → ℕ → ℕ → ℕ
at_condvar number mutex lock = cond (mutex == lock) (mutex_at mutex) (condvar_at number)

-- where a wait begins
abbrev pub wait_begin : ℕ → ℕ → Bool → Place
wait_begin c m timed = Condvar c (Wait m timed wait.Enter)

-- the steps that a thread took on the words of the condition variable and of the mutex, and what the
-- queues told it, lead from the beginning of a wait to its answer
abbrev pub HasWaited : ℕ → ℕ → Bool → Answer → Token → Token → Type 0
HasWaited c m timed answer old new = Courses (at_condvar c m) old.number (wait_begin c m timed)
    (trail_of old None) (trail_of new None) answer

-- The place at which a notification goes on that has seen a mutex.
abbrev pub notify_slow : ℕ → ℕ → Bool → Place
notify_slow c m all = Condvar c (Notify all m notify.Enter)

abbrev pub HasNotified : ℕ → ℕ → Bool → Answer → Token → Token → Type 0
HasNotified c m all answer old new = Courses (at_condvar c m) old.number (notify_slow c m all)
    (trail_of old None) (trail_of new None) answer

-- a thread of the lot, and a condition variable of it whose keys are numbers
abbrev pub MeetsCondvar : ParkingLot → Token → Word → Type 0
MeetsCondvar lot token condvar = IsTokenOf lot token × IsWordOf lot.words condvar
    × (condvar.kind ≡ kind.Condvar) × (condvar.number < 9223372036854775808)

abbrev pub notify_begin : ℕ → Bool → Place
notify_begin c all = Condvar c (Look all)

-- a thread loaded the word once and found this
abbrev pub HasLooked : ℕ → ℕ → ℕ → Token → Token → Type 0
HasLooked words c seen old new =
    (steps_of new ≡ steps_of old ++ step (condvar_at c) Load seen) × (owns_of new ≡ owns_of old)
    × ShowsBeside words c seen × (told_of new ≡ told_of old) × (new.number ≡ old.number)

-- the steps of a notification, and what the queues told it, lead to its answer, beside the mutex that
-- it saw, if any
abbrev pub NotifiesBy : ℕ → Bool → Answer → Token → Token → Type 0
NotifiesBy c all answer old new = (m : ℕ) × Courses (at_condvar c m) old.number (notify_begin c all)
    (trail_of old None) (trail_of new None) answer

-- a thread that had taken these steps has taken more since, or none
abbrev pub HasGoneOn : List WordStep → Token → Type 0
HasGoneOn old new = (more : List WordStep) × (steps_of new ≡ old ++ more)

-- a thread whose first look saw this went on: its last step looked again and saw another value, and
-- it did nothing in the sections that it left
abbrev pub LookedElse : ℕ → ℕ → List WordStep → Token → Type 0
LookedElse c first old new = HasGoneOn old new × ((before : List WordStep) × (seen : ℕ)
    × (steps_of new ≡ before ++ step (condvar_at c) Load seen) × (seen ≢ first)
    × TookNobodyAt c (last_of new))

-- a notification whose first look saw this looked again and saw another value, or it left both
-- sections with a record of the move from the condition variable to the mutex that is shown so; a thread that
-- notifies all tells the record's number, which is 0 where it found none waiting
abbrev pub TellsMoved : ℕ → Bool → ℕ → Answer → Token → Token → Type 0
TellsMoved c all first answer old new =
    ((answer ≡ notified all 0) × LookedElse c first (steps_of old) new)
    ⊎ ((m : ℕ) × (locked : Bool) × (number : ℕ) × (first ≡ m + 1)
    × (answer ≡ (if all then Number number else Yes))
    × HasLeft (2 * c) (move_did all locked c m) number (last_of new) × HasGoneOn (steps_of old) new)

-- the course of a raw wait leads to its answer; a mutex of the condition variable's own number, which
-- nobody draws, is refused at once
abbrev pub WaitsBy : ℕ → ℕ → Bool → Answer → Token → Token → Type 0
WaitsBy c m timed answer old new = HasWaited c m timed answer old new
    ⊎ ((c ≡ m) × (answer ≡ TwoMutexes) × (steps_of new ≡ steps_of old))

-- a wait answers that another mutex is shown, or whether its time was up
abbrev pub AnswersWait : Bool → Answer → Type 0
AnswersWait timed answer = (answer ≡ TwoMutexes) ⊎ ((late : Bool) × (answer ≡ waited timed late))

-- the record that it gives with its answer
abbrev pub given_back : {G : Type 0} → Answer → G → Result G (Fault × G)
given_back TwoMutexes guard = Err (faults.TwoMutexes, guard)
given_back answer guard = Ok guard

abbrev pub timed_given_back : {G : Type 0} → Answer → G → Result (G × Bool) (Fault × G)
timed_given_back TwoMutexes guard = Err (faults.TwoMutexes, guard)
timed_given_back TimedOut guard = Ok (guard, true)
timed_given_back answer guard = Ok (guard, false)

-- the number for one that notifies all, and whether it is some for one that notifies the first
abbrev pub IsNumber : Bool → ℕ → ℕ → Type 0
IsNumber true n number = n ≡ number
IsNumber false n number = n ≡ 1

-- the one look of a notification saw that nobody waits, or its second look another value than its first
abbrev pub SawNoneToMove : ℕ → Token → Token → Type 0
SawNoneToMove c old new = (steps_of new ≡ steps_of old ++ step (condvar_at c) Load 0)
    ⊎ ((first : ℕ) × LookedElse c first (steps_of old ++ step (condvar_at c) Load first) new)

-- a notification moved nobody and saw that there is none to move, or left both queues with this many, which
-- went to the mutex that its first look saw
abbrev pub WaitersMoved : ℕ → Bool → ℕ → Token → Token → Type 0
WaitersMoved c all n old new = ((n ≡ 0) × SawNoneToMove c old new)
    ⊎ ((m : ℕ) × (locked : Bool) × (number : ℕ) × IsNumber all n number
    × HasLeft (2 * c) (move_did all locked c m) number (last_of new)
    × HasGoneOn (steps_of old ++ step (condvar_at c) Load (m + 1)) new)
