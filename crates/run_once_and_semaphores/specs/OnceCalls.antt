-- The calls of a `Once`, by the steps that they took.
use Rattle.std.specs.Prelude.{ℕ, ◌≡◌, ◌<◌, Bool, true, false, List, [], ◌++◌, Option, None}
use Rattle.spec_locks.specs.Codes.{is_marked}
use Rattle.steps_base.specs.declared.acts.Reply.TheVariants.{Value}
use Rattle.core_base.specs.declared.ops.Op.TheVariants.{Load, Swap}
use Rattle.spec_locks.specs.declared.calls.OnceCall.{OnceCall}
use Rattle.spec_locks.specs.declared.calls.OnceCall.TheVariants.{CallOnce}
use Rattle.steps_once.specs.OnceSteps.{ended, once_first, state_before, word_after}
use Rattle.steps_once.specs.declared.run.RunAt.TheVariants as run
use Rattle.steps_once.specs.declared.places.OncePlace.TheVariants.{Run}
use Rattle.lot_steps.specs.declared.places.Place.{Place}
use Rattle.lot_steps.specs.declared.places.Place.TheVariants.{Once}
use Rattle.core_words.specs.Lots.{IsWordOf}
use Rattle.core_words.specs.declared.owners.Ownership.{Ownership}
use Rattle.core_words.specs.declared.views.WordStep.{WordStep}
use Rattle.core_words.specs.declared.words.Word.{Word}
use Rattle.core_words.specs.declared.words.WordKind.TheVariants as kinds
use Rattle.parking_lot_core.specs.Tokens.{IsTokenOf, told_of}
use Rattle.parking_lot_core.specs.declared.lot.ParkingLot.{ParkingLot}
use Rattle.parking_lot_core.specs.declared.tokens.SectionRecord.{SectionRecord}
use Rattle.parking_lot_core.specs.declared.tokens.Token.{Token}
use Rattle.run_base.specs.Fitting.{Reached}
use Rattle.run_base.specs.OnceFitting.{LooksAnswer, OwnsRun, WokeAll}
use Rattle.run_base.specs.Courses.{ComesBy, Courses, Trail, trail_of}
use Rattle.run_base.specs.Paths.{at_once, once_at, step}
use Rattle.run_base.specs.Stages.{stage_of}
use Rattle.run_base.specs.Telling.{owns_of, steps_of}
use Rattle.run_once_and_semaphores.specs.declared.once_calls.Look.{Look}
use Rattle.run_once_and_semaphores.specs.declared.once_calls.Look.TheVariants.{Ended, Runs}

-- a thread of the lot, and a `Once` of it whose keys are numbers
abbrev pub MeetsOnce : ParkingLot → Token → Word → Type 0
MeetsOnce lot token word = IsTokenOf lot token × IsWordOf lot.words word
    × (word.kind ≡ kinds.Once) × (word.number < 9223372036854775808)

-- where a call begins, and where it is in its closure and ends its run
abbrev pub once_begin : ℕ → OnceCall → Place
once_begin n c = Once n (once_first c)

abbrev pub in_closure : ℕ → Bool → Bool → Place
in_closure n forced poisoned = Once n (Run forced (run.Closure poisoned))

abbrev pub run_end : ℕ → Bool → Bool → Place
run_end n forced succeeded = Once n (Run forced (run.Close succeeded))

-- what a thread has recorded since leads from one place to another
abbrev pub StepsLeadTo : ℕ → ℕ → Place → Trail → Trail → Place → Type 0
StepsLeadTo n me p old new q = ComesBy (at_once n) me p old new q

-- the steps of a call, and what the queues told it, lead from its beginning to its answer, or to its
-- closure, which is told of the run before
abbrev pub LooksBy : ℕ → OnceCall → Look → Token → Token → Type 0
LooksBy n c (Ended answer) old new = Courses (at_once n) old.number (once_begin n c)
    (trail_of old None) (trail_of new None) answer
LooksBy n c (Runs state) old new = (forced : Bool) × (poisoned : Bool) × (c ≡ CallOnce forced)
    × (state ≡ state_before poisoned)
    × StepsLeadTo n old.number (once_begin n c) (trail_of old None) (trail_of new None)
    (in_closure n forced poisoned)

-- What a thread owns after its look at a `Once`; it has left this section last; `up` says that its time is
-- up.
abbrev pub LookOwns : Type 0 → ℕ → OnceCall → Look → List Ownership → List Ownership
    → Option SectionRecord → Type 0
LookOwns up n c (Ended answer) base owns last = LooksAnswer up n c base answer owns last
LookOwns up n c (Runs state) base owns last = OwnsRun n base owns

-- a thread that saw waiters left the section in which it took all of them, and else there was no further step
abbrev pub WokeIfMarked : ℕ → Bool → List WordStep → Option SectionRecord → Type 0
WokeIfMarked n true more last = WokeAll n last
WokeIfMarked n false more last = (more ≡ []) × (last ≡ None)

-- a run ended by one step, and woke each thread that waited then
abbrev pub EndedAndWoke : ℕ → Bool → List WordStep → List WordStep → Option SectionRecord → Type 0
EndedAndWoke n succeeded old new last = (seen : ℕ) × (more : List WordStep)
    × (new ≡ (old ++ step (once_at n) (Swap (word_after succeeded)) seen) ++ more)
    × WokeIfMarked n (is_marked seen) more last

-- the trail of a thread that ends a run leads from the end of its closure to the answer
abbrev pub EndsRun : ℕ → ℕ → Bool → Bool → Trail → Trail → Type 0
EndsRun n me forced succeeded old new =
    Courses (at_once n) me (run_end n forced succeeded) old new (ended succeeded)

-- a thread loaded the word once and found this, and each call goes on from there
abbrev pub HasLookedFirst : ℕ → ℕ → Token → Token → Type 0
HasLookedFirst n seen old new =
    (new.number ≡ old.number) × (steps_of new ≡ steps_of old ++ step (once_at n) Load seen)
    × ((c : OnceCall) → Reached ⊥ (owns_of old) (once_begin n c) (Value seen) (stage_of new None))
    × (told_of new ≡ told_of old)
