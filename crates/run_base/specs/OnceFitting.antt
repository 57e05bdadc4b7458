-- The holdings of a thread in a call of a `Once`, at each place and at its end.
use Rattle.std.specs.Prelude.{ℕ, zero, suc, ◌≡◌, ◌*◌, ◌==◌, not, length, Bool, true, false, List, ◌∷◌, Option}
use Rattle.std.specs.Prelude.{Some, None}
use Rattle.core_base.specs.Lines.{threads_of}
use Rattle.core_base.specs.declared.keys.Keys.TheVariants.{One}
use Rattle.core_base.specs.declared.wants.Waiter.{Waiter}
use Rattle.spec_locks.specs.declared.calls.OnceCall.{OnceCall}
use Rattle.spec_locks.specs.declared.outcomes.Answer.{Answer}
use Rattle.spec_locks.specs.declared.outcomes.Answer.TheVariants as answers
use Rattle.steps_once.specs.OnceSteps.{course_of, ended, is_forced, is_timed}
use Rattle.steps_once.specs.declared.look.Course.{Course}
use Rattle.steps_once.specs.declared.look.Course.TheVariants.{Ends}
use Rattle.steps_once.specs.declared.look.LookAt.{LookAt}
use Rattle.steps_once.specs.declared.look.LookAt.TheVariants as look
use Rattle.steps_once.specs.declared.run.RunAt.{RunAt}
use Rattle.steps_once.specs.declared.run.RunAt.TheVariants as run
use Rattle.steps_once.specs.declared.places.OncePlace.{OncePlace}
use Rattle.steps_once.specs.declared.places.OncePlace.TheVariants.{Look, Run, GiveUp}
use Rattle.core_words.specs.Codes.{IsOnceWord}
use Rattle.core_words.specs.Views.{owning}
use Rattle.core_words.specs.declared.owners.Owner.TheVariants.{Runner, Witness}
use Rattle.core_words.specs.declared.owners.Ownership.{Ownership}
use Rattle.parking_lot_core.specs.declared.tokens.Did.TheVariants.{TakeAll}
use Rattle.parking_lot_core.specs.declared.tokens.SectionRecord.{SectionRecord}
use Rattle.run_base.specs.Paths.{once_at}
use Rattle.run_base.specs.Stages.{HasDone, SectionView, ThreadState, TookNobodyAt, entered_now, having_taken}

-- the ownership of a thread that has found a `Once` done so often, beside the rest
abbrev pub knowing : ℕ → ℕ → List Ownership → List Ownership
knowing l zero base = base
knowing l (suc times) base = owning (once_at l) Witness ∷ knowing l times base

abbrev pub OwnsKnowing : ℕ → List Ownership → List Ownership → Type 0
OwnsKnowing l base owns = (times : ℕ) × (owns ≡ knowing l times base)

-- a thread knows that the `Once` is done
abbrev pub KnowsIt : ℕ → List Ownership → List Ownership → Type 0
KnowsIt l base owns = (times : ℕ) × (owns ≡ knowing l (suc times) base)

-- A thread that ran a `Once` well owns what it did before.
abbrev pub OwnsAfter : ℕ → Bool → List Ownership → List Ownership → Type 0
OwnsAfter l true base owns = KnowsIt l base owns
OwnsAfter l false base owns = OwnsKnowing l base owns

abbrev pub StandsOutside : ℕ → List Ownership → ThreadState → Type 0
StandsOutside l base st = OwnsKnowing l base st.owns × (st.inside ≡ None)

-- in the section of the main key, where it has done nothing
abbrev pub StandsWithin : ℕ → List Ownership → ThreadState → Type 0
StandsWithin l base st = OwnsKnowing l base st.owns × (st.inside ≡ entered_now (One (2 * l)))

abbrev pub goes_on : Course → Bool
goes_on (Ends answer) = false
goes_on course = true

abbrev pub FitsLook : ℕ → OnceCall → List Ownership → LookAt → ThreadState → Type 0
FitsLook l c base look.Load st = StandsOutside l base st
FitsLook l c base (look.Decide seen) st =
    IsOnceWord seen × (goes_on (course_of c seen) ≡ true) × StandsOutside l base st
FitsLook l c base look.Check st = StandsWithin l base st
FitsLook l c base (look.Leave parked) st = StandsWithin l base st
FitsLook l c base look.Asleep st = StandsOutside l base st
FitsLook l c base (look.Taken by) st = ⊥

-- a thread in its closure owns its run
abbrev pub OwnsRun : ℕ → List Ownership → List Ownership → Type 0
OwnsRun l base owns = (rest : List Ownership) × OwnsKnowing l base rest
    × (owns ≡ owning (once_at l) Runner ∷ rest)

-- a section has taken all that waited; these have no right yet, and get none
abbrev pub TookEach : ℕ → List Waiter → Option SectionView → Type 0
TookEach l waiters inside =
    inside ≡ Some (having_taken (One (2 * l)) (TakeAll (2 * l)) waiters (threads_of waiters))

-- the step that ends a run is taken before
abbrev pub FitsRun : ℕ → List Ownership → RunAt → ThreadState → Type 0
FitsRun l base (run.Closure poisoned) st = OwnsRun l base st.owns × (st.inside ≡ None)
FitsRun l base (run.Close succeeded) st = ⊥
FitsRun l base (run.Enter succeeded) st = OwnsAfter l succeeded base st.owns × (st.inside ≡ None)
FitsRun l base (run.Take succeeded) st =
    OwnsAfter l succeeded base st.owns × (st.inside ≡ entered_now (One (2 * l)))
FitsRun l base (run.Leave succeeded any) st = OwnsAfter l succeeded base st.owns
    × (waiters : List Waiter) × (any ≡ not (length waiters == 0)) × TookEach l waiters st.inside

-- the ownership of a thread in a call of a `Once`, beside what it owned as it began; `up` says that the time
-- of the call is up, as it is of a thread that gives up
abbrev pub FitsOnce : Type 0 → ℕ → List Ownership → OncePlace → ThreadState → Type 0
FitsOnce up l base (Look c retries at) st = FitsLook l c base at st
FitsOnce up l base (Run forced at) st = FitsRun l base at st
FitsOnce up l base (GiveUp retries at) st = up × StandsWithin l base st

-- the section that was left last is one of the main key, where all that waited were taken
abbrev pub WokeAll : ℕ → Option SectionRecord → Type 0
WokeAll l last = HasDone (2 * l) (TakeAll (2 * l)) last

-- the facts after the answer of a call that runs nothing, by the section that was left last
abbrev pub LooksAnswer : Type 0 → ℕ → OnceCall → List Ownership → Answer → List Ownership
    → Option SectionRecord → Type 0
LooksAnswer up l c base answers.Ok owns last = (is_timed c ≡ false) × KnowsIt l base owns
LooksAnswer up l c base answers.Yes owns last = (is_timed c ≡ true) × KnowsIt l base owns
LooksAnswer up l c base answers.No owns last =
    (is_timed c ≡ true) × up × OwnsKnowing l base owns × TookNobodyAt l last
LooksAnswer up l c base answers.Poisoned owns last =
    (is_forced c ≡ false) × OwnsKnowing l base owns
LooksAnswer up l c base answer owns last = ⊥

abbrev pub IsLookOver : Type 0 → ℕ → OnceCall → List Ownership → Answer → ThreadState → Type 0
IsLookOver up l c base answer st =
    (st.inside ≡ None) × LooksAnswer up l c base answer st.owns st.last

-- A run is over that saw waiters.
abbrev pub IsRunOver : ℕ → Bool → List Ownership → Answer → ThreadState → Type 0
IsRunOver l succeeded base answer st = (st.inside ≡ None) × (answer ≡ ended succeeded)
    × OwnsAfter l succeeded base st.owns × WokeAll l st.last
