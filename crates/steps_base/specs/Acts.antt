-- The effects of an act, and the outcome that a thread is told before it.
use Rattle.std.specs.Prelude.{ℕ, Bool, true, false, Option, Some, None, if◌then◌else◌, ◌==◌, ◌||◌, not}
use Rattle.core_base.specs.declared.notes.Note.{Note}
use Rattle.core_base.specs.declared.ops.Op.{Op}
use Rattle.core_base.specs.declared.ops.Op.TheVariants.{Exchange}
use Rattle.core_base.specs.declared.wants.Want.{Want}
use Rattle.steps_base.specs.declared.acts.Act.{Act}
use Rattle.steps_base.specs.declared.acts.Act.TheVariants.{Sleep, Closure, End}
use Rattle.steps_base.specs.declared.acts.Check.{Check}
use Rattle.steps_base.specs.declared.acts.Check.TheVariants.{WordIs, Blocked, ReadersLeft, Unfinished}
use Rattle.steps_base.specs.declared.acts.Wakes.{Wakes}
use Rattle.steps_base.specs.declared.acts.Wakes.TheVariants as wakes
use Rattle.spec_locks.specs.declared.outcomes.Outcome.{Outcome}
use Rattle.spec_locks.specs.declared.outcomes.Outcome.TheVariants as outcome
use Rattle.spec_locks.specs.Codes.{bars, leaves_readers, leaves_unfinished}

abbrev pub holds : Check → ℕ → Bool
holds (WordIs value) word = word == value
holds (Blocked want recursive) word = bars recursive want word
holds ReadersLeft word = leaves_readers word
holds (Unfinished forced) word = leaves_unfinished forced word

-- each thread that was taken is woken
abbrev pub wakes_taken : Bool → Note → Wakes
wakes_taken any note = if any then wakes.All note else wakes.Nobody

abbrev pub is_there : Option Want → Bool
is_there None = false
is_there (Some x) = true

-- whether anybody was picked: some that share, or the one that wants more
abbrev pub any_picked : ℕ → Option Want → Bool
any_picked sharers successor = not (sharers == 0) || is_there successor

-- whether an operation that is to hand a lock over does so, by the value that it finds: an exchange
-- may fail
abbrev pub takes_effect : Op → ℕ → Bool
takes_effect (Exchange from to) seen = seen == from
takes_effect op seen = true

-- the outcome told to a thread that is about to do this
abbrev pub outcome_of : Act → Outcome
outcome_of (End answer) = outcome.End answer
outcome_of Sleep = outcome.Sleep
outcome_of (Closure state) = outcome.Closure state
outcome_of _ = outcome.Step
