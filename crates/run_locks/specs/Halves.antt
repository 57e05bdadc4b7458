-- The two halves of a call of a reader-writer lock: the fast one, and what it leaves to the slow one.
use Rattle.std.specs.Prelude.{◌≡◌, ◌≢◌, ℕ, List, None}
use Rattle.core_base.specs.declared.ops.Op.{Op}
use Rattle.core_base.specs.declared.ops.Op.TheVariants.{Exchange}
use Rattle.spec_locks.specs.declared.outcomes.Answer.{Answer}
use Rattle.run_base.specs.RwLockCalls.{AnswersCall, BeginsWith, HasWalkedRwLock, WakesBy, first_op}
use Rattle.run_base.specs.Stages.{stage_of}
use Rattle.steps_rwlock.specs.RwLockSteps.{word_taken}
use Rattle.steps_rwlock.specs.declared.places.Admission.{Admission}
use Rattle.steps_rwlock.specs.declared.purposes.RwLockPurpose.{RwLockPurpose}
use Rattle.core_words.specs.Indices.{word_index}
use Rattle.core_words.specs.Steps.{CodesWith, after_step}
use Rattle.core_words.specs.declared.owners.Ownership.{Ownership}
use Rattle.core_words.specs.declared.words.Word.{Word}
use Rattle.parking_lot_core.specs.Tokens.{view_of, last_of, told_of}
use Rattle.parking_lot_core.specs.declared.tokens.Token.{Token}
use Rattle.run_locks.specs.Courses.{course_of}
use Rattle.run_locks.specs.declared.rwlock_calls.SlowPart.{SlowPart}
use Rattle.run_locks.specs.declared.rwlock_calls.SlowPart.TheVariants.{GoesOn, Missed, NotBegun}
use Rattle.run_locks.specs.declared.rwlock_courses.Course.TheVariants as courses

-- the thread took one step on the word, which found this, and no queue told it anything
abbrev pub SteppedAndFound : Word → Op → ℕ → Token → Token → Type 0
SteppedAndFound word op found old new = (new.number ≡ old.number)
    × (view_of new ≡ after_step word.kind (word_index word.number word.kind) op found (view_of old))
    × (last_of new ≡ None)
    × CodesWith word.kind (word_index word.number word.kind) found (view_of old).owns
    × (told_of new ≡ told_of old)

-- the thread took what the fast half of a call takes, which is not over by it: nothing where it waits for
-- its turn; its first step, and where that saw that it may take its right, an exchange by what was seen,
-- which found another value
abbrev pub HasBegunRwLock : Word → Admission → RwLockPurpose → SlowPart → Token → Token → Type 0
HasBegunRwLock word a q NotBegun old new = (new.number ≡ old.number) × (view_of new ≡ view_of old)
    × (last_of new ≡ None) × (told_of new ≡ told_of old)
HasBegunRwLock word a q (GoesOn seen) old new =
    SteppedAndFound word (first_op q) seen old new × (course_of a q seen ≡ courses.GoesOn)
HasBegunRwLock word a q (Missed seen found) old new = (mid : Token)
    × SteppedAndFound word (first_op q) seen old mid × (course_of a q seen ≡ courses.Takes)
    × SteppedAndFound word (Exchange seen (word_taken q seen)) found mid new × (found ≢ seen)

-- a whole call was over with this answer, before its time was up or later
abbrev pub HasEndedRwLock : Type 0 → Word → Admission → RwLockPurpose → Answer → Token → Token → Type 0
HasEndedRwLock up word a q answer old new = (new.number ≡ old.number)
    × HasWalkedRwLock word.number a q answer old new
    × ((base : List Ownership) → BeginsWith word.number q base (view_of old).owns
    → AnswersCall up word.number base a q answer (stage_of new None))
    × WakesBy word.number a q old new
