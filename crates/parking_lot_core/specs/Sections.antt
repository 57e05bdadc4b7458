-- The waiters in the queues of a section, and those that it took.
use Rattle.std.specs.Prelude.{ℕ, ◌≡◌, List, [], Option}
use Rattle.std.specs.Sync.Mutex.{mutex_guard_value}
use Rattle.core_base.specs.declared.notes.Note.{Note}
use Rattle.core_base.specs.declared.notes.Note.TheVariants.{Normal, HandOff}
use Rattle.core_base.specs.declared.wants.Waiter.{Waiter}
use Rattle.core_base.specs.declared.wants.Want.{Want}
use Rattle.core_queues.specs.Buckets.{both}
use Rattle.parking_lot_core.specs.Pairs.{waiters_of}
use Rattle.parking_lot_core.specs.declared.sections.Section.{Section}
use Rattle.parking_lot_core.specs.declared.step_counts.StepCount.{StepCount}
use Rattle.parking_lot_core.specs.declared.tellings.Telling.{Telling}
use Rattle.parking_lot_core.specs.declared.tellings.Telling.TheVariants.{Visited}
use Rattle.parking_lot_core.specs.declared.tokens.Did.TheVariants.{Nothing}

-- the waiters in the first bucket of a section
abbrev pub in_first_bucket : Section → List Waiter
in_first_bucket section = (mutex_guard_value section.first).queues.waiters

-- the waiters in the second bucket, if there is one
abbrev pub others_in : Section → Option (List Waiter)
others_in section = waiters_of section.other

abbrev pub waiting_in : Section → List Waiter
waiting_in section = both (in_first_bucket section) (others_in section)

abbrev pub taken_in : Section → List ℕ
taken_in section = (mutex_guard_value section.first).taken.items

-- the want of each of them
abbrev pub wants_in : Section → List Want
wants_in section = (mutex_guard_value section.first).wants.items

-- the threads that it took and that have no right yet
abbrev pub rightless_in : Section → List ℕ
rightless_in section = (mutex_guard_value section.first).rightless.items

-- how many it moved to another queue
abbrev pub moved_in : Section → ℕ
moved_in section = section.moved

-- what it has told its thread
abbrev pub told_in : Section → List Telling
told_in section = section.told.list

-- the visit of a section that is left with this note, after so many steps of its thread
abbrev pub visit_of : Section → StepCount → Note → Telling
visit_of section to note = Visited section.keys section.since to note

-- two states are of one section, of one thread, which entered it once
abbrev pub StaysIn : Section → Section → Type 0
StaysIn old new = (new.lot.now ≡ old.lot.now) × (new.keys ≡ old.keys) × (new.thread ≡ old.thread)
    × (new.since ≡ old.since)

-- A section has done no more to the threads that it took or moved.
abbrev pub TookAs : Section → Section → Type 0
TookAs old new = (new.did ≡ old.did) × (taken_in new ≡ taken_in old) × (wants_in new ≡ wants_in old)
    × (moved_in new ≡ moved_in old)

-- the note that is right for those that it took: a hand-off where each was given a right, and a
-- normal one where nobody was
abbrev pub MayNote : Note → List ℕ → List ℕ → Type 0
MayNote Normal taken rightless = rightless ≡ taken
MayNote HandOff taken rightless = rightless ≡ []

-- nothing has been done in it
abbrev pub IsUntouched : Section → Type 0
IsUntouched section = (section.did ≡ Nothing) × (taken_in section ≡ []) × (wants_in section ≡ [])
    × (rightless_in section ≡ []) × (moved_in section ≡ 0)
