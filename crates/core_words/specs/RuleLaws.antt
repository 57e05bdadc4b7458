-- The laws of the rule about a lot's words and all views, whichever threads took which steps.
use Rattle.std.specs.Prelude.{◌≡◌, ℕ, ◌+◌, ◌/◌, ◌%◌, ◌<◌, ◌≤◌, cond, ◌==◌, List, length, slice_index}
use mathlib.Core.Option.{some}
use lib.ListN.{get_elem?}
use Rattle.atomic_table.specs.Table.{State}
use Rattle.core_words.specs.Indices.{counter, word_index}
use Rattle.core_words.specs.Views.{total, drew, drew_permits, granted, owned, steps_at, named}
use Rattle.core_words.specs.Codes.{everyone, runner, shared, witness, IsCountCode, Shows}
use Rattle.core_words.specs.Permits.{slot_at}
use Rattle.core_words.specs.Rule.{LotRule, MayBeShown}
use Rattle.core_parts.specs.declared.slot.PermitSlot.{PermitSlot}
use Rattle.core_words.specs.declared.views.View.{View}
use Rattle.core_words.specs.declared.words.WordKind.TheVariants.{Mutex, Once, Condvar, Count, Semaphore}

-- how often a number was drawn
abbrev pub times_drawn : ℕ → List View → ℕ
times_drawn number views = total (drew (λ k. cond (k == number) 1 0)) views

-- the numbers below the counter were drawn, each once, and each is a word of the lot. No other
-- number was drawn
abbrev pub DrawnOnce : Type 0
DrawnOnce = (words family : ℕ) (s : State PermitSlot View) → LotRule words family s → (number : ℕ) →
    (number < slice_index s.words counter → (times_drawn number s.views ≡ 1) × (number < words))
    × (slice_index s.words counter ≤ number → times_drawn number s.views ≡ 0)

-- the counter never falls below what a view saw of it
abbrev pub NeverFalls : Type 0
NeverFalls = (words family : ℕ) (s : State PermitSlot View) → LotRule words family s
    → (seat : ℕ) (v : View)
    → get_elem? s.views seat ≡ some v → v.saw ≤ slice_index s.words counter

-- a word on which nobody stepped is 0, drawn or not
abbrev pub UntouchedIs0 : Type 0
UntouchedIs0 = (words family : ℕ) (s : State PermitSlot View) → LotRule words family s → (at : ℕ)
    → 0 < at → at < length s.words
    → total (steps_at at) s.views ≡ 0 → slice_index s.words at ≡ 0

-- a condition variable shows no mutex, or one of the lot, of another number, on which somebody
-- stepped
abbrev pub ShownIsAMutex : Type 0
ShownIsAMutex = (words family : ℕ) (s : State PermitSlot View) → LotRule words family s
    → (number : ℕ) → number < words →
    Shows (MayBeShown words number s.views) (slice_index s.words (word_index number Condvar))

-- a count word is 0, or a thread with how often it locked the mutex before, and 0 where nobody owns
-- that
abbrev pub CountsAnOwner : Type 0
CountsAnOwner = (words family : ℕ) (s : State PermitSlot View) → LotRule words family s
    → (number : ℕ) → number + 1 < words →
    IsCountCode (slice_index s.words (word_index (number + 1) Count))
    × (named (word_index number Mutex) everyone s.views ≡ 0
    → slice_index s.words (word_index (number + 1) Count) ≡ 0)

-- at most one view runs a `Once`, and none where some view knows that it is done: the word says so
-- then
abbrev pub RunsOneAtATime : Type 0
RunsOneAtATime = (words family : ℕ) (s : State PermitSlot View) → LotRule words family s
    → (number : ℕ) → number < words →
    (named (word_index number Once) runner s.views ≤ 1)
    × (0 < named (word_index number Once) witness s.views
    → (slice_index s.words (word_index number Once) ≡ 1)
    × (named (word_index number Once) runner s.views ≡ 0))

-- the permit of the value that an unlocked mutex guards lies in the slot beside its word
abbrev pub UnlockedHasItsPermit : Type 0
UnlockedHasItsPermit = (words family : ℕ) (s : State PermitSlot View) → LotRule words family s
    → (number : ℕ) → number < words → slice_index s.words (word_index number Mutex) % 2 ≡ 0
    → get_elem? s.homes (word_index number Mutex)
    ≡ some (some (slot_at family (word_index number Mutex)))

-- the permits that all views name of a semaphore, with the free ones, are those with which its word
-- was drawn: those of the view that drew it. No view names more, and nobody owns it otherwise
abbrev pub PermitsAreAllThere : Type 0
PermitsAreAllThere = (words family : ℕ) (s : State PermitSlot View) → LotRule words family s
    → (number : ℕ) → number < words → let at = word_index number (Semaphore 0) in
    (slice_index s.words at / 2 + named at shared s.views ≡ granted number s.views)
    × (named at everyone s.views ≡ named at shared s.views)
    × ((seat : ℕ) (v : View) → get_elem? s.views seat ≡ some v →
    (slice_index s.words at / 2 + owned at shared v.owns ≤ granted number s.views)
    × (0 < drew_permits number v → granted number s.views ≡ drew_permits number v))
