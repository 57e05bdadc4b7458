-- The ownership rule: what holds of a lot's words and of all views between any two steps.
use Rattle.std.specs.Prelude.{◌≡◌, ◌≢◌, ◌⊎◌, ℕ, ◌+◌, ◌/◌, ◌%◌, ◌<◌, ◌≤◌, List, [], ◌∷◌, length, slice_index}
use mathlib.Core.Option.{some}
use lib.ListN.{get_elem?}
use Rattle.atomic_table.specs.Table.{State}
use Rattle.core_words.specs.Indices.{counter, word_index, table_size, mutex_of_count}
use Rattle.core_words.specs.Views.{total, total_below, owned, named, counted, has_number, said_as}
use Rattle.core_words.specs.Views.{shared_as, steps_at, outs, drew, granted}
use Rattle.core_words.specs.Codes.{Codes, Shows, IsCountCode, exclusive, if_names, shared}
use Rattle.core_words.specs.Permits.{slot_at}
use Rattle.core_parts.specs.declared.slot.PermitSlot.{PermitSlot}
use Rattle.core_words.specs.declared.owners.Owner.{Owner}
use Rattle.core_words.specs.declared.owners.Ownership.{Ownership}
use Rattle.core_words.specs.declared.views.View.{View}
use Rattle.core_words.specs.declared.words.WordKind.{WordKind}
use Rattle.core_words.specs.declared.words.WordKind.TheVariants.{Mutex, Condvar, Count, Semaphore}

-- the mutexes that a condition variable of this number may show, in a lot of so many words: of the lot, of
-- another number, on which some thread has stepped
abbrev pub MayBeShown : ℕ → ℕ → List View → ℕ → Type 0
MayBeShown words number views mutex =
    (mutex < words) × (mutex ≢ number) × (0 < total (steps_at (word_index mutex Mutex)) views)

-- n is the count at an index: what the owner of the mutex before it says. Where it isn't 0, it names the
-- thread whose number that owner has, and there are as many shares which name that thread as it has times
pub record IsCount (at n : ℕ) (views : List View) : Type 0 where
  pub code : IsCountCode n
  pub said : n ≡ total (λ (v : View). counted (mutex_of_count at) v.owns) views
  pub names : (thread : ℕ) → total (said_as thread (mutex_of_count at)) views ≡ if_names thread n n
  pub shares : (thread : ℕ)
      → total (λ (v : View). shared_as thread at v.shares) views ≡ if_names thread n (n % 4294967296)

-- the permits that may be out with a seat that owns these: none, or that of one mutex which it owns
abbrev pub MayHaveOut : ℕ → List ℕ → List Ownership → Type 0
MayHaveOut words out owns = (out ≡ [])
    ⊎ ((number : ℕ) × (number < words) × (out ≡ word_index number Mutex ∷ [])
    × (0 < owned (word_index number Mutex) exclusive owns))

-- the rule of a lot of so many words, whose permits come from one source
pub record LotRule (words family : ℕ) (s : State PermitSlot View) : Type 0 where
  pub size : length s.words ≡ table_size words
  -- each lock word is the code of the owners that all views together name
  pub coded : (number : ℕ) (kind : WordKind) → number < words
      → Codes kind (slice_index s.words (word_index number kind))
      (λ weight. named (word_index number kind) weight s.views)
  -- a condition variable shows such a mutex, or none
  pub shows : (number : ℕ) → number < words
      → Shows (MayBeShown words number s.views) (slice_index s.words (word_index number Condvar))
  -- no two views have the number of one thread
  pub numbers : (thread : ℕ) → total (λ (v : View). has_number thread v.naming) s.views ≤ 1
  -- a count word is what the owner of the mutex before it says, which it names
  pub counts : (number : ℕ) → number < words
      → IsCount (word_index number Count) (slice_index s.words (word_index number Count)) s.views
  -- the free permits of a semaphore, with those that all views together name, are those with which
  -- its word was drawn
  pub semaphores : (number : ℕ) → number < words
      → slice_index s.words (word_index number (Semaphore 0)) / 2
      + named (word_index number (Semaphore 0)) shared s.views ≡ granted number s.views
  -- each thing owned is a word of the lot, and not the counter
  pub owned : (at : ℕ) (weight : Owner → ℕ) → 0 < named at weight s.views
      → (0 < at) × (at < length s.words)
  -- a word on which nobody has stepped is 0
  pub untouched : (at : ℕ) → 0 < at → at < length s.words → total (steps_at at) s.views ≡ 0
      → slice_index s.words at ≡ 0
  -- the numbers below the counter were drawn, each once, and no other was
  pub drawn : (weight : ℕ → ℕ)
      → total (drew weight) s.views ≡ total_below weight (slice_index s.words counter)
  pub enough : slice_index s.words counter ≤ words
  -- the counter never falls
  pub saw : (seat : ℕ) (v : View) → get_elem? s.views seat ≡ some v
      → v.saw ≤ slice_index s.words counter
  -- a seat owns the mutex whose permit is out with it
  pub carried : (seat : ℕ) (v : View) → get_elem? s.views seat ≡ some v
      → MayHaveOut words v.out v.owns
  -- each word has a slot, and that of a mutex holds its permit, but while that is out with a seat
  pub homes : length s.homes ≡ length s.words
  pub permits : (number : ℕ) → number < words → total (outs (word_index number Mutex)) s.views ≡ 0
      → get_elem? s.homes (word_index number Mutex)
      ≡ some (some (slot_at family (word_index number Mutex)))
