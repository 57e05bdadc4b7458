-- The views of names and of shares, and the facts that a name's steps tell.
use Rattle.std.specs.Prelude.{◌≡◌, ℕ, ◌+◌, ◌/◌, ◌%◌, ◌<◌, List, [], ◌∷◌, ◌++◌, true}
use Rattle.core_base.specs.declared.ops.Op.TheVariants.{Load, Store}
use Rattle.core_parts.specs.declared.slot.PermitSlot.{PermitSlot}
use Rattle.core_words.specs.Indices.{mutex_of_count}
use Rattle.core_words.specs.Plays.{Play, TakesStep}
use Rattle.core_words.specs.Steps.{has, one_more_step, without}
use Rattle.core_words.specs.Views.{owning_with, view}
use Rattle.core_words.specs.declared.owners.Ownership.{Ownership}
use Rattle.core_words.specs.declared.views.Counting.{Counting}
use Rattle.core_words.specs.declared.views.Naming.{Naming}
use Rattle.core_words.specs.declared.views.Naming.TheVariants.{Nobody, Thread, From}
use Rattle.core_words.specs.declared.views.View.{View}
use Rattle.core_words.specs.declared.views.WordStep.{WordStep}

-- a share of the count at an index, which names this thread
abbrev pub sharing : ℕ → ℕ → Counting
sharing at thread = record { at = at; thread = thread }

-- a view that has these numbers and shares, and nothing else
abbrev pub having : Naming → List Counting → View
having naming shares = record {
  steps = [];
  owns = [];
  drawn = [];
  saw = 0;
  out = [];
  naming = naming;
  shares = shares;
}

-- the view of a seat that has the numbers from this one on
abbrev pub namer_from : ℕ → View
namer_from thread = having (From thread) []

-- the view of a new name
abbrev pub named : ℕ → View
named thread = having (Thread thread) []

abbrev pub share_view : ℕ → ℕ → View
share_view at thread = having Nobody (sharing at thread ∷ [])

-- the thread that the first share names
abbrev pub thread_in : List Counting → ℕ
thread_in [] = 0
thread_in (x ∷ xs) = x.thread

abbrev pub rest_of : List Counting → List Counting
rest_of [] = []
rest_of (x ∷ xs) = xs

-- a view with other steps, ownerships and shares
abbrev pub with_these : View → List WordStep → List Ownership → List Counting → View
with_these v steps owns shares = record {
  steps = steps;
  owns = owns;
  drawn = v.drawn;
  saw = v.saw;
  out = v.out;
  naming = v.naming;
  shares = shares;
}

abbrev pub without_first_share : View → View
without_first_share v = with_these v v.steps v.owns (rest_of v.shares)

abbrev pub takes_shares : View → View → View
takes_shares v w = with_these v v.steps v.owns (w.shares ++ v.shares)

abbrev pub without_steps : View → View
without_steps v = with_these v [] v.owns v.shares

-- what a view has done, and nothing else
abbrev pub steps_alone : View → View
steps_alone v = view v.steps [] [] 0

-- a view owns the mutex of the count at an index, and says this of that
abbrev pub SaysAt : ℕ → ℕ → View → Type 0
SaysAt at count v = has (owning_with (mutex_of_count at) count) v.owns ≡ true

-- a load tells a thread that it finds named that it says what was found
abbrev pub looks_named : ℕ → ℕ → Play PermitSlot
looks_named family thread st me found after = TakesStep family st.word Load me found after
    × (found / 4294967296 ≡ thread + 1 → SaysAt st.word found me.0)

-- a load that is no step finds this thread named, with one share at least
abbrev pub sees_own : ℕ → Play PermitSlot
sees_own thread st me found after = (after ≡ me) × (found / 4294967296 ≡ thread + 1)
    × (0 < found % 4294967296) × SaysAt st.word found me.0

-- a load finds this thread named, as one step, with one share at least
abbrev pub looks_own : ℕ → ℕ → Play PermitSlot
looks_own family thread st me found after = TakesStep family st.word Load me found after
    × (found / 4294967296 ≡ thread + 1) × (0 < found % 4294967296) × SaysAt st.word found me.0

-- a load that is no step finds two threads named, each by a share that is there
abbrev pub sees_two : ℕ → ℕ → Play PermitSlot
sees_two one other st me found after = (after ≡ me) × (found / 4294967296 ≡ one + 1)
    × (found / 4294967296 ≡ other + 1)

-- a thread that says what the count is stores another, and says that from then on
abbrev pub counting : ℕ → ℕ → ℕ → List Counting → View → View
counting at said left shares v = with_these v (one_more_step v at (Store left) said)
    (owning_with (mutex_of_count at) left ∷ without (owning_with (mutex_of_count at) said) v.owns)
    shares

abbrev pub stores_more : ℕ → ℕ → Play PermitSlot
stores_more thread said st me found after =
    after ≡ (counting st.word said st.first (sharing st.word thread ∷ me.0.shares) me.0, me.1)

abbrev pub stores_less : ℕ → Play PermitSlot
stores_less said st me found after =
    after ≡ (counting st.word said st.first (rest_of me.0.shares) me.0, me.1)
