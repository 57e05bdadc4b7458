-- How words are drawn.
use Rattle.std.specs.Prelude.{◌≡◌, ℕ, ◌+◌, ◌<◌, ◌≤◌, List, [], ◌∷◌, ◌++◌, length, All}
use Rattle.core_base.specs.Words.{apply}
use Rattle.core_base.specs.declared.ops.Op.{Op}
use Rattle.core_base.specs.declared.ops.Op.TheVariants.{Exchange}
use Rattle.core_words.specs.Indices.{counter, permits_in}
use Rattle.core_words.specs.Plays.{numbered}
use Rattle.core_words.specs.declared.views.View.{View}
use Rattle.core_words.specs.declared.views.WordStep.{WordStep}
use Rattle.core_words.specs.declared.words.WordKind.{WordKind}

-- words that are drawn without permits
abbrev pub NoPermits : List WordKind → Type 0
NoPermits [] = Unit {0}
NoPermits (kind ∷ kinds) = (permits_in kind ≡ 0) × NoPermits kinds

-- a step at the counter that left it as it was
abbrev pub IsLook : WordStep → Type 0
IsLook step = (step.at ≡ counter) × (apply step.op step.seen ≡ step.seen)

-- steps were added which left the counter as it was, at most so many
abbrev pub Looked : List WordStep → List WordStep → ℕ → Type 0
Looked old new most = (more : List WordStep) × (new ≡ old ++ more) × All IsLook more
    × (length more ≤ most)

-- the last step at the counter saw this
abbrev pub LastSaw : ℕ → List WordStep → Type 0
LastSaw n steps = (before : List WordStep) × (op : Op)
    × (steps ≡ before ++ record { at = counter; op = op; seen = n } ∷ [])

-- from a lot of so many words, words of these kinds were drawn from a number on: the last step
-- moved the counter past them
abbrev pub IsDrawn : ℕ → List WordKind → ℕ → View → View → Type 0
IsDrawn words kinds number old new =
    (number + length kinds ≤ words) × (new.drawn ≡ numbered number kinds ++ old.drawn)
    × ((looked : List WordStep) × Looked old.steps looked (words + 1)
    × (new.steps ≡ looked
    ++ record { at = counter; op = Exchange number (number + length kinds); seen = number } ∷ []))

-- nothing was drawn: the last step saw that fewer words were left than are needed
abbrev pub IsDrawRefused : ℕ → ℕ → View → View → Type 0
IsDrawRefused words needed old new =
    (new.drawn ≡ old.drawn) × Looked old.steps new.steps (words + 1)
    × ((n : ℕ) × LastSaw n new.steps × (words < n + needed))
