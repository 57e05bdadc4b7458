-- The first step of a call of a thread that waited for its turn.
use Rattle.std.proofs.Common.{ℕ, ◌≡◌, ◌∙◌, ◌++◌, ◌∷◌, List, true, ap, rules, subst, sym}
use Rattle.core_base.specs.declared.ops.Op.{Op}
use Rattle.core_words.specs.Indices.{word_index}
use Rattle.core_words.specs.Steps.{has, without}
use Rattle.core_words.specs.Views.{owning}
use Rattle.core_words.specs.declared.owners.Owner.TheVariants.{Exclusive}
use Rattle.core_words.specs.declared.owners.Ownership.{Ownership}
use Rattle.core_words.specs.declared.views.View.{View}
use Rattle.core_words.specs.declared.words.Word.{Word}
use Rattle.core_words.specs.declared.words.WordKind.{WordKind}
use Rattle.core_words.specs.declared.words.WordKind.TheVariants.{Mutex}
use Rattle.parking_lot_core.specs.Tokens.{view_of}
use Rattle.parking_lot_core.specs.declared.tokens.Token.{Token}
use Rattle.run_base.specs.MutexFitting.{mutex_ownership}
use Rattle.run_base.specs.Paths.{mutex_at, step}
use Rattle.run_base.specs.Telling.{steps_of}

-- the step is the first since the call began, where none was taken meanwhile
pub first_step_of : (word : Word) → word.kind ≡ Mutex → (op : Op) (seen : ℕ) (before old mid : Token)
    → steps_of old ≡ steps_of before
    → (view_of mid).steps ≡ (view_of old).steps ++ step (word_index word.number word.kind) op seen
    → steps_of mid ≡ steps_of before ++ step (mutex_at word.number) op seen
first_step_of word is op seen before old mid same stepped = stepped
    ∙ ap (λ (k : WordKind). steps_of old ++ step (word_index word.number k) op seen) is
    ∙ ap (λ steps. steps ++ step (mutex_at word.number) op seen) same

-- an owner of a mutex owns it
pub owns_it : (n : ℕ) (rest : List Ownership) → has (mutex_ownership n) (mutex_ownership n ∷ rest) ≡ true
owns_it n rest = search rules

-- a thread that has spent its guard owns the mutex, and what is left without it is what it owned before
module _ (word : Word) (is : word.kind ≡ Mutex) (rest owns : List Ownership)
    (spent : owns ≡ mutex_ownership word.number ∷ rest) where
  abbrev itself : WordKind → Ownership
  itself k = owning (word_index word.number k) Exclusive

  pub has_it : has (itself word.kind) owns ≡ true
  has_it = subst (λ (k : WordKind). has (itself k) owns ≡ true) (sym is)
      (subst (λ os. has (mutex_ownership word.number) os ≡ true) (sym spent) (owns_it word.number rest))

  pub without_it : without (itself word.kind) owns ≡ rest
  without_it = let whole : without (mutex_ownership word.number) (mutex_ownership word.number ∷ rest) ≡ rest =
      search rules in
      ap (λ (k : WordKind). without (itself k) owns) is ∙ ap (without (mutex_ownership word.number)) spent
      ∙ whole
