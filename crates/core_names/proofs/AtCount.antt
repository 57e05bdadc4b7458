-- Where the count word of a lot stands.
use Rattle.std.proofs.Common.{◌≡◌, ◌<◌, ◌∙◌, ℕ, ap, arith}
use Rattle.core_words.specs.Indices.{word_index}
use Rattle.core_words.specs.Lots.{IsWordOf}
use Rattle.core_words.specs.declared.table.LotWords.{LotWords}
use Rattle.core_words.specs.declared.words.Word.{Word}
use Rattle.core_words.specs.declared.words.WordKind.{WordKind}
use Rattle.core_words.specs.declared.words.WordKind.TheVariants.{Count}
use Rattle.core_names.specs.Names.{count_at}

module _ (lot : LotWords) (count : Word) (own : IsWordOf lot count) (kind : count.kind ≡ Count) (i : ℕ) (at
    : i ≡ word_index count.number count.kind) where
  pub here : i ≡ count_at count.number
  here = at ∙ ap (λ (k : WordKind). word_index count.number k) kind

  pub below : count.number < lot.table.shared.key.0
  below = let sized = lot.sized in let drawn = own.1 in omega (arith, sized.1, drawn)

  pub near : i < lot.table.shared.table_id.words
  near = let sized = lot.sized in let drawn = own.1 in omega (arith, sized.0, drawn, here)
