use Rattle.std.proofs.Common.{◌≡◌, ℕ, ◌∷◌, [], true, ◌∙◌, ap, sym, subst}
use Rattle.atomic_table.specs.Table.{Splits}
use Rattle.core_words.specs.Lots.{IsSeatOf, IsWordOf}
use Rattle.core_words.specs.Plays.{left_over, piece}
use Rattle.core_words.specs.Rule.{LotRule}
use Rattle.core_words.specs.Steps.{has}
use Rattle.core_words.specs.Views.{owning, with_out}
use Rattle.core_words.specs.declared.owners.Owner.TheVariants.{Exclusive}
use Rattle.core_words.proofs.AtWord.{at_mutex, below}
use Rattle.core_words.proofs.Seats.{keeps_owner}
use Rattle.core_words.proofs.table.LotWords.split_owner_seat.Goals as goal

pub split_seat-next-requires : goal.split_seat-next-requires
split_seat-next-requires g c = let lot = c.args.self.now in let seat = c.args.seat.now in let word =
    c.args.word in let sized = lot.sized in let sized₀ = sized.0 in
    let own : IsSeatOf lot seat × IsWordOf lot word = (c.requires.own.0, c.requires.own.1) in let here =
    at_mutex lot seat word own c.requires.own.2 in
    let v = seat.me.0 in (
      c.requires.own.0.0,
      subst (λ (i : ℕ). Splits (LotRule lot.table.shared.key.0 lot.table.shared.key.1.family) seat.id v
          (with_out (i ∷ []) (piece (owning i Exclusive))) (left_over (owning i Exclusive) v))
          (sym (c.requires.pick ∙ here))
          (keeps_owner lot.table.shared.key.0 lot.table.shared.key.1.family seat.id v word.number
          (below lot seat word own) (c.requires.out ∙ ap (λ (i : ℕ). i ∷ []) here)
          (subst (λ (i : ℕ). has (owning i Exclusive) v.owns ≡ true) here c.requires.named)),
    )
