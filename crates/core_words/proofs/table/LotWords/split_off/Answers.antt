use Rattle.std.proofs.Common.{◌≡◌, ℕ, ap, cond, eqb, sym, subst}
use Rattle.core_words.specs.Codes.{exclusive}
use Rattle.core_words.specs.Indices.{word_kind_at}
use Rattle.core_words.specs.declared.owners.Ownership.{Ownership}
use Rattle.core_words.specs.declared.words.WordKind.TheVariants.{Mutex}
use Rattle.core_words.proofs.AtWord.{apart}
use Rattle.core_words.proofs.Seats.{splits_off}
use Rattle.core_words.proofs.table.LotWords.split_off.Goals as goal

pub split_seat-requires : goal.split_seat-requires
split_seat-requires g c = let lot = c.args.self.now in let sized = lot.sized in let sized₀ = sized.0 in (
  c.requires.own.0,
  splits_off lot.table.shared.key.0 lot.table.shared.key.1.family c.args.seat.now.id c.args.seat.now.me.0
      g.P.Piece.owned c.requires.named.1 (ap (λ (x : Ownership). x.count) c.requires.named.0)
      (subst (λ (x : Ownership). (r : ℕ) → word_kind_at r ≡ Mutex → cond (eqb x.at r) (exclusive x.owner) 0
      ≡ 0) (sym c.requires.named.0) (apart c.args.word c.args.owner c.requires.stays)),
)
