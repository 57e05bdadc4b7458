use Rattle.std.proofs.Common.{ap, refl, ◌∙◌}
use Rattle.core_words.specs.Permits.{slots_of}
use Rattle.core_words.specs.Rights.{named_by}
use Rattle.core_words.proofs.Seats.{takes_back}
use Rattle.core_words.proofs.table.LotWords.join_held.Goals as goal

pub join_seat-requires : goal.join_seat-requires
join_seat-requires c = let lot = c.args.self.now in let sized = lot.sized in let sized₀ = sized.0 in let
    held = c.args.held in let family = lot.table.shared.key.1.family in (
      c.requires.0.0,
      c.requires.1.0.0,
      c.requires.1.0.1 ∙ ap (λ v. slots_of family v.out) c.requires.1.1,
      takes_back lot.table.shared.key.0 family c.args.seat.now.id c.args.seat.now.me.0 held.seat.id (named_by
          c.args.word c.args.owner) held.seat.me.0 refl c.requires.1.1,
    )
