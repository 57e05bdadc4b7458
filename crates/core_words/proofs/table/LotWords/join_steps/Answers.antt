use Rattle.std.proofs.Common.{ap, ◌∙◌}
use Rattle.core_words.specs.Permits.{slots_of}
use Rattle.core_words.proofs.Seats.{goes_on}
use Rattle.core_words.proofs.table.LotWords.join_steps.Goals as goal

pub join_seat-requires : goal.join_seat-requires
join_seat-requires c = let lot = c.args.self.now in let sized = lot.sized in let sized₀ = sized.0 in let
    family = lot.table.shared.key.1.family in (
      c.requires.own.0.0,
      c.requires.own.1.0,
      c.requires.own.1.1 ∙ ap (slots_of family) c.requires.left.1,
      goes_on lot.table.shared.key.0 family c.args.seat.now.id c.args.seat.now.me.0 c.args.owner.id
          c.args.owner.me.0 c.requires.left.0 c.requires.left.1 c.requires.nameless,
    )
