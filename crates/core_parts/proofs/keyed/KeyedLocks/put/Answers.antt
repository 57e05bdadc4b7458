use Rattle.std.proofs.Common.{◌<◌, arith, ◌∙◌}
use Rattle.core_parts.proofs.KeyKeeps.{releases}
use Rattle.core_parts.proofs.keyed.KeyedLocks.put.Goals as goal

pub swap-requires : goal.swap-requires
swap-requires g c = let row = c.args.self.now in let fits = g.T.Keyed.fits row.table.shared.key in let seat =
    c.exchange.new.seat in let sized = row.sized in let sized₀ = sized.0 in let sized₁ = sized.1 in let held =
    c.requires.held in let near = held.1 in
    let below : c.args.held.at < row.table.shared.table_id.words = omega arith in (
      c.exchange.ensures.0 ∙ held.0,
      below,
      releases fits row.table.shared.table_id.slots seat.id
          c.args.held.at c.args.word seat.me _ _ _ (omega arith) c.exchange.ensures.3 c.requires.fits,
    )
