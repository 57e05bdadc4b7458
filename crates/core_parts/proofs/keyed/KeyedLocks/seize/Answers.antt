use Rattle.std.proofs.Common.{Some, ap, sym, ◌∙◌, ◌∷◌, ◌<◌, arith}
use Rattle.atomic_table.specs.Table.{rest}
use Rattle.core_parts.proofs.KeyKeeps.{seizes}
use Rattle.core_parts.proofs.keyed.KeyedLocks.seize.Goals as goal

pub swap_new_seat-found-requires : goal.swap_new_seat-found-requires
swap_new_seat-found-requires g c = let row = c.args.self.now in let sized = row.sized in let sized₀ = sized.0
    in let sized₁ = sized.1 in let near = c.requires.at in
    let below : c.args.at < row.table.shared.table_id.words = omega arith in (
      below,
      seizes (g.T.Keyed.fits row.table.shared.key) row.table.shared.table_id.slots c.args.at c.args.word
          row.table.shared.key (omega arith) c.requires.out,
    )

pub exchange-requires : goal.exchange-requires
exchange-requires g c = let t = c.swap_new_seat-found.ensures.1 c.if-found-ge-TAKEN.false in
    (c.swap_new_seat-found.ensures.0, (Some t.0, t.1 ∙ ap (λ l. (c.args.at, Some t.0) ∷ rest l) (sym t.1)))
