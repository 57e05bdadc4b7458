use Rattle.std.specs.Prelude.{◌≡◌, All}
use Rattle.std.specs.Arc.{arc_value}
use Rattle.crossbeam_utils.specs.Padded.{padded_value}
use Rattle.lotbench.proofs.rows.row_of.Given as goal

abbrev pub invariant-loop : goal.invariant-loop
invariant-loop g l = g.M.RawMutex.is_token_of (arc_value l.lot) l.token
    × All (λ padded. g.M.RawMutex.lot_of (padded_value padded) ≡ arc_value l.lot) l.row.items
