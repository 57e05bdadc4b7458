use Rattle.std.specs.Prelude.{◌≡◌, All}
use Rattle.std.specs.Arc.{arc_value}
use Rattle.crossbeam_utils.specs.Padded.{padded_value}
use Rattle.lotbench.specs.Desks.{desk_lot}
use Rattle.parking_lot_core.specs.Tokens.{IsTokenOf}
use Rattle.lotbench.proofs.desks.desks_of.Given as goal

abbrev pub invariant-loop-pair : goal.invariant-loop-pair
invariant-loop-pair l = IsTokenOf (arc_value l.lot) l.token
    × All (λ padded. desk_lot (padded_value padded) ≡ arc_value l.lot) l.row.items
