use Rattle.std.proofs.Common.{◌≡◌, map, take}
use Rattle.lot_machine.proofs.shares.copied_shares.Given as goal

abbrev pub invariant-loop-row : goal.invariant-loop-row
invariant-loop-row l = map (λ row. row.items) l.copy.items ≡ map (λ row. row.items)
    (take l.row-index l.shares)
