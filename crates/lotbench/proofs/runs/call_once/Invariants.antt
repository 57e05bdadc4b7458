use Rattle.parking_lot.specs.LotOf.{lot_of_once}
use Rattle.parking_lot_core.specs.Tokens.{IsTokenOf}
use Rattle.lotbench.proofs.runs.call_once.Given as goal

abbrev pub invariant-loop : goal.invariant-loop
invariant-loop g l = IsTokenOf (lot_of_once l.once) l.token
