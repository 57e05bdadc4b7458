use Rattle.lotbench.specs.Seats.{IsSeatOfLeast}
use Rattle.lotbench.proofs.loops.hold_told.Given as goal

abbrev pub invariant-loop : goal.invariant-loop
invariant-loop g l = IsSeatOfLeast l.lock l.seat
