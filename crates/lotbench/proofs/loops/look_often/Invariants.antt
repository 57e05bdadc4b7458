use Rattle.lotbench.specs.Seats.{IsSeatOfLeast}
use Rattle.lotbench.proofs.loops.look_often.Given as goal

abbrev pub invariant-loop : goal.invariant-loop
invariant-loop g l = IsSeatOfLeast l.lock l.seat
