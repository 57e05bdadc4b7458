use Rattle.std.specs.Arc.{arc_value}
use Rattle.parking_lot_core.specs.Tokens.{IsTokenOf}
use Rattle.test_mutexes.proofs.tests.raw.timed.race.Given as goal

abbrev pub invariant-loop-round : goal.invariant-loop-round
invariant-loop-round g l = IsTokenOf (arc_value l.mutex.lot) l.token
