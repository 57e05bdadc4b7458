use Rattle.std.specs.Arc.{arc_value}
use Rattle.parking_lot_core.specs.Tokens.{IsTokenOf}
use Rattle.test_mutexes.proofs.tests.raw.timed.an_owner_waits_for_its_own_mutex_in_vain.Given as goal

abbrev pub invariant-loop-deadline : goal.invariant-loop-deadline
invariant-loop-deadline g l = IsTokenOf (arc_value l.lot) l.token
