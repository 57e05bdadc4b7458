use Rattle.parking_lot_core.specs.Tokens.{IsSameThread}
use Rattle.test_core.proofs.tests.requeues.line_up.Given as goal

abbrev pub invariant-loop-thread : goal.invariant-loop-thread
invariant-loop-thread g l = IsSameThread l.lot l.fn.token l.token
