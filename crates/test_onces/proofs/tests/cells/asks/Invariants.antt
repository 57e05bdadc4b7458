use Rattle.run_once_and_semaphores.specs.OnceUsers.{IsTokenOf, lot_of}
use Rattle.test_onces.proofs.tests.cells.asks.Given as goal

abbrev pub invariant-loop-number : goal.invariant-loop-number
invariant-loop-number g l = IsTokenOf (lot_of l.cell.0) l.token
