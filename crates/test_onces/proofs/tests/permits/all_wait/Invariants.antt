use Rattle.run_once_and_semaphores.specs.SemaphoreUsers.{IsTokenOf, lot_of}
use Rattle.test_onces.proofs.tests.permits.all_wait.Given as goal

abbrev pub invariant-loop-limit : goal.invariant-loop-limit
invariant-loop-limit g l = IsTokenOf (lot_of l.semaphore) l.token
