use Rattle.run_once_and_semaphores.specs.SemaphoreUsers.{IsTokenOf, lot_of}
use Rattle.test_onces.proofs.tests.permits.crowds.count_up.Given as goal

abbrev pub invariant-loop : goal.invariant-loop
invariant-loop g l = IsTokenOf (lot_of l.semaphore) l.token
