use Rattle.parking_lot.specs.LotOf.{IsTokenOf, lot_of}
use Rattle.lock_examples.proofs.queue.put_all.Given as goal

-- the token is of the queue's lot still
abbrev pub invariant-loop-job : goal.invariant-loop-job
invariant-loop-job g l = IsTokenOf (lot_of l.queue.jobs) l.token
