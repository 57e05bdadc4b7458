use Rattle.parking_lot.specs.LotOf.{IsTokenOf, lot_of}
use Rattle.lock_examples.proofs.queue.take_all.Given as goal

-- the token is of the queue's lot still
abbrev pub invariant-loop : goal.invariant-loop
invariant-loop g l = IsTokenOf (lot_of l.queue.jobs) l.token
