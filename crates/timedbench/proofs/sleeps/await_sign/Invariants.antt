use Rattle.parking_lot.specs.LotOf.{IsTokenOf, lot_of}
use Rattle.timedbench.proofs.sleeps.await_sign.Given as goal

abbrev pub invariant-loop : goal.invariant-loop
invariant-loop g l = IsTokenOf (lot_of l.room.ball) l.token
