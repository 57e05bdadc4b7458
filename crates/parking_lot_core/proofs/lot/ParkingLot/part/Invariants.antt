use Rattle.core_queues.specs.Places.{IsSameBucket}
use Rattle.parking_lot_core.specs.Pairs.{IsBegun}
use Rattle.parking_lot_core.proofs.lot.ParkingLot.part.Given as goal

abbrev pub invariant-loop : goal.invariant-loop
invariant-loop g l = (goal.iterator-loop g).can_next l.iterator' × (goal.iterator-loop g).is_finite
    l.iterator'
    × IsSameBucket l.fn.first l.first × IsSameBucket l.fn.other l.other
    × IsBegun l.first × IsBegun l.other
