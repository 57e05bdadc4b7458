use Rattle.parking_lot_core.proofs.Counting.{more_next}
use Rattle.parking_lot_core.proofs.lot.ParkingLot.count_again.Goals as goal

pub count_more-requires-clause-next : goal.count_more-requires-clause-next
count_more-requires-clause-next c = more_next c.args.token.now.number c.args.said c.args.next
    c.requires.said.1 c.requires.next.0 c.requires.next.1
