use Rattle.parking_lot_core.proofs.Counting.{less_next}
use Rattle.parking_lot_core.proofs.lot.ParkingLot.count_less.Goals as goal

pub count_less-requires-clause-next : goal.count_less-requires-clause-next
count_less-requires-clause-next c = less_next c.args.token.now.number c.args.said c.requires.said.1
    c.requires.said.2
