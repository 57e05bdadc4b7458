use Rattle.std.proofs.Common.{rules, ◌≡◌, ◌+◌, length, slice_index_or, subst}
use Rattle.lock_monitor.specs.Calls.{HasRun}
use Rattle.parking_lot_core.specs.declared.lot.ParkingLot.{ParkingLot}
use Rattle.lock_monitor.proofs.team.Team.run_times.Goals as goal

pub returns-clause-calls : goal.returns-clause-calls
returns-clause-calls g c = let tickets = c.in_ok-tickets.tickets.items in
    let number : length tickets + 1 ≡ c.args.self.records.count = search rules in
    let same : c.deref-shared.result.now ≡ c.args.self = search rules in (
      tickets,
      number,
      λ k d near. subst (λ (lot : ParkingLot). HasRun g.F.Fn c.args.f.now lot c.args.times
          (slice_index_or tickets k d)) same (c.in_ok-tickets.ensures.each k d (search rules)).1.call.met.1,
    )
