use Rattle.std.proofs.Common.{arith}
use Rattle.core_base.specs.Lines.{line}
use Rattle.lot_machine.proofs.QueueLemmas.{room_for}
use Rattle.lot_machine.proofs.acts.list_line.Goals as goal

pub push_reserved-requires : goal.push_reserved-requires
push_reserved-requires g c =
    let queues = g.Q.Queues in
    let all = line c.args.key (queues.waiting c.args.queues.now) in
    let room = room_for c.loop-waiter.out.items c.args.out.now.items c.in-Some.waiter
    (queues.rest c.args.queues.now c.args.key c.in-Some.afterwards) (queues.rest c.args.queues.now c.args.key
    c.loop-waiter.place) all c.loop-waiter.invariant.listed c.in-Some.ensures.found in
    omega (
      arith,
      room,
      c.requires,
      c.in-Some.ensures.few,
      c.loop-waiter.invariant.room,
      c.loop-waiter.out.ok,
      c.args.out.now.ok,
    )
