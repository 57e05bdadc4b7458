use Rattle.std.proofs.Common.{arith}
use Rattle.core_queues.proofs.Picked.{room_for_want}
use Rattle.core_queues.proofs.wants.note_wants.Goals as goal

pub push_reserved-requires : goal.push_reserved-requires
push_reserved-requires g c = let by = g.P.Picker in let requires = c.requires in
    let room = room_for_want by.answer by.next c.args.picker c.loop-waiter.picker c.loop-waiter.wants.items _
    _ _ c.in-Some.waiter c.args.queues.now.capacity c.loop-waiter.invariant.noted c.in-Some.ensures.found
    c.in-Unpark.ensures.answer c.in-Some.ensures.few in
    let same = c.loop-waiter.invariant.room in omega (arith, requires.1, c.loop-waiter.wants.ok)
