use Rattle.std.proofs.Common.{length, ap, arith}
use Rattle.core_base.proofs.Seats.{seated_append, length_without_seated}
use Rattle.core_base.proofs.list.ListQueuesQueues.append.Goals as goal

pub push_reserved-requires : goal.push_reserved-requires
push_reserved-requires c =
    let below = rw (← c.self.view_is) at c.requires in
    omega (
      arith,
      length_without_seated _ _ _ c.self.invariant.1 below,
      c.drop_thread.new.waiters.ok,
      ap length c.drop_thread.ensures.items,
    )

pub invariant_of-self : goal.invariant_of-self
invariant_of-self c =
    let below = rw (← c.self.view_is) at c.requires in
    rw (
      c.push_reserved.ensures.capacity,
      c.push_reserved.ensures.items,
      c.drop_thread.ensures.capacity,
      c.drop_thread.ensures.items,
    ) (c.self.invariant.0, seated_append _ _ _ _ _ c.self.invariant.1 below)
