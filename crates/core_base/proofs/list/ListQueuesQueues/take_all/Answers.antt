use Rattle.std.proofs.Common.{arith}
use Rattle.core_base.proofs.Seats.{seated_without_key, length_seated}
use Rattle.core_base.proofs.list.ListQueuesQueues.take_all.Goals as goal

pub take_key-requires : goal.take_key-requires
take_key-requires c =
    let room = rw (← c.self.view_is) at c.requires in
    omega (arith, length_seated _ _ c.self.invariant.1, c.self.inside.waiters.ok)

pub invariant_of-self : goal.invariant_of-self
invariant_of-self c = rw (c.take_key.ensures.capacity, c.take_key.ensures.items) (
  c.self.invariant.0,
  seated_without_key _ _ _ c.self.invariant.1,
)
