use Rattle.std.proofs.Common.{arith}
use Rattle.core_base.proofs.Seats.{seated_without_picked, length_seated}
use Rattle.core_base.proofs.list.ListQueuesQueues.take_by.Goals as goal

pub take_picked-requires : goal.take_picked-requires
take_picked-requires g c =
    let room = rw (← c.self.view_is) at c.requires in
    omega (arith, length_seated _ _ c.self.invariant.1, c.self.inside.waiters.ok)

pub invariant_of-self : goal.invariant_of-self
invariant_of-self g c = rw (c.take_picked.ensures.capacity, c.take_picked.ensures.waiting)
    (c.self.invariant.0, seated_without_picked _ _ _ _ _ _ c.self.invariant.1)
