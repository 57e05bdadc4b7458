use Rattle.core_base.proofs.Seats.{seated_without}
use Rattle.core_base.proofs.list.ListQueuesQueues.remove.Goals as goal

pub invariant_of-self : goal.invariant_of-self
invariant_of-self c = rw (c.drop_thread.ensures.capacity, c.drop_thread.ensures.items) (
  c.self.invariant.0,
  seated_without _ _ _ c.self.invariant.1,
)
