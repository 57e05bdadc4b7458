use Rattle.core_base.proofs.Seats.{seated_without_first, first_seated}
use Rattle.core_base.proofs.list.ListQueuesQueues.take_first.Goals as goal

pub invariant_of-self : goal.invariant_of-self
invariant_of-self c = rw (c.take_under.ensures.capacity, c.take_under.ensures.waiting) (
  c.self.invariant.0,
  seated_without_first _ _ _ c.self.invariant.1,
)

pub returns-clause-seated : goal.returns-clause-seated
returns-clause-seated c = rw (← c.self.view_is) (first_seated _ _ _ _ c.self.invariant.1
    c.take_under.ensures.first)
