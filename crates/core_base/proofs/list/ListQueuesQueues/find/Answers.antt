use Rattle.core_base.proofs.Seats.{line_seated}
use Rattle.core_base.proofs.list.ListQueuesQueues.find.Goals as goal

pub returns-then-index-key-clause-few : goal.returns-then-index-key-clause-few
returns-then-index-key-clause-few c = rw (← c.self.view_is) (line_seated c.args.key _ _ c.self.invariant.1)

pub returns-clause-few : goal.returns-clause-few
returns-clause-few c = rw (← c.self.view_is) (line_seated c.args.key _ _ c.self.invariant.1)
