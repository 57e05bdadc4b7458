use Rattle.std.proofs.Common.{◌≡◌, drop}
use Rattle.core_base.specs.Lines.{line}
use Rattle.core_base.proofs.list.ListQueuesQueues.find.Given as goal

abbrev pub invariant-loop-at : goal.invariant-loop-at
invariant-loop-at l = line l.key (drop l.place l.self.waiters) ≡ line l.key (drop l.at l.self.waiters)
