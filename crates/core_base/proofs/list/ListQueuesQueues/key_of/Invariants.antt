use Rattle.std.proofs.Common.{◌≡◌, drop}
use Rattle.core_base.specs.Lines.{queued_under}
use Rattle.core_base.proofs.list.ListQueuesQueues.key_of.Given as goal

abbrev pub invariant-loop-waiter : goal.invariant-loop-waiter
invariant-loop-waiter l = queued_under l.thread l.waiter-items ≡ queued_under l.thread
    (drop l.waiter-index l.waiter-items)
