use Rattle.std.proofs.Common.{◌≡◌, ◌≤◌, ◌+◌, IfSome, length}
use Rattle.core_queues.specs.Chains.{chain, rest_after}
use Rattle.core_base.specs.Lines.{line, times}
use Rattle.core_queues.proofs.kind.BucketQueuesQueues.count.Given as goal

abbrev pub invariant-loop-waiter : goal.invariant-loop-waiter
invariant-loop-waiter l = record {
  number : l.number + length (line l.key (rest_after l.before (chain l.self l.bucket))) ≡ length
      (line l.key (chain l.self l.bucket));
  stands : IfSome l.before (λ b. 1 ≤ times b (chain l.self l.bucket));
}

abbrev pub decreases-loop-waiter : goal.decreases-loop-waiter
decreases-loop-waiter l = length (line l.key (rest_after l.before (chain l.self l.bucket)))
