use Rattle.std.proofs.Common.{◌≡◌, ◌≤◌, IfSome, length}
use Rattle.core_queues.specs.Chains.{chain, rest_after}
use Rattle.core_base.specs.Lines.{line, times}
use Rattle.core_queues.proofs.buckets.BucketQueues.first_after.Given as goal

abbrev pub invariant-loop-waiter : goal.invariant-loop-waiter
invariant-loop-waiter l = record {
  stands : IfSome l.before (λ b. 1 ≤ times b (chain l.self l.bucket));
  rest : line l.key (rest_after l.fn.before (chain l.self l.bucket)) ≡ line l.key
      (rest_after l.before (chain l.self l.bucket));
}

abbrev pub decreases-loop-waiter : goal.decreases-loop-waiter
decreases-loop-waiter l = length (rest_after l.before (chain l.self l.bucket))
