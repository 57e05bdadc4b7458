use Rattle.std.proofs.Common.{◌≡◌, ◌≤◌, IfSome, length}
use Rattle.core_queues.specs.Chains.{chain, rest_after}
use Rattle.core_base.specs.Lines.{times}
use Rattle.core_queues.proofs.buckets.BucketQueues.drop_thread.Given as goal

abbrev pub invariant-loop-waiter : goal.invariant-loop-waiter
invariant-loop-waiter l = record {
  same : l.self ≡ l.fn.self;
  stands : IfSome l.before (λ b. 1 ≤ times b (chain l.fn.self l.bucket));
  there : 1 ≤ times l.thread (rest_after l.before (chain l.fn.self l.bucket));
}

abbrev pub decreases-loop-waiter : goal.decreases-loop-waiter
decreases-loop-waiter l = length (rest_after l.before (chain l.fn.self l.bucket))
