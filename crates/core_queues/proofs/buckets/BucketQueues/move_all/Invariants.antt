use Rattle.std.proofs.Common.{◌≡◌, ◌+◌, length}
use Rattle.core_queues.specs.Chains.{joined}
use Rattle.core_base.specs.Lines.{line, lines}
use Rattle.core_base.specs.Requeues.{requeued}
use Rattle.core_base.specs.declared.requeues.Requeue.TheVariants.{All}
use Rattle.core_queues.proofs.buckets.BucketQueues.move_all.Given as goal

abbrev pub invariant-loop-number : goal.invariant-loop-number
invariant-loop-number l = record {
  number : l.number + length (line l.from (joined l.self.chains)) ≡ length
      (line l.from (joined l.fn.self.chains));
  lines : lines (requeued All l.from l.to (joined l.self.chains))
      ≡ lines (requeued All l.from l.to (joined l.fn.self.chains));
  capacity : l.self.capacity ≡ l.fn.self.capacity;
  bits : l.self.bits ≡ l.fn.self.bits;
}

abbrev pub decreases-loop-number : goal.decreases-loop-number
decreases-loop-number l = length (line l.from (joined l.self.chains))
