use Rattle.std.proofs.Common.{◌≡◌, rules}
use Rattle.core_base.specs.Lines.{lines}
use Rattle.core_base.specs.Requeues.{requeued}
use Rattle.core_queues.proofs.InBuckets.{bucket_requeued}
use Rattle.core_queues.proofs.section_queues.SectionQueues.requeue.Goals as goal

pub invariant_of-self-clause-of_bucket : goal.invariant_of-self-clause-of_bucket
invariant_of-self-clause-of_bucket c = let self = c.args.self.now in
    let is : lines c.requeue_with-first.new.queues.waiters ≡ lines (requeued c.args.op c.args.from c.args.to
    self.queues.waiters) = search rules in
    bucket_requeued c.args.op self.bits self.number self.seats c.args.from c.args.to self.queues.waiters _
    self.of_bucket c.requires.key is
