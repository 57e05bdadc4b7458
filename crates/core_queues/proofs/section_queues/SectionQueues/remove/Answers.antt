use Rattle.core_queues.proofs.InBuckets.{bucket_without}
use Rattle.core_queues.proofs.section_queues.SectionQueues.remove.Goals as goal

pub invariant_of-self-clause-of_bucket : goal.invariant_of-self-clause-of_bucket
invariant_of-self-clause-of_bucket c = let self = c.args.self.now in bucket_without self.bits self.number
    self.seats c.args.thread self.queues.waiters _ self.of_bucket c.remove.ensures.lines
