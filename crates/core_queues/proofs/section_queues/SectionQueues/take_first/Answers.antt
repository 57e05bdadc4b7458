use Rattle.core_queues.proofs.InBuckets.{bucket_first}
use Rattle.core_queues.proofs.section_queues.SectionQueues.take_first.Goals as goal

pub invariant_of-self-clause-of_bucket : goal.invariant_of-self-clause-of_bucket
invariant_of-self-clause-of_bucket c = let self = c.args.self.now in bucket_first self.bits self.number
    self.seats c.args.key self.queues.waiters _ self.of_bucket c.take_first-first.ensures.lines
