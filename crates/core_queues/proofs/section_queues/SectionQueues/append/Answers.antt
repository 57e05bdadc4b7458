use Rattle.core_queues.proofs.InBuckets.{bucket_append}
use Rattle.core_queues.proofs.section_queues.SectionQueues.append.Goals as goal

pub invariant_of-self-clause-of_bucket : goal.invariant_of-self-clause-of_bucket
invariant_of-self-clause-of_bucket c = let self = c.args.self.now in bucket_append self.bits self.number
    self.seats c.args.key c.args.thread c.args.want self.queues.waiters _ self.of_bucket c.requires.key
    c.requires.thread c.append.ensures.lines
