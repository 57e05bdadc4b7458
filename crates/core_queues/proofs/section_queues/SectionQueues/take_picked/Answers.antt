use Rattle.core_base.specs.Picks.{lock_answer, next_picker}
use Rattle.core_queues.proofs.InBuckets.{bucket_picked}
use Rattle.core_queues.proofs.section_queues.SectionQueues.take_picked.Goals as goal

pub invariant_of-self-clause-of_bucket : goal.invariant_of-self-clause-of_bucket
invariant_of-self-clause-of_bucket c = let self = c.args.self.now in bucket_picked lock_answer next_picker _
    self.bits self.number self.seats c.args.key self.queues.waiters _ self.of_bucket c.take_by.ensures.lines
