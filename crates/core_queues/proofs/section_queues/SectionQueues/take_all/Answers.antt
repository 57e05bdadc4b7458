use Rattle.std.proofs.Common.{◌∙◌, ap}
use Rattle.core_queues.specs.Wants.{wants_of}
use Rattle.core_queues.proofs.InBuckets.{bucket_key}
use Rattle.core_queues.proofs.Picked.{picked-everybody}
use Rattle.core_queues.proofs.section_queues.SectionQueues.take_all.Goals as goal

pub invariant_of-self-clause-of_bucket : goal.invariant_of-self-clause-of_bucket
invariant_of-self-clause-of_bucket c = let self = c.args.self.now in bucket_key self.bits self.number
    self.seats c.args.key self.queues.waiters _ self.of_bucket c.take_all.ensures.lines

pub returns-clause-wants : goal.returns-clause-wants
returns-clause-wants c = c.note_wants.ensures.wants ∙ ap wants_of (picked-everybody _ _)
