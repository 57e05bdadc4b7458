use Rattle.std.proofs.Common.{◌≡◌, [], ap}
use Rattle.core_base.specs.Lines.{line, lines}
use Rattle.core_queues.proofs.Halves.{all_over, in_another}
use Rattle.core_queues.proofs.InBuckets.{bucket_key, bucket_passed}
use Rattle.core_queues.proofs.section_queues.SectionQueues.move_all.Goals as goal

pub invariant_of-self-clause-of_bucket : goal.invariant_of-self-clause-of_bucket
invariant_of-self-clause-of_bucket c = let self = c.args.self.now in bucket_key self.bits self.number
    self.seats c.args.from self.queues.waiters _ self.of_bucket (ap lines c.pass_all.ensures.left)

pub invariant_of-other-clause-of_bucket : goal.invariant_of-other-clause-of_bucket
invariant_of-other-clause-of_bucket c = let self = c.args.self.now in let other = c.args.other.now in
    rw c.pass_all.ensures.passed (bucket_passed other.bits other.number other.seats c.args.from c.args.to
    self.queues.waiters other.queues.waiters other.of_bucket c.requires.keys.1
    (rw (← c.requires.two.0) at self.of_bucket.seated) c.requires.apart)

pub returns-clause-lines : goal.returns-clause-lines
returns-clause-lines c = let self = c.args.self.now in let other = c.args.other.now in
    let none : line c.args.from other.queues.waiters ≡ [] = in_another self.bits other.bits other.number
    other.seats c.args.from other.queues.waiters other.of_bucket self.number c.requires.keys.0
    c.requires.two.1 c.requires.two.2 in
    rw (c.pass_all.ensures.left, c.pass_all.ensures.passed)
    (all_over c.args.from c.args.to self.queues.waiters other.queues.waiters none)
