use Rattle.std.proofs.Common.{◌≡◌, ◌∙◌, ◌++◌, length, arith, rules}
use Rattle.core_base.specs.Lines.{line}
use Rattle.core_base.specs.Requeues.{moved_by}
use Rattle.core_base.specs.declared.requeues.Requeue.TheVariants.{One}
use Rattle.core_queues.proofs.Requeued.{no_more_moved}
use Rattle.core_queues.proofs.InBuckets.{bucket_first}
use Rattle.core_queues.proofs.Halves.{apart_taken, in_another, line_few, rest_both, rest_requeued}
use Rattle.core_queues.proofs.section_queues.SectionQueues.requeue_beside.Goals as goal

pub move_all-moved-requires-clause-apart : goal.move_all-moved-requires-clause-apart
move_all-moved-requires-clause-apart c = apart_taken c.args.from c.args.self.now.queues.waiters
    c.args.other.now.queues.waiters _ c.take_first-first.ensures.lines c.requires.apart

pub returns-in-One-clause-number : goal.returns-in-One-clause-number
returns-in-One-clause-number c = let self = c.args.self.now in let other = c.args.other.now in
    let none = in_another self.bits other.bits other.number other.seats c.args.from other.queues.waiters
    other.of_bucket self.number c.requires.keys.0 c.requires.two.1 c.requires.two.2 in
    let number : c.from.result ≡ length
    (moved_by One (line c.args.from (self.queues.waiters ++ other.queues.waiters))) = search rules in
    let room = line_few self.bits self.number self.seats c.args.from self.queues.waiters other.queues.waiters
    self.of_bucket none in
    rw c.in-One.is (
      number,
      omega (
        arith,
        number,
        room,
        no_more_moved One (line c.args.from (self.queues.waiters ++ other.queues.waiters)),
      ),
    )

pub returns-in-TakeOneMoveRest-clause-number : goal.returns-in-TakeOneMoveRest-clause-number
returns-in-TakeOneMoveRest-clause-number c = let self = c.args.self.now in let other = c.args.other.now in
    let none = in_another self.bits other.bits other.number other.seats c.args.from other.queues.waiters
    other.of_bucket self.number c.requires.keys.0 c.requires.two.1 c.requires.two.2 in
    let number = c.move_all-moved.ensures.number in
    rw c.in-TakeOneMoveRest.is (
      number.0 ∙ rest_both c.args.from self.queues.waiters other.queues.waiters _
          none c.take_first-first.ensures.lines,
      number.1,
    )

pub returns-in-TakeOneMoveRest-clause-lines : goal.returns-in-TakeOneMoveRest-clause-lines
returns-in-TakeOneMoveRest-clause-lines c = let self = c.args.self.now in let other = c.args.other.now in
    let none = in_another self.bits other.bits other.number other.seats c.args.from other.queues.waiters
    other.of_bucket self.number c.requires.keys.0 c.requires.two.1 c.requires.two.2 in
    rw (c.in-TakeOneMoveRest.is, c.note_taken.ensures.same.0) (rest_requeued c.args.from c.args.to self.queues.waiters other.queues.waiters _
    _ none c.take_first-first.ensures.lines c.move_all-moved.ensures.lines)

pub invariant_of-self-clause-of_bucket : goal.invariant_of-self-clause-of_bucket
invariant_of-self-clause-of_bucket c = let self = c.args.self.now in bucket_first self.bits self.number
    self.seats c.args.from self.queues.waiters _ self.of_bucket c.take_first-first.ensures.lines
