use Rattle.std.proofs.Common.{◌≡◌, ◌∙◌, ◌≤◌, length, arith, rules}
use Rattle.core_base.specs.Lines.{line}
use Rattle.core_base.specs.Requeues.{moved_by}
use Rattle.core_base.specs.declared.requeues.Requeue.TheVariants.{One}
use Rattle.core_queues.specs.Chains.{joined}
use Rattle.core_queues.proofs.Joined.{few}
use Rattle.core_queues.proofs.Linked.{hashed}
use Rattle.core_queues.proofs.Requeued.{no_more_moved, rest_moved, rest_number}
use Rattle.core_queues.proofs.kind.BucketQueuesQueues.requeue.Goals as goal

pub returns-in-One-clause-number : goal.returns-in-One-clause-number
returns-in-One-clause-number c =
    let room : length (line c.args.from (joined c.args.self.now.chains)) ≤ c.args.self.now.capacity =
    rw (← c.self.view_is) (few _ c.args.from (hashed _ _ _ _ c.self.invariant.1)) in
    let number : c.from.result ≡ length (moved_by One (line c.args.from (joined c.args.self.now.chains))) =
    search rules in
    rw c.in-One.is (
      number,
      omega (
        arith,
        number,
        room,
        no_more_moved One (line c.args.from (joined c.args.self.now.chains)),
      ),
    )

pub returns-in-TakeOneMoveRest-clause-number : goal.returns-in-TakeOneMoveRest-clause-number
returns-in-TakeOneMoveRest-clause-number c =
    let number = c.move_all-in-TakeOneMoveRest.ensures.number in
    let same = c.take_under-first.ensures.same in
    rw c.in-TakeOneMoveRest.is (
      number.0 ∙ rest_number c.args.from _ _ c.take_under-first.ensures.lines,
      omega (arith, number.1, same.0),
    )

pub returns-in-TakeOneMoveRest-clause-lines : goal.returns-in-TakeOneMoveRest-clause-lines
returns-in-TakeOneMoveRest-clause-lines c =
    rw c.in-TakeOneMoveRest.is (rest_moved c.args.from c.args.to _ _ _ c.take_under-first.ensures.lines
    c.move_all-in-TakeOneMoveRest.ensures.lines)
