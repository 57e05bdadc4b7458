use Rattle.std.proofs.Common.{ap, ◌∙◌, arith}
use Rattle.core_base.specs.Lines.{lines}
use Rattle.core_queues.proofs.Requeued.{rest_moved, rest_number}
use Rattle.core_queues.proofs.section_queues.requeue_with.Goals as goal

pub returns-in-TakeOneMoveRest-clause-number : goal.returns-in-TakeOneMoveRest-clause-number
returns-in-TakeOneMoveRest-clause-number c =
    let number = c.move_all-in-TakeOneMoveRest.ensures.number in
    rw c.in-TakeOneMoveRest.is (
      number.0 ∙ rest_number c.args.from c.args.queues.now.waiters _ c.take_first-first.ensures.lines,
      omega (arith, number.1, c.take_first-first.ensures.capacity),
    )

pub returns-in-TakeOneMoveRest-clause-lines : goal.returns-in-TakeOneMoveRest-clause-lines
returns-in-TakeOneMoveRest-clause-lines c = rw c.in-TakeOneMoveRest.is (rest_moved c.args.from c.args.to
    c.args.queues.now.waiters _ _ c.take_first-first.ensures.lines
    (ap lines c.move_all-in-TakeOneMoveRest.ensures.waiting))
