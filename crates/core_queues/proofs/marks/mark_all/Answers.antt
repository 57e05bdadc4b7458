use Rattle.std.proofs.Common.{length-set, ◌∙◌, arith}
use Rattle.core_queues.proofs.Walks.{at, one_marked, none_to_mark}
use Rattle.core_queues.proofs.marks.mark_all.Goals.{then-waiter-len, else-waiter-len}
use Rattle.core_queues.proofs.marks.mark_all.Goals as goal

pub loop-waiter-preserved : goal.loop-waiter-preserved
loop-waiter-preserved c = elim c.if-waiter-len.branch [
  | then-waiter-len w ↦ rw w.marks-is (record {
    marked = λ thread stands fits. one_marked c.args.waiters.now c.loop-waiter.marks.items
        c.loop-waiter.waiter-index c.args.mark c.loop-waiter-test.true c.loop-waiter.invariant.marked thread stands
        (omega (
          arith,
          fits,
          length-set c.loop-waiter.marks.items (at c.args.waiters.now c.loop-waiter.waiter-index).thread c.args.mark,
        ));
    length = length-set _ _ _ ∙ c.loop-waiter.invariant.length;
  })
  | else-waiter-len w ↦ rw w.marks-is (record {
    marked = none_to_mark c.args.waiters.now c.loop-waiter.marks.items c.loop-waiter.waiter-index
        c.args.mark c.loop-waiter-test.true (omega (arith, w.if-waiter-len.false, c.len.ensures, c.loop-waiter.marks.ok))
        c.loop-waiter.invariant.marked;
    length = c.loop-waiter.invariant.length;
  })
]
