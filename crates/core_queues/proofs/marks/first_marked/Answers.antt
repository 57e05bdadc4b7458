use Rattle.std.proofs.Common.{◌≡◌, ◌≢◌, arith}
use Rattle.std.proofs.lemmas.Bool.Decides.{nat_tests}
use Rattle.core_queues.proofs.Walks.{at, has_mark, no_mark, other_key}
use Rattle.core_queues.proofs.marks.first_marked.Goals.{else-waiter-key-via-then-waiter-key+else-marks-waiter}
use Rattle.core_queues.proofs.marks.first_marked.Goals.{else-waiter-key-via-else-waiter-key}
use Rattle.core_queues.proofs.marks.first_marked.Goals as goal

pub bounds-marks-waiter : goal.bounds-marks-waiter
bounds-marks-waiter c = has_mark c.args.waiters.now _ c.loop-waiter.waiter-index c.requires
    c.loop-waiter-test.true

pub loop-waiter-preserved : goal.loop-waiter-preserved
loop-waiter-preserved c = elim c.else-waiter-key.branch [
  | else-waiter-key-via-then-waiter-key+else-marks-waiter w ↦ no_mark c.args.key c.args.waiters.now
      c.args.marks.now c.loop-waiter.waiter-index c.loop-waiter-test.true w.if-marks-waiter.false
      c.loop-waiter.invariant
  | else-waiter-key-via-else-waiter-key w ↦
      let differ : (at c.args.waiters.now c.loop-waiter.waiter-index).key ≢ c.args.key =
      λ (same : (at c.args.waiters.now c.loop-waiter.waiter-index).key ≡ c.args.key).
      grind (arith, nat_tests, same, w.if-waiter-key.false) in
      other_key c.args.key c.args.waiters.now c.args.marks.now c.loop-waiter.waiter-index
      c.loop-waiter-test.true differ c.loop-waiter.invariant
]
