use Rattle.std.proofs.Common.{◌≡◌, ◌+◌, length}
use Rattle.std.specs.Vec.{vec_capacity}
use Rattle.core_base.specs.Lines.{line}
use Rattle.core_base.specs.Requeues.{requeued}
use Rattle.core_base.specs.declared.requeues.Requeue.TheVariants.{All}
use Rattle.core_base.proofs.list.move_all.Given as goal

abbrev pub invariant-loop-number : goal.invariant-loop-number
invariant-loop-number l = record {
  counted : l.number + length (line l.from l.waiters.items) ≡ length (line l.from l.fn.waiters.items);
  waiting : requeued All l.from l.to l.waiters.items ≡ requeued All l.from l.to l.fn.waiters.items;
  capacity : vec_capacity l.waiters ≡ vec_capacity l.fn.waiters;
}

abbrev pub decreases-loop-number : goal.decreases-loop-number
decreases-loop-number l = length (line l.from l.waiters.items)
