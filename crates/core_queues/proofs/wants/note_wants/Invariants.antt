use Rattle.std.proofs.Common.{◌≡◌, ◌++◌, length, drop}
use Rattle.std.specs.Vec.{vec_capacity}
use Rattle.core_base.specs.Lines.{line}
use Rattle.core_base.specs.Picks.{picked}
use Rattle.core_queues.specs.Wants.{wants_of}
use Rattle.core_queues.proofs.wants.note_wants.Given as goal

abbrev pub invariant-loop-waiter : goal.invariant-loop-waiter
invariant-loop-waiter g l = let by = g.P.Picker in record {
  noted : l.wants.items ++ wants_of (picked by.answer by.next l.picker
      (line l.key (drop l.place l.queues.waiters))) ≡ wants_of (picked by.answer by.next l.fn.picker
      (line l.key l.queues.waiters));
  room : vec_capacity l.wants ≡ vec_capacity l.fn.wants;
}

abbrev pub decreases-loop-waiter : goal.decreases-loop-waiter
decreases-loop-waiter g l = length (line l.key (drop l.place l.queues.waiters))
