use Rattle.std.proofs.Common.{◌≡◌, ◌++◌, length}
use Rattle.std.specs.Vec.{vec_capacity}
use Rattle.core_base.specs.Lines.{line, threads_of}
use Rattle.lot_machine.proofs.acts.list_line.Given as goal

-- each thread that isn't listed yet stands from the place on
abbrev pub invariant-loop-waiter : goal.invariant-loop-waiter
invariant-loop-waiter g l = let queues = g.Q.Queues in record {
  listed : l.out.items ++ threads_of (queues.rest l.queues l.key l.place) ≡ l.fn.out.items ++ threads_of
      (line l.key (queues.waiting l.queues));
  room : vec_capacity l.out ≡ vec_capacity l.fn.out;
}

abbrev pub decreases-loop-waiter : goal.decreases-loop-waiter
decreases-loop-waiter g l = length (g.Q.Queues.rest l.queues l.key l.place)
