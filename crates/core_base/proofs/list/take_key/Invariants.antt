use Rattle.std.proofs.Common.{◌≡◌, ◌++◌, take}
use Rattle.std.specs.Vec.{vec_capacity}
use Rattle.core_base.specs.Lines.{line, threads_of}
use Rattle.core_base.proofs.list.take_key.Given as goal

abbrev pub invariant-loop-waiter : goal.invariant-loop-waiter
invariant-loop-waiter l = record {
  pushed : l.out.items ≡ l.fn.out.items ++ threads_of (line l.key (take l.waiter-index l.waiter-items));
  capacity : vec_capacity l.out ≡ vec_capacity l.fn.out;
}
