use Rattle.std.proofs.Common.{◌≡◌, ◌++◌, take}
use Rattle.std.specs.Vec.{vec_capacity}
use Rattle.core_base.specs.Requeues.{standing}
use Rattle.core_base.proofs.list.push_each.Given as goal

abbrev pub invariant-loop-thread : goal.invariant-loop-thread
invariant-loop-thread l = record {
  pushed : l.waiters.items ≡ l.fn.waiters.items ++ standing l.key (take l.thread-index l.threads);
  capacity : vec_capacity l.waiters ≡ vec_capacity l.fn.waiters;
}
