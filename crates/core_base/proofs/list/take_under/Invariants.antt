use Rattle.std.proofs.Common.{◌≡◌, drop, take, ◌++◌, ◌≤◌, length}
use Rattle.core_base.specs.Lines.{line, without_first}
use Rattle.core_base.proofs.list.take_under.Given as goal

abbrev pub invariant-loop-at : goal.invariant-loop-at
invariant-loop-at l = record {
  within : l.at ≤ length l.waiters.items;
  same : l.waiters.items ≡ l.fn.waiters.items;
  first : line l.key l.fn.waiters.items ≡ line l.key (drop l.at l.fn.waiters.items);
  waiting : without_first l.key l.fn.waiters.items ≡ take l.at l.fn.waiters.items ++ without_first l.key
      (drop l.at l.fn.waiters.items);
}
