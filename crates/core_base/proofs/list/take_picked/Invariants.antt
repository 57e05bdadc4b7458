use Rattle.std.proofs.Common.{◌≡◌, ◌+◌, ◌≤◌, ◌++◌, ◌-◌, length, take, drop}
use Rattle.std.specs.Vec.{vec_len, vec_capacity}
use Rattle.core_base.specs.Lines.{line, threads_of}
use Rattle.core_base.specs.Picks.{picked, without_picked}
use Rattle.core_base.proofs.list.take_picked.Given as goal

abbrev pub invariant-loop-at : goal.invariant-loop-at
invariant-loop-at g l = let by = g.P.Picker in record {
  within : l.at ≤ length l.waiters.items;
  taken : l.out.items ++ threads_of (picked by.answer by.next l.picker
      (line l.key (drop l.at l.waiters.items))) ≡ l.fn.out.items ++ threads_of
      (picked by.answer by.next l.fn.picker (line l.key l.fn.waiters.items));
  waiting : take l.at l.waiters.items ++ without_picked by.answer by.next l.picker l.key
      (drop l.at l.waiters.items) ≡ without_picked by.answer by.next l.fn.picker l.key l.fn.waiters.items;
  left : vec_len l.out + vec_len l.waiters ≤ vec_capacity l.out;
  room : vec_capacity l.out ≡ vec_capacity l.fn.out;
  capacity : vec_capacity l.waiters ≡ vec_capacity l.fn.waiters;
}

abbrev pub decreases-loop-at : goal.decreases-loop-at
decreases-loop-at g l = vec_len l.waiters - l.at
