use Rattle.std.proofs.Common.{◌≡◌, ◌≤◌, ◌<◌, ℕ, length, take, false}
use Rattle.std.specs.Prelude.{slice_index_or}
use Rattle.core_base.specs.Lines.{times}
use Rattle.core_queues.proofs.marks.mark_all.Given as goal

abbrev pub invariant-loop-waiter : goal.invariant-loop-waiter
invariant-loop-waiter l = record {
  marked : (thread : ℕ) → 1 ≤ times thread (take l.waiter-index l.waiters)
      → thread < length l.marks.items → slice_index_or l.marks.items thread false ≡ l.mark;
  length : length l.marks.items ≡ length l.fn.marks.items;
}
