use Rattle.std.proofs.Common.{◌≡◌, ◌≤◌, ℕ, take, false}
use Rattle.std.specs.Prelude.{slice_index_or}
use Rattle.core_base.specs.Lines.{line, times}
use Rattle.core_queues.proofs.marks.first_marked.Given as goal

abbrev pub invariant-loop-waiter : goal.invariant-loop-waiter
invariant-loop-waiter l = (thread : ℕ) → 1 ≤ times thread (line l.key (take l.waiter-index l.waiters))
    → slice_index_or l.marks thread false ≡ false
