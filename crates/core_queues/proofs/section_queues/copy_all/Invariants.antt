use Rattle.std.proofs.Common.{◌≡◌, take}
use Rattle.std.specs.Vec.{vec_capacity}
use Rattle.core_queues.proofs.section_queues.copy_all.Given as goal

abbrev pub invariant-loop-thread : goal.invariant-loop-thread
invariant-loop-thread l = (l.to.items ≡ take l.thread-index l.from)
    × (vec_capacity l.to ≡ vec_capacity l.fn.to)
