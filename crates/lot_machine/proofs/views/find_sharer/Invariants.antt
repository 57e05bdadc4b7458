use Rattle.std.proofs.Common.{◌≡◌, drop}
use Rattle.lot_machine.specs.Views.{sharers_listed}
use Rattle.lot_machine.proofs.views.find_sharer.Given as goal

-- none so far shares
abbrev pub invariant-loop-thread : goal.invariant-loop-thread
invariant-loop-thread l = sharers_listed l.fn.from (drop l.fn.from l.shares) ≡ sharers_listed l.thread
    (drop l.thread l.shares)
