use Rattle.std.proofs.Common.{◌≡◌, map, replicate}
use Rattle.lot_machine.proofs.shares.unshared_locks.Given as goal

abbrev pub invariant-loop : goal.invariant-loop
invariant-loop l = map (λ row. row.items) l.shares.items ≡ replicate l.counter (replicate l.threads 0)
