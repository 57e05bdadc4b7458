use Rattle.lotbench.proofs.rwlocks.read_value.Given as goal

abbrev pub invariant-loop : goal.invariant-loop
invariant-loop g l = g.L.RawRwLockHalves.is_token_of (g.L.RawRwLockHalves.lot_of l.lock) l.token
