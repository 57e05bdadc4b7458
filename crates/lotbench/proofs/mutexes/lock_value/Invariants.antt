use Rattle.lotbench.proofs.mutexes.lock_value.Given as goal

abbrev pub invariant-loop : goal.invariant-loop
invariant-loop g l = g.M.RawMutex.is_token_of (g.M.RawMutex.lot_of l.mutex) l.token
