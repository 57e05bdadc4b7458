use Rattle.lotbench.proofs.mutexes.raw_by_tries.Given as goal

abbrev pub invariant-loop : goal.invariant-loop
invariant-loop g l = g.M.RawMutex.is_token_of (g.M.RawMutex.lot_of l.mutex) l.token
