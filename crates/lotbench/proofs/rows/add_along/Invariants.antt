use Rattle.lotbench.proofs.rows.add_along.Given as goal

abbrev pub invariant-loop : goal.invariant-loop
invariant-loop g l = g.M.RawMutex.is_token_of l.lot l.token
