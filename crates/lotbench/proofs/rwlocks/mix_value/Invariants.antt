use Rattle.lotbench.proofs.rwlocks.mix_value.Given as goal

abbrev pub invariant-loop-turn : goal.invariant-loop-turn
invariant-loop-turn g l = g.L.RawRwLockHalves.is_token_of (g.L.RawRwLockHalves.lot_of l.lock) l.token
