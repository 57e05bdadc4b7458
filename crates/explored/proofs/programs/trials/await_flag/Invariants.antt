use Rattle.parking_lot.specs.LotOf.{IsTokenOf, lot_of}
use Rattle.explored.proofs.programs.trials.await_flag.Given as goal

-- the token is of the flag's lot still
abbrev pub invariant-loop : goal.invariant-loop
invariant-loop g l = IsTokenOf (lot_of l.flag) l.token
