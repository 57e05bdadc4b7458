use Rattle.std.proofs.Common.{◌≡◌, drop}
use Rattle.run_base.specs.Takes.{successor_in}
use Rattle.run_base.proofs.taking.successor.Given as goal

-- none so far wants more
abbrev pub invariant-loop-k : goal.invariant-loop-k
invariant-loop-k l = successor_in l.wants ≡ successor_in (drop l.k l.wants)
