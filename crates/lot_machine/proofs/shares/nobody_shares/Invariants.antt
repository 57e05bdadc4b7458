use Rattle.std.proofs.Common.{◌≡◌, drop}
use Rattle.std.specs.Prelude.{sum}
use Rattle.lot_machine.proofs.shares.nobody_shares.Given as goal

-- the numbers so far are 0
abbrev pub invariant-loop-number : goal.invariant-loop-number
invariant-loop-number l = sum l.fn.shares ≡ sum (drop l.number-index l.fn.shares)
