use Rattle.std.proofs.Common.{◌≡◌, ◌++◌, take, drop}
use Rattle.lot_machine.specs.Machine.{shares_given}
use Rattle.lot_machine.proofs.shares.give_shares.Given as goal

-- the threads before this one have their shares
abbrev pub invariant-loop-other : goal.invariant-loop-other
invariant-loop-other l = shares_given l.thread l.places l.fn.shares ≡ take l.other l.shares ++ shares_given
    l.thread (drop l.other l.places) (drop l.other l.shares)
