use Rattle.std.proofs.Common.{◌≡◌, drop}
use Rattle.lot_machine.specs.Machine.{successor_from}
use Rattle.lot_machine.proofs.hands.find_successor.Given as goal

-- none so far is the successor
abbrev pub invariant-loop-other : goal.invariant-loop-other
invariant-loop-other l = successor_from l.thread 0 l.places ≡ successor_from l.thread l.other
    (drop l.other l.places)
