use Rattle.std.proofs.Common.{◌≡◌, drop}
use Rattle.lot_machine.specs.Machine.{places_told}
use Rattle.lot_machine.proofs.hands.tell_each.Given as goal

-- the threads before this one have been told
abbrev pub invariant-loop-thread : goal.invariant-loop-thread
invariant-loop-thread l = places_told l.reply l.fn.threads l.fn.places ≡ places_told l.reply
    (drop l.thread-index l.fn.threads) l.places
