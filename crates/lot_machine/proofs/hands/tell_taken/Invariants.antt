use Rattle.std.proofs.Common.{◌≡◌, ◌++◌, map, take, drop}
use Rattle.lot_machine.specs.Machine.{place_after_telling}
use Rattle.lot_machine.proofs.hands.tell_taken.Given as goal

-- the taken threads before this place have been told
abbrev pub invariant-loop-place : goal.invariant-loop-place
invariant-loop-place l = map (place_after_telling l.thread l.reply) l.fn.places ≡ take l.place-index l.places
    ++ map (place_after_telling l.thread l.reply) (drop l.place-index l.places)
