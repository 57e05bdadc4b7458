use Rattle.std.proofs.Common.{◌≡◌, ◌-◌, length}
use Rattle.lot_world.specs.Drainable.{all_hold_few}
use Rattle.lot_world.proofs.drainable.all_hold_few.Given as goal

-- each so far holds few
abbrev pub invariant-loop-thread : goal.invariant-loop-thread
invariant-loop-thread g l = let w = l.machine in all_hold_few w l.thread (length w.places - l.thread)
    ≡ all_hold_few w 0 (length w.places)
