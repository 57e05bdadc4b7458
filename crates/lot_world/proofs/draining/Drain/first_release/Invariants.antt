use Rattle.std.proofs.Common.{◌≡◌, ◌-◌, length}
use Rattle.lot_world.specs.Schedules.{first_release}
use Rattle.lot_world.proofs.draining.Drain.first_release.Given as goal

-- nobody may release so far
abbrev pub invariant-loop-thread : goal.invariant-loop-thread
invariant-loop-thread g l = let w = l.self.state in first_release w l.thread (length w.places - l.thread)
    ≡ first_release w 0 (length w.places)
