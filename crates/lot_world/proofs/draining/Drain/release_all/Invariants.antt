use Rattle.std.proofs.Common.{◌≡◌, ◌-◌, length}
use Rattle.lot_world.specs.Schedules.{released}
use Rattle.lot_world.proofs.draining.Drain.release_all.Given as goal

abbrev pub invariant-loop : goal.invariant-loop
invariant-loop g l = let n = length l.fn.self.state.places in released (n - l.counter) l.self
    ≡ released n l.fn.self
