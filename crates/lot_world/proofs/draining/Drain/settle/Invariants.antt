use Rattle.std.proofs.Common.{◌≡◌, ◌-◌}
use Rattle.lot_world.specs.Schedules.{most_rounds, rounds}
use Rattle.lot_world.proofs.draining.Drain.settle.Given as goal

-- the rest of the rounds lead where all of them lead
abbrev pub invariant-loop : goal.invariant-loop
invariant-loop g l = let n = most_rounds l.fn.self.state in rounds (n - l.counter) l.self ≡ rounds n l.fn.self
