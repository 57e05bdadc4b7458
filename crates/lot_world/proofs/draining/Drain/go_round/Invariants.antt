use Rattle.std.proofs.Common.{◌≡◌, ◌-◌, length}
use Rattle.lot_world.specs.Schedules.{round}
use Rattle.lot_world.proofs.draining.Drain.go_round.Given as goal

-- the rest of the threads lead where all of them lead
abbrev pub invariant-loop-thread : goal.invariant-loop-thread
invariant-loop-thread g l = let n = length l.fn.self.state.places in round l.self l.thread (n - l.thread)
    ≡ round l.fn.self 0 n
