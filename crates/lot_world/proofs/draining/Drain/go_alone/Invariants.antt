use Rattle.std.proofs.Common.{◌≡◌, ◌-◌}
use Rattle.lot_world.specs.Schedules.{run_alone}
use Rattle.lot_world.proofs.draining.Drain.go_alone.Given as goal

-- the rest of the steps leads where all of them lead
abbrev pub invariant-loop : goal.invariant-loop
invariant-loop g l = run_alone (64 - l.counter) l.self l.thread ≡ run_alone 64 l.fn.self l.thread
