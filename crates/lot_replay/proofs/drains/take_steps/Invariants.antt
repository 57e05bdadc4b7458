use Rattle.std.proofs.Common.{◌≡◌, drop, length}
use Rattle.lot_machine.specs.Machine.{after_steps}
use Rattle.lot_replay.proofs.drains.take_steps.Given as goal

-- the steps so far are taken
abbrev pub invariant-loop-step : goal.invariant-loop-step
invariant-loop-step g l = record {
  state : after_steps l.world (drop l.step-index l.steps) ≡ after_steps l.fn.world l.steps;
  locks : length l.world.locks ≡ length l.fn.world.locks;
}
