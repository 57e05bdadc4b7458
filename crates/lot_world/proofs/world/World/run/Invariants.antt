use Rattle.std.proofs.Common.{◌≡◌, ◌≤◌, ◌+◌, ◌++◌, take}
use Rattle.std.specs.Vec.{vec_len, vec_capacity}
use Rattle.lot_machine.specs.Machine.{after_steps, step_outcomes}
use Rattle.lot_machine.specs.Fits.{SameSize}
use Rattle.lot_world.proofs.world.World.run.Given as goal

abbrev pub invariant-loop-taken : goal.invariant-loop-taken
invariant-loop-taken g l = record {
  size : SameSize l.fn.self l.self;
  state : l.self ≡ after_steps l.fn.self (take l.taken l.steps);
  count : vec_len l.outcomes ≡ vec_len l.fn.outcomes + l.taken;
  room : vec_capacity l.fn.outcomes ≤ vec_capacity l.outcomes;
  outcomes : l.outcomes.items ≡ l.fn.outcomes.items ++ step_outcomes l.fn.self (take l.taken l.steps);
}
