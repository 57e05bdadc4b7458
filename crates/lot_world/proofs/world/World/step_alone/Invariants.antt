use Rattle.std.proofs.Common.{◌≡◌, ◌-◌}
use Rattle.spec_locks.specs.declared.outcomes.Outcome.TheVariants as outcome
use Rattle.lot_machine.specs.Machine.{solo}
use Rattle.lot_machine.specs.Fits.{SameSize}
use Rattle.lot_world.proofs.world.World.step_alone.Given as goal

-- the rest of the steps leads where all of them lead
abbrev pub invariant-loop : goal.invariant-loop
invariant-loop g l = record {
  rest : solo (64 - l.counter) l.self l.thread l.last ≡ solo 64 l.fn.self l.thread outcome.NotNow;
  size : SameSize l.fn.self l.self;
}
