use Rattle.std.proofs.Common.{◌∙◌}
use Rattle.lot_machine.proofs.Shape.{after_well_formed, after_size}
use Rattle.lot_world.proofs.draining.Drain.take.Goals as goal

pub invariant_of-self-2 : goal.invariant_of-self-2
invariant_of-self-2 g c =
    let w = c.self.inside.machine in
    rw c.turn.ensures.state (
      after_well_formed w c.args.step c.self.invariant.0,
      (after_size w c.args.step).locks
          ∙ c.self.invariant.1,
    )
