use Rattle.lot_world.proofs.DrainableTells.{drainable_tells}
use Rattle.lot_world.proofs.world.World.drainable.Goals as goal

pub returns-clause-drainable : goal.returns-clause-drainable
returns-clause-drainable g c = rw (c.is_drainable.ensures, ← c.self.view_is)
    (drainable_tells c.self.inside.machine c.self.invariant)
