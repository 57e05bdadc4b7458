use Rattle.lot_explore.proofs.Walking.{walk_other}
use Rattle.lot_explore.proofs.walks.Walk.is_possible.Goals as goal

pub invariant_of-self : goal.invariant_of-self
invariant_of-self g c =
    walk_other c.self.inside.program.now c.self.inside.scene c.self.inside.spare c.move_from.new.self
    c.self.inside.moves.items c.self.invariant c.move_from.ensures.shape
