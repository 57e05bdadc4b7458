use Rattle.std.proofs.Common.{ℕ, List, [], ◌∷◌, ◌++◌, ap, ◌∙◌}
use Rattle.lot_explore.proofs.Walking.{walk_more}
use Rattle.lot_explore.proofs.walks.Walk.turn.Goals as goal

pub invariant_of-self-then-branch : goal.invariant_of-self-then-branch
invariant_of-self-then-branch g c =
    walk_more c.self.inside.program.now c.self.inside.scene c.self.inside.spare c.move_from.new.self
    c.swap.new.x c.swap.new.y
    c.self.inside.moves.items c.push_reserved.new.self.items c.args.by c.in_ok-move_from.field-0
    c.self.invariant c.if-branch.true c.in_ok-move_from.ensures.moved c.move_from.ensures.shape
    c.swap.ensures.x_after c.swap.ensures.y_after
    (c.push_reserved.ensures.items ∙ ap (λ (ks : List ℕ). ks ++ c.args.by ∷ []) c.reserve.ensures.items)
