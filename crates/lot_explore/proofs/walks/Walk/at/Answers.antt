use Rattle.lot_explore.proofs.Walking.{walk_first}
use Rattle.lot_explore.proofs.walks.Walk.at.Goals as goal

pub invariant_of-result : goal.invariant_of-result
invariant_of-result g c =
    walk_first c.args.program.now c.args.scene c.in-Ok.spare c.new-in-Ok.result.items c.requires.fit
    c.requires.start c.in-Ok.ensures c.new-in-Ok.ensures.items
