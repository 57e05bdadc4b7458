use Rattle.std.proofs.Common.{◌≡◌, subst}
use Rattle.std.specs.Prelude.{is_some}
use Rattle.lot_program.specs.States.{program_next}
use Rattle.lot_explore.specs.Walks.{Way}
use Rattle.lot_explore.proofs.Judging.{can_by}
use Rattle.lot_explore.proofs.walks.Walk.can_move.Goals as goal

pub returns-then-branch-clause-moved : goal.returns-then-branch-clause-moved
returns-then-branch-clause-moved g c =
    can_by c.args.self.now.program c.args.self.now.state c.loop-by.by c.in_ok-is_possible.field-0
    c.if-branch.true
    (subst (λ (w : Way). c.in_ok-is_possible.field-0 ≡ is_some (program_next w.program w.state c.loop-by.by))
    c.loop-by.invariant.same c.in_ok-is_possible.ensures.possible)
