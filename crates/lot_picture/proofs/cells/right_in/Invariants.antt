use Rattle.std.proofs.Common.{◌≡◌}
use Rattle.lot_picture.specs.Cells.{right_among}
use Rattle.lot_picture.proofs.cells.right_in.Given as goal

abbrev pub invariant-loop-owner : goal.invariant-loop-owner
invariant-loop-owner l =
    (goal.iterator-loop-owner).can_next l.owner-iterator
    × (goal.iterator-loop-owner).is_finite l.owner-iterator
    × (right_among l.fn.owners l.thread ≡ right_among l.owner-iterator l.thread)
