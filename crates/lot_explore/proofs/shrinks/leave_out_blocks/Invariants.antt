use Rattle.lot_explore.proofs.shrinks.leave_out_blocks.Given as goal

abbrev pub decreases-loop-end : goal.decreases-loop-end
decreases-loop-end g l = l.end
