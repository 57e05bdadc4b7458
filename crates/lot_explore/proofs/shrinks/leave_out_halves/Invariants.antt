use Rattle.lot_explore.proofs.shrinks.leave_out_halves.Given as goal

abbrev pub decreases-loop-size : goal.decreases-loop-size
decreases-loop-size g l = l.size
