use Rattle.lot_rests.proofs.Rounds.{GoneSo}
use Rattle.lot_world.proofs.world.World.go_round.Given as goal

abbrev pub invariant-loop-thread : goal.invariant-loop-thread
invariant-loop-thread g l = GoneSo l.fn.self l.thread l.moved l.self
