use Rattle.std.proofs.Common.{arith}
use Rattle.lot_rests.proofs.Rounds.{goes_once, goes_round, nobody_yet}
use Rattle.lot_world.proofs.world.World.go_round.Goals as goal

pub loop-thread-init : goal.loop-thread-init
loop-thread-init g c = nobody_yet c.args.self.now

pub loop-thread-preserved : goal.loop-thread-preserved
loop-thread-preserved g c =
    rw (c.any_turn-moved.ensures, c.step-told.ensures.outcome, c.step-told.ensures.state)
    (goes_once c.args.self.now c.loop-thread.self c.loop-thread.thread c.loop-thread.moved
    c.loop-thread.invariant)

pub returns : goal.returns
returns g c = goes_round c.args.self.now c.loop-thread.self c.loop-thread.thread c.loop-thread.moved
    (omega (arith, c.loop-thread-test.false, c.threads-thread-end.ensures)) c.loop-thread.invariant
