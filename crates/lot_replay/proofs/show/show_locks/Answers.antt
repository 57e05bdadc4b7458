use Rattle.lot_text.proofs.SentLemmas.{left_less}
use Rattle.lot_replay.proofs.ShowLemmas.{show_step}
use Rattle.lot_replay.proofs.show.show_locks.Goals as goal

pub loop-lock-preserved : goal.loop-lock-preserved
loop-lock-preserved g c =
    left_less _ _ _ c.args.page.now c.loop-lock.page c.show_lock.new.page _ _ _ _ c.loop-lock.invariant
    c.show_lock.ensures
    (show_step c.args.world.now c.loop-lock.lock c.args.names.now c.index-names-lock.result
    c.loop-lock-test.true c.index-names-lock.is)
