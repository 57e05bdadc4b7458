use Rattle.lot_text.proofs.SentLemmas.{left_less}
use Rattle.lot_replay.proofs.DrainLemmas.{drain_step}
use Rattle.lot_replay.proofs.drains.print_drain.Goals as goal

pub loop-step-preserved : goal.loop-step-preserved
loop-step-preserved g c =
    left_less _ _ _ c.args.page.now c.loop-step.page c.print_drain_step.new.page _ _ _ _ c.loop-step.invariant
    c.print_drain_step.ensures
    (drain_step c.args.names.now c.args.steps.now c.loop-step.step-index _ c.loop-step-test.true)
