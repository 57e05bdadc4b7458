use Rattle.std.proofs.Common.{◌<◌, length, sym, ap, subst, ◌∙◌}
use Rattle.lot_world.specs.Schedules.{Progress}
use Rattle.lot_world.proofs.DrainLemmas.{release_later}
use Rattle.lot_world.proofs.draining.Drain.first_release.Goals as goal

pub loop-thread-preserved : goal.loop-thread-preserved
loop-thread-preserved g c =
    let w = c.args.self.now.state in
    let t = c.loop-thread.thread in
    let within = subst (λ n. t < n) (c.threads-thread-end.ensures.number
    ∙ ap (λ (d : Progress). length d.state.places) c.self.view_is) c.loop-thread-test.true in
    release_later w (length w.places) t within (sym c.in_default.is ∙ c.release_of.ensures)
    ∙ c.loop-thread.invariant
