use Rattle.std.proofs.Common.{◌<◌, length, ap, subst, ◌∙◌}
use Rattle.lot_world.specs.Schedules.{Progress}
use Rattle.lot_world.proofs.DrainLemmas.{round_goes}
use Rattle.lot_world.proofs.draining.Drain.go_round.Goals as goal

pub loop-thread-preserved : goal.loop-thread-preserved
loop-thread-preserved g c =
    let t = c.loop-thread.thread in
    let within = subst (λ n. t < n) (c.threads-thread-end.ensures.number
    ∙ ap (λ (d : Progress). length d.state.places) c.self.view_is) c.loop-thread-test.true in
    round_goes (length c.args.self.now.state.places) t c.loop-thread.self c.go_alone.new.self within
    c.in_ok-go_alone.ensures.ok ∙ c.loop-thread.invariant
