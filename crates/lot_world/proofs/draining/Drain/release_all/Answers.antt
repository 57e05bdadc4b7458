use Rattle.std.proofs.Common.{◌<◌, ◌≤◌, ◌-◌, length, sym, ap, subst, ◌∙◌, arith}
use Rattle.lot_world.specs.Schedules.{Progress}
use Rattle.lot_world.proofs.DrainLemmas.{releases_end, releases_go, releases_over}
use Rattle.lot_world.proofs.draining.Drain.release_all.Goals as goal

pub returns-in-None-clause-ok : goal.returns-in-None-clause-ok
returns-in-None-clause-ok g c =
    releases_over (length c.args.self.now.state.places - c.loop.counter) c.loop.self (sym c.in-None.is
    ∙ c.first_release.ensures) ∙ c.loop.invariant

pub loop-preserved : goal.loop-preserved
loop-preserved g c =
    let within = subst (λ n. c.loop.counter < n) (c.threads-end.ensures.number
    ∙ ap (λ (d : Progress). length d.state.places) c.self.view_is) c.loop-test.true in
    releases_go (length c.args.self.now.state.places) c.loop.counter c.loop.self c.release.new.self
    c.in-Some.step within (sym c.in-Some.is ∙ c.first_release.ensures) c.in_ok-release-in-Some.ensures.ok
    ∙ c.loop.invariant

pub returns-clause-ok : goal.returns-clause-ok
returns-clause-ok g c =
    let all = subst (λ n. n ≤ c.loop.counter) (c.threads-end.ensures.number
    ∙ ap (λ (d : Progress). length d.state.places) c.self.view_is) c.loop-test.false in
    sym (releases_end (length c.args.self.now.state.places - c.loop.counter) c.loop.self (omega (arith, all)))
    ∙ c.loop.invariant
