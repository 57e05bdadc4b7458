use Rattle.std.proofs.Common.{length, sym, ap, ◌∙◌}
use Rattle.lot_rests.specs.Rests.{most_steps}
use Rattle.lot_world.specs.Schedules.{Progress, most_rounds}
use Rattle.lot_world.proofs.DrainLemmas.{few_rounds, rounds_end, rounds_go}
use Rattle.lot_world.proofs.draining.Drain.settle.Goals as goal

pub returns-then-len-before-clause-ok : goal.returns-then-len-before-clause-ok
returns-then-len-before-clause-ok g c =
    let w = c.args.self.now.state in
    let within = few_rounds c.loop.counter (most_steps (length w.places) (length w.locks)) c.loop-test.true in
    let before = c.len-before.ensures ∙ c.self.inside.steps.ok.0
    ∙ ap (λ (d : Progress). length d.steps) c.self.view_is in
    let now = c.len.ensures ∙ c.self-in-loop.inside.steps.ok.0
    ∙ ap (λ (d : Progress). length d.steps) c.self-in-loop.view_is in
    rounds_end (most_rounds w) c.loop.counter c.loop.self c.go_round.new.self within
    c.in_ok-go_round.ensures.ok (sym now ∙ c.if-len-before.true ∙ before) ∙ c.loop.invariant

pub loop-preserved : goal.loop-preserved
loop-preserved g c =
    let w = c.args.self.now.state in
    let within = few_rounds c.loop.counter (most_steps (length w.places) (length w.locks)) c.loop-test.true in
    let before = c.len-before.ensures ∙ c.self.inside.steps.ok.0
    ∙ ap (λ (d : Progress). length d.steps) c.self.view_is in
    let now = c.len.ensures ∙ c.self-in-loop.inside.steps.ok.0
    ∙ ap (λ (d : Progress). length d.steps) c.self-in-loop.view_is in
    rounds_go (most_rounds w) c.loop.counter c.loop.self c.go_round.new.self within
    c.in_ok-go_round.ensures.ok (λ same. c.if-len-before.false (now ∙ same ∙ sym before)) ∙ c.loop.invariant
