use Rattle.std.proofs.Common.{◌≡◌, ◌∙◌, ap}
use Rattle.lot_machine.specs.Machine.{after, go_of, step_outcome}
use Rattle.lot_machine.proofs.Shape.{after_well_formed, after_size}
use Rattle.lot_world.specs.Schedules.{Progress, one_more}
use Rattle.lot_world.proofs.DrainLemmas.{not_taken}
use Rattle.lot_world.proofs.draining.Drain.go.Goals as goal

pub invariant_of-self-in-NotNow : goal.invariant_of-self-in-NotNow
invariant_of-self-in-NotNow g c =
    let w = c.self.inside.machine in
    let s = c.go_of-step.result in
    rw c.turn-outcome.ensures.state (
      after_well_formed w s c.self.invariant.0,
      (after_size w s).locks
          ∙ c.self.invariant.1,
    )

pub invariant_of-self-in_default : goal.invariant_of-self-in_default
invariant_of-self-in_default g c =
    let w = c.self.inside.machine in
    let s = c.go_of-step.result in
    rw c.turn-outcome.ensures.state (
      after_well_formed w s c.self.invariant.0,
      (after_size w s).locks
          ∙ c.self.invariant.1,
    )

pub returns-in-NotNow-clause-ok : goal.returns-in-NotNow-clause-ok
returns-in-NotNow-clause-ok g c =
    let d = c.args.self.now in
    let t = c.args.thread in
    let w = c.self.inside.machine in
    let turn = c.turn-outcome in
    let told : turn.result ≡ step_outcome d.state (go_of t) = turn.ensures.outcome
    ∙ ap (step_outcome w) c.go_of-step.ensures ∙ ap (λ (p : Progress). step_outcome p.state (go_of t))
    c.self.view_is in
    let led : turn.new.self ≡ after d.state (go_of t) = turn.ensures.state ∙ ap (after w) c.go_of-step.ensures
    ∙ ap (λ (p : Progress). after p.state (go_of t)) c.self.view_is in
    let kept : c.reserve.new.self.items ≡ d.steps = c.reserve.ensures.items
    ∙ ap (λ (p : Progress). p.steps) c.self.view_is in (
      told,
      not_taken d (one_more d (go_of t)) t turn.new.self c.reserve.new.self.items turn.result told
          c.in-NotNow.is led kept,
    )
