use Rattle.std.proofs.Common.{sym, ap, ◌∙◌}
use Rattle.spec_locks.specs.declared.outcomes.Outcome.{Outcome}
use Rattle.lot_machine.specs.Machine.{State}
use Rattle.lot_replay.specs.Stages.{went_alone}
use Rattle.lot_laws.proofs.machine.Stuck.{after_stuck}
use Rattle.lot_replay.proofs.ActionLemmas.{begin_of, did_begin, did_nothing}
use Rattle.lot_replay.proofs.actions.perform.Goals as goal

pub returns-in_default : goal.returns-in_default
returns-in_default g c =
    let t = c.args.thread in
    let begun = c.step-in-Do.ensures in
    let d = did_begin c.args.world.now t c.in-Do.call c.step-in-Do.result begun.outcome
    c.in_default.not-NotNow in
    record {
      state = rw c.in-Do.is (c.solo-in_default.ensures.state ∙ ap (λ (v : State). (went_alone v t).0)
          begun.state ∙ sym (ap (λ (p : State × Outcome). p.0) d));
      outcome = rw c.in-Do.is (c.solo-in_default.ensures.outcome ∙ ap (λ (v : State). (went_alone v t).1)
          begun.state ∙ sym (ap (λ (p : State × Outcome). p.1) d));
      same_locks = c.solo-in_default.ensures.same_size.locks ∙ begun.same_size.locks;
    }

pub returns-in-NotNow-clause-outcome : goal.returns-in-NotNow-clause-outcome
returns-in-NotNow-clause-outcome g c =
    let nothing = did_nothing c.args.world.now c.args.thread c.in-Do.call (sym c.step-in-Do.ensures.outcome
    ∙ c.in-NotNow.is) in
    rw c.in-Do.is (sym (ap (λ (p : State × Outcome). p.1) nothing))

pub returns-in-NotNow-clause-state : goal.returns-in-NotNow-clause-state
returns-in-NotNow-clause-state g c =
    let refused = sym c.step-in-Do.ensures.outcome ∙ c.in-NotNow.is in
    rw c.in-Do.is (c.step-in-Do.ensures.state ∙ after_stuck c.args.world.now
    (begin_of c.args.thread c.in-Do.call) refused
    ∙ sym (ap (λ (p : State × Outcome). p.0) (did_nothing c.args.world.now c.args.thread c.in-Do.call
    refused)))
