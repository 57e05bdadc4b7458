use Rattle.std.proofs.Common.{◌-◌, sym, ap, ◌∙◌, arith}
use Rattle.lot_machine.specs.Machine.{SoloEnd}
use Rattle.lot_machine.proofs.Shape.{size_more}
use Rattle.lot_alone.proofs.AloneSteps.{alone_stuck, alone_goes, alone_rests, solo_end}
use Rattle.lot_world.proofs.world.World.step_alone.Goals as goal

pub returns-in-NotNow-clause-state : goal.returns-in-NotNow-clause-state
returns-in-NotNow-clause-state g c =
    ap (λ (a : SoloEnd). a.state) (sym (alone_stuck c.loop.counter c.loop.self c.step.new.self c.args.thread
    c.loop.last c.step.result c.loop-test.true c.step.ensures.state c.step.ensures.outcome c.in-NotNow.is)
    ∙ c.loop.invariant.rest)

pub returns-in-NotNow-clause-outcome : goal.returns-in-NotNow-clause-outcome
returns-in-NotNow-clause-outcome g c =
    ap (λ (a : SoloEnd). a.outcome) (sym (alone_stuck c.loop.counter c.loop.self c.step.new.self c.args.thread
    c.loop.last c.step.result c.loop-test.true c.step.ensures.state c.step.ensures.outcome c.in-NotNow.is)
    ∙ c.loop.invariant.rest)

pub loop-preserved : goal.loop-preserved
loop-preserved g c = record {
  rest = sym (alone_goes c.loop.counter c.loop.self c.step.new.self c.args.thread c.loop.last c.step.result
      c.loop-test.true c.step.ensures.state c.step.ensures.outcome c.in-Step.is) ∙ c.loop.invariant.rest;
  size = size_more c.args.self.now c.loop.self c.step.new.self c.loop.invariant.size c.step.ensures.same_size;
}

pub returns-in_default : goal.returns-in_default
returns-in_default g c =
    let rests = sym (alone_rests c.loop.counter c.loop.self c.step.new.self c.args.thread c.loop.last
    c.step.result c.loop-test.true c.step.ensures.state c.step.ensures.outcome c.in_default.not-NotNow
    c.in_default.not-Step) ∙ c.loop.invariant.rest in
    record {
      state = ap (λ (a : SoloEnd). a.state) rests;
      outcome = ap (λ (a : SoloEnd). a.outcome) rests;
      same_size = size_more c.args.self.now c.loop.self c.step.new.self c.loop.invariant.size
          c.step.ensures.same_size;
    }

pub returns-clause-state : goal.returns-clause-state
returns-clause-state g c =
    ap (λ (a : SoloEnd). a.state) (sym (solo_end (64 - c.loop.counter) c.loop.self c.args.thread c.loop.last
    (omega arith)) ∙ c.loop.invariant.rest)

pub returns-clause-outcome : goal.returns-clause-outcome
returns-clause-outcome g c =
    ap (λ (a : SoloEnd). a.outcome) (sym (solo_end (64 - c.loop.counter) c.loop.self c.args.thread c.loop.last
    (omega arith)) ∙ c.loop.invariant.rest)
