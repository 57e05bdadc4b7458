use Rattle.lot_laws.specs.SitesOf.{IsWorld}
use Rattle.std.proofs.Common.{◌+◌, take}
use Rattle.std.proofs.lemmas.List.{take_more}
use Rattle.lot_machine.proofs.Shape.{size_more}
use Rattle.lot_laws.proofs.calls.Runs.{run_state, run_outcomes}
use Rattle.std.proofs.lemmas.List.{take_all}
use Rattle.std.proofs.Common.{◌≡◌, ap, ◌∙◌, ◌++◌, arith}
use Rattle.lot_machine.specs.Machine.{after_steps, step_outcomes}
use Rattle.lot_laws.proofs.promises.WorldRuns.{tells_run, tells_refines, world_kept}
use Rattle.lot_laws.proofs.promises.Headline.{holds_after, tells_behaves, tells_guaranteed, tells_headline}
use Rattle.lot_laws.proofs.promises.Overtaken.{nobody_is_overtaken}
use Rattle.lot_rests.proofs.Rest.{worlds_come_to_rest}
use Rattle.lot_world.proofs.world.World.run.Goals as goal

pub loop-taken-preserved : goal.loop-taken-preserved
loop-taken-preserved g c =
    let before = c.loop-taken.invariant in
    let more = take_more c.args.steps.now c.loop-taken.taken _ c.loop-taken-test.true in record {
      size = size_more c.args.self.now c.loop-taken.self c.step.new.self before.size c.step.ensures.same_size;
      state = run_state c.args.self.now c.loop-taken.self c.step.new.self (take c.loop-taken.taken
          c.args.steps.now) (take (c.loop-taken.taken + 1) c.args.steps.now) _ more before.state
          c.step.ensures.state;
      count = omega (arith, c.push_reserved.ensures.len, c.reserve.ensures.len, before.count);
      room = omega (arith, c.push_reserved.ensures.capacity, c.reserve.ensures.capacity, before.room);
      outcomes = rw (c.push_reserved.ensures.items, c.reserve.ensures.items, c.step.ensures.outcome)
          (run_outcomes c.args.self.now c.loop-taken.self (take c.loop-taken.taken c.args.steps.now)
          (take (c.loop-taken.taken + 1) c.args.steps.now) _ c.args.outcomes.now.items
          c.loop-taken.outcomes.items more before.state before.outcomes);
    }

pub returns-then-is_err-clause-comes_to_rest : goal.returns-then-is_err-clause-comes_to_rest
returns-then-is_err-clause-comes_to_rest g c =
    let before : IsWorld c.self.inside.machine = c.self.invariant in
    rw (← c.self.view_is) (worlds_come_to_rest c.self.inside.machine before)

pub returns-clause-comes_to_rest : goal.returns-clause-comes_to_rest
returns-clause-comes_to_rest g c =
    let before : IsWorld c.self.inside.machine = c.self.invariant in
    rw (← c.self.view_is) (worlds_come_to_rest c.self.inside.machine before)

pub returns-then-is_err-clause-kept_before : goal.returns-then-is_err-clause-kept_before
returns-then-is_err-clause-kept_before g c =
    let before : IsWorld c.self.inside.machine = c.self.invariant in
    rw (← c.self.view_is) (world_kept c.self.inside.machine before)

pub returns-clause-kept_before : goal.returns-clause-kept_before
returns-clause-kept_before g c =
    let before : IsWorld c.self.inside.machine = c.self.invariant in
    rw (← c.self.view_is) (world_kept c.self.inside.machine before)

pub returns-then-is_err-clause-stopped_refines : goal.returns-then-is_err-clause-stopped_refines
returns-then-is_err-clause-stopped_refines g c =
    let before : IsWorld c.self.inside.machine = c.self.invariant in
    let holds : IsWorld c.args.self.now = rw (← c.self.view_is) before in
    rw c.reserve.ensures.items (tells_refines c.args.self.now c.loop-taken.self
    (take c.loop-taken.taken c.args.steps.now) c.args.outcomes.now.items c.loop-taken.outcomes.items holds
    c.loop-taken.invariant.state c.loop-taken.invariant.outcomes)

pub returns-then-is_err-clause-stopped_run : goal.returns-then-is_err-clause-stopped_run
returns-then-is_err-clause-stopped_run g c =
    let before : IsWorld c.self.inside.machine = c.self.invariant in
    let holds : IsWorld c.args.self.now = rw (← c.self.view_is) before in
    rw c.reserve.ensures.items (tells_run c.args.self.now c.loop-taken.self
    (take c.loop-taken.taken c.args.steps.now) c.args.outcomes.now.items c.loop-taken.outcomes.items holds
    c.loop-taken.invariant.state c.loop-taken.invariant.outcomes)

pub returns-clause-refines : goal.returns-clause-refines
returns-clause-refines g c =
    let before : IsWorld c.self.inside.machine = c.self.invariant in
    let holds : IsWorld c.args.self.now = rw (← c.self.view_is) before in
    let all : take c.loop-taken.taken c.args.steps.now ≡ c.args.steps.now =
    take_all c.loop-taken.taken c.args.steps.now (omega arith) in
    tells_refines c.args.self.now c.loop-taken.self c.args.steps.now c.args.outcomes.now.items
    c.loop-taken.outcomes.items holds
    (c.loop-taken.invariant.state ∙ ap (after_steps c.args.self.now) all) (c.loop-taken.invariant.outcomes
    ∙ ap (λ ss. c.args.outcomes.now.items ++ step_outcomes c.args.self.now ss) all)

pub returns-clause-run : goal.returns-clause-run
returns-clause-run g c =
    let before : IsWorld c.self.inside.machine = c.self.invariant in
    let holds : IsWorld c.args.self.now = rw (← c.self.view_is) before in
    let all : take c.loop-taken.taken c.args.steps.now ≡ c.args.steps.now =
    take_all c.loop-taken.taken c.args.steps.now (omega arith) in
    tells_run c.args.self.now c.loop-taken.self c.args.steps.now c.args.outcomes.now.items
    c.loop-taken.outcomes.items holds
    (c.loop-taken.invariant.state ∙ ap (after_steps c.args.self.now) all) (c.loop-taken.invariant.outcomes
    ∙ ap (λ ss. c.args.outcomes.now.items ++ step_outcomes c.args.self.now ss) all)

pub returns-clause-behaves : goal.returns-clause-behaves
returns-clause-behaves g c =
    let before : IsWorld c.self.inside.machine = c.self.invariant in
    let holds : IsWorld c.args.self.now = rw (← c.self.view_is) before in
    let all : take c.loop-taken.taken c.args.steps.now ≡ c.args.steps.now =
    take_all c.loop-taken.taken c.args.steps.now (omega arith) in
    tells_behaves c.args.self.now c.loop-taken.self c.args.steps.now c.args.outcomes.now.items
    c.loop-taken.outcomes.items holds
    (c.loop-taken.invariant.state ∙ ap (after_steps c.args.self.now) all) (c.loop-taken.invariant.outcomes
    ∙ ap (λ ss. c.args.outcomes.now.items ++ step_outcomes c.args.self.now ss) all)

pub returns-clause-headline : goal.returns-clause-headline
returns-clause-headline g c kinds threads is =
    let before : IsWorld c.self.inside.machine = c.self.invariant in
    let holds : IsWorld c.args.self.now = rw (← c.self.view_is) before in
    let all : take c.loop-taken.taken c.args.steps.now ≡ c.args.steps.now =
    take_all c.loop-taken.taken c.args.steps.now (omega arith) in
    tells_headline c.args.self.now c.loop-taken.self c.args.steps.now c.args.outcomes.now.items
    c.loop-taken.outcomes.items holds
    (c.loop-taken.invariant.state ∙ ap (after_steps c.args.self.now) all) (c.loop-taken.invariant.outcomes
    ∙ ap (λ ss. c.args.outcomes.now.items ++ step_outcomes c.args.self.now ss) all) kinds threads is

pub returns-then-is_err-clause-stopped_behaves : goal.returns-then-is_err-clause-stopped_behaves
returns-then-is_err-clause-stopped_behaves g c =
    let before : IsWorld c.self.inside.machine = c.self.invariant in
    let holds : IsWorld c.args.self.now = rw (← c.self.view_is) before in
    rw c.reserve.ensures.items (tells_behaves c.args.self.now c.loop-taken.self
    (take c.loop-taken.taken c.args.steps.now) c.args.outcomes.now.items c.loop-taken.outcomes.items holds
    c.loop-taken.invariant.state c.loop-taken.invariant.outcomes)

pub returns-then-is_err-clause-stopped_headline : goal.returns-then-is_err-clause-stopped_headline
returns-then-is_err-clause-stopped_headline g c kinds threads is =
    let before : IsWorld c.self.inside.machine = c.self.invariant in
    let holds : IsWorld c.args.self.now = rw (← c.self.view_is) before in
    rw c.reserve.ensures.items (tells_headline c.args.self.now c.loop-taken.self
    (take c.loop-taken.taken c.args.steps.now) c.args.outcomes.now.items c.loop-taken.outcomes.items holds
    c.loop-taken.invariant.state c.loop-taken.invariant.outcomes kinds threads is)

pub returns-clause-guaranteed : goal.returns-clause-guaranteed
returns-clause-guaranteed g c kinds threads is =
    let before : IsWorld c.self.inside.machine = c.self.invariant in
    let holds : IsWorld c.args.self.now = rw (← c.self.view_is) before in
    let all : take c.loop-taken.taken c.args.steps.now ≡ c.args.steps.now =
    take_all c.loop-taken.taken c.args.steps.now (omega arith) in
    tells_guaranteed c.args.self.now c.loop-taken.self c.args.steps.now c.args.outcomes.now.items
    c.loop-taken.outcomes.items holds
    (c.loop-taken.invariant.state ∙ ap (after_steps c.args.self.now) all) (c.loop-taken.invariant.outcomes
    ∙ ap (λ ss. c.args.outcomes.now.items ++ step_outcomes c.args.self.now ss) all) kinds threads is

pub returns-clause-holds : goal.returns-clause-holds
returns-clause-holds g c =
    let before : IsWorld c.self.inside.machine = c.self.invariant in
    let holds : IsWorld c.args.self.now = rw (← c.self.view_is) before in
    let all : take c.loop-taken.taken c.args.steps.now ≡ c.args.steps.now =
    take_all c.loop-taken.taken c.args.steps.now (omega arith) in
    holds_after c.args.steps.now c.args.self.now c.loop-taken.self holds (c.loop-taken.invariant.state
    ∙ ap (after_steps c.args.self.now) all)

pub returns-then-is_err-clause-stopped_guaranteed : goal.returns-then-is_err-clause-stopped_guaranteed
returns-then-is_err-clause-stopped_guaranteed g c kinds threads is =
    let before : IsWorld c.self.inside.machine = c.self.invariant in
    let holds : IsWorld c.args.self.now = rw (← c.self.view_is) before in
    rw c.reserve.ensures.items (tells_guaranteed c.args.self.now c.loop-taken.self
    (take c.loop-taken.taken c.args.steps.now) c.args.outcomes.now.items c.loop-taken.outcomes.items holds
    c.loop-taken.invariant.state c.loop-taken.invariant.outcomes kinds threads is)

pub returns-clause-in_turn : goal.returns-clause-in_turn
returns-clause-in_turn g c =
    let before : IsWorld c.self.inside.machine = c.self.invariant in
    let holds : IsWorld c.args.self.now = rw (← c.self.view_is) before in
    let all : take c.loop-taken.taken c.args.steps.now ≡ c.args.steps.now =
    take_all c.loop-taken.taken c.args.steps.now (omega arith) in
    nobody_is_overtaken c.args.self.now c.loop-taken.self c.args.steps.now holds (c.loop-taken.invariant.state
    ∙ ap (after_steps c.args.self.now) all)

pub returns-then-is_err-clause-stopped_in_turn : goal.returns-then-is_err-clause-stopped_in_turn
returns-then-is_err-clause-stopped_in_turn g c =
    let before : IsWorld c.self.inside.machine = c.self.invariant in
    let holds : IsWorld c.args.self.now = rw (← c.self.view_is) before in
    nobody_is_overtaken c.args.self.now c.loop-taken.self (take c.loop-taken.taken c.args.steps.now) holds
    c.loop-taken.invariant.state
