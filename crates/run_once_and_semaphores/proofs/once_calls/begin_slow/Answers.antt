use Rattle.std.proofs.Common.{rules, ℕ, ◌≡◌, ◌∙◌, None, Some, ap, sym, subst, false}
use Rattle.core_clocks.specs.Clocks.{TimeIsUp}
use Rattle.steps_base.specs.declared.acts.Reply.TheVariants.{Value}
use Rattle.lot_steps.specs.Steps.{next_act, next_place}
use Rattle.lot_steps.specs.declared.places.Place.{Place}
use Rattle.parking_lot_core.specs.declared.tokens.Token.{Token}
use Rattle.run_base.specs.Fitting.{CallPurpose, Fits, IsStopped, call_purpose, answer_of}
use Rattle.run_base.specs.Courses.{Courses, RunsCourse, trail_of}
use Rattle.run_base.specs.Paths.{at_once}
use Rattle.run_base.specs.Stages.{stage_of}
use Rattle.run_base.specs.Telling.{owns_of}
use Rattle.run_base.specs.Words.{at_in}
use Rattle.run_base.specs.declared.driver.Stop.{Stop}
use Rattle.run_base.specs.declared.driver.Stop.TheVariants.{Ended, Paused}
use Rattle.run_base.proofs.Ending.{end_of}
use Rattle.run_once_and_semaphores.specs.OnceCalls.{StepsLeadTo, in_closure, once_begin}
use Rattle.run_once_and_semaphores.proofs.OnceCalling.{comes_by, looks_ended, looks_on, looks_to, on_aim, once_alone}
use Rattle.run_once_and_semaphores.proofs.OnceCalling.{paused}
use Rattle.run_base.specs.Queued.{is_queued}
use Rattle.run_base.proofs.Unqueued.{after_once}
use Rattle.run_once_and_semaphores.proofs.once_calls.begin_slow.Goals as goal

pub returns-in-Some-clause-path : goal.returns-in-Some-clause-path
returns-in-Some-clause-path g c = let n = c.args.word.number in let call = c.args.call in
    let some : answer_of (next_act (once_begin c.args.word.number c.args.call) (Value c.args.seen))
    ≡ Some c.in-Some.answer = search rules in
    λ before saw. looks_ended n call c.args.seen before c.args.token.now c.in-Some.answer saw.1 saw.3
    (end_of (next_act (once_begin n call) (Value c.args.seen)) c.in-Some.answer some)

pub returns-in-Ended-clause-path : goal.returns-in-Ended-clause-path
returns-in-Ended-clause-path g c = let n = c.args.word.number in let call = c.args.call in
    let next : c.advance-next.result.0 ≡ next_place (once_begin c.args.word.number c.args.call)
    (Value c.args.seen) = search rules in
    let courses = subst (RunsCourse (at_in c.alone.result) c.args.token.now.number c.advance-next.result.0
    (trail_of c.args.token.now None) (trail_of c.run.new.token None)) c.in-Ended.is c.run.ensures.path in
    λ (before : Token) saw. looks_on n call c.args.seen before c.args.token.now
    (trail_of c.run.new.token None) c.in-Ended.answer saw.1 saw.3
    (subst (λ (me : ℕ). Courses (at_once c.args.word.number) me
    (next_place (once_begin c.args.word.number c.args.call) (Value c.args.seen))
    (trail_of c.args.token.now None) (trail_of c.run.new.token None) c.in-Ended.answer) saw.0
    (subst (λ (at : ℕ → ℕ). Courses at c.args.token.now.number
    (next_place (once_begin c.args.word.number c.args.call) (Value c.args.seen))
    (trail_of c.args.token.now None) (trail_of c.run.new.token None) c.in-Ended.answer)
    (ap at_in c.alone.ensures ∙ once_alone c.args.word c.requires.own.2)
    (subst (λ (p : Place). Courses (at_in c.alone.result) c.args.token.now.number p
    (trail_of c.args.token.now None) (trail_of c.run.new.token None) c.in-Ended.answer) next courses)))

pub run-requires-clause-start : goal.run-requires-clause-start
run-requires-clause-start g c = let n = c.args.word.number in let call = c.args.call in let base =
    owns_of c.requires.seen.0 in
    let next : c.advance-next.result.0 ≡ next_place (once_begin c.args.word.number c.args.call)
    (Value c.args.seen) = search rules in
    let none : answer_of (next_act (once_begin c.args.word.number c.args.call) (Value c.args.seen)) ≡ None =
    search rules in
    let on = on_aim n (TimeIsUp g.C.Clock.tells c.args.limit) call c.args.seen base
    (stage_of c.args.token.now None) none (c.requires.seen.1.2 call) in (
      base,
      subst (λ (p : Place). Fits (TimeIsUp g.C.Clock.tells c.args.limit) (owns_of c.requires.seen.0) p
          (stage_of c.args.token.now None)) (sym next) on.0,
    )

pub returns-in-Ended-clause-over : goal.returns-in-Ended-clause-over
returns-in-Ended-clause-over g c = let n = c.args.word.number in let call = c.args.call in
    let next : c.advance-next.result.0 ≡ next_place (once_begin c.args.word.number c.args.call)
    (Value c.args.seen) = search rules in
    let none : answer_of (next_act (once_begin c.args.word.number c.args.call) (Value c.args.seen)) ≡ None =
    search rules in
    λ (before : Token) saw. let base = owns_of before in let on = on_aim n (TimeIsUp g.C.Clock.tells c.args.limit)
    call c.args.seen base (stage_of c.args.token.now None) none (saw.2 call) in
    let fits = subst (λ (p : Place). Fits (TimeIsUp g.C.Clock.tells c.args.limit) (owns_of before) p
    (stage_of c.args.token.now None)) (sym next) on.0 in
    let stopped = subst (λ (stop : Stop). IsStopped (TimeIsUp g.C.Clock.tells c.args.limit) (owns_of before)
    (call_purpose c.advance-next.result.0) stop (stage_of c.run.new.token None)) c.in-Ended.is
    (c.run.ensures.stopped base fits) in
    (subst (λ (aim : CallPurpose). IsStopped (TimeIsUp g.C.Clock.tells c.args.limit) (owns_of before) aim
    (Ended c.in-Ended.answer) (stage_of c.run.new.token None)) (ap call_purpose next ∙ on.1) stopped).1

pub returns-in-Paused-clause-path : goal.returns-in-Paused-clause-path
returns-in-Paused-clause-path g c = let n = c.args.word.number in let call = c.args.call in let base =
    owns_of c.requires.seen.0 in
    let next : c.advance-next.result.0 ≡ next_place (once_begin c.args.word.number c.args.call)
    (Value c.args.seen) = search rules in
    let none : answer_of (next_act (once_begin c.args.word.number c.args.call) (Value c.args.seen)) ≡ None =
    search rules in
    let on = on_aim n (TimeIsUp g.C.Clock.tells c.args.limit) call c.args.seen base
    (stage_of c.args.token.now None) none (c.requires.seen.1.2 call) in
    let fits = subst (λ (p : Place). Fits (TimeIsUp g.C.Clock.tells c.args.limit) (owns_of c.requires.seen.0) p
    (stage_of c.args.token.now None)) (sym next) on.0 in
    let stopped = subst (λ (stop : Stop). IsStopped (TimeIsUp g.C.Clock.tells c.args.limit)
    (owns_of c.requires.seen.0) (call_purpose c.advance-next.result.0) stop
    (stage_of c.run.new.token None)) c.in-Paused.is (c.run.ensures.stopped base fits) in
    let closure = paused (TimeIsUp g.C.Clock.tells c.args.limit) n call base c.in-Paused.place c.in-Paused.state
    (stage_of c.run.new.token None)
    (subst (λ (aim : CallPurpose). IsStopped (TimeIsUp g.C.Clock.tells c.args.limit) (owns_of c.requires.seen.0)
    aim (Paused c.in-Paused.place c.in-Paused.state) (stage_of c.run.new.token None))
    (ap call_purpose next ∙ on.1) stopped) in
    let course = subst (RunsCourse (at_in c.alone.result) c.args.token.now.number c.advance-next.result.0
    (trail_of c.args.token.now None) (trail_of c.run.new.token None)) c.in-Paused.is c.run.ensures.path in
    let comes = comes_by (at_in c.alone.result) n c.args.token.now.number c.advance-next.result.0
    (next_place (once_begin n call) (Value c.args.seen)) c.in-Paused.place
    (in_closure n closure.forced closure.poisoned) (trail_of c.args.token.now None)
    (trail_of c.run.new.token None) (ap at_in c.alone.ensures ∙ once_alone c.args.word c.requires.own.2)
    next closure.there course in
    λ (before : Token) saw. (
      closure.forced,
      closure.poisoned,
      closure.call,
      closure.told,
      looks_to n call c.args.seen before c.args.token.now (trail_of c.run.new.token None)
          (in_closure n closure.forced closure.poisoned) saw.1 saw.3
          (subst (λ (me : ℕ). StepsLeadTo n me (next_place (once_begin n call) (Value c.args.seen))
          (trail_of c.args.token.now None) (trail_of c.run.new.token None)
          (in_closure n closure.forced closure.poisoned)) saw.0 comes),
    )

pub returns-in-Paused-clause-over : goal.returns-in-Paused-clause-over
returns-in-Paused-clause-over g c = let n = c.args.word.number in let call = c.args.call in
    let next : c.advance-next.result.0 ≡ next_place (once_begin c.args.word.number c.args.call)
    (Value c.args.seen) = search rules in
    let none : answer_of (next_act (once_begin c.args.word.number c.args.call) (Value c.args.seen)) ≡ None =
    search rules in
    λ (before : Token) saw. let base = owns_of before in let on = on_aim n (TimeIsUp g.C.Clock.tells c.args.limit)
    call c.args.seen base (stage_of c.args.token.now None) none (saw.2 call) in
    let fits = subst (λ (p : Place). Fits (TimeIsUp g.C.Clock.tells c.args.limit) (owns_of before) p
    (stage_of c.args.token.now None)) (sym next) on.0 in
    let stopped = subst (λ (stop : Stop). IsStopped (TimeIsUp g.C.Clock.tells c.args.limit) (owns_of before)
    (call_purpose c.advance-next.result.0) stop (stage_of c.run.new.token None)) c.in-Paused.is
    (c.run.ensures.stopped base fits) in
    (paused (TimeIsUp g.C.Clock.tells c.args.limit) n call base c.in-Paused.place c.in-Paused.state
    (stage_of c.run.new.token None)
    (subst (λ (aim : CallPurpose). IsStopped (TimeIsUp g.C.Clock.tells c.args.limit) (owns_of before) aim
    (Paused c.in-Paused.place c.in-Paused.state) (stage_of c.run.new.token None)) (ap call_purpose next
    ∙ on.1) stopped)).owns

pub run-requires-clause-unqueued : goal.run-requires-clause-unqueued
run-requires-clause-unqueued g c = let next : c.advance-next.result.0 ≡ next_place
    (once_begin c.args.word.number c.args.call) (Value c.args.seen) = search rules in
    subst (λ (p : Place). is_queued p ≡ false) (sym next) (after_once c.args.word.number c.args.call
    c.args.seen)
