use Rattle.std.proofs.Common.{◌≡◌, ◌∙◌, false, None, sym, ap, subst, ℕ}
use Rattle.core_clocks.specs.Clocks.{TimeIsUp}
use Rattle.lot_steps.specs.Steps.{next_place}
use Rattle.steps_base.specs.declared.acts.Reply.TheVariants.{Value}
use Rattle.lot_steps.specs.declared.places.Place.{Place}
use Rattle.parking_lot_core.specs.Tokens.{view_of, last_of}
use Rattle.run_base.specs.Calls.{beginning}
use Rattle.run_base.specs.Fitting.{AreWordsFor, Fits, IsOver, IsStopped, call_purpose}
use Rattle.run_base.specs.declared.driver.Stop.{Stop}
use Rattle.run_base.specs.declared.driver.Stop.TheVariants.{Paused}
use Rattle.run_base.specs.Courses.{Courses, RunsCourse, steps_in, trail_of}
use Rattle.run_base.proofs.Courses.{steps_since}
use Rattle.run_base.specs.Queued.{is_queued}
use Rattle.run_base.specs.Stages.{stage_of}
use Rattle.run_base.specs.Words.{kind_in, at_in, single_word}
use Rattle.run_base.specs.declared.words.Words.{Words}
use Rattle.run_base.proofs.Afterwards.{fits_after, over_after, path_after, words_afterwards, alone_at}
use Rattle.run_base.proofs.Afterwards.{never_pauses}
use Rattle.run_base.proofs.Unqueued.{after_first}
use Rattle.run_base.proofs.driver.call_slow.Goals as goal

pub run-requires-clause-words : goal.run-requires-clause-words
run-requires-clause-words g c = let word = c.args.word in
    subst (λ (words : Words). AreWordsFor c.place_after-start.result (kind_in words) (at_in words))
    (sym c.alone.ensures)
    (subst (λ (p : Place). AreWordsFor p (kind_in (single_word c.args.word))
    (at_in (single_word c.args.word))) (sym c.place_after-start.ensures)
    (words_afterwards word c.requires.own.2 c.args.call c.args.seen c.requires.own.3))

pub run-requires-clause-unqueued : goal.run-requires-clause-unqueued
run-requires-clause-unqueued g c = subst (λ (p : Place). is_queued p ≡ false)
    (sym c.place_after-start.ensures) (after_first c.args.word.number c.args.call c.args.seen)

pub run-requires-clause-start : goal.run-requires-clause-start
run-requires-clause-start g c = let v = view_of c.args.token.now in (
  v.owns,
  subst (λ (p : Place). Fits (TimeIsUp g.C.Clock.tells c.args.limit) (view_of c.args.token.now).owns p
      (stage_of c.args.token.now None)) (sym c.place_after-start.ensures)
      (fits_after c.args.word.number (TimeIsUp g.C.Clock.tells c.args.limit) c.args.call c.args.seen v.owns
      (last_of c.args.token.now) v.steps c.requires.goes_on),
)

pub returns-clause-path : goal.returns-clause-path
returns-clause-path g c = λ before same saw untold. let n = c.args.word.number in let at =
    ap at_in c.alone.ensures ∙ alone_at c.args.word c.requires.own.2 in let answer = c.in-Ended.answer in
    let courses : Courses (at_in c.alone.result) c.args.token.now.number c.place_after-start.result
    (trail_of c.args.token.now None) (trail_of c.run.new.token None) c.in-Ended.answer
    = subst (RunsCourse (at_in c.alone.result) c.args.token.now.number c.place_after-start.result
    (trail_of c.args.token.now None) (trail_of c.run.new.token None)) c.in-Ended.is c.run.ensures.path in
    path_after n c.args.call c.args.seen before c.args.token.now c.run.new.token answer
    (subst (λ (at : ℕ → ℕ). Courses at c.args.token.now.number
    (next_place (beginning c.args.word.number c.args.call) (Value c.args.seen))
    (trail_of c.args.token.now None) (trail_of c.run.new.token None) c.in-Ended.answer) at
    (subst (λ (p : Place). Courses (at_in c.alone.result) c.args.token.now.number p
    (trail_of c.args.token.now None) (trail_of c.run.new.token None) c.in-Ended.answer)
    c.place_after-start.ensures courses)) same saw untold

pub returns-clause-over : goal.returns-clause-over
returns-clause-over g c = let n = c.args.word.number in let owns = (view_of c.args.token.now).owns
    in let answer = c.in-Ended.answer in
    let start = fits_after n (TimeIsUp g.C.Clock.tells c.args.limit) c.args.call c.args.seen owns
    (last_of c.args.token.now) (view_of c.args.token.now).steps c.requires.goes_on in
    let fits = subst (λ (p : Place). Fits (TimeIsUp g.C.Clock.tells c.args.limit) (view_of c.args.token.now).owns
    p (stage_of c.args.token.now None)) (sym c.place_after-start.ensures) start in
    let stopped = subst (λ (stop : Stop). IsStopped (TimeIsUp g.C.Clock.tells c.args.limit)
    (view_of c.args.token.now).owns (call_purpose c.place_after-start.result) stop
    (stage_of c.run.new.token None)) c.in-Ended.is (c.run.ensures.stopped owns fits) in
    over_after n (TimeIsUp g.C.Clock.tells c.args.limit) c.args.call c.args.seen owns answer
    (stage_of c.run.new.token None) c.requires.goes_on
    (subst (λ (p : Place). IsOver (TimeIsUp g.C.Clock.tells c.args.limit) (view_of c.args.token.now).owns
    (call_purpose p) c.in-Ended.answer (stage_of c.run.new.token None)) c.place_after-start.ensures
    stopped)

pub unreachable-requires : goal.unreachable-requires
unreachable-requires g c = let n = c.args.word.number in let owns = (view_of c.args.token.now).owns in
    let start = fits_after n (TimeIsUp g.C.Clock.tells c.args.limit) c.args.call c.args.seen owns
    (last_of c.args.token.now) (view_of c.args.token.now).steps c.requires.goes_on in
    let fits = subst (λ (p : Place). Fits (TimeIsUp g.C.Clock.tells c.args.limit) (view_of c.args.token.now).owns
    p (stage_of c.args.token.now None)) (sym c.place_after-start.ensures) start in
    let stopped = subst (λ (stop : Stop). IsStopped (TimeIsUp g.C.Clock.tells c.args.limit)
    (view_of c.args.token.now).owns (call_purpose c.place_after-start.result) stop
    (stage_of c.run.new.token None)) c.in-Paused.is (c.run.ensures.stopped owns fits) in
    never_pauses n (TimeIsUp g.C.Clock.tells c.args.limit) c.args.call c.args.seen owns c.in-Paused.place
    c.in-Paused.state (stage_of c.run.new.token None) c.requires.goes_on
    (subst (λ (p : Place). IsStopped (TimeIsUp g.C.Clock.tells c.args.limit) (view_of c.args.token.now).owns
    (call_purpose p) (Paused c.in-Paused.place c.in-Paused.state) (stage_of c.run.new.token None))
    c.place_after-start.ensures stopped)

pub returns-clause-rest : goal.returns-clause-rest
returns-clause-rest g c =
    let courses : Courses (at_in c.alone.result) c.args.token.now.number c.place_after-start.result
    (trail_of c.args.token.now None) (trail_of c.run.new.token None) c.in-Ended.answer
    = subst (RunsCourse (at_in c.alone.result) c.args.token.now.number c.place_after-start.result
    (trail_of c.args.token.now None) (trail_of c.run.new.token None)) c.in-Ended.is c.run.ensures.path in
    (steps_in courses.0, steps_since _ _ courses.0 courses.1)
