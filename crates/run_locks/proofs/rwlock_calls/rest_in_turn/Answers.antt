use Rattle.std.proofs.Common.{rules, ◌≡◌, ◌∙◌, List, None, sym, subst}
use Rattle.steps_base.specs.declared.acts.Reply.TheVariants.{Value}
use Rattle.core_clocks.specs.Clocks.{TimeIsUp}
use Rattle.core_base.specs.declared.ops.Op.{Op}
use Rattle.core_words.specs.declared.owners.Ownership.{Ownership}
use Rattle.core_words.specs.declared.views.View.{View}
use Rattle.lot_steps.specs.Steps.{next_place}
use Rattle.parking_lot_core.specs.Tokens.{view_of}
use Rattle.parking_lot_core.specs.declared.tokens.Token.{Token}
use Rattle.run_base.specs.Fitting.{Fits}
use Rattle.run_base.specs.RwLockCalls.{BeginsWith, first_op, rwlock_begin}
use Rattle.run_base.specs.Stages.{stage_of}
use Rattle.run_locks.specs.Courses.{course_of}
use Rattle.run_locks.specs.Halves.{HasBegunRwLock, SteppedAndFound}
use Rattle.run_locks.specs.declared.rwlock_calls.SlowPart.TheVariants.{NotBegun}
use Rattle.run_locks.specs.declared.rwlock_courses.Course.TheVariants.{Ends, Takes, GoesOn}
use Rattle.run_locks.proofs.RwLockCalling.{may_start}
use Rattle.run_locks.proofs.RwLockCourses.{ends_with, takes_at, waits_at}
use Rattle.run_locks.proofs.RwLockHalves.{ended_after, ended_at_once, fits_after, stepped_since}
use Rattle.run_locks.proofs.rwlock_calls.rest_in_turn.Goals as goal

pub first_step_in_turn-seen-requires-clause-may : goal.first_step_in_turn-seen-requires-clause-may
first_step_in_turn-seen-requires-clause-may g c = let begun = c.requires.begun in
    may_start c.args.word.now c.requires.own.2 c.args.purpose.now c.opening-op.result begun.1
    (view_of c.args.token.now).owns c.opening-op.ensures
    (subst (λ (v : View). BeginsWith c.args.word.now.number c.args.purpose.now begun.1 v.owns)
    (sym begun.3.1) begun.2)

pub returns-in-Ends-clause-over : goal.returns-in-Ends-clause-over
returns-in-Ends-clause-over g c = let word = c.args.word.now in let a = c.args.settings.now.admission in let q = c.args.purpose.now in
    let by = c.first_step_in_turn-seen in let mid = by.new.token in let seen = by.result in
    let up = TimeIsUp g.C.Clock.tells c.args.limit.now in
    let now : (before : Token) → HasBegunRwLock word a q NotBegun before c.args.token.now
    → SteppedAndFound word (first_op q) seen before mid = λ before begun.
    subst (λ (o : Op). SteppedAndFound word o seen before mid) c.opening-op.ensures
    (stepped_since word c.opening-op.result seen before c.args.token.now mid begun.0 begun.1 begun.3 (
      by.ensures.own.0.1,
      by.ensures.stepped,
      by.ensures.own.1,
      by.ensures.coded,
      by.ensures.untold,
    ))
    in let ends : course_of a q seen ≡ Ends c.in-Ends.answer = search rules in
    λ before base begins begun. ended_at_once up word c.requires.own.2 a c.requires.own.4 q seen before mid
    (now before begun) c.in-Ends.answer (ends_with word.number a q seen c.in-Ends.answer ends) base begins

pub rest_slow-requires-clause-fits : goal.rest_slow-requires-clause-fits
rest_slow-requires-clause-fits g c = let word = c.args.word.now in let a = c.args.settings.now.admission in let q = c.args.purpose.now in
    let by = c.first_step_in_turn-seen in let mid = by.new.token in let seen = by.result in
    let up = TimeIsUp g.C.Clock.tells c.args.limit.now in
    let now : (before : Token) → HasBegunRwLock word a q NotBegun before c.args.token.now
    → SteppedAndFound word (first_op q) seen before mid = λ before begun.
    subst (λ (o : Op). SteppedAndFound word o seen before mid) c.opening-op.ensures
    (stepped_since word c.opening-op.result seen before c.args.token.now mid begun.0 begun.1 begun.3 (
      by.ensures.own.0.1,
      by.ensures.stepped,
      by.ensures.own.1,
      by.ensures.coded,
      by.ensures.untold,
    ))
    in let goes : course_of a q seen ≡ GoesOn = search rules in
    let begun = c.requires.begun in (
      begun.1,
      fits_after up word c.requires.own.2 a c.requires.own.4 q seen begun.0 mid (now begun.0 begun.3)
          (waits_at word.number a q seen goes) begun.1 begun.2,
    )

pub returns-in-GoesOn-clause-over : goal.returns-in-GoesOn-clause-over
returns-in-GoesOn-clause-over g c = let word = c.args.word.now in let a = c.args.settings.now.admission in let q = c.args.purpose.now in
    let by = c.first_step_in_turn-seen in let mid = by.new.token in let seen = by.result in
    let up = TimeIsUp g.C.Clock.tells c.args.limit.now in
    let now : (before : Token) → HasBegunRwLock word a q NotBegun before c.args.token.now
    → SteppedAndFound word (first_op q) seen before mid = λ before begun.
    subst (λ (o : Op). SteppedAndFound word o seen before mid) c.opening-op.ensures
    (stepped_since word c.opening-op.result seen before c.args.token.now mid begun.0 begun.1 begun.3 (
      by.ensures.own.0.1,
      by.ensures.stepped,
      by.ensures.own.1,
      by.ensures.coded,
      by.ensures.untold,
    ))
    in let goes : course_of a q seen ≡ GoesOn = search rules in
    λ before base begins begun. ended_after up word c.requires.own.2 a c.requires.own.4 q seen before mid
    (now before begun) (waits_at word.number a q seen goes) c.rest_slow.result c.rest_slow.new.token
    (c.rest_slow.ensures.own.1 ∙ by.ensures.own.0.1 ∙ begun.0) base begins c.rest_slow.ensures.path
    c.rest_slow.ensures.over

pub rest_slow-requires-in-Takes-clause-fits : goal.rest_slow-requires-in-Takes-clause-fits
rest_slow-requires-in-Takes-clause-fits g c = let word = c.args.word.now in let a = c.args.settings.now.admission in let q = c.args.purpose.now in
    let by = c.first_step_in_turn-seen in let mid = by.new.token in let seen = by.result in
    let up = TimeIsUp g.C.Clock.tells c.args.limit.now in
    let now : (before : Token) → HasBegunRwLock word a q NotBegun before c.args.token.now
    → SteppedAndFound word (first_op q) seen before mid = λ before begun.
    subst (λ (o : Op). SteppedAndFound word o seen before mid) c.opening-op.ensures
    (stepped_since word c.opening-op.result seen before c.args.token.now mid begun.0 begun.1 begun.3 (
      by.ensures.own.0.1,
      by.ensures.stepped,
      by.ensures.own.1,
      by.ensures.coded,
      by.ensures.untold,
    ))
    in let goes : course_of a q seen ≡ Takes = search rules in
    let begun = c.requires.begun in (
      begun.1,
      fits_after up word c.requires.own.2 a c.requires.own.4 q seen begun.0 mid (now begun.0 begun.3)
          (takes_at word.number a q seen goes) begun.1 begun.2,
    )

pub returns-in-Takes-clause-over : goal.returns-in-Takes-clause-over
returns-in-Takes-clause-over g c = let word = c.args.word.now in let a = c.args.settings.now.admission in let q = c.args.purpose.now in
    let by = c.first_step_in_turn-seen in let mid = by.new.token in let seen = by.result in
    let up = TimeIsUp g.C.Clock.tells c.args.limit.now in
    let now : (before : Token) → HasBegunRwLock word a q NotBegun before c.args.token.now
    → SteppedAndFound word (first_op q) seen before mid = λ before begun.
    subst (λ (o : Op). SteppedAndFound word o seen before mid) c.opening-op.ensures
    (stepped_since word c.opening-op.result seen before c.args.token.now mid begun.0 begun.1 begun.3 (
      by.ensures.own.0.1,
      by.ensures.stepped,
      by.ensures.own.1,
      by.ensures.coded,
      by.ensures.untold,
    ))
    in let goes : course_of a q seen ≡ Takes = search rules in
    λ before base begins begun. ended_after up word c.requires.own.2 a c.requires.own.4 q seen before mid
    (now before begun) (takes_at word.number a q seen goes) c.rest_slow-in-Takes.result c.rest_slow-in-Takes.new.token
    (c.rest_slow-in-Takes.ensures.own.1 ∙ by.ensures.own.0.1 ∙ begun.0) base begins c.rest_slow-in-Takes.ensures.path
    c.rest_slow-in-Takes.ensures.over
