use Rattle.std.proofs.Common.{rules, ◌≡◌, ℕ, ap, sym, subst}
use Rattle.core_clocks.specs.Clocks.{TimeIsUp}
use Rattle.core_base.specs.declared.ops.Op.{Op}
use Rattle.core_base.specs.declared.ops.Op.TheVariants.{Exchange}
use Rattle.spec_locks.specs.declared.outcomes.Answer.{Answer}
use Rattle.steps_rwlock.specs.RwLockSteps.{entered, patience_of}
use Rattle.core_words.specs.Indices.{word_index}
use Rattle.core_words.specs.Steps.{after_step}
use Rattle.parking_lot_core.specs.Tokens.{view_of}
use Rattle.run_base.specs.RwLockCalls.{first_op}
use Rattle.run_locks.specs.Courses.{course_of}
use Rattle.run_locks.specs.Halves.{HasEndedRwLock, SteppedAndFound}
use Rattle.run_locks.specs.declared.rwlock_courses.Course.TheVariants.{Ends, Takes, GoesOn}
use Rattle.run_locks.proofs.RwLockCalling.{may_start}
use Rattle.run_locks.proofs.RwLockCourses.{ends_with, takes_at}
use Rattle.run_locks.proofs.RwLockHalves.{ended_after, ended_at_once, fits_after, stepped_since}
use Rattle.run_locks.proofs.RwLockTakes.{over_taken, path_taken, word_may_take}
use Rattle.run_locks.proofs.rwlock_calls.call_fast.Goals as goal

pub step_word_unrecorded-seen-requires-clause-may : goal.step_word_unrecorded-seen-requires-clause-may
step_word_unrecorded-seen-requires-clause-may g c = may_start c.args.word.now c.requires.own.2 c.args.purpose
    c.opening.result c.requires.right.0 (view_of c.may_begin.new.token).owns c.opening.ensures
    (search rules)

pub returns-in-Ends-clause-over : goal.returns-in-Ends-clause-over
returns-in-Ends-clause-over g c = let word = c.args.word.now in let a = c.args.settings.now.admission in let q = c.args.purpose in
    let old = c.args.token.now in let by = c.step_word_unrecorded-seen in let mid = by.new.token in
    let seen = by.result in let up = TimeIsUp g.C.Clock.tells c.args._limit.now in
    let now : SteppedAndFound word (first_op q) seen old mid =
    subst (λ (o : Op). SteppedAndFound word o seen old mid) c.opening.ensures
    (stepped_since word c.opening.result seen old c.may_begin.new.token mid c.may_begin.ensures.own.0.1
    c.may_begin.ensures.view c.may_begin.ensures.untold (
      by.ensures.own.0.1,
      by.ensures.stepped,
      by.ensures.own.1,
      by.ensures.coded,
      by.ensures.untold,
    ))
    in let ends : course_of a q seen ≡ Ends c.in-Ends.answer = search rules in
    ended_at_once up word c.requires.own.2 a c.requires.own.4 q seen old mid now c.in-Ends.answer
    (ends_with word.number a q seen c.in-Ends.answer ends) c.requires.right.0 c.requires.right.1

pub returns-in-GoesOn-clause-over : goal.returns-in-GoesOn-clause-over
returns-in-GoesOn-clause-over g c = let word = c.args.word.now in let a = c.args.settings.now.admission in let q = c.args.purpose in
    let old = c.args.token.now in let by = c.step_word_unrecorded-seen in let mid = by.new.token in
    let seen = by.result in let up = TimeIsUp g.C.Clock.tells c.args._limit.now in
    let now : SteppedAndFound word (first_op q) seen old mid =
    subst (λ (o : Op). SteppedAndFound word o seen old mid) c.opening.ensures
    (stepped_since word c.opening.result seen old c.may_begin.new.token mid c.may_begin.ensures.own.0.1
    c.may_begin.ensures.view c.may_begin.ensures.untold (
      by.ensures.own.0.1,
      by.ensures.stepped,
      by.ensures.own.1,
      by.ensures.coded,
      by.ensures.untold,
    ))
    in let goes : course_of a q seen ≡ GoesOn = search rules in (now, goes)

pub step_word_unrecorded-found-requires-clause-may : goal.step_word_unrecorded-found-requires-clause-may
step_word_unrecorded-found-requires-clause-may g c = let word = c.args.word.now in let a = c.args.settings.now.admission in let q = c.args.purpose in
    let old = c.args.token.now in let by = c.step_word_unrecorded-seen in let mid = by.new.token in
    let seen = by.result in let up = TimeIsUp g.C.Clock.tells c.args._limit.now in
    let now : SteppedAndFound word (first_op q) seen old mid =
    subst (λ (o : Op). SteppedAndFound word o seen old mid) c.opening.ensures
    (stepped_since word c.opening.result seen old c.may_begin.new.token mid c.may_begin.ensures.own.0.1
    c.may_begin.ensures.view c.may_begin.ensures.untold (
      by.ensures.own.0.1,
      by.ensures.stepped,
      by.ensures.own.1,
      by.ensures.coded,
      by.ensures.untold,
    ))
    in let goes : course_of a q seen ≡ Takes = search rules in
    word_may_take word c.requires.own.2 a q seen goes (Exchange seen c.taken-to.result)
    (ap (Exchange seen) c.taken-to.ensures) up c.requires.right.0 mid
    (fits_after up word c.requires.own.2 a c.requires.own.4 q seen old mid now
    (takes_at word.number a q seen goes) c.requires.right.0 c.requires.right.1)

pub returns-then-found-seen-clause-over : goal.returns-then-found-seen-clause-over
returns-then-found-seen-clause-over g c = let word = c.args.word.now in let a = c.args.settings.now.admission in let q = c.args.purpose in
    let old = c.args.token.now in let by = c.step_word_unrecorded-seen in let mid = by.new.token in
    let seen = by.result in let up = TimeIsUp g.C.Clock.tells c.args._limit.now in
    let now : SteppedAndFound word (first_op q) seen old mid =
    subst (λ (o : Op). SteppedAndFound word o seen old mid) c.opening.ensures
    (stepped_since word c.opening.result seen old c.may_begin.new.token mid c.may_begin.ensures.own.0.1
    c.may_begin.ensures.view c.may_begin.ensures.untold (
      by.ensures.own.0.1,
      by.ensures.stepped,
      by.ensures.own.1,
      by.ensures.coded,
      by.ensures.untold,
    ))
    in let goes : course_of a q seen ≡ Takes = search rules in
    let found : c.step_word_unrecorded-found.result ≡ seen = search rules in
    let exchange = Exchange seen c.taken-to.result in let to = ap (Exchange seen) c.taken-to.ensures in
    let last = c.step_word_unrecorded-found in let new = last.new.token in
    subst (λ (answer : Answer). HasEndedRwLock up word a q answer old new) (sym c.answer_with.ensures)
    (ended_after up word c.requires.own.2 a c.requires.own.4 q seen old mid now
    (takes_at word.number a q seen goes) (entered (patience_of q)) new (search rules) c.requires.right.0
    c.requires.right.1
    (path_taken word c.requires.own.2 a q seen goes exchange to last.result mid new last.ensures.stepped
    last.ensures.own.1 last.ensures.coded last.ensures.untold found)
    (λ base fits. over_taken word c.requires.own.2 a q seen goes exchange to last.result mid new
    last.ensures.stepped last.ensures.own.1 last.ensures.coded found up base fits))

pub returns-else-found-seen-clause-over : goal.returns-else-found-seen-clause-over
returns-else-found-seen-clause-over g c = let word = c.args.word.now in let a = c.args.settings.now.admission in let q = c.args.purpose in
    let old = c.args.token.now in let by = c.step_word_unrecorded-seen in let mid = by.new.token in
    let seen = by.result in let up = TimeIsUp g.C.Clock.tells c.args._limit.now in
    let now : SteppedAndFound word (first_op q) seen old mid =
    subst (λ (o : Op). SteppedAndFound word o seen old mid) c.opening.ensures
    (stepped_since word c.opening.result seen old c.may_begin.new.token mid c.may_begin.ensures.own.0.1
    c.may_begin.ensures.view c.may_begin.ensures.untold (
      by.ensures.own.0.1,
      by.ensures.stepped,
      by.ensures.own.1,
      by.ensures.coded,
      by.ensures.untold,
    ))
    in let goes : course_of a q seen ≡ Takes = search rules in
    let last = c.step_word_unrecorded-found in (
      mid,
      now,
      goes,
      (
        last.ensures.own.0.1,
        subst (λ (n : ℕ). view_of last.new.token ≡ after_step word.kind (word_index word.number word.kind)
            (Exchange seen n) last.result (view_of mid)) c.taken-to.ensures last.ensures.stepped,
        last.ensures.own.1,
        last.ensures.coded,
        last.ensures.untold,
      ),
      search rules,
    )
