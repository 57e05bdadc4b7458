use Rattle.std.proofs.Common.{rules, ◌≡◌, ◌∙◌, Option, None, Some, List, ap, inl, inr, refl, sym, subst, ℕ}
use Rattle.std.proofs.Common.{false}
use Rattle.steps_base.specs.declared.acts.Reply.TheVariants.{Value}
use Rattle.core_clocks.specs.Clocks.{TimeIsUp}
use Rattle.spec_locks.specs.declared.outcomes.Answer.{Answer}
use Rattle.lot_steps.specs.Steps.{next_act, next_place}
use Rattle.lot_steps.specs.declared.places.Place.{Place}
use Rattle.core_words.specs.declared.owners.Ownership.{Ownership}
use Rattle.run_base.specs.Fitting.{CallPurpose, AreWordsFor, Fits, IsOver, ReachedBy, call_purpose, answer_of}
use Rattle.run_base.specs.Fitting.{of_rwlock}
use Rattle.run_base.specs.Courses.{Courses, trail_of}
use Rattle.run_base.specs.RwLockCalls.{rwlock_deciding}
use Rattle.run_base.specs.Stages.{stage_of}
use Rattle.run_base.specs.Words.{single_word, at_in, kind_in}
use Rattle.run_base.proofs.Ending.{end_of}
use Rattle.run_locks.proofs.RwLockCalling.{rwlock_alone, rwlock_kinds}
use Rattle.run_base.proofs.Turning.{words_on}
use Rattle.run_base.specs.Queued.{is_queued}
use Rattle.run_base.proofs.Unqueued.{after_decision}
use Rattle.run_locks.proofs.rwlock_calls.rest_missed.Goals as goal

pub run_out-requires-clause-words : goal.run_out-requires-clause-words
run_out-requires-clause-words g c = let next : c.advance-next.result.0 ≡ next_place
    (rwlock_deciding c.args.word.now.number c.args.admission.now c.args.purpose.now c.args.expected)
    (Value c.args.found) = search rules in
    subst (λ (p : Place). AreWordsFor p (kind_in (single_word c.args.word.now))
    (at_in (single_word c.args.word.now))) (sym next)
    (words_on (rwlock_deciding c.args.word.now.number c.args.admission.now c.args.purpose.now c.args.expected)
    (Value c.args.found) (kind_in (single_word c.args.word.now)) (at_in (single_word c.args.word.now)) (
      c.requires.own.3,
      rwlock_kinds c.args.word.now c.requires.own.2,
      rwlock_alone c.args.word.now
          c.requires.own.2,
    ))

pub run_out-requires-clause-fits : goal.run_out-requires-clause-fits
run_out-requires-clause-fits g c = let next : c.advance-next.result.0 ≡ next_place
    (rwlock_deciding c.args.word.now.number c.args.admission.now c.args.purpose.now c.args.expected)
    (Value c.args.found) = search rules in
    let none : answer_of (next_act (rwlock_deciding c.args.word.now.number c.args.admission.now
    c.args.purpose.now c.args.expected) (Value c.args.found)) ≡ None = search rules in
    let reached = subst (λ (o : Option Answer). ReachedBy (TimeIsUp g.C.Clock.tells c.args.limit.now)
    c.requires.reached.0 (of_rwlock c.args.word.now.number c.args.admission.now c.args.purpose.now)
    (next_place (rwlock_deciding c.args.word.now.number c.args.admission.now c.args.purpose.now
    c.args.expected) (Value c.args.found)) o (stage_of c.args.token.now None)) none c.requires.reached.1
    in (
      c.requires.reached.0,
      subst (λ (p : Place). Fits (TimeIsUp g.C.Clock.tells c.args.limit.now)
          c.requires.reached.0 p (stage_of c.args.token.now None)) (sym next) reached.0,
    )

pub returns-in-Some-clause-path : goal.returns-in-Some-clause-path
returns-in-Some-clause-path g c =
    let some : answer_of (next_act (rwlock_deciding c.args.word.now.number c.args.admission.now
    c.args.purpose.now c.args.expected) (Value c.args.found)) ≡ Some c.in-Some.answer = search rules in
    inl (
      refl,
      end_of (next_act (rwlock_deciding c.args.word.now.number c.args.admission.now
          c.args.purpose.now c.args.expected) (Value c.args.found)) c.in-Some.answer some,
    )

pub returns-in-Some-clause-over : goal.returns-in-Some-clause-over
returns-in-Some-clause-over g c =
    let some : answer_of (next_act (rwlock_deciding c.args.word.now.number c.args.admission.now
    c.args.purpose.now c.args.expected) (Value c.args.found)) ≡ Some c.in-Some.answer = search rules in
    λ (base : List Ownership) reached. subst (λ (o : Option Answer). ReachedBy
    (TimeIsUp g.C.Clock.tells c.args.limit.now) base (of_rwlock c.args.word.now.number c.args.admission.now
    c.args.purpose.now) (next_place (rwlock_deciding c.args.word.now.number c.args.admission.now
    c.args.purpose.now c.args.expected) (Value c.args.found)) o (stage_of c.args.token.now None)) some
    reached

pub returns-in-None-clause-path : goal.returns-in-None-clause-path
returns-in-None-clause-path g c = let next : c.advance-next.result.0 ≡ next_place
    (rwlock_deciding c.args.word.now.number c.args.admission.now c.args.purpose.now c.args.expected)
    (Value c.args.found) = search rules in
    inr (subst (λ (at : ℕ → ℕ). Courses at c.args.token.now.number
    (next_place (rwlock_deciding c.args.word.now.number c.args.admission.now c.args.purpose.now
    c.args.expected) (Value c.args.found)) (trail_of c.args.token.now None)
    (trail_of c.run_out.new.token None) c.run_out.result) (rwlock_alone c.args.word.now c.requires.own.2)
    (subst (λ (p : Place). Courses (at_in (single_word c.args.word.now)) c.args.token.now.number p
    (trail_of c.args.token.now None) (trail_of c.run_out.new.token None) c.run_out.result) next
    c.run_out.ensures.path))

pub returns-in-None-clause-over : goal.returns-in-None-clause-over
returns-in-None-clause-over g c = let next : c.advance-next.result.0 ≡ next_place
    (rwlock_deciding c.args.word.now.number c.args.admission.now c.args.purpose.now c.args.expected)
    (Value c.args.found) = search rules in
    let none : answer_of (next_act (rwlock_deciding c.args.word.now.number c.args.admission.now
    c.args.purpose.now c.args.expected) (Value c.args.found)) ≡ None = search rules in
    λ (base : List Ownership) reached. let goes =
    subst (λ (o : Option Answer). ReachedBy (TimeIsUp g.C.Clock.tells c.args.limit.now) base
    (of_rwlock c.args.word.now.number c.args.admission.now c.args.purpose.now)
    (next_place (rwlock_deciding c.args.word.now.number c.args.admission.now c.args.purpose.now
    c.args.expected) (Value c.args.found)) o (stage_of c.args.token.now None)) none reached in
    subst (λ (aim : CallPurpose). IsOver (TimeIsUp g.C.Clock.tells c.args.limit.now) base aim c.run_out.result
    (stage_of c.run_out.new.token None)) (ap call_purpose next ∙ goes.1)
    (c.run_out.ensures.over base (subst (λ (p : Place). Fits (TimeIsUp g.C.Clock.tells c.args.limit.now) base p
    (stage_of c.args.token.now None)) (sym next) goes.0))

pub run_out-requires-clause-unqueued : goal.run_out-requires-clause-unqueued
run_out-requires-clause-unqueued g c = let next : c.advance-next.result.0 ≡ next_place
    (rwlock_deciding c.args.word.now.number c.args.admission.now c.args.purpose.now c.args.expected)
    (Value c.args.found) = search rules in
    subst (λ (p : Place). is_queued p ≡ false) (sym next) (after_decision c.args.word.now.number
    c.args.admission.now c.args.purpose.now c.args.expected c.args.found)
