use Rattle.std.proofs.Common.{rules, ◌≡◌, None, List, sym, subst, ℕ, false}
use Rattle.steps_base.specs.declared.acts.Reply.TheVariants.{Value}
use Rattle.core_clocks.specs.Clocks.{TimeIsUp}
use Rattle.lot_steps.specs.Steps.{next_place}
use Rattle.lot_steps.specs.declared.places.Place.{Place}
use Rattle.core_words.specs.declared.owners.Ownership.{Ownership}
use Rattle.run_base.specs.Fitting.{AreWordsFor, Fits, IsOver, call_purpose}
use Rattle.run_base.specs.Courses.{Courses, trail_of}
use Rattle.run_base.specs.RwLockCalls.{rwlock_begin}
use Rattle.run_base.specs.Stages.{stage_of}
use Rattle.run_base.specs.Words.{single_word, at_in, kind_in}
use Rattle.run_locks.proofs.RwLockCalling.{rwlock_alone, words_after}
use Rattle.run_base.specs.Queued.{is_queued}
use Rattle.run_base.proofs.Unqueued.{after_begin}
use Rattle.run_locks.proofs.rwlock_calls.rest_slow.Goals as goal

pub run_out-requires-clause-words : goal.run_out-requires-clause-words
run_out-requires-clause-words g c = let start : c.place_after-start.result
    ≡ next_place (rwlock_begin c.args.word.now.number c.args.admission.now c.args.purpose.now)
    (Value c.args.seen) = search rules in
    subst (λ (p : Place). AreWordsFor p (kind_in (single_word c.args.word.now))
    (at_in (single_word c.args.word.now))) (sym start)
    (words_after c.args.word.now c.requires.own.2 c.args.admission.now c.args.purpose.now c.args.seen
    c.requires.own.3)

pub run_out-requires-clause-fits : goal.run_out-requires-clause-fits
run_out-requires-clause-fits g c = let start : c.place_after-start.result
    ≡ next_place (rwlock_begin c.args.word.now.number c.args.admission.now c.args.purpose.now)
    (Value c.args.seen) = search rules in (
      c.requires.fits.0,
      subst (λ (p : Place). Fits (TimeIsUp g.C.Clock.tells c.args.limit.now) c.requires.fits.0 p
          (stage_of c.args.token.now None)) (sym start) c.requires.fits.1,
    )

pub returns-clause-path : goal.returns-clause-path
returns-clause-path g c = let start : c.place_after-start.result ≡ next_place
    (rwlock_begin c.args.word.now.number c.args.admission.now c.args.purpose.now) (Value c.args.seen) =
    search rules in
    subst (λ (at : ℕ → ℕ). Courses at c.args.token.now.number
    (next_place (rwlock_begin c.args.word.now.number c.args.admission.now c.args.purpose.now)
    (Value c.args.seen)) (trail_of c.args.token.now None) (trail_of c.run_out.new.token None)
    c.run_out.result) (rwlock_alone c.args.word.now c.requires.own.2)
    (subst (λ (p : Place). Courses (at_in (single_word c.args.word.now)) c.args.token.now.number p
    (trail_of c.args.token.now None) (trail_of c.run_out.new.token None) c.run_out.result) start
    c.run_out.ensures.path)

pub returns-clause-over : goal.returns-clause-over
returns-clause-over g c = λ (base : List Ownership) fits. let start : c.place_after-start.result
    ≡ next_place (rwlock_begin c.args.word.now.number c.args.admission.now c.args.purpose.now)
    (Value c.args.seen) = search rules in
    subst (λ (p : Place). IsOver (TimeIsUp g.C.Clock.tells c.args.limit.now) base (call_purpose p)
    c.run_out.result (stage_of c.run_out.new.token None)) start
    (c.run_out.ensures.over base (subst (λ (p : Place). Fits (TimeIsUp g.C.Clock.tells c.args.limit.now) base p
    (stage_of c.args.token.now None)) (sym start) fits))

pub run_out-requires-clause-unqueued : goal.run_out-requires-clause-unqueued
run_out-requires-clause-unqueued g c = let start : c.place_after-start.result
    ≡ next_place (rwlock_begin c.args.word.now.number c.args.admission.now c.args.purpose.now)
    (Value c.args.seen) = search rules in
    subst (λ (p : Place). is_queued p ≡ false) (sym start) (after_begin c.args.word.now.number
    c.args.admission.now c.args.purpose.now c.args.seen)
