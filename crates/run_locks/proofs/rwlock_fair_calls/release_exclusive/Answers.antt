use Rattle.std.proofs.Common.{rules, false, ◌≡◌, ◌≢◌, List, None, ap, refl, subst}
use Rattle.core_base.specs.declared.ops.Op.TheVariants.{Exchange}
use Rattle.spec_locks.specs.declared.calls.Access.TheVariants.{Exclusive}
use Rattle.spec_locks.specs.declared.outcomes.Answer.{Answer}
use Rattle.steps_rwlock_fair.specs.declared.hand_over.HandOverAt.TheVariants.{Enter}
use Rattle.steps_rwlock_fair.specs.declared.places.RwLockCallPlace.TheVariants.{HandOver}
use Rattle.lot_steps.specs.declared.places.Place.TheVariants.{RwLock}
use Rattle.core_words.specs.declared.owners.Ownership.{Ownership}
use Rattle.parking_lot_core.specs.Tokens.{last_of, view_of}
use Rattle.run_base.specs.Courses.{Courses, steps_in, trail_of}
use Rattle.run_base.proofs.Courses.{steps_since}
use Rattle.run_base.specs.Paths.{at_rwlock}
use Rattle.run_base.specs.Stages.{stage_of}
use Rattle.run_locks.proofs.RwLockFairCalls.{goes_to_hand, has_taken_it, path_free, path_handing, record_handing}
use Rattle.run_locks.proofs.RwLockFairCalls.{saw_step}
use Rattle.run_locks.proofs.rwlock_fair_calls.release_exclusive.Goals as goal

pub finish_by_driver-requires-clause-fits : goal.finish_by_driver-requires-clause-fits
finish_by_driver-requires-clause-fits g c = let other : c.first_step_with-seen.result ≢ 8 = search rules in (
  c.requires.right.0,
  goes_to_hand c.args.word.now.number c.args.admission.now c.requires.right.0
      (stage_of c.args.token.now None) (stage_of c.first_step_with-seen.new.token None) c.first_step_with-seen.result refl
      c.requires.own.4 (has_taken_it c.args.word.now c.requires.own.2 (Exchange 8 0) c.first_step_with-seen.result
      c.args.token.now c.first_step_with-seen.new.token c.first_step_with-seen.ensures.stepped c.first_step_with-seen.ensures.own.1
      c.first_step_with-seen.ensures.coded) c.requires.right.1 other,
)

pub returns-then-seen-ne-WRITER-clause-over : goal.returns-then-seen-ne-WRITER-clause-over
returns-then-seen-ne-WRITER-clause-over g c = let other : c.first_step_with-seen.result ≢ 8 = search rules in
    λ (base : List Ownership) right. (c.finish_by_driver.ensures.over base (goes_to_hand c.args.word.now.number
    c.args.admission.now base (stage_of c.args.token.now None) (stage_of c.first_step_with-seen.new.token None)
    c.first_step_with-seen.result refl c.requires.own.4 (has_taken_it c.args.word.now c.requires.own.2 (Exchange 8 0)
    c.first_step_with-seen.result c.args.token.now c.first_step_with-seen.new.token c.first_step_with-seen.ensures.stepped
    c.first_step_with-seen.ensures.own.1 c.first_step_with-seen.ensures.coded) right other)).2

pub returns-then-seen-ne-WRITER-clause-path : goal.returns-then-seen-ne-WRITER-clause-path
returns-then-seen-ne-WRITER-clause-path g c = let other : c.first_step_with-seen.result ≢ 8 = search rules in
    let over = c.finish_by_driver.ensures.over c.requires.right.0 (goes_to_hand c.args.word.now.number
    c.args.admission.now c.requires.right.0 (stage_of c.args.token.now None)
    (stage_of c.first_step_with-seen.new.token None) c.first_step_with-seen.result refl c.requires.own.4
    (has_taken_it c.args.word.now c.requires.own.2 (Exchange 8 0) c.first_step_with-seen.result c.args.token.now
    c.first_step_with-seen.new.token c.first_step_with-seen.ensures.stepped c.first_step_with-seen.ensures.own.1 c.first_step_with-seen.ensures.coded)
    c.requires.right.1 other) in
    path_handing c.args.word.now.number c.args.admission.now c.first_step_with-seen.result c.args.token.now
    c.first_step_with-seen.new.token (saw_step c.args.word.now c.requires.own.2 (Exchange 8 0) c.first_step_with-seen.result
    c.args.token.now c.first_step_with-seen.new.token c.first_step_with-seen.ensures.stepped)
    c.first_step_with-seen.ensures.untold c.finish_by_driver.new.token c.first_step_with-seen.ensures.own.0.1 other
    (subst (λ (answer : Answer). Courses (at_rwlock c.args.word.now.number) c.first_step_with-seen.new.token.number
    (RwLock c.args.word.now.number c.args.admission.now (HandOver Exclusive false Enter))
    (trail_of c.first_step_with-seen.new.token None) (trail_of c.finish_by_driver.new.token None) answer) over.1
    c.finish_by_driver.ensures.path)

pub returns-then-seen-ne-WRITER-clause-record : goal.returns-then-seen-ne-WRITER-clause-record
returns-then-seen-ne-WRITER-clause-record g c = let other : c.first_step_with-seen.result ≢ 8 = search rules in
    let over = c.finish_by_driver.ensures.over c.requires.right.0 (goes_to_hand c.args.word.now.number
    c.args.admission.now c.requires.right.0 (stage_of c.args.token.now None)
    (stage_of c.first_step_with-seen.new.token None) c.first_step_with-seen.result refl c.requires.own.4
    (has_taken_it c.args.word.now c.requires.own.2 (Exchange 8 0) c.first_step_with-seen.result c.args.token.now
    c.first_step_with-seen.new.token c.first_step_with-seen.ensures.stepped c.first_step_with-seen.ensures.own.1 c.first_step_with-seen.ensures.coded)
    c.requires.right.1 other) in
    record_handing c.args.word.now.number c.args.admission.now c.first_step_with-seen.result
    (view_of c.args.token.now).steps (view_of c.first_step_with-seen.new.token).steps
    (view_of c.finish_by_driver.new.token).steps (saw_step c.args.word.now c.requires.own.2 (Exchange 8 0)
    c.first_step_with-seen.result c.args.token.now c.first_step_with-seen.new.token c.first_step_with-seen.ensures.stepped)
    (last_of c.finish_by_driver.new.token) other (steps_in c.finish_by_driver.ensures.path.0)
    (steps_since _ _ c.finish_by_driver.ensures.path.0 c.finish_by_driver.ensures.path.1) over.3

pub returns-else-seen-ne-WRITER-clause-path : goal.returns-else-seen-ne-WRITER-clause-path
returns-else-seen-ne-WRITER-clause-path g c = let same : c.first_step_with-seen.result ≡ 8 = search rules in
    path_free c.args.word.now.number c.args.admission.now c.first_step_with-seen.result c.args.token.now
    c.first_step_with-seen.new.token (saw_step c.args.word.now c.requires.own.2 (Exchange 8 0) c.first_step_with-seen.result
    c.args.token.now c.first_step_with-seen.new.token c.first_step_with-seen.ensures.stepped)
    c.first_step_with-seen.ensures.untold same
