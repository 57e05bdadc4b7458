use Rattle.std.proofs.Common.{◌≡◌, ◌∙◌, List, None, inl, refl, sym, subst, false}
use Rattle.steps_base.specs.declared.acts.Next.{Next}
use Rattle.steps_base.specs.declared.acts.Next.TheVariants.{At, End}
use Rattle.core_base.specs.declared.ops.Op.TheVariants.{Load}
use Rattle.steps_rwlock_fair.specs.FairSteps.{gives_way, glance_next}
use Rattle.steps_rwlock_fair.specs.declared.places.RwLockCallPlace.{RwLockCallPlace}
use Rattle.core_words.specs.declared.owners.Ownership.{Ownership}
use Rattle.run_base.specs.Fitting.{CallPurpose, IsOver}
use Rattle.run_base.specs.Stages.{stage_of}
use Rattle.run_locks.proofs.RwLockFairCalls.{Glanced, bump_ends, bump_goes_on, glanced, has_taken_it, saw_step}
use Rattle.run_base.proofs.Queueing.{after, call_queued, glance_off}
use Rattle.run_locks.proofs.rwlock_fair_calls.bump.Goals as goal

pub finish_by_driver-requires-clause-fits : goal.finish_by_driver-requires-clause-fits
finish_by_driver-requires-clause-fits g c = let l = c.args.word.now.number in let a = c.args.admission.now in let seen =
    c.first_step_with-seen.result in let step = c.first_step_with-seen.ensures in
    let old = stage_of c.args.token.now None in let mid = stage_of c.first_step_with-seen.new.token None in
    let goes : glance_next a c.args.access c.first_step_with-seen.result ≡ At c.in-At.at = sym c.next.ensures
    ∙ c.in-At.is in
    let taken = has_taken_it c.args.word.now c.requires.own.2 Load seen c.args.token.now c.first_step_with-seen.new.token
    step.stepped step.own.1 step.coded in
    let here = subst (λ (n : Next RwLockCallPlace). Glanced l a c.args.access c.requires.right.0 old mid seen
    refl c.requires.own.4 taken c.requires.right.1 n) goes
    (glanced l a c.args.access c.requires.right.0 old mid seen refl c.requires.own.4 taken c.requires.right.1)
    in
    (c.requires.right.0, here.0)

pub returns-in-End-clause-path : goal.returns-in-End-clause-path
returns-in-End-clause-path g c =
    let ends : glance_next c.args.admission.now c.args.access c.first_step_with-seen.result ≡ End c.in-End.answer =
    sym c.next.ensures ∙ c.in-End.is in
    let saw = saw_step c.args.word.now c.requires.own.2 Load c.first_step_with-seen.result c.args.token.now
    c.first_step_with-seen.new.token c.first_step_with-seen.ensures.stepped in
    bump_ends c.args.word.now.number c.args.admission.now c.args.access c.first_step_with-seen.result c.args.token.now
    c.first_step_with-seen.new.token saw c.first_step_with-seen.ensures.untold
    c.in-End.answer ends

pub returns-in-End-clause-over : goal.returns-in-End-clause-over
returns-in-End-clause-over g c = λ (base : List Ownership) right. let l = c.args.word.now.number in let a =
    c.args.admission.now in let seen = c.first_step_with-seen.result in let step = c.first_step_with-seen.ensures in
    let old = stage_of c.args.token.now None in let mid = stage_of c.first_step_with-seen.new.token None in
    let ends : glance_next a c.args.access c.first_step_with-seen.result ≡ End c.in-End.answer = sym c.next.ensures
    ∙ c.in-End.is in
    let taken = has_taken_it c.args.word.now c.requires.own.2 Load seen c.args.token.now c.first_step_with-seen.new.token
    step.stepped step.own.1 step.coded in
    let here = subst (λ (n : Next RwLockCallPlace). Glanced l a c.args.access base old mid seen refl
    c.requires.own.4 taken right n) ends
    (glanced l a c.args.access base old mid seen refl c.requires.own.4 taken right) in
    inl here

pub returns-in-At-clause-path : goal.returns-in-At-clause-path
returns-in-At-clause-path g c =
    let goes : glance_next c.args.admission.now c.args.access c.first_step_with-seen.result ≡ At c.in-At.at =
    sym c.next.ensures ∙ c.in-At.is in
    let saw = saw_step c.args.word.now c.requires.own.2 Load c.first_step_with-seen.result c.args.token.now
    c.first_step_with-seen.new.token c.first_step_with-seen.ensures.stepped in
    bump_goes_on c.args.word.now.number c.args.admission.now c.args.access c.first_step_with-seen.result c.args.token.now
    c.first_step_with-seen.new.token saw c.first_step_with-seen.ensures.untold
    c.finish_by_driver.result c.finish_by_driver.new.token c.in-At.at c.first_step_with-seen.ensures.own.0.1 goes c.finish_by_driver.ensures.path

pub returns-in-At-clause-over : goal.returns-in-At-clause-over
returns-in-At-clause-over g c = λ (base : List Ownership) right. let l = c.args.word.now.number in let a =
    c.args.admission.now in let seen = c.first_step_with-seen.result in let step = c.first_step_with-seen.ensures in
    let old = stage_of c.args.token.now None in let mid = stage_of c.first_step_with-seen.new.token None in
    let goes : glance_next a c.args.access c.first_step_with-seen.result ≡ At c.in-At.at = sym c.next.ensures
    ∙ c.in-At.is in
    let taken = has_taken_it c.args.word.now c.requires.own.2 Load seen c.args.token.now c.first_step_with-seen.new.token
    step.stepped step.own.1 step.coded in
    let here = subst (λ (n : Next RwLockCallPlace). Glanced l a c.args.access base old mid seen refl
    c.requires.own.4 taken right n) goes
    (glanced l a c.args.access base old mid seen refl c.requires.own.4 taken right) in
    (subst (λ (aim : CallPurpose). IsOver ⊥ base aim c.finish_by_driver.result (stage_of c.finish_by_driver.new.token None)) here.1
    (c.finish_by_driver.ensures.over base here.0)).1

pub finish_by_driver-requires-clause-unqueued : goal.finish_by_driver-requires-clause-unqueued
finish_by_driver-requires-clause-unqueued g c = let a = c.args.admission.now in
    let goes : glance_next a c.args.access c.first_step_with-seen.result ≡ At c.in-At.at = sym c.next.ensures
    ∙ c.in-At.is in
    subst (λ (n : Next RwLockCallPlace). after (call_queued c.args.admission.now) n ≡ false) goes
    (glance_off a c.args.access (gives_way a c.args.access c.first_step_with-seen.result))
