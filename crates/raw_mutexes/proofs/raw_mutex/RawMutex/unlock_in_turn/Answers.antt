use Rattle.std.proofs.Common.{◌≡◌, ◌≢◌, ◌∙◌, ◌++◌, [], append-nil, false, ap, arith, refl, subst, sym}
use Rattle.core_base.specs.declared.ops.Op.TheVariants.{Sub}
use Rattle.spec_locks.specs.declared.calls.MutexCall.TheVariants.{Unlock}
use Rattle.core_words.specs.Indices.{word_index}
use Rattle.core_words.specs.declared.views.View.{View}
use Rattle.parking_lot_core.specs.Tokens.{last_of}
use Rattle.run_base.specs.Calls.{TookIfParked}
use Rattle.run_base.specs.Paths.{mutex_at, step}
use Rattle.run_base.specs.Telling.{owns_of, steps_of}
use Rattle.run_base.proofs.Afterwards.{path_at_once}
use Rattle.steps_mutex.specs.MutexSteps.{is_parked}
use Rattle.raw_mutexes.proofs.InTurn.{first_step_of, has_it, without_it}
use Rattle.raw_mutexes.proofs.raw_mutex.RawMutex.unlock_in_turn.Goals as goal

pub split_open-opened-requires-clause-named : goal.split_open-opened-requires-clause-named
split_open-opened-requires-clause-named g c = let waits = c.requires.waits in
    has_it c.args.self.now.word c.args.self.now.drawn.1 (owns_of waits.0) (owns_of c.args.token.now) waits.1.2

pub unlock_after-requires-clause-begun : goal.unlock_after-requires-clause-begun
unlock_after-requires-clause-begun g c = let word = c.args.self.now.word in let is = c.args.self.now.drawn.1 in
    let old = c.args.token.now in let kept = c.split_open-opened in let by = c.leave_now-seen in let mid = by.new.token in
    let seen = by.result in
    let before = c.requires.waits.0 in let waits = c.requires.waits.1 in
    let first = first_step_of word is (Sub 1) seen before old mid waits.1 (ap (λ (v : View). v.steps)
    by.ensures.stepped ∙ ap (λ (v : View). v.steps ++ step (word_index word.number word.kind) (Sub 1) seen)
    kept.ensures.left) in
    let owns = ap (λ (v : View). v.owns) by.ensures.stepped ∙ ap (λ (v : View). v.owns) kept.ensures.left
    ∙ without_it word is (owns_of before) (owns_of old) waits.2 in
    let number = by.ensures.own.0.1 ∙ kept.ensures.own.0.1 ∙ waits.0 in
    let told = by.ensures.untold ∙ kept.ensures.untold ∙ waits.4 in
    let other = c.if-seen-ne-LOCKED.true in
    (before, (number, first, owns, omega (arith, other, by.ensures.coded), told))

pub returns-then-seen-ne-LOCKED-clause-over : goal.returns-then-seen-ne-LOCKED-clause-over
returns-then-seen-ne-LOCKED-clause-over g c = let word = c.args.self.now.word in let is = c.args.self.now.drawn.1 in
    let old = c.args.token.now in let kept = c.split_open-opened in let by = c.leave_now-seen in let mid = by.new.token in
    let seen = by.result in
    λ before waits.
    let first = first_step_of word is (Sub 1) seen before old mid waits.1 (ap (λ (v : View). v.steps)
    by.ensures.stepped ∙ ap (λ (v : View). v.steps ++ step (word_index word.number word.kind) (Sub 1) seen)
    kept.ensures.left) in
    let owns = ap (λ (v : View). v.owns) by.ensures.stepped ∙ ap (λ (v : View). v.owns) kept.ensures.left
    ∙ without_it word is (owns_of before) (owns_of old) waits.2 in
    let number = by.ensures.own.0.1 ∙ kept.ensures.own.0.1 ∙ waits.0 in
    let told = by.ensures.untold ∙ kept.ensures.untold ∙ waits.4 in
    let other = c.if-seen-ne-LOCKED.true in
    c.unlock_after.ensures.over before (number, first, owns, omega (arith, other, by.ensures.coded), told)

pub returns-else-seen-ne-LOCKED-clause-over : goal.returns-else-seen-ne-LOCKED-clause-over
returns-else-seen-ne-LOCKED-clause-over g c = let word = c.args.self.now.word in let is = c.args.self.now.drawn.1 in
    let old = c.args.token.now in let kept = c.split_open-opened in let by = c.leave_now-seen in let mid = by.new.token in
    let seen = by.result in
    λ before waits.
    let first = first_step_of word is (Sub 1) seen before old mid waits.1 (ap (λ (v : View). v.steps)
    by.ensures.stepped ∙ ap (λ (v : View). v.steps ++ step (word_index word.number word.kind) (Sub 1) seen)
    kept.ensures.left) in
    let owns = ap (λ (v : View). v.owns) by.ensures.stepped ∙ ap (λ (v : View). v.owns) kept.ensures.left
    ∙ without_it word is (owns_of before) (owns_of old) waits.2 in
    let number = by.ensures.own.0.1 ∙ kept.ensures.own.0.1 ∙ waits.0 in
    let told = by.ensures.untold ∙ kept.ensures.untold ∙ waits.4 in
    let one : seen ≡ 1 = omega (arith, c.if-seen-ne-LOCKED.false) in
    let none : is_parked seen ≡ false = subst (λ k. is_parked k ≡ false) (sym one) refl in (
      (number, owns),
      path_at_once word.number Unlock seen before mid none first told,
      (
        seen,
        [],
        first ∙ sym (append-nil (steps_of before ++ step (mutex_at word.number) (Sub 1) seen)),
        subst (λ b. TookIfParked word.number b [] (last_of mid)) (sym none) (refl, by.ensures.own.1),
      ),
    )
