use Rattle.std.proofs.Common.{ℕ, ◌≡◌, ◌≢◌, ◌∙◌, ◌++◌, ◌∷◌, [], append-nil, Bool, cond, false, true, not, ne_eqb, ap, arith}
use Rattle.std.proofs.Common.{eq-eqb, refl, rules, subst, sym}
use Rattle.core_base.specs.declared.ops.Op.TheVariants.{Exchange}
use Rattle.spec_locks.specs.declared.calls.MutexCall.TheVariants.{UnlockFair}
use Rattle.core_words.specs.Indices.{word_index}
use Rattle.core_words.specs.Plays.{stepping, takes_in}
use Rattle.core_words.specs.Rights.{piece_of}
use Rattle.core_words.specs.Steps.{has}
use Rattle.core_words.specs.Views.{owning}
use Rattle.core_words.specs.declared.owners.Owner.TheVariants.{Exclusive}
use Rattle.core_words.specs.declared.views.View.{View}
use Rattle.core_words.specs.declared.words.WordKind.{WordKind}
use Rattle.parking_lot_core.specs.Tokens.{last_of, view_of}
use Rattle.run_base.specs.Calls.{TookIfParked}
use Rattle.run_base.specs.MutexFitting.{mutex_ownership}
use Rattle.run_base.specs.Paths.{mutex_at, step}
use Rattle.run_base.specs.Telling.{owns_of, steps_of}
use Rattle.run_base.proofs.Afterwards.{path_at_once}
use Rattle.raw_mutexes.proofs.InTurn.{first_step_of, has_it, owns_it, without_it}
use Rattle.raw_mutexes.proofs.raw_mutex.RawMutex.unlock_fair_in_turn.Goals as goal

pub split_open-opened-requires-clause-named : goal.split_open-opened-requires-clause-named
split_open-opened-requires-clause-named g c = let waits = c.requires.waits in
    has_it c.args.self.now.word c.args.self.now.drawn.1 (owns_of waits.0) (owns_of c.args.token.now) waits.1.2

pub hand_over-requires-clause-begun : goal.hand_over-requires-clause-begun
hand_over-requires-clause-begun g c = let word = c.args.self.now.word in let is = c.args.self.now.drawn.1 in
    let old = c.args.token.now in let kept = c.split_open-opened in let by = c.leave_alone_now-seen in let mid = by.new.token in
    let seen = by.result in
    let before = c.requires.waits.0 in let waits = c.requires.waits.1 in
    let other : seen ≢ 1 = c.if-seen-ne-LOCKED.true in
    let v = view_of kept.new.token in let at = word_index word.number word.kind in
    let left : view_of mid ≡ stepping (takes_in v (piece_of word Exclusive)) at (Exchange 1 0) seen = by.ensures.stepped
    ∙ ap (λ b. cond b (stepping v at (Exchange 1 0) seen)
    (stepping (takes_in v (piece_of word Exclusive)) at (Exchange 1 0) seen)) (ne_eqb seen 1 other) in
    let first = first_step_of word is (Exchange 1 0) seen before old mid waits.1 (ap (λ (v : View). v.steps) left
    ∙ ap (λ (v : View). v.steps ++ step at (Exchange 1 0) seen) kept.ensures.left) in
    let rest = ap (λ (v : View). v.owns) kept.ensures.left
    ∙ without_it word is (owns_of before) (owns_of old) waits.2 in
    let owns = ap (λ (v : View). v.owns) left ∙ ap (λ (k : WordKind). owning (word_index word.number k) Exclusive
    ∷ v.owns) is ∙ ap (λ os. mutex_ownership word.number ∷ os) rest in
    let number = by.ensures.own.0.1 ∙ kept.ensures.own.0.1 ∙ waits.0 in
    let told = by.ensures.untold ∙ kept.ensures.untold ∙ waits.4 in
    let there = owns_it word.number (owns_of before) in (
      before,
      (
        number,
        first,
        owns,
        (
          other,
          subst (λ os. has (mutex_ownership word.number) os ≡ true) (sym owns) there,
        ),
        told,
      ),
    )

pub returns-then-seen-ne-LOCKED-clause-over : goal.returns-then-seen-ne-LOCKED-clause-over
returns-then-seen-ne-LOCKED-clause-over g c = let word = c.args.self.now.word in let is = c.args.self.now.drawn.1 in
    let old = c.args.token.now in let kept = c.split_open-opened in let by = c.leave_alone_now-seen in let mid = by.new.token in
    let seen = by.result in
    λ before waits.
    let other : seen ≢ 1 = c.if-seen-ne-LOCKED.true in
    let v = view_of kept.new.token in let at = word_index word.number word.kind in
    let left : view_of mid ≡ stepping (takes_in v (piece_of word Exclusive)) at (Exchange 1 0) seen = by.ensures.stepped
    ∙ ap (λ b. cond b (stepping v at (Exchange 1 0) seen)
    (stepping (takes_in v (piece_of word Exclusive)) at (Exchange 1 0) seen)) (ne_eqb seen 1 other) in
    let first = first_step_of word is (Exchange 1 0) seen before old mid waits.1 (ap (λ (v : View). v.steps) left
    ∙ ap (λ (v : View). v.steps ++ step at (Exchange 1 0) seen) kept.ensures.left) in
    let rest = ap (λ (v : View). v.owns) kept.ensures.left
    ∙ without_it word is (owns_of before) (owns_of old) waits.2 in
    let owns = ap (λ (v : View). v.owns) left ∙ ap (λ (k : WordKind). owning (word_index word.number k) Exclusive
    ∷ v.owns) is ∙ ap (λ os. mutex_ownership word.number ∷ os) rest in
    let number = by.ensures.own.0.1 ∙ kept.ensures.own.0.1 ∙ waits.0 in
    let told = by.ensures.untold ∙ kept.ensures.untold ∙ waits.4 in
    let there = owns_it word.number (owns_of before) in
    c.hand_over.ensures.over before (
      number,
      first,
      owns,
      (
        other,
        subst (λ os. has (mutex_ownership word.number) os ≡ true) (sym owns) there,
      ),
      told,
    )

pub returns-else-seen-ne-LOCKED-clause-over : goal.returns-else-seen-ne-LOCKED-clause-over
returns-else-seen-ne-LOCKED-clause-over g c = let word = c.args.self.now.word in let is = c.args.self.now.drawn.1 in
    let old = c.args.token.now in let kept = c.split_open-opened in let by = c.leave_alone_now-seen in let mid = by.new.token in
    let seen = by.result in
    λ before waits.
    let one : seen ≡ 1 = omega (arith, c.if-seen-ne-LOCKED.false) in
    let v = view_of kept.new.token in let at = word_index word.number word.kind in
    let left : view_of mid ≡ stepping v at (Exchange 1 0) seen = by.ensures.stepped
    ∙ ap (λ b. cond b (stepping v at (Exchange 1 0) seen)
    (stepping (takes_in v (piece_of word Exclusive)) at (Exchange 1 0) seen)) (eq-eqb seen 1 one) in
    let first = first_step_of word is (Exchange 1 0) seen before old mid waits.1 (ap (λ (v : View). v.steps) left
    ∙ ap (λ (v : View). v.steps ++ step at (Exchange 1 0) seen) kept.ensures.left) in
    let rest = ap (λ (v : View). v.owns) kept.ensures.left
    ∙ without_it word is (owns_of before) (owns_of old) waits.2 in
    let owns = ap (λ (v : View). v.owns) left ∙ rest in
    let number = by.ensures.own.0.1 ∙ kept.ensures.own.0.1 ∙ waits.0 in
    let told = by.ensures.untold ∙ kept.ensures.untold ∙ waits.4 in (
      (number, owns),
      path_at_once word.number UnlockFair seen before mid one first told,
      (
        seen,
        [],
        first ∙ sym (append-nil (steps_of before ++ step (mutex_at word.number) (Exchange 1 0) seen)),
        subst (λ b. TookIfParked word.number (not b) [] (last_of mid)) (sym (eq-eqb seen 1 one)) (
          refl,
          by.ensures.own.1,
        ),
      ),
    )
