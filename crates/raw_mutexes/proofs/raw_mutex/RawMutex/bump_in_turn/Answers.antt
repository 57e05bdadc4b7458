use Rattle.std.proofs.Common.{◌≡◌, ◌∙◌, ◌++◌, ◌∷◌, true, false, ap, rules, subst, sym}
use Rattle.core_base.specs.declared.ops.Op.TheVariants.{Load}
use Rattle.spec_locks.specs.declared.calls.MutexCall.TheVariants.{Bump}
use Rattle.core_words.specs.Indices.{word_index}
use Rattle.core_words.specs.Steps.{has, without}
use Rattle.core_words.specs.declared.views.View.{View}
use Rattle.parking_lot_core.specs.Tokens.{view_of}
use Rattle.run_base.specs.MutexFitting.{mutex_ownership}
use Rattle.run_base.specs.Paths.{step}
use Rattle.run_base.specs.Telling.{owns_of}
use Rattle.run_base.proofs.Afterwards.{path_at_once}
use Rattle.steps_mutex.specs.MutexSteps.{is_parked}
use Rattle.raw_mutexes.proofs.InTurn.{first_step_of, owns_it}
use Rattle.raw_mutexes.proofs.raw_mutex.RawMutex.bump_in_turn.Goals as goal

pub split-guard-requires-clause-held : goal.split-guard-requires-clause-held
split-guard-requires-clause-held g c = let n = c.args.self.now.word.number in let waits = c.requires.waits in
    let there = owns_it n (owns_of waits.0) in
    subst (λ os. has (mutex_ownership n) os ≡ true) (sym waits.1.2) there

pub returns-then-not-is_parked-clause-over : goal.returns-then-not-is_parked-clause-over
returns-then-not-is_parked-clause-over g c = let word = c.args.self.now.word in let is = c.args.self.now.drawn.1 in
    let n = word.number in let old = c.args.token.now in let kept = c.split-guard in
    let by = c.step_word_unrecorded-seen in let mid = by.new.token in let seen = by.result in
    λ before waits.
    let first = first_step_of word is Load seen before old mid waits.1 (ap (λ (v : View). v.steps)
    by.ensures.stepped ∙ ap (λ (v : View). v.steps ++ step (word_index n word.kind) Load seen)
    kept.ensures.left) in
    let same : (view_of mid).owns ≡ (view_of kept.new.token).owns = search rules in
    let whole : without (mutex_ownership n) (mutex_ownership n ∷ owns_of before) ≡ owns_of before =
    search rules in
    let owns = same ∙ ap (λ (v : View). v.owns) kept.ensures.left ∙ ap (without (mutex_ownership n)) waits.2
    ∙ whole in
    let number = by.ensures.own.0.1 ∙ kept.ensures.own.0.1 ∙ waits.0 in
    let told = by.ensures.untold ∙ kept.ensures.untold ∙ waits.4 in
    let none : is_parked seen ≡ false = search rules in
    ((number, owns), path_at_once n Bump seen before mid none first told)

pub bump_after-requires-clause-begun : goal.bump_after-requires-clause-begun
bump_after-requires-clause-begun g c = let word = c.args.self.now.word in let is = c.args.self.now.drawn.1 in
    let n = word.number in let old = c.args.token.now in let kept = c.split-guard in
    let by = c.step_word_unrecorded-seen in let mid = by.new.token in let seen = by.result in
    let before = c.requires.waits.0 in let waits = c.requires.waits.1 in
    let first = first_step_of word is Load seen before old mid waits.1 (ap (λ (v : View). v.steps)
    by.ensures.stepped ∙ ap (λ (v : View). v.steps ++ step (word_index n word.kind) Load seen)
    kept.ensures.left) in
    let same : (view_of mid).owns ≡ (view_of kept.new.token).owns = search rules in
    let whole : without (mutex_ownership n) (mutex_ownership n ∷ owns_of before) ≡ owns_of before =
    search rules in
    let owns = same ∙ ap (λ (v : View). v.owns) kept.ensures.left ∙ ap (without (mutex_ownership n)) waits.2
    ∙ whole in
    let number = by.ensures.own.0.1 ∙ kept.ensures.own.0.1 ∙ waits.0 in
    let told = by.ensures.untold ∙ kept.ensures.untold ∙ waits.4 in
    let parked : is_parked seen ≡ true = search rules in
    let again = ap (λ (v : View). v.owns) c.join.ensures.joined ∙ ap (λ os. mutex_ownership n ∷ os) owns in
    let there = owns_it n (owns_of before) in (
      before,
      (
        c.join.ensures.own.0.1 ∙ number,
        ap (λ (v : View). v.steps) c.join.ensures.joined ∙ first,
        again,
        (parked, subst (λ os. has (mutex_ownership n) os ≡ true) (sym again) there),
        c.join.ensures.untold ∙ told,
      ),
    )

pub returns-clause-over : goal.returns-clause-over
returns-clause-over g c = let word = c.args.self.now.word in let is = c.args.self.now.drawn.1 in
    let n = word.number in let old = c.args.token.now in let kept = c.split-guard in
    let by = c.step_word_unrecorded-seen in let mid = by.new.token in let seen = by.result in
    λ before waits.
    let first = first_step_of word is Load seen before old mid waits.1 (ap (λ (v : View). v.steps)
    by.ensures.stepped ∙ ap (λ (v : View). v.steps ++ step (word_index n word.kind) Load seen)
    kept.ensures.left) in
    let same : (view_of mid).owns ≡ (view_of kept.new.token).owns = search rules in
    let whole : without (mutex_ownership n) (mutex_ownership n ∷ owns_of before) ≡ owns_of before =
    search rules in
    let owns = same ∙ ap (λ (v : View). v.owns) kept.ensures.left ∙ ap (without (mutex_ownership n)) waits.2
    ∙ whole in
    let number = by.ensures.own.0.1 ∙ kept.ensures.own.0.1 ∙ waits.0 in
    let told = by.ensures.untold ∙ kept.ensures.untold ∙ waits.4 in
    let parked : is_parked seen ≡ true = search rules in
    let again = ap (λ (v : View). v.owns) c.join.ensures.joined ∙ ap (λ os. mutex_ownership n ∷ os) owns in
    let there = owns_it n (owns_of before) in
    c.bump_after.ensures.over before (
      c.join.ensures.own.0.1 ∙ number,
      ap (λ (v : View). v.steps) c.join.ensures.joined ∙ first,
      again,
      (parked, subst (λ os. has (mutex_ownership n) os ≡ true) (sym again) there),
      c.join.ensures.untold ∙ told,
    )
