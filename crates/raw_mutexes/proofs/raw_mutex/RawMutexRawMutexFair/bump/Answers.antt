use Rattle.std.proofs.Common.{◌≡◌, ◌∙◌, ◌++◌, ◌∷◌, true, false, ap, sym, subst, refl, rules}
use Rattle.core_base.specs.declared.ops.Op.TheVariants.{Load}
use Rattle.steps_mutex.specs.MutexSteps.{is_parked}
use Rattle.run_base.specs.MutexFitting.{mutex_ownership}
use Rattle.run_base.specs.Paths.{mutex_at, step}
use Rattle.spec_locks.specs.declared.calls.MutexCall.TheVariants.{Bump}
use Rattle.core_words.specs.Indices.{word_index}
use Rattle.core_words.specs.Steps.{has}
use Rattle.core_words.specs.declared.views.View.{View}
use Rattle.core_words.specs.declared.words.WordKind.{WordKind}
use Rattle.parking_lot_core.specs.Tokens.{told_of, view_of}
use Rattle.run_base.proofs.Afterwards.{path_at_once}
use Rattle.raw_mutexes.proofs.raw_mutex.RawMutexRawMutexFair.bump.Goals as goal

pub returns-then-not-is_parked-clause-path : goal.returns-then-not-is_parked-clause-path
returns-then-not-is_parked-clause-path g c = let mutex = c.args.self.now in let n = mutex.word.number in
    let seen = c.step_word_unrecorded-seen.result in let none : is_parked seen ≡ false = search rules in
    path_at_once n Bump seen c.args.token.now c.step_word_unrecorded-seen.new.token none
    (ap (λ (v : View). v.steps) c.step_word_unrecorded-seen.ensures.stepped
    ∙ ap (λ (v : View). v.steps ++ step (word_index n mutex.word.kind) Load seen) c.may_begin.ensures.view
    ∙ ap (λ (k : WordKind). (view_of c.args.token.now).steps ++ step (word_index n k) Load seen)
    mutex.drawn.1)
    (c.step_word_unrecorded-seen.ensures.untold ∙ c.may_begin.ensures.untold)

pub bump_slow-requires-clause-begun : goal.bump_slow-requires-clause-begun
bump_slow-requires-clause-begun g c = let n = c.args.self.now.word.number in
    let old = c.args.token.now in let new = c.join.new.token in
    let number : new.number ≡ old.number = search rules in (
      old,
      (
        (λ some. absurd (some refl)),
        (λ none. (
          number,
          ap (λ (v : View). v.steps) c.join.ensures.joined
              ∙ ap (λ (v : View). v.steps) c.may_begin.ensures.view,
          ap (λ (v : View). v.owns) c.join.ensures.joined
              ∙ ap (λ (v : View). mutex_ownership n ∷ v.owns) c.may_begin.ensures.view,
          c.join.ensures.own.1 ∙ c.may_begin.ensures.own.1,
          c.join.ensures.untold ∙ c.may_begin.ensures.untold,
        )),
      ),
    )

pub bump_slow-requires-2-clause-begun : goal.bump_slow-requires-2-clause-begun
bump_slow-requires-2-clause-begun g c = let mutex = c.args.self.now in let n = mutex.word.number in
    let old = c.args.token.now in let mid = c.step_word_unrecorded-seen.new.token in let new = c.join-2.new.token in
    let seen = c.step_word_unrecorded-seen.result in let parked : is_parked seen ≡ true = search rules in
    let number : new.number ≡ old.number = search rules in
    let steps : (view_of new).steps ≡ (view_of old).steps ++ step (mutex_at n) Load seen =
    ap (λ (v : View). v.steps) c.join-2.ensures.joined
    ∙ ap (λ (v : View). v.steps) c.step_word_unrecorded-seen.ensures.stepped
    ∙ ap (λ (v : View). v.steps ++ step (word_index n mutex.word.kind) Load seen) c.may_begin.ensures.view
    ∙ ap (λ (k : WordKind). (view_of old).steps ++ step (word_index n k) Load seen) mutex.drawn.1 in
    let keeps_rights : (view_of mid).owns ≡ (view_of old).owns = search rules in
    let owns : (view_of new).owns ≡ mutex_ownership n ∷ (view_of old).owns =
    ap (λ (v : View). v.owns) c.join-2.ensures.joined ∙ ap (λ os. mutex_ownership n ∷ os) keeps_rights in
    let has_it : has (mutex_ownership n) (mutex_ownership n ∷ (view_of old).owns) ≡ true = search rules in (
      old,
      (
        (λ some. (
          number,
          steps,
          owns,
          (parked, subst (λ os. has (mutex_ownership n) os ≡ true) (sym owns) has_it),
          c.join-2.ensures.untold ∙ c.step_word_unrecorded-seen.ensures.untold ∙ c.may_begin.ensures.untold,
        )),
        (λ none. let never : false ≡ true = subst (λ k. is_parked k ≡ true) none parked in absurd cc),
      ),
    )
