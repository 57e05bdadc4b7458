use Rattle.std.proofs.Common.{◌≡◌, ◌≢◌, ◌∙◌, ◌++◌, ◌∷◌, [], true, ne_eqb, append-nil, cond, not, eq-eqb, ap, sym, subst, refl, arith, rules}
use Rattle.core_base.specs.declared.ops.Op.TheVariants.{Exchange}
use Rattle.run_base.specs.Calls.{TookIfSeen, TookIfParked}
use Rattle.run_base.specs.MutexFitting.{mutex_ownership}
use Rattle.run_base.specs.Paths.{mutex_at, step}
use Rattle.run_base.specs.Telling.{steps_of}
use Rattle.spec_locks.specs.declared.calls.MutexCall.TheVariants.{UnlockFair}
use Rattle.core_words.specs.Indices.{word_index}
use Rattle.core_words.specs.Plays.{stepping, takes_in}
use Rattle.core_words.specs.Rights.{piece_of}
use Rattle.core_words.specs.declared.owners.Owner.TheVariants.{Exclusive}
use Rattle.core_words.specs.Steps.{has}
use Rattle.core_words.specs.Views.{owning}
use Rattle.core_words.specs.declared.views.View.{View}
use Rattle.core_words.specs.declared.words.WordKind.{WordKind}
use Rattle.parking_lot_core.specs.Tokens.{last_of, view_of}
use Rattle.run_base.proofs.Afterwards.{path_at_once}
use Rattle.raw_mutexes.specs.MutexGuards.{StaysAs}
use Rattle.raw_mutexes.proofs.raw_mutex.RawMutex.unlock_fair_fast.Goals as goal

pub returns-then-seen-eq-LOCKED-clause-over : goal.returns-then-seen-eq-LOCKED-clause-over
returns-then-seen-eq-LOCKED-clause-over c = let mutex = c.args.self.now in let n = mutex.word.number
    in let old = c.args.token.now in let v = view_of old in
    let new = c.unlock_if_alone-seen.new.token in let seen = c.unlock_if_alone-seen.result in let one =
    c.if-seen-eq-LOCKED.true in let some : seen ≢ 0 = omega (arith, one) in let at = word_index n mutex.word.kind in
    let left : view_of new ≡ stepping v at (Exchange 1 0) seen = c.unlock_if_alone-seen.ensures.stepped some
    ∙ ap (λ b. cond b (stepping v at (Exchange 1 0) seen)
    (stepping (takes_in v (piece_of mutex.word Exclusive)) at (Exchange 1 0) seen)) (eq-eqb seen 1 one) in
    let added = ap (λ (v : View). v.steps) left
    ∙ ap (λ (k : WordKind). v.steps ++ step (word_index n k) (Exchange 1 0) seen) mutex.drawn.1 in
    let keeps_rights : StaysAs old new = search rules in
    let released : TookIfSeen n UnlockFair (steps_of old) (steps_of new) (last_of new) = (
      seen,
      [],
      added ∙ sym (append-nil (steps_of old ++ step (mutex_at n) (Exchange 1 0) seen)),
      subst (λ b. TookIfParked n (not b) [] (last_of new)) (sym (eq-eqb seen 1 one)) (
        refl,
        c.unlock_if_alone-seen.ensures.own.1,
      ),
    ) in (
      keeps_rights,
      path_at_once n UnlockFair seen old new one added c.unlock_if_alone-seen.ensures.untold,
      released,
    )

pub returns-clause-begun : goal.returns-clause-begun
returns-clause-begun c = let mutex = c.args.self.now in let n = mutex.word.number in
    let old = c.args.token.now in let v = view_of old in let by = c.unlock_if_alone-seen in
    let new = by.new.token in let seen = by.result in let number : new.number ≡ old.number = search rules in
    let other = c.if-seen-eq-LOCKED.false in let at = word_index n mutex.word.kind in
    let owns = λ (left : (view_of new).owns ≡ owning at Exclusive ∷ v.owns). left
    ∙ ap (λ (k : WordKind). owning (word_index n k) Exclusive ∷ v.owns) mutex.drawn.1 in
    let has_it : has (mutex_ownership n) (mutex_ownership n ∷ v.owns) ≡ true = search rules in (
      (λ some. let left : view_of new ≡ stepping (takes_in v (piece_of mutex.word Exclusive)) at
          (Exchange 1 0) seen = by.ensures.stepped some ∙ ap (λ b. cond b (stepping v at (Exchange 1 0) seen)
          (stepping (takes_in v (piece_of mutex.word Exclusive)) at (Exchange 1 0) seen))
          (ne_eqb seen 1 other) in (
            number,
            ap (λ (v : View). v.steps) left ∙ ap (λ (k : WordKind). v.steps
                ++ step (word_index n k) (Exchange 1 0) seen) mutex.drawn.1,
            owns (ap (λ (v : View). v.owns) left),
            (
              other,
              subst (λ os. has (mutex_ownership n) os ≡ true) (sym (owns (ap (λ (v : View). v.owns) left)))
                  has_it,
            ),
            by.ensures.untold,
          )),
      (λ none. (
        number,
        ap (λ (v : View). v.steps) (by.ensures.waits none),
        owns (ap (λ (v : View). v.owns) (by.ensures.waits none)),
        by.ensures.own.1,
        by.ensures.untold,
      )),
    )
