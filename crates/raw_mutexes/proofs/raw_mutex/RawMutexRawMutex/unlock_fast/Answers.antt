use Rattle.std.proofs.Common.{◌≡◌, ◌≢◌, ◌∙◌, ◌++◌, ◌∷◌, [], append-nil, false, ap, arith, sym, subst, refl, rules}
use Rattle.core_base.specs.declared.ops.Op.TheVariants.{Sub}
use Rattle.spec_locks.specs.declared.calls.MutexCall.TheVariants.{Unlock}
use Rattle.run_base.specs.Calls.{TookIfSeen, TookIfParked}
use Rattle.run_base.specs.Paths.{mutex_at, step}
use Rattle.steps_mutex.specs.MutexSteps.{is_parked}
use Rattle.core_words.specs.Indices.{word_index}
use Rattle.core_words.specs.Views.{owning}
use Rattle.core_words.specs.declared.owners.Owner.TheVariants.{Exclusive}
use Rattle.core_words.specs.declared.views.View.{View}
use Rattle.core_words.specs.declared.words.WordKind.{WordKind}
use Rattle.parking_lot_core.specs.Tokens.{last_of, view_of}
use Rattle.run_base.proofs.Afterwards.{path_at_once}
use Rattle.run_base.specs.Telling.{owns_of, steps_of}
use Rattle.raw_mutexes.specs.MutexGuards.{StaysAs}
use Rattle.raw_mutexes.proofs.raw_mutex.RawMutexRawMutex.unlock_fast.Goals as goal

pub returns-then-seen-eq-LOCKED-clause-over : goal.returns-then-seen-eq-LOCKED-clause-over
returns-then-seen-eq-LOCKED-clause-over c = let mutex = c.args.self.now in let n = mutex.word.number
    in let old = c.args.token.now in let new = c.unlock_with_permit-seen.new.token in let seen = c.unlock_with_permit-seen.result in
    let one = c.if-seen-eq-LOCKED.true in
    let some : seen ≢ 0 = omega (arith, one) in
    let none : is_parked seen ≡ false = subst (λ k. is_parked k ≡ false) (sym one) refl in
    let added : steps_of new ≡ steps_of old ++ step (mutex_at n) (Sub 1) seen =
    ap (λ (v : View). v.steps) (c.unlock_with_permit-seen.ensures.stepped some)
    ∙ ap (λ (k : WordKind). (view_of old).steps ++ step (word_index n k) (Sub 1) seen) mutex.drawn.1 in
    let keeps_rights : StaysAs old new = search rules in
    let released : TookIfSeen n Unlock (steps_of old) (steps_of new) (last_of new) = (
      seen,
      [],
      added ∙ sym (append-nil (steps_of old ++ step (mutex_at n) (Sub 1) seen)),
      subst (λ b. TookIfParked n b [] (last_of new)) (sym none) (refl, c.unlock_with_permit-seen.ensures.own.1),
    ) in
    (keeps_rights, path_at_once n Unlock seen old new none added c.unlock_with_permit-seen.ensures.untold, released)

pub returns-clause-begun : goal.returns-clause-begun
returns-clause-begun c = let mutex = c.args.self.now in let n = mutex.word.number in
    let old = c.args.token.now in let left = c.unlock_with_permit-seen in let new = left.new.token in
    let seen = left.result in let number : new.number ≡ old.number = search rules in
    let other = c.if-seen-eq-LOCKED.false in (
      (λ some. (
        number,
        ap (λ (v : View). v.steps) (left.ensures.stepped some) ∙ ap (λ (k : WordKind). steps_of old
            ++ step (word_index n k) (Sub 1) seen) mutex.drawn.1,
        ap (λ (v : View). v.owns) (left.ensures.stepped some),
        omega (arith, some, other, left.ensures.coded),
        left.ensures.untold,
      )),
      (λ none. (
        number,
        ap (λ (v : View). v.steps) (left.ensures.waits none),
        ap (λ (v : View). v.owns) (left.ensures.waits none) ∙ ap (λ (k : WordKind).
            owning (word_index n k) Exclusive ∷ owns_of old) mutex.drawn.1,
        left.ensures.own.1,
        left.ensures.untold,
      )),
    )
