use Rattle.std.proofs.Common.{◌≡◌, ◌∙◌, ◌++◌, ap, arith, refl, rules}
use Rattle.core_base.specs.declared.ops.Op.TheVariants.{Exchange}
use Rattle.spec_locks.specs.declared.calls.MutexCall.TheVariants.{LockTimed}
use Rattle.run_base.specs.Paths.{step}
use Rattle.core_words.specs.Indices.{word_index}
use Rattle.core_words.specs.declared.views.View.{View}
use Rattle.core_words.specs.declared.words.WordKind.{WordKind}
use Rattle.parking_lot_core.specs.Tokens.{view_of}
use Rattle.run_base.proofs.Afterwards.{path_at_once}
use Rattle.raw_mutexes.proofs.raw_mutex.RawMutex.lock_timed.Goals as goal

pub returns-in-Ok-clause-path : goal.returns-in-Ok-clause-path
returns-in-Ok-clause-path g c = let mutex = c.args.self.now in let n = mutex.word.number in let old =
    c.args.token.now in let new = c.lock_with_permit.new.token in
    let added = ap (λ (v : View). v.steps) c.in-Ok.ensures.taken.0
    ∙ ap (λ (k : WordKind). (view_of old).steps ++ step (word_index n k) (Exchange 0 1) 0) mutex.drawn.1
    in
    path_at_once n LockTimed 0 old new refl added c.lock_with_permit.ensures.untold

pub go_on_timed-requires-clause-begun : goal.go_on_timed-requires-clause-begun
go_on_timed-requires-clause-begun g c = let mutex = c.args.self.now in let n = mutex.word.number in let old =
    c.args.token.now in let new = c.lock_with_permit.new.token in let seen = c.in-Err.seen in
    let number : new.number ≡ old.number = search rules in (
      old,
      (
        (λ some. let stepped = c.in-Err.ensures.missed some in (
          number,
          ap (λ (v : View). v.steps) stepped.0 ∙ ap (λ (k : WordKind). (view_of old).steps
              ++ step (word_index n k) (Exchange 0 1) seen) mutex.drawn.1,
          ap (λ (v : View). v.owns) stepped.0,
          omega (arith, some),
          c.lock_with_permit.ensures.untold,
        )),
        (λ none. let same = c.in-Err.ensures.waits none in (
          number,
          ap (λ (v : View). v.steps) same,
          ap (λ (v : View). v.owns) same,
          c.lock_with_permit.ensures.own.1,
          c.lock_with_permit.ensures.untold,
        )),
      ),
    )

pub returns-in-Err-clause-path : goal.returns-in-Err-clause-path
returns-in-Err-clause-path g c = let mutex = c.args.self.now in let n = mutex.word.number in let old =
    c.args.token.now in let new = c.lock_with_permit.new.token in let seen = c.in-Err.seen in
    let number : new.number ≡ old.number = search rules in
    (c.go_on_timed.ensures.over old (
      (λ some. let stepped = c.in-Err.ensures.missed some in (
        number,
        ap (λ (v : View). v.steps) stepped.0 ∙ ap (λ (k : WordKind). (view_of old).steps
            ++ step (word_index n k) (Exchange 0 1) seen) mutex.drawn.1,
        ap (λ (v : View). v.owns) stepped.0,
        omega (arith, some),
        c.lock_with_permit.ensures.untold,
      )),
      (λ none. let same = c.in-Err.ensures.waits none in (
        number,
        ap (λ (v : View). v.steps) same,
        ap (λ (v : View). v.owns) same,
        c.lock_with_permit.ensures.own.1,
        c.lock_with_permit.ensures.untold,
      )),
    )).1
