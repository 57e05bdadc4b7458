use Rattle.std.proofs.Common.{◌≡◌, ◌≢◌, ◌∙◌, ap, arith, refl}
use Rattle.core_base.specs.declared.ops.Op.TheVariants.{Exchange}
use Rattle.spec_locks.specs.declared.calls.MutexCall.TheVariants.{LockTimed}
use Rattle.core_words.specs.declared.views.View.{View}
use Rattle.run_base.proofs.Afterwards.{path_at_once}
use Rattle.raw_mutexes.proofs.InTurn.{first_step_of}
use Rattle.raw_mutexes.proofs.raw_mutex.RawMutex.lock_timed_in_turn.Goals as goal

pub returns-in-Ok-clause-over : goal.returns-in-Ok-clause-over
returns-in-Ok-clause-over g c = let mutex = c.args.self.now in let n = mutex.word.number in let old =
    c.args.token.now in let by = c.enter_now in let mid = by.new.token in
    let stepped = c.in-Ok.ensures.stepped in λ before waits.
    let first = first_step_of mutex.word mutex.drawn.1 (Exchange 0 1) 0 before old mid waits.1
    (ap (λ (v : View). v.steps) stepped) in (
      (by.ensures.own.0.1 ∙ waits.0, ap (λ (v : View). v.owns) stepped ∙ waits.2),
      path_at_once n LockTimed 0 before mid refl first (by.ensures.untold ∙ waits.4),
    )

pub lock_timed_after-requires-clause-begun : goal.lock_timed_after-requires-clause-begun
lock_timed_after-requires-clause-begun g c = let mutex = c.args.self.now in let n = mutex.word.number in let old =
    c.args.token.now in let by = c.enter_now in let mid = by.new.token in
    let seen = c.in-Err.seen in let stepped = c.in-Err.ensures.stepped in let before = c.requires.waits.0 in
    let waits = c.requires.waits.1 in (
      before,
      (
        by.ensures.own.0.1 ∙ waits.0,
        first_step_of mutex.word mutex.drawn.1 (Exchange 0 1) seen before old mid waits.1
            (ap (λ (v : View). v.steps) stepped.1),
        ap (λ (v : View). v.owns) stepped.1 ∙ waits.2,
        omega (arith, stepped.0),
        by.ensures.untold ∙ waits.4,
      ),
    )

pub returns-in-Err-clause-over : goal.returns-in-Err-clause-over
returns-in-Err-clause-over g c = let mutex = c.args.self.now in let n = mutex.word.number in let old =
    c.args.token.now in let by = c.enter_now in let mid = by.new.token in
    let seen = c.in-Err.seen in let stepped = c.in-Err.ensures.stepped in λ before waits.
    c.lock_timed_after.ensures.over before (
      by.ensures.own.0.1 ∙ waits.0,
      first_step_of mutex.word mutex.drawn.1 (Exchange 0 1) seen before old mid waits.1
          (ap (λ (v : View). v.steps) stepped.1),
      ap (λ (v : View). v.owns) stepped.1 ∙ waits.2,
      omega (arith, stepped.0),
      by.ensures.untold ∙ waits.4,
    )
