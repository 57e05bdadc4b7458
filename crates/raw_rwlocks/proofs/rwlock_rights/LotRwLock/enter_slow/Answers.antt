use Rattle.std.proofs.Common.{rules, ◌≡◌, subst}
use Rattle.steps_rwlock.specs.declared.purposes.RwLockPurpose.TheVariants.{Enter}
use Rattle.parking_lot_core.specs.Tokens.{view_of}
use Rattle.run_locks.specs.Halves.{HasBegunRwLock}
use Rattle.run_locks.specs.declared.rwlock_calls.SlowPart.{SlowPart}
use Rattle.run_locks.specs.declared.rwlock_calls.SlowPart.TheVariants.{GoesOn, Missed, NotBegun}
use Rattle.run_locks.proofs.RwLockCalling.{begins_entering}
use Rattle.raw_rwlocks.proofs.rwlock_rights.LotRwLock.enter_slow.Goals as goal

pub call_slow-answer-requires-clause-begun : goal.call_slow-answer-requires-clause-begun
call_slow-answer-requires-clause-begun g c = let owns = (view_of c.requires.begun.0).owns in (
  c.requires.begun.0,
  owns,
  begins_entering c.args.self.now.word.number c.args.access c.args.patience owns,
  search rules,
)

pub missed-answer-requires-clause-begun : goal.missed-answer-requires-clause-begun
missed-answer-requires-clause-begun g c = let owns = (view_of c.requires.begun.0).owns in (
  c.requires.begun.0,
  owns,
  begins_entering c.args.self.now.word.number c.args.access c.args.patience owns,
  search rules,
)

pub entered-requires-clause-ended : goal.entered-requires-clause-ended
entered-requires-clause-ended g c = let before = c.requires.begun.0 in let owns = (view_of before).owns
    in let is : c.args.rest ≡ GoesOn c.in-GoesOn.seen = search rules in (
      before,
      c.call_slow-answer.ensures.over before owns (begins_entering c.args.self.now.word.number c.args.access
          c.args.patience owns)
          (subst (λ (r : SlowPart). HasBegunRwLock c.args.self.now.word c.args.self.now.settings.admission
          (Enter c.args.access c.args.patience) r c.requires.begun.0 c.args.token.now) is c.requires.begun.1),
    )

pub entered-requires-in-Missed-clause-ended : goal.entered-requires-in-Missed-clause-ended
entered-requires-in-Missed-clause-ended g c = let before = c.requires.begun.0 in let owns =
    (view_of before).owns in let is : c.args.rest ≡ Missed c.in-Missed.seen c.in-Missed.found = search rules
    in (
      before,
      c.missed-answer.ensures.over before owns (begins_entering c.args.self.now.word.number c.args.access
          c.args.patience owns)
          (subst (λ (r : SlowPart). HasBegunRwLock c.args.self.now.word c.args.self.now.settings.admission
          (Enter c.args.access c.args.patience) r c.requires.begun.0 c.args.token.now) is c.requires.begun.1),
    )

pub returns-in-GoesOn-clause-entered : goal.returns-in-GoesOn-clause-entered
returns-in-GoesOn-clause-entered g c = λ before begun. let owns = (view_of before).owns
    in let is : c.args.rest ≡ GoesOn c.in-GoesOn.seen = search rules in
    c.entered.ensures.entered before (c.call_slow-answer.ensures.over before owns
    (begins_entering c.args.self.now.word.number c.args.access c.args.patience owns)
    (subst (λ (r : SlowPart). HasBegunRwLock c.args.self.now.word c.args.self.now.settings.admission
    (Enter c.args.access c.args.patience) r before c.args.token.now) is begun))

pub returns-in-Missed-clause-entered : goal.returns-in-Missed-clause-entered
returns-in-Missed-clause-entered g c = λ before begun. let owns = (view_of before).owns
    in let is : c.args.rest ≡ Missed c.in-Missed.seen c.in-Missed.found = search rules in
    c.entered-in-Missed.ensures.entered before (c.missed-answer.ensures.over before owns
    (begins_entering c.args.self.now.word.number c.args.access c.args.patience owns)
    (subst (λ (r : SlowPart). HasBegunRwLock c.args.self.now.word c.args.self.now.settings.admission
    (Enter c.args.access c.args.patience) r before c.args.token.now) is begun))

pub call_in_turn-answer-requires-clause-begun : goal.call_in_turn-answer-requires-clause-begun
call_in_turn-answer-requires-clause-begun g c = let owns = (view_of c.requires.begun.0).owns in (
  c.requires.begun.0,
  owns,
  begins_entering c.args.self.now.word.number c.args.access c.args.patience owns,
  search rules,
)

pub entered-requires-in-NotBegun-clause-ended : goal.entered-requires-in-NotBegun-clause-ended
entered-requires-in-NotBegun-clause-ended g c = let before = c.requires.begun.0 in let owns =
    (view_of before).owns in let is : c.args.rest ≡ NotBegun = search rules
    in (
      before,
      c.call_in_turn-answer.ensures.over before owns (begins_entering c.args.self.now.word.number c.args.access
          c.args.patience owns)
          (subst (λ (r : SlowPart). HasBegunRwLock c.args.self.now.word c.args.self.now.settings.admission
          (Enter c.args.access c.args.patience) r c.requires.begun.0 c.args.token.now) is c.requires.begun.1),
    )

pub returns-in-NotBegun-clause-entered : goal.returns-in-NotBegun-clause-entered
returns-in-NotBegun-clause-entered g c = λ before begun. let owns = (view_of before).owns
    in let is : c.args.rest ≡ NotBegun = search rules in
    c.entered-in-NotBegun.ensures.entered before (c.call_in_turn-answer.ensures.over before owns
    (begins_entering c.args.self.now.word.number c.args.access c.args.patience owns)
    (subst (λ (r : SlowPart). HasBegunRwLock c.args.self.now.word c.args.self.now.settings.admission
    (Enter c.args.access c.args.patience) r before c.args.token.now) is begun))
