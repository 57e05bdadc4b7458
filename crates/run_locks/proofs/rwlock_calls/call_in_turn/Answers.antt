use Rattle.std.proofs.Common.{sym, subst}
use Rattle.core_clocks.specs.Clocks.{TimeIsUp}
use Rattle.run_base.specs.RwLockCalls.{BeginsWith}
use Rattle.steps_rwlock.specs.declared.purposes.RwLockPurpose.{RwLockPurpose}
use Rattle.parking_lot_core.specs.Tokens.{view_of}
use Rattle.run_locks.specs.Halves.{HasBegunRwLock, HasEndedRwLock}
use Rattle.run_locks.specs.declared.rwlock_calls.SlowPart.TheVariants.{NotBegun}
use Rattle.run_locks.proofs.rwlock_calls.call_in_turn.Goals as goal

pub rest_in_turn-requires-clause-begun : goal.rest_in_turn-requires-clause-begun
rest_in_turn-requires-clause-begun g c = let begun = c.requires.begun in let by = sym c.static_purpose.ensures
    in (
      begun.0,
      begun.1,
      subst (λ (q : RwLockPurpose). BeginsWith c.args.word.now.number q begun.1 (view_of begun.0).owns) by
          begun.2,
      subst (λ (q : RwLockPurpose). HasBegunRwLock c.args.word.now c.args.settings.now.admission q NotBegun
          begun.0 c.args.token.now) by begun.3,
    )

pub returns-clause-over : goal.returns-clause-over
returns-clause-over g c = λ before base begins begun. let by = sym c.static_purpose.ensures in
    subst (λ (q : RwLockPurpose). HasEndedRwLock (TimeIsUp g.C.Clock.tells c.args.limit.now) c.args.word.now
    c.args.settings.now.admission q c.rest_in_turn.result before c.rest_in_turn.new.token)
    c.static_purpose.ensures
    (c.rest_in_turn.ensures.over before base
    (subst (λ (q : RwLockPurpose). BeginsWith c.args.word.now.number q base (view_of before).owns) by begins)
    (subst (λ (q : RwLockPurpose). HasBegunRwLock c.args.word.now c.args.settings.now.admission q NotBegun
    before c.args.token.now) by begun))
