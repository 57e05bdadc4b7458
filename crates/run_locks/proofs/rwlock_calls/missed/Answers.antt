use Rattle.std.proofs.Common.{None, sym, subst}
use Rattle.steps_base.specs.declared.acts.Reply.TheVariants.{Value}
use Rattle.core_clocks.specs.Clocks.{TimeIsUp}
use Rattle.run_base.specs.Fitting.{Reached}
use Rattle.run_base.specs.RwLockCalls.{BeginsWith, rwlock_deciding}
use Rattle.run_base.specs.Stages.{stage_of}
use Rattle.steps_rwlock.specs.declared.purposes.RwLockPurpose.{RwLockPurpose}
use Rattle.parking_lot_core.specs.Tokens.{view_of}
use Rattle.run_locks.specs.Halves.{HasBegunRwLock, HasEndedRwLock}
use Rattle.run_locks.specs.declared.rwlock_calls.SlowPart.TheVariants.{Missed}
use Rattle.run_locks.proofs.RwLockHalves.{ended_missed, reached_missed}
use Rattle.run_locks.proofs.rwlock_calls.missed.Goals as goal

pub rest_missed-requires-clause-reached : goal.rest_missed-requires-clause-reached
rest_missed-requires-clause-reached g c = let begun = c.requires.begun in (
  begun.1,
  subst (λ (q : RwLockPurpose). Reached (TimeIsUp g.C.Clock.tells c.args.limit.now) c.requires.begun.1
      (rwlock_deciding c.args.word.now.number c.args.admission.now q c.args.seen) (Value c.args.found)
      (stage_of c.args.token.now None)) (sym c.static_purpose.ensures)
      (reached_missed (TimeIsUp g.C.Clock.tells c.args.limit.now) c.args.word.now c.requires.own.2
      c.args.admission.now c.requires.own.4 c.args.purpose c.args.seen c.args.found begun.0
      c.args.token.now begun.3 begun.1 begun.2),
)

pub returns-clause-over : goal.returns-clause-over
returns-clause-over g c = λ before base begins begun.
    subst (λ (q : RwLockPurpose). HasEndedRwLock (TimeIsUp g.C.Clock.tells c.args.limit.now) c.args.word.now
    c.args.admission.now q c.rest_missed.result before c.rest_missed.new.token) c.static_purpose.ensures
    (ended_missed (TimeIsUp g.C.Clock.tells c.args.limit.now) c.args.word.now c.requires.own.2
    c.args.admission.now c.requires.own.4 c.static_purpose.result.now c.args.seen c.args.found before
    c.args.token.now
    (subst (λ (q : RwLockPurpose). HasBegunRwLock c.args.word.now c.args.admission.now q
    (Missed c.args.seen c.args.found) before c.args.token.now) (sym c.static_purpose.ensures) begun)
    c.rest_missed.new.token c.rest_missed.result c.rest_missed.ensures.own.1 base
    (subst (λ (q : RwLockPurpose). BeginsWith c.args.word.now.number q base (view_of before).owns)
    (sym c.static_purpose.ensures) begins)
    c.rest_missed.ensures.path c.rest_missed.ensures.over)
