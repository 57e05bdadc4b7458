use Rattle.std.proofs.Common.{None, sym, subst}
use Rattle.steps_base.specs.declared.acts.Reply.TheVariants.{Value}
use Rattle.core_clocks.specs.Clocks.{TimeIsUp}
use Rattle.run_base.specs.Fitting.{Fits}
use Rattle.run_base.specs.RwLockCalls.{BeginsWith, rwlock_begin}
use Rattle.run_base.specs.Stages.{stage_of}
use Rattle.steps_rwlock.specs.declared.purposes.RwLockPurpose.{RwLockPurpose}
use Rattle.lot_steps.specs.Steps.{next_place}
use Rattle.parking_lot_core.specs.Tokens.{view_of}
use Rattle.run_locks.specs.Halves.{HasBegunRwLock, HasEndedRwLock}
use Rattle.run_locks.specs.declared.rwlock_calls.SlowPart.TheVariants.{GoesOn}
use Rattle.run_locks.proofs.RwLockHalves.{ended_on_going, fits_on}
use Rattle.run_locks.proofs.rwlock_calls.call_slow.Goals as goal

pub rest_slow-requires-clause-fits : goal.rest_slow-requires-clause-fits
rest_slow-requires-clause-fits g c = let begun = c.requires.begun in (
  begun.1,
  subst (λ (q : RwLockPurpose). Fits (TimeIsUp g.C.Clock.tells c.args.limit.now) c.requires.begun.1
      (next_place (rwlock_begin c.args.word.now.number c.args.admission.now q) (Value c.args.seen))
      (stage_of c.args.token.now None)) (sym c.static_purpose.ensures)
      (fits_on (TimeIsUp g.C.Clock.tells c.args.limit.now) c.args.word.now c.requires.own.2 c.args.admission.now
      c.requires.own.4 c.args.purpose c.args.seen begun.0 c.args.token.now begun.3 begun.1 begun.2),
)

pub returns-clause-over : goal.returns-clause-over
returns-clause-over g c = λ before base begins begun.
    subst (λ (q : RwLockPurpose). HasEndedRwLock (TimeIsUp g.C.Clock.tells c.args.limit.now) c.args.word.now
    c.args.admission.now q c.rest_slow.result before c.rest_slow.new.token) c.static_purpose.ensures
    (ended_on_going (TimeIsUp g.C.Clock.tells c.args.limit.now) c.args.word.now c.requires.own.2
    c.args.admission.now c.requires.own.4 c.static_purpose.result.now c.args.seen before c.args.token.now
    c.rest_slow.new.token c.rest_slow.result
    (subst (λ (q : RwLockPurpose). HasBegunRwLock c.args.word.now c.args.admission.now q (GoesOn c.args.seen)
    before c.args.token.now) (sym c.static_purpose.ensures) begun) c.rest_slow.ensures.own.1 base
    (subst (λ (q : RwLockPurpose). BeginsWith c.args.word.now.number q base (view_of before).owns)
    (sym c.static_purpose.ensures) begins)
    c.rest_slow.ensures.path c.rest_slow.ensures.over)
