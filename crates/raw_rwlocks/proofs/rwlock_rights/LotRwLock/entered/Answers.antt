use Rattle.std.proofs.Common.{◌≡◌, None, true, ap, ◌∙◌, sym, subst, refl}
use Rattle.std.specs.Arc.{arc_value}
use Rattle.core_clocks.specs.Clocks.{TimeIsUp}
use Rattle.core_base.specs.declared.wants.Want.{Want}
use Rattle.spec_locks.specs.declared.outcomes.Answer.{Answer}
use Rattle.steps_rwlock.specs.declared.purposes.RwLockPurpose.TheVariants.{Enter}
use Rattle.steps_rwlock.specs.RwLockSteps.{wanted, entered}
use Rattle.core_words.specs.Rights.{owner_for}
use Rattle.core_words.specs.Steps.{has, without}
use Rattle.core_words.specs.Views.{owning}
use Rattle.core_words.specs.declared.views.View.{View}
use Rattle.parking_lot_core.specs.Tokens.{view_of}
use Rattle.run_base.specs.Paths.{at_rwlock, rwlock_at}
use Rattle.run_base.specs.RwLockCalls.{HasWalkedRwLock, IsRwLockRight, rwlock_begin}
use Rattle.run_base.proofs.Courses.{courses_between}
use Rattle.run_base.specs.RwLockFitting.{IsBeside}
use Rattle.run_base.specs.Stages.{stage_of}
use Rattle.run_locks.proofs.RwLockCalling.{begins_entering, entered_right, found_full, gave_up_left}
use Rattle.run_locks.proofs.RwLockCalling.{gave_up_may}
use Rattle.run_locks.proofs.RwLockFull.{sees_full}
use Rattle.run_base.proofs.RwLockNeeds.{has_right, left_beside}
use Rattle.raw_rwlocks.proofs.rwlock_rights.LotRwLock.entered.Goals as goal

pub split-requires-clause-held : goal.split-requires-clause-held
split-requires-clause-held g c = let n = c.args.self.now.word.number in let ended = c.requires.ended
    in let owns = (view_of ended.0).owns in
    let over = ended.1.2 owns (begins_entering n c.args.access c.args._patience owns) in
    let right = (entered_right (TimeIsUp g.C.Clock.tells c.args._limit.now) n owns
    c.args.self.now.settings.admission c.args.access c.args._patience c.args.answer
    (stage_of c.args.token.now None) over c.in-Ok.is).1 in
    subst (λ (w : Want). has (owning (rwlock_at c.args.self.now.word.number) (owner_for w))
    (view_of c.args.token.now).owns ≡ true) (sym c.wanted.ensures)
    (has_right n (owner_for (wanted c.args.access)) owns (view_of c.args.token.now).owns right)

pub returns-in-Ok-clause-entered : goal.returns-in-Ok-clause-entered
returns-in-Ok-clause-entered g c = λ before ended. let n = c.args.self.now.word.number in let owns =
    (view_of before).owns in
    let over = ended.2 owns (begins_entering n c.args.access c.args._patience owns) in
    let right = entered_right (TimeIsUp g.C.Clock.tells c.args._limit.now) n owns
    c.args.self.now.settings.admission c.args.access c.args._patience c.args.answer
    (stage_of c.args.token.now None) over c.in-Ok.is in
    let left = subst (λ (w : Want). IsBeside c.args.self.now.word.number (view_of before).owns
    (without (owning (rwlock_at c.args.self.now.word.number) (owner_for w))
    (view_of c.args.token.now).owns)) (sym c.wanted.ensures)
    (left_beside n (owner_for (wanted c.args.access)) owns (view_of c.args.token.now).owns right.1) in (
      (
        c.split.ensures.own.0.1 ∙ ended.0,
        λ settled. ap (λ (v : View). v.owns) c.split.ensures.left
            ∙ left settled,
      ),
      subst (λ (w : Want). IsRwLockRight (arc_value c.args.self.now.lot) c.args.self.now.word (owner_for w)
          c.split.result) c.wanted.ensures c.split.ensures.right,
      courses_between (at_rwlock n) (rwlock_begin n c.args.self.now.settings.admission
          (Enter c.args.access c.args._patience))
          (entered c.args._patience) before before c.args.token.now c.split.new.token refl refl refl
          (ap (λ (v : View). v.steps) c.split.ensures.left) c.split.ensures.untold
          (subst (λ (answer : Answer). HasWalkedRwLock c.args.self.now.word.number
          c.args.self.now.settings.admission (Enter c.args.access c.args._patience) answer before
          c.args.token.now) right.0 ended.1),
      tt,
      tt,
      tt,
      tt,
    )

pub returns-in-No-clause-entered : goal.returns-in-No-clause-entered
returns-in-No-clause-entered g c = λ before ended. let n = c.args.self.now.word.number in let owns =
    (view_of before).owns in
    let over = ended.2 owns (begins_entering n c.args.access c.args._patience owns) in
    let gave_up = gave_up_may (TimeIsUp g.C.Clock.tells c.args._limit.now) n owns
    c.args.self.now.settings.admission c.args.access c.args._patience c.args.answer
    (stage_of c.args.token.now None) over c.in-No.is in (
      (ended.0, gave_up.1),
      tt,
      subst (λ (answer : Answer). HasWalkedRwLock c.args.self.now.word.number
          c.args.self.now.settings.admission (Enter c.args.access c.args._patience) answer before
          c.args.token.now) c.in-No.is ended.1,
      gave_up.0,
      tt,
      tt,
      gave_up_left (TimeIsUp g.C.Clock.tells c.args._limit.now) n owns c.args.self.now.settings.admission
          c.args.access c.args._patience c.args.answer (stage_of c.args.token.now None) over c.in-No.is,
    )

pub returns-in_default-clause-entered : goal.returns-in_default-clause-entered
returns-in_default-clause-entered g c = λ before ended. let n = c.args.self.now.word.number in let owns =
    (view_of before).owns in
    let over = ended.2 owns (begins_entering n c.args.access c.args._patience owns) in
    let full = found_full (TimeIsUp g.C.Clock.tells c.args._limit.now) n owns c.args.self.now.settings.admission
    c.args.access c.args._patience c.args.answer (stage_of c.args.token.now None) over c.in_default.not-Ok
    c.in_default.not-Yes c.in_default.not-No in
    let walks = subst (λ (answer : Answer). HasWalkedRwLock c.args.self.now.word.number
    c.args.self.now.settings.admission (Enter c.args.access c.args._patience) answer before
    c.args.token.now) full.0 ended.1 in (
      (ended.0, full.2),
      refl,
      walks,
      tt,
      full.1,
      sees_full c.args.access c.args._patience n c.args.self.now.settings.admission before c.args.token.now
          walks,
      tt,
    )
