use Rattle.std.proofs.Common.{rules, List, Option, ap, ◌∙◌, sym, subst, refl, None}
use Rattle.core_clocks.specs.Clocks.{TimeIsUp}
use Rattle.steps_rwlock.specs.declared.purposes.RwLockPurpose.TheVariants.{Upgrade}
use Rattle.spec_locks.specs.declared.outcomes.Answer.{Answer}
use Rattle.spec_locks.specs.declared.outcomes.Answer.TheVariants.{No}
use Rattle.steps_rwlock.specs.RwLockSteps.{entered}
use Rattle.core_words.specs.declared.owners.Owner.TheVariants as owners
use Rattle.core_words.specs.declared.views.View.{View}
use Rattle.core_words.specs.declared.views.WordStep.{WordStep}
use Rattle.parking_lot_core.specs.Tokens.{last_of, view_of}
use Rattle.parking_lot_core.specs.declared.tokens.SectionRecord.{SectionRecord}
use Rattle.run_base.specs.Paths.{at_rwlock}
use Rattle.run_base.specs.RwLockCalls.{HasWalkedRwLock, rwlock_begin}
use Rattle.run_base.proofs.Courses.{courses_between}
use Rattle.run_base.specs.RwLockFitting.{LeftBy}
use Rattle.run_base.specs.Stages.{stage_of}
use Rattle.run_base.proofs.RwLockNeeds.{has_right, left_beside}
use Rattle.run_locks.proofs.RwLockRights.{begins_upgrading, fell_back, fell_back_left, upgraded}
use Rattle.raw_rwlocks.proofs.rwlock_rights.LotRwLock.upgrade.Goals as goal

pub split-requires-clause-held : goal.split-requires-clause-held
split-requires-clause-held g c = let n = c.args.self.now.word.number in let owns =
    (view_of c.args.token.now).owns in
    let over = c.call-answer.ensures.over owns (begins_upgrading n c.args.patience owns
    (view_of c.join.new.token).owns (
      owners.Upgradable,
      owns,
      refl,
      (λ settled. refl),
      ap (λ (v : View). v.owns) c.join.ensures.joined,
    )) in
    has_right n owners.Upgradable owns (view_of c.call-answer.new.token).owns
    (fell_back (TimeIsUp g.C.Clock.tells c.args.limit.now) n owns c.args.self.now.settings.admission
    c.args.patience c.call-answer.result (stage_of c.call-answer.new.token None) over c.in-No.is).1

pub split-requires-in_default : goal.split-requires-in_default
split-requires-in_default g c = let n = c.args.self.now.word.number in let owns =
    (view_of c.args.token.now).owns in
    let over = c.call-answer.ensures.over owns (begins_upgrading n c.args.patience owns
    (view_of c.join.new.token).owns (
      owners.Upgradable,
      owns,
      refl,
      (λ settled. refl),
      ap (λ (v : View). v.owns) c.join.ensures.joined,
    )) in
    record {
      lot = search rules;
      own = search rules;
      held = has_right n owners.Exclusive owns (view_of c.call-answer.new.token).owns
          (upgraded (TimeIsUp g.C.Clock.tells c.args.limit.now) n owns c.args.self.now.settings.admission
          c.args.patience c.call-answer.result (stage_of c.call-answer.new.token None) over
          c.in_default.not-No).1;
    }

pub returns-in-No-clause-token : goal.returns-in-No-clause-token
returns-in-No-clause-token g c = let n = c.args.self.now.word.number in let owns =
    (view_of c.args.token.now).owns in
    let over = c.call-answer.ensures.over owns (begins_upgrading n c.args.patience owns
    (view_of c.join.new.token).owns (
      owners.Upgradable,
      owns,
      refl,
      (λ settled. refl),
      ap (λ (v : View). v.owns) c.join.ensures.joined,
    )) in
    let right = (fell_back (TimeIsUp g.C.Clock.tells c.args.limit.now) n owns c.args.self.now.settings.admission
    c.args.patience c.call-answer.result (stage_of c.call-answer.new.token None) over c.in-No.is).1 in (
      search rules,
      (
        search rules,
        λ settled. ap (λ (v : View). v.owns) c.split.ensures.left
            ∙ left_beside n owners.Upgradable owns (view_of c.call-answer.new.token).owns right settled,
      ),
    )

pub returns-in-No-clause-path : goal.returns-in-No-clause-path
returns-in-No-clause-path g c = let n = c.args.self.now.word.number in
    courses_between (at_rwlock n) (rwlock_begin n c.args.self.now.settings.admission
    (Upgrade c.args.patience)) No
    c.args.token.now c.join.new.token c.call-answer.new.token c.split.new.token c.join.ensures.own.0.1
    (ap (λ (v : View). v.steps) c.join.ensures.joined) c.join.ensures.untold
    (ap (λ (v : View). v.steps) c.split.ensures.left) c.split.ensures.untold
    (subst (λ (answer : Answer). HasWalkedRwLock c.args.self.now.word.number
    c.args.self.now.settings.admission (Upgrade c.args.patience) answer c.join.new.token
    c.call-answer.new.token) c.in-No.is c.call-answer.ensures.path)

pub returns-in-No-clause-late : goal.returns-in-No-clause-late
returns-in-No-clause-late g c = let n = c.args.self.now.word.number in let owns =
    (view_of c.args.token.now).owns in
    let over = c.call-answer.ensures.over owns (begins_upgrading n c.args.patience owns
    (view_of c.join.new.token).owns (
      owners.Upgradable,
      owns,
      refl,
      (λ settled. refl),
      ap (λ (v : View). v.owns) c.join.ensures.joined,
    )) in
    (fell_back (TimeIsUp g.C.Clock.tells c.args.limit.now) n owns c.args.self.now.settings.admission
    c.args.patience c.call-answer.result (stage_of c.call-answer.new.token None) over c.in-No.is).0

pub returns-in-No-clause-left : goal.returns-in-No-clause-left
returns-in-No-clause-left g c = let n = c.args.self.now.word.number in let owns =
    (view_of c.args.token.now).owns in
    let over = c.call-answer.ensures.over owns (begins_upgrading n c.args.patience owns
    (view_of c.join.new.token).owns (
      owners.Upgradable,
      owns,
      refl,
      (λ settled. refl),
      ap (λ (v : View). v.owns) c.join.ensures.joined,
    )) in
    let left = subst (λ (last : Option SectionRecord). LeftBy c.args.self.now.word.number
    c.args.self.now.settings.admission (Upgrade c.args.patience) last
    (view_of c.call-answer.new.token).steps) (sym c.split.ensures.own.1)
    (fell_back_left (TimeIsUp g.C.Clock.tells c.args.limit.now) n owns c.args.self.now.settings.admission
    c.args.patience c.call-answer.result (stage_of c.call-answer.new.token None) over c.in-No.is) in
    subst (λ (steps : List WordStep). LeftBy c.args.self.now.word.number c.args.self.now.settings.admission
    (Upgrade c.args.patience) (last_of c.split.new.token) steps)
    (sym (ap (λ (v : View). v.steps) c.split.ensures.left)) left

pub returns-in_default : goal.returns-in_default
returns-in_default g c = let n = c.args.self.now.word.number in let owns = (view_of c.args.token.now).owns in
    let over = c.call-answer.ensures.over owns (begins_upgrading n c.args.patience owns
    (view_of c.join.new.token).owns (
      owners.Upgradable,
      owns,
      refl,
      (λ settled. refl),
      ap (λ (v : View). v.owns) c.join.ensures.joined,
    )) in
    let right = upgraded (TimeIsUp g.C.Clock.tells c.args.limit.now) n owns c.args.self.now.settings.admission
    c.args.patience c.call-answer.result (stage_of c.call-answer.new.token None) over c.in_default.not-No
    in record {
      token = (
        search rules,
        (
          search rules,
          λ settled. ap (λ (v : View). v.owns)
              c.split-in_default.ensures.left ∙ left_beside n owners.Exclusive owns
              (view_of c.call-answer.new.token).owns right.1 settled,
        ),
      );
      right = search rules;
      path = courses_between (at_rwlock n) (rwlock_begin n c.args.self.now.settings.admission
          (Upgrade c.args.patience))
          (entered c.args.patience) c.args.token.now c.join.new.token c.call-answer.new.token
          c.split-in_default.new.token c.join.ensures.own.0.1
          (ap (λ (v : View). v.steps) c.join.ensures.joined) c.join.ensures.untold
          (ap (λ (v : View). v.steps) c.split-in_default.ensures.left) c.split-in_default.ensures.untold
          (subst (λ (answer : Answer). HasWalkedRwLock c.args.self.now.word.number
          c.args.self.now.settings.admission (Upgrade c.args.patience) answer c.join.new.token
          c.call-answer.new.token) right.0 c.call-answer.ensures.path);
      late = tt;
      left = tt;
    }
