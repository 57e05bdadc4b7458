use Rattle.std.proofs.Common.{rules, ◌≡◌, true, ap, ◌∙◌, sym, subst}
use Rattle.core_base.specs.declared.wants.Want.{Want}
use Rattle.steps_rwlock.specs.declared.purposes.RwLockPurpose.TheVariants.{Downgrade}
use Rattle.spec_locks.specs.declared.outcomes.Answer.{Answer}
use Rattle.spec_locks.specs.declared.outcomes.Answer.TheVariants.{Ok}
use Rattle.steps_rwlock.specs.RwLockSteps.{from_of, to_of, wanted}
use Rattle.core_words.specs.Rights.{owner_for}
use Rattle.core_words.specs.Steps.{has, without}
use Rattle.core_words.specs.Views.{owning}
use Rattle.core_words.specs.declared.views.View.{View}
use Rattle.parking_lot_core.specs.Tokens.{view_of}
use Rattle.run_base.specs.Paths.{at_rwlock, rwlock_at}
use Rattle.run_base.specs.RwLockCalls.{HasWalkedRwLock, rwlock_begin}
use Rattle.run_base.proofs.Courses.{courses_between}
use Rattle.run_base.specs.RwLockFitting.{IsBeside}
use Rattle.run_base.proofs.RwLockNeeds.{has_right, left_beside}
use Rattle.run_locks.proofs.RwLockRights.{joined_beside}
use Rattle.raw_rwlocks.proofs.rwlock_rights.LotRwLock.downgrade.Goals as goal

pub call-requires-clause-right : goal.call-requires-clause-right
call-requires-clause-right g c = let n = c.args.self.now.word.number in let owns =
    (view_of c.args.token.now).owns in (
      owns,
      joined_beside n c.greater.result (wanted (from_of c.args.downgrade)) owns
          (view_of c.join.new.token).owns c.greater.ensures (ap (λ (v : View). v.owns) c.join.ensures.joined),
    )

pub split-requires-clause-held : goal.split-requires-clause-held
split-requires-clause-held g c = let n = c.args.self.now.word.number in let owns =
    (view_of c.args.token.now).owns in
    let over = c.call.ensures.over owns (joined_beside n c.greater.result (wanted (from_of c.args.downgrade))
    owns (view_of c.join.new.token).owns c.greater.ensures
    (ap (λ (v : View). v.owns) c.join.ensures.joined)) in
    subst (λ (w : Want). has (owning (rwlock_at c.args.self.now.word.number) (owner_for w))
    (view_of c.call.new.token).owns ≡ true) (sym c.lesser.ensures)
    (has_right n (owner_for (wanted (to_of c.args.downgrade))) owns (view_of c.call.new.token).owns
    over.1)

pub returns-clause-token : goal.returns-clause-token
returns-clause-token g c = let n = c.args.self.now.word.number in let owns = (view_of c.args.token.now).owns
    in
    let over = c.call.ensures.over owns (joined_beside n c.greater.result (wanted (from_of c.args.downgrade))
    owns (view_of c.join.new.token).owns c.greater.ensures
    (ap (λ (v : View). v.owns) c.join.ensures.joined)) in
    let left = subst (λ (w : Want). IsBeside c.args.self.now.word.number (view_of c.args.token.now).owns
    (without (owning (rwlock_at c.args.self.now.word.number) (owner_for w))
    (view_of c.call.new.token).owns)) (sym c.lesser.ensures)
    (left_beside n (owner_for (wanted (to_of c.args.downgrade))) owns (view_of c.call.new.token).owns
    over.1) in
    (search rules, (search rules, λ settled. ap (λ (v : View). v.owns) c.split.ensures.left ∙ left settled))

pub returns-clause-path : goal.returns-clause-path
returns-clause-path g c = let n = c.args.self.now.word.number in let owns = (view_of c.args.token.now).owns in
    let over = c.call.ensures.over owns (joined_beside n c.greater.result (wanted (from_of c.args.downgrade))
    owns (view_of c.join.new.token).owns c.greater.ensures
    (ap (λ (v : View). v.owns) c.join.ensures.joined)) in
    courses_between (at_rwlock n) (rwlock_begin n c.args.self.now.settings.admission
    (Downgrade c.args.downgrade)) Ok
    c.args.token.now c.join.new.token c.call.new.token c.split.new.token c.join.ensures.own.0.1
    (ap (λ (v : View). v.steps) c.join.ensures.joined) c.join.ensures.untold
    (ap (λ (v : View). v.steps) c.split.ensures.left) c.split.ensures.untold
    (subst (λ (answer : Answer). HasWalkedRwLock c.args.self.now.word.number
    c.args.self.now.settings.admission (Downgrade c.args.downgrade) answer c.join.new.token
    c.call.new.token) over.0 c.call.ensures.path)
