use Rattle.std.proofs.Common.{rules, ◌≡◌, ◌∙◌, ◌∷◌, None, true, ap, inl, refl, subst, sym}
use Rattle.core_base.specs.declared.wants.Want.{Want}
use Rattle.spec_locks.specs.declared.calls.Patience.TheVariants.{Patient}
use Rattle.spec_locks.specs.declared.calls.RwLockCall.TheVariants as calls
use Rattle.spec_locks.specs.declared.outcomes.Answer.{Answer}
use Rattle.spec_locks.specs.declared.outcomes.Answer.TheVariants.{Ok, ReadersFull}
use Rattle.steps_rwlock.specs.RwLockSteps.{wanted}
use Rattle.steps_rwlock_fair.specs.declared.places.RwLockCallPlace.TheVariants.{PeekQueue}
use Rattle.lot_steps.specs.declared.places.Place.TheVariants.{RwLock}
use Rattle.core_words.specs.Rights.{owner_for}
use Rattle.core_words.specs.Steps.{has, without}
use Rattle.core_words.specs.Views.{owning}
use Rattle.core_words.specs.declared.views.View.{View}
use Rattle.parking_lot_core.specs.Tokens.{view_of}
use Rattle.run_base.specs.Paths.{at_rwlock, rwlock_at}
use Rattle.run_base.specs.RwLockCalls.{HasWalkedCall}
use Rattle.run_base.proofs.Courses.{courses_between}
use Rattle.run_base.specs.Stages.{stage_of}
use Rattle.run_locks.proofs.RwLockBumpFull.{bump_sees_full}
use Rattle.run_locks.proofs.RwLockCalling.{entered_right}
use Rattle.run_locks.proofs.RwLockFairCalls.{bump_full}
use Rattle.run_base.proofs.RwLockNeeds.{has_right, left_beside}
use Rattle.raw_rwlocks.proofs.rwlock_rights.LotRwLock.bump.Goals as goal

pub bump-requires-clause-right : goal.bump-requires-clause-right
bump-requires-clause-right g c = (
  (view_of c.args.token.now).owns,
  (
    owner_for (wanted c.args.access),
    (view_of c.args.token.now).owns,
    refl,
    (λ settled. refl),
    ap (λ (v : View). v.owns) c.join.ensures.joined
        ∙ ap (λ (w : Want). owning (rwlock_at c.args.self.now.word.number) (owner_for w)
        ∷ (view_of c.args.token.now).owns) c.wanted.ensures,
  ),
)

pub split-requires-clause-held : goal.split-requires-clause-held
split-requires-clause-held g c = let over = c.bump.ensures.over (view_of c.args.token.now).owns (
  owner_for (wanted c.args.access),
  (view_of c.args.token.now).owns,
  refl,
  (λ settled. refl),
  ap (λ (v : View). v.owns) c.join.ensures.joined
      ∙ ap (λ (w : Want). owning (rwlock_at c.args.self.now.word.number) (owner_for w)
      ∷ (view_of c.args.token.now).owns) c.wanted.ensures,
) in
    let right = (entered_right ⊥ c.args.self.now.word.number (view_of c.args.token.now).owns
    c.args.self.now.settings.admission c.args.access Patient c.bump.result
    (stage_of c.bump.new.token None) over (inl c.in-Ok.is)).1 in
    subst (λ (w : Want). has (owning (rwlock_at c.args.self.now.word.number) (owner_for w))
    (view_of c.bump.new.token).owns ≡ true) (sym c.wanted-in-Ok.ensures)
    (has_right c.args.self.now.word.number (owner_for (wanted c.args.access))
    (view_of c.args.token.now).owns (view_of c.bump.new.token).owns right)

pub returns-in-Ok-clause-token : goal.returns-in-Ok-clause-token
returns-in-Ok-clause-token g c = let over = c.bump.ensures.over (view_of c.args.token.now).owns (
  owner_for (wanted c.args.access),
  (view_of c.args.token.now).owns,
  refl,
  (λ settled. refl),
  ap (λ (v : View). v.owns) c.join.ensures.joined
      ∙ ap (λ (w : Want). owning (rwlock_at c.args.self.now.word.number) (owner_for w)
      ∷ (view_of c.args.token.now).owns) c.wanted.ensures,
) in
    let right = (entered_right ⊥ c.args.self.now.word.number (view_of c.args.token.now).owns
    c.args.self.now.settings.admission c.args.access Patient c.bump.result
    (stage_of c.bump.new.token None) over (inl c.in-Ok.is)).1 in (
      search rules,
      (
        search rules,
        λ settled. ap (λ (v : View). v.owns) c.split.ensures.left
            ∙ ap (λ (w : Want). without (owning (rwlock_at c.args.self.now.word.number) (owner_for w))
            (view_of c.bump.new.token).owns) c.wanted-in-Ok.ensures
            ∙ left_beside c.args.self.now.word.number (owner_for (wanted c.args.access))
            (view_of c.args.token.now).owns (view_of c.bump.new.token).owns right settled,
      ),
    )

pub returns-in-Ok-clause-path : goal.returns-in-Ok-clause-path
returns-in-Ok-clause-path g c = courses_between (at_rwlock c.args.self.now.word.number)
    (RwLock c.args.self.now.word.number c.args.self.now.settings.admission (PeekQueue c.args.access)) Ok
    c.args.token.now c.join.new.token c.bump.new.token c.split.new.token c.join.ensures.own.0.1
    (ap (λ (v : View). v.steps) c.join.ensures.joined) c.join.ensures.untold
    (ap (λ (v : View). v.steps) c.split.ensures.left) c.split.ensures.untold
    (subst (λ (answer : Answer). HasWalkedCall c.args.self.now.word.number c.args.self.now.settings.admission
    (calls.Bump c.args.access) answer c.join.new.token c.bump.new.token) c.in-Ok.is c.bump.ensures.path)

pub returns-in_default : goal.returns-in_default
returns-in_default g c = let over = c.bump.ensures.over (view_of c.args.token.now).owns (
  owner_for (wanted c.args.access),
  (view_of c.args.token.now).owns,
  refl,
  (λ settled. refl),
  ap (λ (v : View). v.owns) c.join.ensures.joined
      ∙ ap (λ (w : Want). owning (rwlock_at c.args.self.now.word.number) (owner_for w)
      ∷ (view_of c.args.token.now).owns) c.wanted.ensures,
) in
    let full = bump_full c.args.self.now.word.number (view_of c.args.token.now).owns
    c.args.self.now.settings.admission c.args.access c.bump.result (stage_of c.bump.new.token None) over
    c.in_default.not-Ok in
    let took_steps = courses_between (at_rwlock c.args.self.now.word.number)
    (RwLock c.args.self.now.word.number c.args.self.now.settings.admission
    (PeekQueue c.args.access)) ReadersFull
    c.args.token.now c.join.new.token c.bump.new.token c.bump.new.token c.join.ensures.own.0.1
    (ap (λ (v : View). v.steps) c.join.ensures.joined) c.join.ensures.untold refl refl
    (subst (λ (answer : Answer). HasWalkedCall c.args.self.now.word.number c.args.self.now.settings.admission
    (calls.Bump c.args.access) answer c.join.new.token c.bump.new.token) full.0 c.bump.ensures.path)
    in record {
      token = (search rules, (search rules, full.2));
      right = refl;
      path = took_steps;
      counted = full.1;
      full = bump_sees_full c.args.access c.args.self.now.word.number c.args.self.now.settings.admission
          c.args.token.now c.bump.new.token took_steps;
    }
