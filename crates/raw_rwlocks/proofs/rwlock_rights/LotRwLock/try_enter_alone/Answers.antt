use Rattle.std.proofs.Common.{rules, ◌≡◌, ◌==◌, ◌∙◌, true, false, ap, refl, eq-eqb}
use Rattle.spec_locks.specs.declared.calls.Access.TheVariants as access
use Rattle.spec_locks.specs.declared.calls.Patience.TheVariants.{Try}
use Rattle.steps_rwlock.specs.declared.purposes.RwLockPurpose.TheVariants.{Enter}
use Rattle.spec_locks.specs.declared.outcomes.Answer.TheVariants.{Yes}
use Rattle.core_words.specs.declared.owners.Owner.TheVariants as owners
use Rattle.core_words.specs.declared.views.View.{View}
use Rattle.parking_lot_core.specs.Tokens.{view_of}
use Rattle.run_base.specs.Paths.{at_rwlock}
use Rattle.run_base.specs.RwLockCalls.{rwlock_begin}
use Rattle.run_base.proofs.Courses.{courses_between}
use Rattle.run_base.proofs.RwLockNeeds.{has_right, left_beside}
use Rattle.run_locks.proofs.RwLockRights.{took, tried}
use Rattle.raw_rwlocks.proofs.rwlock_rights.LotRwLock.try_enter_alone.Goals as goal

pub split-requires-clause-held : goal.split-requires-clause-held
split-requires-clause-held c = let zero : c.first_step-seen.result ≡ 0 = search rules in let lock = c.args.self.now
    in
    has_right lock.word.number owners.Exclusive (view_of c.args.token.now).owns
    (view_of c.first_step-seen.new.token).owns
    (took lock.word lock.drawn.1 lock.settings.admission lock.drawn.3 c.first_step-seen.result c.args.token.now
    c.first_step-seen.new.token c.first_step-seen.ensures.stepped c.first_step-seen.ensures.own.1 c.first_step-seen.ensures.coded
    zero)

pub returns-then-seen-eq0-clause-token : goal.returns-then-seen-eq0-clause-token
returns-then-seen-eq0-clause-token c = let zero : c.first_step-seen.result ≡ 0 = search rules in let lock =
    c.args.self.now in let owns = (view_of c.args.token.now).owns in
    let right = took lock.word lock.drawn.1 lock.settings.admission lock.drawn.3 c.first_step-seen.result
    c.args.token.now c.first_step-seen.new.token c.first_step-seen.ensures.stepped c.first_step-seen.ensures.own.1
    c.first_step-seen.ensures.coded zero in (
      search rules,
      (
        search rules,
        λ settled. ap (λ (v : View). v.owns) c.split.ensures.left
            ∙ left_beside lock.word.number owners.Exclusive owns (view_of c.first_step-seen.new.token).owns right
            settled,
      ),
    )

pub returns-then-seen-eq0-clause-path : goal.returns-then-seen-eq0-clause-path
returns-then-seen-eq0-clause-path c = let zero : c.first_step-seen.result ≡ 0 = search rules in let lock =
    c.args.self.now in
    courses_between (at_rwlock lock.word.number) (rwlock_begin lock.word.number lock.settings.admission
    (Enter access.Exclusive Try))
    Yes c.args.token.now c.args.token.now c.first_step-seen.new.token c.split.new.token refl refl refl
    (ap (λ (v : View). v.steps) c.split.ensures.left) c.split.ensures.untold
    (tried lock.word lock.drawn.1 lock.settings.admission lock.drawn.3 c.first_step-seen.result c.args.token.now
    c.first_step-seen.new.token
    c.first_step-seen.ensures.stepped c.first_step-seen.ensures.untold true (eq-eqb c.first_step-seen.result 0 zero))

pub returns-clause-path : goal.returns-clause-path
returns-clause-path c = let some : (c.first_step-seen.result == 0) ≡ false = search rules in let lock =
    c.args.self.now in
    tried lock.word lock.drawn.1 lock.settings.admission lock.drawn.3 c.first_step-seen.result c.args.token.now
    c.first_step-seen.new.token c.first_step-seen.ensures.stepped
    c.first_step-seen.ensures.untold false some
