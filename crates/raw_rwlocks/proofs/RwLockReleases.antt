-- A release by halves: from where its right is joined to its end.
use Rattle.std.proofs.Common.{◌≡◌, List, refl, ap, ◌∙◌, subst}
use Rattle.spec_locks.specs.declared.calls.Access.{Access}
use Rattle.spec_locks.specs.declared.outcomes.Answer.{Answer}
use Rattle.spec_locks.specs.declared.outcomes.Answer.TheVariants.{Ok as ok}
use Rattle.run_base.specs.Paths.{at_rwlock, rwlock_at}
use Rattle.run_base.specs.RwLockCalls.{BeginsWith, HasWalkedRwLock, Wakes, rwlock_begin}
use Rattle.run_base.proofs.Courses.{courses_between}
use Rattle.steps_rwlock.specs.RwLockSteps.{wanted}
use Rattle.steps_rwlock.specs.declared.purposes.RwLockPurpose.TheVariants.{Release}
use Rattle.core_words.specs.Plays.{piece, takes_in}
use Rattle.core_words.specs.Rights.{owner_for}
use Rattle.core_words.specs.Views.{owning}
use Rattle.core_words.specs.declared.views.View.{View}
use Rattle.core_words.specs.declared.views.WordStep.{WordStep}
use Rattle.parking_lot_core.specs.Tokens.{view_of, last_of, told_of}
use Rattle.parking_lot_core.specs.declared.tokens.Token.{Token}
use Rattle.raw_rwlocks.specs.RwLockHalves.{HasReleased}
use Rattle.raw_rwlocks.specs.declared.rwlock_rights.LotRwLock.{LotRwLock}
use Rattle.run_locks.specs.Halves.{HasEndedRwLock}

module _ (lock : LotRwLock) (x : Access) (old joined : Token) (same : joined.number ≡ old.number)
    (view : view_of joined ≡ takes_in (view_of old)
    (piece (owning (rwlock_at lock.word.number) (owner_for (wanted x))))) where
  pub begins_releasing : BeginsWith lock.word.number (Release x) (view_of old).owns (view_of joined).owns
  begins_releasing = (
    owner_for (wanted x),
    (view_of old).owns,
    refl,
    (λ settled. refl),
    ap (λ (v : View). v.owns) view,
  )

  pub released : told_of joined ≡ told_of old → (new : Token) (answer : Answer)
      → HasEndedRwLock ⊥ lock.word lock.settings.admission (Release x) answer joined new
      → HasReleased lock x old new
  released untold new answer ended = let over = ended.2 (view_of old).owns begins_releasing in (
    (ended.0 ∙ same, over.1),
    courses_between (at_rwlock lock.word.number)
        (rwlock_begin lock.word.number lock.settings.admission (Release x)) ok old joined new new same
        (ap (λ (v : View). v.steps) view) untold refl refl
        (subst (λ (a : Answer). HasWalkedRwLock lock.word.number lock.settings.admission (Release x) a
        joined new) over.0 ended.1),
    subst (λ (steps : List WordStep). Wakes lock.word.number lock.settings.admission (Release x) steps
        (view_of new).steps (last_of new)) (ap (λ (v : View). v.steps) view) ended.3,
  )
