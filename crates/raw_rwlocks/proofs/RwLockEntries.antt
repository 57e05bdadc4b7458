-- The rest of a call of a reader-writer lock, once it is over, as the clauses of raw locks tell it.
use Rattle.std.proofs.Common.{◌≡◌, Option, Some, Ok, subst}
use Rattle.std.specs.declared.result.Result.{Result}
use Rattle.core_base.specs.declared.faults.Fault.{Fault}
use Rattle.spec_locks.specs.declared.calls.Access.{Access}
use Rattle.spec_locks.specs.declared.calls.Patience.TheVariants.{Patient}
use Rattle.spec_locks.specs.declared.outcomes.Answer.TheVariants.{Ok as ok}
use Rattle.core_words.specs.declared.rights.Held.{Held}
use Rattle.parking_lot_core.specs.declared.tokens.Token.{Token}
use Rattle.run_base.specs.RwLockCalls.{HasWalkedRwLock, StaysSettled, WakesBy}
use Rattle.steps_rwlock.specs.declared.purposes.RwLockPurpose.TheVariants.{Enter, Release}
use Rattle.raw_rwlocks.specs.RwLockHalves.{HasEntered, HasReleased}
use Rattle.raw_rwlocks.specs.RwLockUsers.{admission_in, word_in}
use Rattle.raw_rwlocks.specs.declared.rwlock_rights.LotRwLock.{LotRwLock}

module _ (lock : LotRwLock) (x : Access) (before new : Token) where
  pub came_in : {came : Result (Option Held) Fault} (right : Held) → came ≡ Ok (Some right)
      → HasEntered ⊥ lock x Patient came before new
      → StaysSettled before new
      × HasWalkedRwLock (word_in lock).number (admission_in lock) (Enter x Patient) ok before new
  came_in right is entered =
      let it = subst (λ (r : Result (Option Held) Fault). HasEntered ⊥ lock x Patient r before new) is entered
      in ((it.0.0, λ settled. it.0.1 (settled lock.word.number)), it.2)

  pub went : HasReleased lock x before new
      → StaysSettled before new
      × HasWalkedRwLock (word_in lock).number (admission_in lock) (Release x) ok before new
      × WakesBy (word_in lock).number (admission_in lock) (Release x) before new
  went released =
      ((released.0.0, λ settled. released.0.1 (settled lock.word.number)), released.1, released.2)
