-- A visit of a lock by its guards, each of the lock.
use Rattle.std.proofs.Common.{◌≡◌, subst}
use Rattle.lock_api.specs.Visits.{CameAndWent}
use Rattle.lock_api_rw.specs.Visits.{CameUpAndWent}
use Rattle.spec_locks.specs.declared.calls.Access.TheVariants as access
use Rattle.spec_locks.specs.declared.calls.Patience.TheVariants.{Patient}
use Rattle.spec_locks.specs.declared.calls.RwLockCall.{RwLockCall}
use Rattle.spec_locks.specs.declared.calls.RwLockCall.TheVariants.{Enter, Release, Upgrade}
use Rattle.spec_locks.specs.declared.outcomes.Answer.{Answer}
use Rattle.spec_locks.specs.declared.outcomes.Answer.TheVariants as answers

module _ {Raw Token : Type 0} (took_steps : Raw → RwLockCall → Answer → Token → Token → Type 0)
    (woke_waiters : Raw → RwLockCall → Token → Token → Type 0) where
  -- the thread came in with a guard, and released that
  pub came_and_went : (held lock : Raw) (entry : RwLockCall) (answer : Answer) (release : RwLockCall)
      (old inside new : Token) → held ≡ lock → took_steps lock entry answer old inside
      → took_steps held release answers.Ok inside new → woke_waiters held release inside new
      → CameAndWent (took_steps lock) (woke_waiters lock) entry answer release old new
  came_and_went held lock entry answer release old inside new of came went woken = (
    inside,
    came,
    subst (λ l. took_steps l release answers.Ok inside new) of went,
    subst (λ l. woke_waiters l release inside new) of woken,
  )

  -- the thread came in with a guard, upgraded that, and released the other
  pub came_up_and_went : (held alone lock : Raw) (old inside owned new : Token) → held ≡ lock → alone ≡ held
      → took_steps lock (Enter access.Upgradable Patient) answers.Ok old inside
      → took_steps held (Upgrade Patient) answers.Ok inside owned
      → took_steps alone (Release access.Exclusive) answers.Ok owned new
      → woke_waiters alone (Release access.Exclusive) owned new
      → CameUpAndWent (took_steps lock) (woke_waiters lock) old new
  came_up_and_went held alone lock old inside owned new of same came up went woken = (
    inside,
    owned,
    came,
    subst (λ l. took_steps l (Upgrade Patient) answers.Ok inside owned) of up,
    subst (λ l. took_steps l (Release access.Exclusive) answers.Ok owned new) of
        (subst (λ l. took_steps l (Release access.Exclusive) answers.Ok owned new) same went),
    subst (λ l. woke_waiters l (Release access.Exclusive) owned new) of
        (subst (λ l. woke_waiters l (Release access.Exclusive) owned new) same woken),
  )

-- a thread of the second guard's lot is one of the lock's
pub thread_of : {Raw Lot Token : Type 0} (is_token_of : Lot → Token → Type 0) (lot_of : Raw → Lot)
    (held alone lock : Raw) (token : Token) → held ≡ lock → alone ≡ held
    → is_token_of (lot_of alone) token → is_token_of (lot_of lock) token
thread_of is_token_of lot_of held alone lock token of same thread =
    subst (λ l. is_token_of (lot_of l) token) of (subst (λ l. is_token_of (lot_of l) token) same thread)
