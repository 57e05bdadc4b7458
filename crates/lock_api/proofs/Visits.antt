-- A visit of a lock by its guard.
use Rattle.std.proofs.Common.{◌≡◌, subst}
use Rattle.spec_locks.specs.declared.outcomes.Answer.{Answer}
use Rattle.spec_locks.specs.declared.outcomes.Answer.TheVariants as answers
use Rattle.lock_api.specs.Visits.{CameAndWent}

-- a thread that came in with a guard of the lock and released that guard came and went
pub came_and_went : {Raw Token Call : Type 0} (took_steps : Raw → Call → Answer → Token → Token → Type 0)
    (released : Raw → Call → Token → Token → Type 0) (taken raw : Raw) (entry : Call) (answer : Answer)
    (release : Call) (old inside new : Token) → taken ≡ raw → took_steps raw entry answer old inside
    → took_steps taken release answers.Ok inside new → released taken release inside new
    → CameAndWent (took_steps raw) (released raw) entry answer release old new
came_and_went took_steps released taken raw entry answer release old inside new of came went woke_waiters = (
  inside,
  came,
  subst (λ lock. took_steps lock release answers.Ok inside new) of went,
  subst (λ lock. released lock release inside new) of woke_waiters,
)

-- a thread of the guard's lot is one of the lock's
pub thread_of : {Raw Lot Token : Type 0} (is_token_of : Lot → Token → Type 0) (lot_of : Raw → Lot)
    (taken raw : Raw) (token : Token) → taken ≡ raw → is_token_of (lot_of taken) token
    → is_token_of (lot_of raw) token
thread_of is_token_of lot_of taken raw token same thread =
    subst (λ lock. is_token_of (lot_of lock) token) same thread
