-- Visits of a thread that came in, upgraded and went again.
use Rattle.spec_locks.specs.declared.calls.Access.TheVariants as access
use Rattle.spec_locks.specs.declared.calls.Patience.TheVariants.{Patient}
use Rattle.spec_locks.specs.declared.calls.RwLockCall.{RwLockCall}
use Rattle.spec_locks.specs.declared.calls.RwLockCall.TheVariants.{Enter, Release, Upgrade}
use Rattle.spec_locks.specs.declared.outcomes.Answer.{Answer}
use Rattle.spec_locks.specs.declared.outcomes.Answer.TheVariants as answers

-- a thread came in with the upgradable right, turned that into the exclusive one, and gave this up, which has
-- woken the threads that it lets in
abbrev pub CameUpAndWent : {Token : Type 0} → (RwLockCall → Answer → Token → Token → Type 0)
    → (RwLockCall → Token → Token → Type 0) → Token → Token → Type 0
CameUpAndWent {Token = Token} took_steps woke_waiters old new = (inside : Token) × (alone : Token)
    × took_steps (Enter access.Upgradable Patient) answers.Ok old inside
    × took_steps (Upgrade Patient) answers.Ok inside alone
    × took_steps (Release access.Exclusive) answers.Ok alone new
    × woke_waiters (Release access.Exclusive) alone new
