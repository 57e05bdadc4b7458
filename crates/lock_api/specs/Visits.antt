-- The steps and wakes of a thread that came in and went again.
use Rattle.spec_locks.specs.declared.outcomes.Answer.{Answer}
use Rattle.spec_locks.specs.declared.outcomes.Answer.TheVariants as answers

-- a thread came in by one call, with this answer, and went by another, which has woken the threads that it
-- lets in: of the steps of calls and of what releases have woken, as the lock tells both
abbrev pub CameAndWent : {Token Call : Type 0} → (Call → Answer → Token → Token → Type 0)
    → (Call → Token → Token → Type 0) → Call → Answer → Call → Token → Token → Type 0
CameAndWent {Token = Token} took_steps woke_waiters entry answer release old new = (inside : Token)
    × took_steps entry answer old inside
    × took_steps release answers.Ok inside new
    × woke_waiters release inside new
