-- Waits one after another, by the steps of each.
use Rattle.std.specs.Prelude.{◌≡◌, ◌⊎◌, ◌≤◌, ◌+◌, ◌^◌, ℕ, zero, suc, Result, Ok, Err}
use Rattle.spec_locks.specs.declared.outcomes.Answer.{Answer}
use Rattle.spec_locks.specs.declared.outcomes.Answer.TheVariants as answers

-- between these states of a thread it waited so many times
abbrev pub WaitsTimes : {Token : Type 0} → (Token → Token → Type 0) → ℕ → Token → Token → Type 0
WaitsTimes waited zero old new = new ≡ old
WaitsTimes {Token = Token} waited (suc times) old new = (last : Token)
    × WaitsTimes waited times old last × waited last new

-- A wait that is made any number of times, also none.
abbrev pub WaitsAnyTimes : {Token : Type 0} → (Token → Token → Type 0) → Token → Token → Type 0
WaitsAnyTimes waited old new = (times : ℕ) × WaitsTimes waited times old new

-- a call waits for as long as its condition holds, and each wait ends as notified, but for the last
-- one where that is refused
abbrev pub WaitsWhile : {Token A E : Type 0} → (Answer → Token → Token → Type 0) → Result A E
    → Token → Token → Type 0
WaitsWhile waited (Ok guard) old new = WaitsAnyTimes (waited answers.Ok) old new
WaitsWhile {Token = Token} waited (Err refused) old new = (last : Token)
    × WaitsAnyTimes (waited answers.Ok) old last × waited answers.TwoMutexes last new

-- the last wait of one with a limit may end as timed out too
abbrev pub WaitsInTime : {Token A E : Type 0} → (Answer → Token → Token → Type 0) → Result A E
    → Token → Token → Type 0
WaitsInTime {Token = Token} waited (Ok ended) old new = (last : Token)
    × WaitsAnyTimes (waited answers.Notified) old last
    × ((new ≡ last) ⊎ waited answers.TimedOut last new)
WaitsInTime {Token = Token} waited (Err refused) old new = (last : Token)
    × WaitsAnyTimes (waited answers.Notified) old last × waited answers.TwoMutexes last new

-- a clock told a time from which this many nanoseconds end past all that a u64 tells
abbrev pub NeverEnds : (ℕ → Type 0) → ℕ → Type 0
NeverEnds tells nanos = (now : ℕ) × tells now × (2 ^ 64 ≤ now + nanos)
