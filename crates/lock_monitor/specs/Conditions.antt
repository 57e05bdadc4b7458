-- One of several condition variables, and the steps of waits on it.
use Rattle.std.specs.Prelude.{◌≡◌, ◌⊎◌, ℕ, List, slice_index_or}
use Rattle.core_base.specs.declared.faults.Fault.{Fault}
use Rattle.core_base.specs.declared.faults.Fault.TheVariants as faults
use Rattle.lock_api.specs.Waits.{WaitsAnyTimes}
use Rattle.spec_locks.specs.declared.outcomes.Answer.{Answer}
use Rattle.spec_locks.specs.declared.outcomes.Answer.TheVariants.{Notified, TimedOut, TwoMutexes}

-- the one at a place is like this
abbrev pub At : {X : Type 0} → List X → ℕ → (X → Type 0) → Type 0
At {X = X} conditions at holds = (condition : X)
    × (condition ≡ slice_index_or conditions at condition) × holds condition

-- a wait ends with this answer. Each one before it was refused because of another mutex
abbrev pub WaitsAtLast : {Token : Type 0} → (Answer → Token → Token → Type 0) → Answer
    → Token → Token → Type 0
WaitsAtLast {Token = Token} waited answer old new = (last : Token)
    × WaitsAnyTimes (waited TwoMutexes) old last × waited answer last new

-- any number of such waits, one after another, also none
abbrev pub WaitsOften : {Token : Type 0} → (Answer → Token → Token → Type 0) → Answer
    → Token → Token → Type 0
WaitsOften waited answer old new = WaitsAnyTimes (WaitsAtLast waited answer) old new

-- any number of such waits that were notified, and after them one more at most, whose time was up
abbrev pub WaitsOftenInTime : {Token : Type 0} → (Answer → Token → Token → Type 0)
    → Token → Token → Type 0
WaitsOftenInTime {Token = Token} waited old new = (last : Token)
    × WaitsOften waited Notified old last
    × ((new ≡ last) ⊎ WaitsAtLast waited TimedOut last new)

-- a thread came in, waited, and went
abbrev pub CameWaitedAndWent : {Token : Type 0} → (Token → Token → Type 0) → (Token → Token → Type 0)
    → (Token → Token → Type 0) → Token → Token → Type 0
CameWaitedAndWent {Token = Token} came waited went old new = (inside : Token) × (awake : Token)
    × came old inside × waited inside awake × went awake new

-- memory was refused, or the last thing that the thread did was to find the lot full
abbrev pub IsRefusedAtLast : {Token : Type 0} → (Token → Token → Type 0) → Token → Fault → Type 0
IsRefusedAtLast {Token = Token} found_full new fault = (fault ≡ faults.NoMemory)
    ⊎ ((fault ≡ faults.LotFull) × ((before : Token) × found_full before new))
