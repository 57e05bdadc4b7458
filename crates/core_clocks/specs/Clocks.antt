-- The times that a clock told. `tells` belongs to the clock, and says of a time that the clock told
-- it.
use Rattle.std.specs.Prelude.{ℕ, ◌+◌, ◌≤◌, Option, Some, None}
use denote.Ref.{Bor}

-- a clock with these tellings has reported a time at or past the deadline
abbrev pub HasPassed : (ℕ → Type 0) → ℕ → Type 0
HasPassed tells deadline = (time : ℕ) × tells time × (deadline ≤ time)

-- a clock has reported a time, and one that is so many nanoseconds later or more
abbrev pub HasElapsed : (ℕ → Type 0) → ℕ → Type 0
HasElapsed tells nanos = (start : ℕ) × tells start × HasPassed tells (start + nanos)

-- the deadline of a limit, if there is one, has passed on its clock
abbrev pub TimeIsUp : {C : Type 0} → (C → ℕ → Type 0) → Option (Bor C × ℕ) → Type 0
TimeIsUp tells None = ⊥
TimeIsUp tells (Some limit) = HasPassed (tells limit.0.now) limit.1
