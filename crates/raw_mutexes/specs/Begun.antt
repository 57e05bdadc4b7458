-- Calls that the fast half leaves to the slow half: their first step is taken, or none is.
use Rattle.std.specs.Prelude.{◌≡◌, ◌≢◌, ℕ, List, ◌∷◌, ◌++◌, None}
use Rattle.spec_locks.specs.declared.calls.MutexCall.{MutexCall}
use Rattle.spec_locks.specs.declared.calls.MutexCall.TheVariants.{Unlock, UnlockFair, Bump}
use Rattle.run_base.specs.Calls.{IsUnfinished, first_op}
use Rattle.run_base.specs.MutexFitting.{mutex_ownership}
use Rattle.run_base.specs.Paths.{mutex_at, step}
use Rattle.run_base.specs.Telling.{owns_of, steps_of}
use Rattle.core_words.specs.declared.owners.Ownership.{Ownership}
use Rattle.run_base.specs.MutexCourses.{locked_and_parked}
use Rattle.parking_lot_core.specs.Tokens.{last_of, told_of}
use Rattle.parking_lot_core.specs.declared.tokens.Token.{Token}

-- the ownership between, of a thread that owned these beside the guard that it spends: one that is to hand
-- the mutex over has it still
abbrev pub owns_between : ℕ → MutexCall → List Ownership → List Ownership
owns_between n UnlockFair owns = mutex_ownership n ∷ owns
owns_between n Bump owns = mutex_ownership n ∷ owns
owns_between n _ owns = owns

-- the call has more to do after the value that its first step saw; an owner that has more to do
-- saw a waiter
abbrev pub HasMore : ℕ → MutexCall → ℕ → List Ownership → Type 0
HasMore n Unlock seen owns = seen ≡ locked_and_parked
HasMore n c seen owns = IsUnfinished n c seen owns

-- the thread took the first step of this call, which saw this, and the call has more to do
abbrev pub HasStepped : ℕ → MutexCall → ℕ → Token → Token → Type 0
HasStepped n c seen old new =
    (new.number ≡ old.number) × (steps_of new ≡ steps_of old ++ step (mutex_at n) (first_op c) seen)
    × (owns_of new ≡ owns_between n c (owns_of old)) × HasMore n c seen (owns_of new)
    × (told_of new ≡ told_of old)

-- the ownership of a thread that has spent the guard, if any, before the first step
abbrev pub owns_before : ℕ → MutexCall → List Ownership → List Ownership
owns_before n Unlock owns = mutex_ownership n ∷ owns
owns_before n UnlockFair owns = mutex_ownership n ∷ owns
owns_before n Bump owns = mutex_ownership n ∷ owns
owns_before n _ owns = owns

-- the thread took no step of this call: it is directed, and waits for its turn
abbrev pub WaitsToBegin : ℕ → MutexCall → Token → Token → Type 0
WaitsToBegin n c old new = (new.number ≡ old.number) × (steps_of new ≡ steps_of old)
    × (owns_of new ≡ owns_before n c (owns_of old)) × (last_of new ≡ None) × (told_of new ≡ told_of old)

-- in place of what a first step saw, which is never 0: no step is taken
abbrev pub not_begun : ℕ
not_begun = 0

-- the fast half left this call to the slow half
abbrev pub HasBegun : ℕ → MutexCall → ℕ → Token → Token → Type 0
HasBegun n c seen old new = (seen ≢ not_begun → HasStepped n c seen old new)
    × (seen ≡ not_begun → WaitsToBegin n c old new)
