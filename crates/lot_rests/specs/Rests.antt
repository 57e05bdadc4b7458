-- No livelock: threads that begin nothing new come to rest, in whatever order they take their turns.
use Rattle.std.specs.Prelude.{ℕ, Bool, true, false, ◌≡◌, ◌≤◌, ◌+◌, ◌*◌, List, [], ◌∷◌, length}
use Rattle.spec_locks.specs.declared.calls.Turn.{Turn}
use Rattle.spec_locks.specs.declared.calls.Turn.TheVariants as turn
use Rattle.spec_locks.specs.declared.calls.Step.{Step}
use Rattle.spec_locks.specs.declared.outcomes.Outcome.{Outcome}
use Rattle.spec_locks.specs.declared.outcomes.Outcome.TheVariants as outcome
use Rattle.spec_locks.specs.Rest.{IsQuiet}
use Rattle.lot_machine.specs.Machine.{State, after, go_of, is_possible}
use Rattle.lot_laws.specs.Refinement.{locks_of}
use Rattle.lot_laws.specs.SitesOf.{IsWorld}

-- a turn that begins no call, and looks at no word once more in place of an act
abbrev pub IsOnward : Turn → Type 0
IsOnward (turn.Begin call) = ⊥
IsOnward turn.Go = Unit {0}
IsOnward turn.Spin = ⊥
IsOnward turn.Late = Unit {0}
IsOnward turn.Ok = Unit {0}
IsOnward turn.Err = Unit {0}

-- each step is such a turn, and is possible where it comes
abbrev pub GoesOnward : State → List Step → Type 0
GoesOnward w [] = Unit {0}
GoesOnward w (s ∷ ss) = IsOnward s.turn × (is_possible w s ≡ true) × GoesOnward (after w s) ss

-- No run of so many threads over so many locks has more steps.
abbrev pub most_steps : ℕ → ℕ → ℕ
most_steps threads locks = (5 * threads + 1) * (63 * threads + 2 * locks) + 5 * threads

-- no thread goes on
abbrev pub NobodyGoes : State → Type 0
NobodyGoes w = (t : ℕ) → is_possible w (go_of t) ≡ false

-- in whatever order threads go on, the run is short, and where nobody goes on each thread that is in a call
-- sleeps or runs a closure
pub record ComesToRest (w : State) : Type 0 where
  pub few : (ss : List Step) → GoesOnward w ss
      → length ss ≤ most_steps (length w.places) (length w.locks)
  pub quiet : NobodyGoes w → IsQuiet (locks_of w)

abbrev pub WorldsComeToRest : Type 0
WorldsComeToRest = (w : State) → IsWorld w → ComesToRest w

-- ---------------------------------------------------------------- one order of them

-- threads go on one after another, each where it can
abbrev pub AllGo : State → List ℕ → Type 0
AllGo w [] = Unit {0}
AllGo w (t ∷ ts) = (is_possible w (go_of t) ≡ true) × AllGo (after w (go_of t)) ts

abbrev pub after_goes : State → List ℕ → State
after_goes w [] = w
after_goes w (t ∷ ts) = after_goes (after w (go_of t)) ts

-- the outcome of a turn that was possible
abbrev pub is_turn : Outcome → Bool
is_turn outcome.NotNow = false
is_turn o = true

-- some threads go on, and only where nobody can there is none
pub record GoesRound (w : State) (some : Bool) (v : State) : Type 0 where
  pub threads : List ℕ
  pub go : AllGo w threads
  pub leads : v ≡ after_goes w threads
  pub moved : some ≡ true → 1 ≤ length threads
  pub stuck : some ≡ false → NobodyGoes v

-- few turns lead to where nobody goes on
pub record Settles (w v : State) : Type 0 where
  pub threads : List ℕ
  pub go : AllGo w threads
  pub leads : v ≡ after_goes w threads
  pub few : length threads ≤ most_steps (length w.places) (length w.locks)
  pub stuck : NobodyGoes v
