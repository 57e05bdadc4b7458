-- Where each step of a `Once` takes its thread in the machine, and what befalls it asleep.
use Rattle.std.specs.Prelude.{ℕ, Bool, Some, None, ◌≡◌, true, false, [], ◌∷◌}
use Rattle.core_base.specs.declared.wants.Want.{Want}
use Rattle.core_base.specs.Keys.{key_of}
use Rattle.steps_base.specs.declared.acts.Act.{Act}
use Rattle.steps_base.specs.declared.acts.Act.TheVariants as act
use Rattle.steps_base.specs.declared.acts.Check.{Check}
use Rattle.steps_base.specs.declared.acts.Reply.TheVariants.{Parked, Took, Late, Closed}
use Rattle.steps_base.specs.declared.acts.TakeWhich.TheVariants.{All}
use Rattle.steps_base.specs.Acts.{holds}
use Rattle.steps_base.specs.Moves.{StepView, Hears, GoesIn, MovesByAct, RowWaits, row_of, location_of}
use Rattle.steps_base.specs.Moves.{location_then, inside_of}
use Rattle.steps_base.specs.Profiles.{in_hand}
use Rattle.steps_base.specs.Locations.{nowhere}
use Rattle.spec_locks.specs.Onces.{Rest, TakeAll}
use Rattle.spec_locks.specs.Locks.{Rules, OfOnce, HasTakenNobody, standing}
use Rattle.spec_locks.specs.Sites.{Site, Line, Main, Case}
use Rattle.spec_locks.specs.Codes.{code}
use Rattle.steps_once.specs.declared.places.OncePlace.{OncePlace}
use Rattle.steps_once.specs.OnceSteps.{once_act, once_next}
use Rattle.steps_once.specs.OnceProfiles.{once_late_line, once_profile}
use Rattle.steps_once.specs.OnceDeeds.{MayReply, once_deeds}
use Rattle.steps_once.specs.OnceCalls.{next_row}

-- a thread at a place; each thread that it takes is no part of the place
abbrev pub once_move : OncePlace → StepView
once_move p = record {
  row = once_profile p;
  next = λ told. row_of (next_row (once_next p told));
  deeds = λ whom told. once_deeds p told;
}

-- the news that it may be told
abbrev pub once_hears : OncePlace → Hears
once_hears p r s t whom told = MayReply r s t p told

-- where it still has to wait it stands after the last
pub record RestsAfter (x : StepView) (hears : Hears) (check : Check) (want : Want) : Type 0 where
  pub forced : Bool
  pub was : location_of x ≡ inside_of Main
  pub rests : x.deeds None (Parked true) ≡ Case (OfOnce (Rest want forced)) ∷ []
  pub rested : location_then x (Parked true)
      ≡ record (inside_of Main) { stands = Some Main; waits = Some want }
  pub turns : x.deeds None (Parked false) ≡ []
  pub turned : location_then x (Parked false) ≡ inside_of Main
  pub may : (r : Rules) (s : Site) (t : ℕ) (b : Bool) → b ≡ holds check (code r s)
      → standing t s.lock ≡ 0 → hears r s t None (Parked b)

-- the thread takes all that wait
pub record TakesAll (x : StepView) (hears : Hears) : Type 0 where
  pub was : location_of x ≡ inside_of Main
  pub deeds : (any none_left : Bool)
      → x.deeds None (Took any none_left) ≡ Case (OfOnce TakeAll) ∷ []
  pub goes : (any none_left : Bool)
      → location_then x (Took any none_left)
      ≡ record (inside_of Main) { has_taken = in_hand any false }
  pub may : (r : Rules) (s : Site) (t : ℕ) (any none_left : Bool) → HasTakenNobody s.lock t
      → hears r s t None (Took any none_left)

-- the closure of a thread answers, and the thread stands nowhere before and after
pub record ClosureAnswers (x : StepView) : Type 0 where
  pub was : location_of x ≡ nowhere
  pub deeds : (succeeded : Bool) → x.deeds None (Closed succeeded) ≡ []
  pub goes : (succeeded : Bool) → location_then x (Closed succeeded) ≡ nowhere
  pub role : (succeeded : Bool) → (x.next (Closed succeeded)).role ≡ x.row.role

-- by its act, as in any call; or it stands after the last, takes all, or runs its closure
abbrev pub OnceMoves : ℕ → StepView → Hears → Act → Type 0
OnceMoves l x hears (act.Park k key check want) =
    (k ≡ l) × (key ≡ key_of l Main) × RestsAfter x hears check want
OnceMoves l x hears (act.Take key All) = (key ≡ key_of l Main) × TakesAll x hears
OnceMoves l x hears (act.Closure state) = ClosureAnswers x
OnceMoves l x hears act = MovesByAct l false x hears act

-- each place moves as its act says
abbrev pub OnceActsMove : Type 0
OnceActsMove = (l : ℕ) (p : OncePlace) → OnceMoves l (once_move p) (once_hears p) (once_act l p)

-- a thread in the queue sleeps there or is inside its section, and one in a hand is so to be woken
abbrev pub OnceSleepersMove : Type 0
OnceSleepersMove = (p : OncePlace) → RowWaits (once_move p)

-- a thread that gives up goes into the section of the line in which it sleeps
abbrev pub OnceLateMove : Type 0
OnceLateMove =
    (p : OncePlace) (m : Line) → once_late_line p ≡ Some m
    → GoesIn (once_move p) (once_hears p) m Late
