-- A thread that is inside a section is awake, in no closure, and enters no other section.
use Rattle.lot_laws.proofs.Imports
use Imports.{ℕ, Bool, true, false, Some, if◌then◌else◌, ◌≡◌, ◌∙◌, Line, idle, Place, act_of, beside_of, calls}
use Imports.{is_lock, profile, profile_at_mutex, State, place_at, role_on, IsInductive, IsInside}
use Rattle.lot_laws.proofs.machine.Parts.{inside_is}
use Rattle.lot_laws.proofs.machine.PlaceTest.{IsFree, beside_facts, row_facts}

role_goes : (p : Place) (l : ℕ) (m : Line) → (role_on p l).inside ≡ Some m → IsFree (act_of p)
role_goes p l = by_locks (calls p l) (is_lock l (beside_of p))
  where
    by_locks : (b c : Bool) (m : Line) → (if b then (profile p).role else if c then (profile_at_mutex p).role
        else idle).inside ≡ Some m → IsFree (act_of p)
    by_locks true c m h = (row_facts p).goes m h
    by_locks false true m h = (beside_facts p).goes m h
    by_locks false false m h = absurd cc

pub inside_goes : (w : State) → IsInductive w → (t l : ℕ) (m : Line) → IsInside w t l m
    → IsFree (act_of (place_at w t))
inside_goes w inductive t l m h = role_goes (place_at w t) l m (inside_is (place_at w t) l
    ∙ (inductive.stands.sections t l m).1 h)
