-- A thread that calls one lock is in no hand of its own: a thread that is in a hand has nobody in hand.
use Rattle.lot_laws.proofs.Imports
use Imports.{ℕ, Bool, true, false, Some, None, if◌then◌else◌, ◌≡◌, ◌⊎◌, inl, inr, refl, ◌∙◌, ap, Place, Idle}
use Imports.{Mutex, RwLock, Once, Condvar, Semaphore, calls, profile, is_taken_by, State, place_at, taken_at}
use Imports.{nowhere, location, IsInductive, carried_at}
use Rattle.lot_laws.specs.Locations.{Location}
use Rattle.lot_laws.proofs.machine.AtPlaces.{unless_held}
use Rattle.lot_laws.proofs.machine.PlaceTest.{call_facts, mutex_row_facts, once_facts, semaphore_facts}
use Rattle.lot_laws.proofs.machine.Parts.{IsSingle, free_of, single_location}

bare : (p : Place) → IsSingle p → ((profile p).hand ≡ None) ⊎ ((profile p).has_taken ≡ None)
bare Idle single = inl refl
bare (Mutex l at) single = (mutex_row_facts l at).bare
bare (RwLock l a c) single = (call_facts l a c).bare
bare (Once l at) single = (once_facts l at).bare
bare (Semaphore l at) single = (semaphore_facts l at).bare
bare (Condvar l at) single = absurd single

module _ (w : State) (inductive : IsInductive w) (t l : ℕ) (single : IsSingle (place_at w t)) where
  nobody : (profile (place_at w t)).has_taken ≡ None → carried_at (place_at w t) l ≡ None
  nobody none = ap (λ (x : Location). x.has_taken) (single_location (place_at w t) l single)
      ∙ either (calls (place_at w t) l)
    where
      either : (b : Bool) → (if b then location (place_at w t) else nowhere).has_taken ≡ None
      either true = none
      either false = refl

  pub own_hand : is_taken_by t (taken_at (place_at w t) l) ≡ false
  own_hand = elim (bare (place_at w t) single) [
    | inl free ↦ ap (is_taken_by t) (free_of (place_at w t) l single free)
    | inr none ↦ unless_held w inductive t l t (λ h. let some : carried_at (place_at w t) l ≡ Some false =
        inductive.stands.hands.taken t t l false h in let empty : carried_at (place_at w t) l ≡ None =
        nobody none in cc)
  ]
