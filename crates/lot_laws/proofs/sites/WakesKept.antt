-- A thread in a call of one lock leaves its section and lets go each thread that it has in hand, one or many,
-- each in a call of that lock.
use Rattle.lot_laws.proofs.Imports
use Imports.{ℕ, Bool, true, false, Some, None, if◌then◌else◌, ◌≡◌, ◌≢◌, ◌<◌, List, length, sym, ◌∙◌, ap, One}
use Imports.{Note, Place, Woken, next_place, Rules, keep_from, Deed, Line, State, place_at, put}
use Imports.{state_with_sections, state_after_telling, taken_at, acts, location, location_at, nowhere, role_on}
use Imports.{ActsNeeded, IsInductive, Goes, FitsItsLock, after_acts, rules_in, key_of, hand_at}
use Rattle.lot_laws.specs.Locations.{Location, hand}
use Rattle.lot_laws.proofs.machine.Parts.{Parts, seen_in, IsOf, LetGo, next_of, location_here}
use Rattle.lot_laws.proofs.hands.Handed.{of_carries}
use Rattle.lot_laws.proofs.mutex.Waiters.{holds_here}
use Rattle.lot_laws.proofs.sites.ActsKept.{lock_by}
use Rattle.lot_laws.proofs.sites.StandsKept.{AlikeBeside, own_alike}
pub use Rattle.steps_base.specs.Moves.{AreLeaving}
use Rattle.lot_laws.proofs.sites.ToldAt.{HoldsHere, same_hands}
use Rattle.lot_laws.proofs.sites.WakesAt.{IsWokenAt}
use Rattle.lot_laws.proofs.sites.WakesAt as at

-- leaving a section, whatever threads are woken by it
module _ (r : Rules) (l : ℕ) (a : Parts) (p q : ℕ → Place) (t : ℕ) (none : taken_at (p t) l ≡ None)
    (none2 : taken_at (q t) l ≡ None) (others : (u : ℕ) → u ≢ t → LetGo t l (p u) (q u)) where
  pub leaving_by : (ds : List Deed) → AreLeaving ds → role_on (q t) l
      ≡ (after_acts r (acts t ds) (seen_in r l a p)).role t
      → seen_in r l a q ≡ after_acts r (acts t ds) (seen_in r l a p)
  leaving_by = at.leaving_by r l a p q t (none2 ∙ sym (ap (keep_from t) none)) others

-- a thread that calls the lock, and was in a hand, is in nobody's
pub woken_of : (w : State) (t l : ℕ) (x : Note) (p : Place) (handed : Bool) → IsOf l p
    → LetGo t l p (next_place p (Woken x)) → location p ≡ record nowhere { hand = hand t handed }
    → location (next_place p (Woken x)) ≡ nowhere → FitsItsLock w (next_place p (Woken x))
    → IsWokenAt w t l x p
woken_of w t l x p handed of lets was free fits = record {
  lets = lets;
  goes = location_here l (next_place p (Woken x)) (next_of l p (Woken x) of) ∙ free
      ∙ sym (ap (λ (y : Location). record y { hand = None }) (location_here l p of ∙ was));
  alike = own_alike l p (next_place p (Woken x)) of (next_of l p (Woken x) of);
  fits = fits;
}

module _ (w : State) (t l : ℕ) (inductive : IsInductive w) (own : IsOf l (place_at w t)) (there : t
    < length w.places) (p2 : Place)
    (of : IsOf l p2) (fits : FitsItsLock w p2) (x : Note)
    (woken : (u : ℕ) (b : Bool) → hand_at (place_at w u) l ≡ hand t b → IsWokenAt w t l x (place_at w u))
    (free : (location (place_at w t)).hand ≡ None) where
  abbrev holds : HoldsHere w t l
  holds = holds_here w t l inductive (of_carries l (place_at w t) own)

  was_here : location_at (place_at w t) l ≡ location (place_at w t)
  was_here = location_here l (place_at w t) own

  is_here : location_at p2 l ≡ location p2
  is_here = location_here l p2 of

  pub wake_goes : (location p2).has_taken ≡ None → (location p2).hand ≡ None → (m : Line)
      → (line : key_of l m < length w.sections)
      → (location (place_at w t)).inside ≡ Some m → (location p2).stands ≡ (location (place_at w t)).stands
      → (location p2).waits ≡ (location (place_at w t)).waits → (location p2).inside ≡ None
      → (r : Rules) → rules_in w l ≡ r → taken_at (place_at w t) l ≡ None → taken_at p2 l ≡ None
      → (ds : List Deed)
      → AreLeaving ds → ActsNeeded r (acts t ds) (lock_by w l r)
      → role_on p2 l ≡ (after_acts r (acts t ds) (lock_by w l r)).role t
      → Goes w (put (state_after_telling (state_with_sections w (One (key_of l m)) None) t (Woken x)) t p2) l
      (acts t ds)
  wake_goes bare unheld m line within stood waited out r rules none none2 =
      at.wake_goes w t l inductive there p2 (same_hands l (place_at w t) p2 beside) fits holds x woken
      (ap (λ (y : Location). y.has_taken) is_here ∙ bare)
      (unheld_then (at.is_told w t l inductive there p2 (same_hands l (place_at w t) p2 beside) fits holds x
      woken t))
      beside m line (ap (λ (y : Location). y.inside) was_here ∙ within) (ap (λ (y : Location). y.stands)
      is_here ∙ stood ∙ sym (ap (λ (y : Location). y.stands) was_here))
      (ap (λ (y : Location). y.waits) is_here ∙ waited ∙ sym (ap (λ (y : Location). y.waits) was_here))
      (ap (λ (y : Location). y.inside) is_here ∙ out) r rules (none2 ∙ sym (ap (keep_from t) none))
    where
      beside : AlikeBeside l (place_at w t) p2
      beside = own_alike l (place_at w t) p2 own of

      unheld_then : (b : Bool) → (location_at p2 l).hand
          ≡ (if b then None else (location_at (place_at w t) l).hand)
      unheld_then true = ap (λ (y : Location). y.hand) is_here ∙ unheld
      unheld_then false = ap (λ (y : Location). y.hand) is_here ∙ unheld ∙ sym free
          ∙ sym (ap (λ (y : Location). y.hand) was_here)
