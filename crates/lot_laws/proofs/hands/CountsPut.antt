-- A thread stands elsewhere in its call: a thread that counted the threads that it has in hand has counted
-- them still.
use Rattle.lot_laws.proofs.Imports
use Imports.{ℕ, Some, None, ◌≡◌, ◌<◌, List, inl, inr, length, length-set, get_or-set_other, get_or-set_same}
use Imports.{sym, ◌∙◌, ap, cases_eq, Kind, hand_owner, Place, Idle, respins_from, or_else, State, held, held_by}
use Imports.{opening, place_at, put, idle_at, look, AreCounted}
use Rattle.lot_laws.proofs.hands.Counting.{are_counted, counted_on, counts_there, looks_bare, none_is}
use Rattle.lot_laws.proofs.calls.Beside.{looks_beside}
use Rattle.lot_laws.proofs.hands.Counted.{counted_stays}
use Rattle.lot_laws.proofs.hands.InHand.{wanted_of}

module _ (w : State) (t : ℕ) (q : Place) (there : t < length w.places) (same_hand : held q ≡ held
    (place_at w t)) where
  held_same : (u : ℕ) → held (place_at (put w t q) u) ≡ held (place_at w u)
  held_same u = elim (cases_eq u t) [
    | inl e ↦ ap (λ j. held (place_at (put w t q) j)) e ∙ ap held (get_or-set_same w.places t q Idle there)
        ∙ same_hand ∙ ap (λ j. held (place_at w j)) (sym e)
    | inr ne ↦ ap held (get_or-set_other w.places t u q Idle ne)
  ]

  pub put_counted : ((l : ℕ) → counted_on q l ≡ None) → AreCounted w → AreCounted (put w t q)
  put_counted none counted = are_counted (put w t q) (λ u l k e. elim (cases_eq u t) [
    | inl f ↦ absurd (none_is k (counted_on q l) (none l)
        (ap (λ p. counted_on p l) (sym (ap (λ j. place_at (put w t q) j) f
        ∙ get_or-set_same w.places t q Idle there)) ∙ e))
    | inr ne ↦ counted_stays w (put w t q) u (length-set w.places t q) (λ j. ap (wanted_of u) (held_same j)) k
        (counts_there w u l k counted (ap (λ p. counted_on p l)
        (sym (get_or-set_other w.places t u q Idle ne)) ∙ e))
  ])

-- a thread that looks at the word once more has counted nobody
pub looking_counted : (w : State) (t : ℕ) → t < length w.places → (q : Place) → respins_from (place_at w t)
    ≡ Some q → AreCounted w
    → AreCounted (put w t q)
looking_counted w t there q is = put_counted w t q there (let b = looks_beside (place_at w t) q is in let r =
    (look (place_at w t) q is).row in λ i. held_by (hand_owner (or_else (b.1 i).hand (r i).hand))
    (or_else (b.1 i).wants (r i).wants)) (looks_bare (place_at w t) q is).bare

-- nobody is in a call yet
pub opening_counted : (kinds : List Kind) (threads : ℕ) → AreCounted (opening kinds threads)
opening_counted kinds threads = are_counted (opening kinds threads)
    (λ t l k e. absurd (none_is k (counted_on (place_at (opening kinds threads) t) l)
    (ap (λ p. counted_on p l) (idle_at threads t)) e))
