-- A take tells how many want to share, and what the one wants that wants more. Whether it has picked anybody
-- is whether anybody is in the hand of its thread.
use Rattle.lot_laws.proofs.Imports
use Imports.{ℕ, zero, suc, Bool, true, false, Option, Some, None, if◌then◌else◌, ◌==◌, ◌&&◌, ◌||◌, not, cond}
use Imports.{◌≡◌, ◌⊎◌, List, [], ◌∷◌, length, get_or, inl, inr, refl, sym, ◌∙◌, ap, arith, or-true, Want}
use Imports.{any_picked, is_thread, Place, Idle, taker, wants, wants_shared, Successor, held, held_by}
use Imports.{shares_in_hand, sharers_in_hand, wants_more_in_hand, successor_or, successor_from}
use Imports.{want_of_successor}
use Rattle.steps_base.specs.Acts.{is_there}
use Rattle.lot_laws.proofs.machine.Parts.{differ}

abbrev pub any_in : ℕ → ℕ → List Place → Bool
any_in t k ps = any_picked (sharers_in_hand t ps) (want_of_successor (successor_from t k ps))

-- the first, or another
joined : (shares : Bool) (more : Option Want) (u : ℕ) (p : Place) (qs : List Place) (later : Option Successor)
    → any_picked (length (cond shares (p ∷ qs) qs)) (want_of_successor (successor_or u more later))
    ≡ (shares || (is_there more || any_picked (length qs) (want_of_successor later)))
joined true more u p qs later = ap (λ b. not b || is_there (want_of_successor (successor_or u more later)))
    (differ (length (p ∷ qs)) 0 (λ e. omega arith))
joined false None u p qs later = refl
joined false (Some x) u p qs later = or-true (not (length qs == 0))

module _ (t : ℕ) where
  -- the thread by which it was taken, and what it wants
  abbrev is_of : Option ℕ → Option Want → Bool → Bool
  is_of o y rest = shares_in_hand t (held_by o y) || (is_there (wants_more_in_hand t (held_by o y)) || rest)

  is_in : (o : Option ℕ) (y : Option Want) (rest : Bool) → is_of o y rest ≡ true → (is_thread t o ≡ true)
      ⊎ (rest ≡ true)
  is_in None y rest h = inr h
  is_in (Some b) None rest h = inr h
  is_in (Some b) (Some z) rest h = by_thread (b == t) h
    where
      by_thread : (c : Bool)
          → ((c && wants_shared z) || (is_there (if c && not (wants_shared z) then Some z else None) || rest))
          ≡ true
          → (c ≡ true) ⊎ (rest ≡ true)
      by_thread true g = inl refl
      by_thread false g = inr g

  in_is : (o : Option ℕ) (z : Want) (rest : Bool) → is_thread t o ≡ true → is_of o (Some z) rest ≡ true
  in_is None z rest h = absurd cc
  in_is (Some b) z rest h = ap (λ c. (c && wants_shared z) ||
      (is_there (if c && not (wants_shared z) then Some z else None) || rest)) h ∙ by_want (wants_shared z)
    where
      by_want : (s : Bool) → (s || (is_there (if not s then Some z else None) || rest)) ≡ true
      by_want true = refl
      by_want false = refl

  of_rest : (o : Option ℕ) (y : Option Want) → is_of o y true ≡ true
  of_rest o y = by_both (shares_in_hand t (held_by o y)) (is_there (wants_more_in_hand t (held_by o y)))
    where
      by_both : (a b : Bool) → (a || (b || true)) ≡ true
      by_both true b = refl
      by_both false b = or-true b

  first_or : (k : ℕ) (p : Place) (ps : List Place) → any_in t k (p ∷ ps) ≡ is_of (taker p) (wants p)
      (any_in t (suc k) ps)
  first_or k p ps = joined (shares_in_hand t (held p)) (wants_more_in_hand t (held p)) k p _
      (successor_from t (suc k) ps)

  -- each thread that was picked is in hand
  pub any_held : (k : ℕ) (ps : List Place) → any_in t k ps ≡ true → (u : ℕ)
      × (is_thread t (taker (get_or ps u Idle)) ≡ true)
  any_held k [] h = absurd cc
  any_held k (p ∷ ps) h = elim (is_in (taker p) (wants p) (any_in t (suc k) ps) (sym (first_or k p ps) ∙ h)) [
    | inl e ↦ (0, e)
    | inr e ↦ let later = any_held (suc k) ps e in (suc later.0, later.1)
  ]

  -- Each thread in the hand was picked.
  pub held_any : (k : ℕ) (ps : List Place) (u : ℕ) (z : Want) → is_thread t (taker (get_or ps u Idle)) ≡ true
      → wants (get_or ps u Idle) ≡ Some z → any_in t k ps ≡ true
  held_any k [] u z h e = absurd cc
  held_any k (p ∷ ps) zero z h e = first_or k p ps ∙ ap (λ y. is_of (taker p) y (any_in t (suc k) ps)) e
      ∙ in_is (taker p) z (any_in t (suc k) ps) h
  held_any k (p ∷ ps) (suc u) z h e = first_or k p ps ∙ ap (is_of (taker p) (wants p))
      (held_any (suc k) ps u z h e) ∙ of_rest (taker p) (wants p)
