-- A thread that has taken others is inside the section from whose line it took them. One that is yet to set a
-- parked bit beside waiters is inside too, or has ended its run of a `Once` and owes them their wake.
use Rattle.lot_laws.proofs.Imports
use Imports.{ℕ, Bool, true, false, Some, None, if◌then◌else◌, ◌≡◌, inl, inr, sym, ◌∙◌, ap, subst, Taken, Role}
use Imports.{Line, Main, idle, CondvarPlace, Place, Condvar, beside_of, calls, is_lock, line_owed, or_else}
use Imports.{profile, profile_at_mutex, State, place_at, lock_state, role_on, IsInductive, IsInside}
use Imports.{IsAboutToMark, IsToMark}
use Rattle.lot_laws.proofs.machine.Parts.{inside_is, single_role, single_or_two, single_owes}
use Rattle.lot_laws.proofs.machine.PlaceTest.{beside_facts, row_facts}

-- ---------------------------------------------------------------- threads that are taken

-- a thread that has others in hand is inside a section
abbrev CarriesInside : Role → Type 0
CarriesInside d = d.has_taken ≡ true → (m : Line) × (d.inside ≡ Some m)

role_inside : (p : Place) (l : ℕ) → CarriesInside (role_on p l)
role_inside p l = by_locks (calls p l) (is_lock l (beside_of p))
  where
    by_locks : (b c : Bool) → CarriesInside (if b then (profile p).role else if c then (profile_at_mutex p).role
        else idle)
    by_locks true c h = (row_facts p).has_taken h
    by_locks false true h = (beside_facts p).has_taken h
    by_locks false false h = absurd cc

module _ (w : State) (inductive : IsInductive w) where
  -- by what its thread does it is inside a section of the machine
  holds_section : (t l : ℕ) (m : Line) → (role_on (place_at w t) l).inside ≡ Some m → IsInside w t l m
  holds_section t l m h = (inductive.stands.sections t l m).0 (sym (inside_is (place_at w t) l) ∙ h)

  pub hands_inside : (u l : ℕ) (h : Taken) → (lock_state w l).taken u ≡ Some h → (m : Line)
      × IsInside w h.by l m
  hands_inside u l h e =
      let there = role_inside (place_at w h.by) l ((inductive.sites.site l).carried u h e) in
      (there.0, holds_section h.by l there.0 there.1)

-- ---------------------------------------------------------------- threads that are yet to set a bit

-- a row whose thread is to take waiters beside a clear bit owes them their wake
owes_soon : (p : Place) (l : ℕ) → (role_on p l).bit_pending ≡ true → (role_on p l).wakes ≡ Some Main
    → line_owed p l ≡ Some Main
owes_soon p l = elim (single_or_two p) [
  | inl single ↦ λ bit_pending wakes. single_owes p l single
      ∙ own (calls p l) (ap (λ (d : Role). d.bit_pending) (sym (single_role p l single)) ∙ bit_pending)
      (ap (λ (d : Role). d.wakes) (sym (single_role p l single)) ∙ wakes)
  | inr two ↦ subst (λ q. (role_on q l).bit_pending ≡ true → (role_on q l).wakes ≡ Some Main → line_owed q l
      ≡ Some Main) (sym two.is) (beside two.lock two.at (calls (Condvar two.lock two.at) l)
      (is_lock l (beside_of (Condvar two.lock two.at))))
]
  where
    own : (b : Bool) → (if b then (profile p).role else idle).bit_pending ≡ true
        → (if b then (profile p).role else idle).wakes ≡ Some Main
        → (if b then (profile p).owes else None) ≡ Some Main
    own true bit_pending wakes = (row_facts p).owed bit_pending wakes
    own false bit_pending wakes = absurd cc

    beside : (k : ℕ) (at : CondvarPlace) (b c : Bool) → (if b then (profile (Condvar k at)).role else if c
        then (profile_at_mutex (Condvar k at)).role else idle).bit_pending ≡ true
        → (if b then (profile (Condvar k at)).role else if c then (profile_at_mutex (Condvar k at)).role
        else idle).wakes ≡ Some Main
        → or_else (if c then (profile_at_mutex (Condvar k at)).owes else None)
        (if b then (profile (Condvar k at)).owes else None) ≡ Some Main
    beside k at true c bit_pending wakes = absurd cc
    beside k at false true bit_pending wakes =
        ap (λ o. or_else o None) ((beside_facts (Condvar k at)).owed bit_pending wakes)
    beside k at false false bit_pending wakes = absurd cc

module _ (w : State) (inductive : IsInductive w) where
  pub is_to_mark : (u l : ℕ) → IsAboutToMark w u l → IsToMark w u l
  is_to_mark u l bit_pending = (
    bit_pending,
    elim ((inductive.sites.site l).setting u bit_pending) [
      | inl owes_taken ↦ inl (holds_section w inductive u l Main ((inductive.sites.site l).covered u owes_taken).0)
      | inr once ↦ inr (once.0, owes_soon (place_at w u) l bit_pending once.1)
    ],
  )
