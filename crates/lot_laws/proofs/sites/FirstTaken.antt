-- The first waiter in the line of a lock, if there is one, comes into the hand of a thread inside its
-- section, for the sorts of lock whose waiters are taken one at a time.
use Rattle.lot_laws.proofs.Imports
use Imports.{ℕ, Bool, true, false, Option, Some, None, ◌==◌, ◌≡◌, ◌*◌, ◌<◌, List, [], ◌∷◌, length, map, drop}
use Imports.{is_none, not, refl, sym, ◌∙◌, ap, subst, Waiter, first_of, Reply, Took, Location, Hears, StepView}
use Imports.{inside_of, location_of, location_then, in_hand, HasTakenNobody, Rules, first_thread, queued_of}
use Imports.{Deed, FindNobody, Main, Site, idle, is_empty, Place, next_place, profile, State, is_there}
use Imports.{place_at, put, queue_at, queues_without_first, state_after_taking, lock_state, taken_at, acts}
use Imports.{location, Goes, IsInductive, carried_at, rules_in}
use Rattle.lot_laws.proofs.machine.AtPlaces.{in_no_hand}
use Rattle.lot_laws.proofs.machine.Parts.{IsOf, free_of, nothing_at, of_single}
use Rattle.lot_laws.proofs.sites.ActsKept.{finds_none, lock_by, nobody_goes}
use Rattle.lot_laws.proofs.sites.MovesKept.{IsFollowed, needed_by, own_by, location_is, there_is}
use Rattle.lot_laws.proofs.sites.OneStep.{empty_line}

-- by these deeds
pub record TakesFirst (takes : Option ℕ → List Deed) (x : StepView) (hears : Hears) : Type 0 where
  pub was : location_of x ≡ inside_of Main
  pub deeds : (whom : Option ℕ) (any none_left : Bool) → x.deeds whom (Took any none_left) ≡ takes whom
  pub goes : (any none_left : Bool)
      → location_then x (Took any none_left) ≡ record (inside_of Main) { has_taken = in_hand any false }
  pub may : (r : Rules) (s : Site) (t : ℕ) (whom : Option ℕ) (any none_left : Bool)
      → whom ≡ first_thread s.lock.queue
      → any ≡ not (is_none whom) → none_left ≡ is_empty (drop 1 s.lock.queue) → HasTakenNobody s.lock t
      → hears r s t whom (Took any none_left)

module _ (w : State) (t l : ℕ) (inductive : IsInductive w) (there : t < length w.places)
    (own : IsOf l (place_at w t)) (r : Rules)
    (rules : rules_in w l ≡ r) (x : StepView) (same_row : profile (place_at w t) ≡ x.row) (hears : Hears)
    (takes : Option ℕ → List Deed)
    (line : 2 * l < length w.queues) (g : TakesFirst takes x hears) where
  abbrev pub Followed : Option ℕ → Reply → Type 0
  Followed who told = IsFollowed w t l inductive there own r rules x same_row who told
      (next_place (place_at w t) told)

  abbrev now : Site
  now = lock_by w l r

  pub is_now : location (place_at w t) ≡ inside_of Main
  is_now = location_is w t l inductive there own r rules x same_row ∙ g.was

  pub bare : carried_at (place_at w t) l ≡ None
  bare = nothing_at (place_at w t) l (of_single l (place_at w t) own) (λ y. y.has_taken) refl
      (ap (λ (y : Location). y.has_taken) is_now)

  nobody : HasTakenNobody (lock_state w l) t
  nobody = in_no_hand w inductive t l (λ h. let e : ◌≡◌ {A = Option Bool} None (Some false) = sym bare ∙ h
      in cc)

  pub hand_now : taken_at (place_at w t) l ≡ None
  hand_now = free_of (place_at w t) l (of_single l (place_at w t) own) (ap (λ (y : Location). y.hand) is_now)

  -- where it is then
  module _ (who : Option ℕ) (any none_left : Bool) (f : Followed who (Took any none_left)) where
    pub is_then : location (next_place (place_at w t) (Took any none_left)) ≡ record (inside_of Main)
        { has_taken = in_hand any false }
    is_then = there_is w t l inductive there own r rules x same_row who (Took any none_left)
        (next_place (place_at w t) (Took any none_left)) f ∙ g.goes any none_left

    pub hand_then : taken_at (next_place (place_at w t) (Took any none_left)) l ≡ None
    hand_then = free_of (next_place (place_at w t) (Took any none_left)) l
        (of_single l (next_place (place_at w t) (Took any none_left)) f.of)
        (ap (λ (y : Location). y.hand) is_then)

  -- by the waiters
  abbrev pub told_of : List Waiter → Reply
  told_of q = Took (is_there (first_of q)) (length (drop 1 q) == 0)

  pub hears_of : (q : List Waiter) → queue_at w (2 * l) ≡ q → hears r now t (first_of q) (told_of q)
  hears_of [] e = g.may r now t None false true
      (sym (ap (λ (q : List Waiter). first_thread (map queued_of q)) e)) refl
      (sym (ap (λ (q : List Waiter). is_empty (drop 1 (map queued_of q))) e)) nobody
  hears_of (y ∷ rest) e = g.may r now t (Some y.thread) true (length rest == 0)
      (sym (ap (λ (q : List Waiter). first_thread (map queued_of q)) e)) refl
      (sym (empty_line rest) ∙ sym (ap (λ (q : List Waiter). is_empty (drop 1 (map queued_of q))) e)) nobody

  abbrev pub KeptBy : List Waiter → Type 0
  KeptBy q = Goes w (put (state_after_taking (record w { queues = queues_without_first w.queues (2 * l) }) t
      (first_of q)) t (next_place (place_at w t) (told_of q))) l (acts t (x.deeds (first_of q) (told_of q)))

  module _ (none : takes None ≡ FindNobody Main ∷ []) (followed : (who : Option ℕ) (any none_left : Bool)
      → hears r now t who (Took any none_left) → Followed who (Took any none_left)) where
    finds_nobody : queue_at w (2 * l) ≡ [] → KeptBy []
    finds_nobody empty = subst (λ ds. Goes w
        (put (record w { queues = queues_without_first w.queues (2 * l) }) t p2) l (acts t ds)) (sym does)
        (nobody_goes w t l inductive own there r rules p2 f.of f.fits Main (FindNobody Main ∷ []) (λ h. tt)
        line
        empty
        (finds_none w t l inductive own there r rules p2 f.of f.fits (hand_now
        ∙ sym (hand_then None false true f)) Main idle (needed_by w t l inductive there own r rules x
        same_row None (Took false true) p2 f (FindNobody Main ∷ []) does)
        (own_by w t l inductive there own r rules x same_row None (Took false true) p2 f (FindNobody Main
        ∷ []) does))
        (is_then None false true f ∙ sym is_now))
      where
        p2 : Place
        p2 = next_place (place_at w t) (Took false true)

        f : Followed None (Took false true)
        f = followed None false true (hears_of [] empty)

        does : x.deeds None (Took false true) ≡ FindNobody Main ∷ []
        does = g.deeds None false true ∙ none

    -- the first, if there is one
    pub takes_first : ((y : Waiter) (rest : List Waiter) → queue_at w (2 * l) ≡ y ∷ rest
        → Followed (Some y.thread) (Took true (length rest == 0)) → KeptBy (y ∷ rest))
        → KeptBy (queue_at w (2 * l))
    takes_first one = by_line (queue_at w (2 * l)) refl
      where
        by_line : (q : List Waiter) → queue_at w (2 * l) ≡ q → KeptBy q
        by_line [] e = finds_nobody e
        by_line (y ∷ rest) e = one y rest e (followed (Some y.thread) true (length rest == 0)
            (hears_of (y ∷ rest) e))
