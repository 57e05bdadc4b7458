-- A thread in a call of one lock takes waiters of a line of it, as many as it is to, each in a call of that
-- lock.
use Rattle.lot_laws.proofs.Imports
use Imports.{ℕ, Bool, true, false, Option, Some, None, if◌then◌else◌, ◌≡◌, ◌≢◌, ◌+◌, ◌≤◌, ◌<◌, List, [], ◌∷◌}
use Imports.{length, map, refl, sym, ◌∙◌, ap, arith, Waiter, Want, times, Place, TakenBy, next_place, Rules}
use Imports.{putting, queued_of, Site, Deed, Line, State, place_at, queue_at, taken_at, acts, location}
use Imports.{location_at, nowhere, role_on, ActsNeeded, TakesOne, IsInductive, Goes, FitsItsLock, AreWaiting}
use Imports.{after_acts, rules_in, key_of, stood_in, locations_of, want_in_line, profile}
use Rattle.spec_locks.specs.Locks as locks
use Rattle.lot_laws.specs.Locations.{Location, hand}
use Rattle.lot_laws.proofs.machine.Parts.{parts_at, lock_in, seen_in, IsOf, location_here}
use Rattle.lot_laws.proofs.sites.OneStep.{AreSingle}
use Rattle.lot_laws.proofs.sites.Following.{NoHandOff, with_line, lock_by}
use Rattle.lot_laws.proofs.sites.StandsKept.{own_alike}
pub use Rattle.lot_laws.proofs.sites.TakesAt.{member, member_times, at_most_one, told_by, told_places}
pub use Rattle.lot_laws.proofs.sites.TakesAt.{told_once, AllAre}
use Rattle.lot_laws.proofs.sites.TakesAt.{IsTakenAt, after_take}
use Rattle.lot_laws.proofs.sites.TakesAt as at

-- where a thread goes that sleeps in a line and is taken by t
pub record IsTakenFrom (w : State) (t l : ℕ) (m : Line) (p : Place) : Type 0 where
  pub calls : IsOf l p
  pub wanted : Option Want
  pub was : location p ≡ record nowhere { stands = Some m; waits = wanted }
  pub free : location (next_place p (TakenBy t)) ≡ record nowhere { hand = hand t false }
  pub calls_then : IsOf l (next_place p (TakenBy t))
  pub role : role_on (next_place p (TakenBy t)) l ≡ role_on p l
  pub held : (x : Want) → wanted ≡ Some x → taken_at (next_place p (TakenBy t)) l
      ≡ Some (record { by = t; want = x })
  pub fits : FitsItsLock w (next_place p (TakenBy t))

-- the waiters taken of the line, and those left
pub record Splits (w : State) (t l : ℕ) (m : Line) (taken left : List Waiter) : Type 0 where
  pub counts : (u : ℕ) → times u taken + times u left ≡ times u (queue_at w (key_of l m))
  pub sleeps : (u : ℕ) → member u taken ≡ true → IsTakenFrom w t l m (place_at w u)
  pub lefts : AreWaiting (locations_of (place_at w)) l m left
  pub wants : AllAre t (λ u. taken_at (next_place (place_at w u) (TakenBy t)) l) taken

taken_so : (w : State) (t l : ℕ) (m : Line) (p : Place) → IsTakenFrom w t l m p → IsTakenAt w t l m p
taken_so w t l m p s = let here = location_here l p s.calls ∙ s.was in record {
  stands = ap (λ (y : Location). y.stands) here;
  unheld = ap (λ (y : Location). y.hand) here;
  goes = location_here l (next_place p (TakenBy t)) s.calls_then ∙ s.free
      ∙ sym (ap (after_take t true) here);
  alike = own_alike l p (next_place p (TakenBy t)) s.calls s.calls_then;
  role = s.role;
  fits = s.fits;
}

module _ (w : State) (t l : ℕ) (inductive : IsInductive w) (own : IsOf l (place_at w t)) (there : t
    < length w.places) (p2 : Place)
    (of : IsOf l p2) (fits : FitsItsLock w p2) (many : TakesOne w l → ⊥)
    (m : Line) (taken left : List Waiter) (splits : Splits w t l m taken left)
    (out : (location (place_at w t)).stands ≡ None) (free : (location (place_at w t)).hand ≡ None)
    (bare : (location (place_at w t)).has_taken ≡ None) where
  was_here : location_at (place_at w t) l ≡ location (place_at w t)
  was_here = location_here l (place_at w t) own

  not_self : member t taken ≡ false
  not_self = either (member t taken) refl
    where
      either : (b : Bool) → member t taken ≡ b → b ≡ false
      either false h = refl
      either true h = absurd (let a : times t taken + times t left ≡ stood_in
          (location_at (place_at w t) l).stands m = splits.counts t ∙ inductive.stands.lines t l m in
          let b : stood_in (location_at (place_at w t) l).stands m ≡ 0 =
          ap (λ (y : Location). stood_in y.stands m) was_here ∙ ap (λ o. stood_in o m) out in
          let c : 1 ≤ times t taken = member_times t taken h in omega arith)

  waits_out : (p : Place) → (location p).stands ≡ None → (location p).waits ≡ None
  waits_out p e = ap (λ o. want_in_line o (profile p).wants) e

  -- the thread's location, but for the threads that it carries
  now : (location p2).inside ≡ (location (place_at w t)).inside → (location p2).stands ≡ None
      → (location p2).hand ≡ None → location_at p2 l ≡ record (after_take t (member t taken)
      (location_at (place_at w t) l)) { has_taken = (location p2).has_taken }
  now inside stands unheld = location_here l p2 of ∙ (λ i. record (location (place_at w t)) {
    inside = inside i;
    stands = (stands ∙ sym out) i;
    waits = (waits_out p2 stands ∙ sym (waits_out (place_at w t) out)) i;
    has_taken = (location p2).has_taken;
    hand = (unheld ∙ sym free) i;
  }) ∙ sym (λ i. record (after_take t (not_self i) (was_here i)) { has_taken = (location p2).has_taken })

  module _ (r : Rules) (rules : rules_in w l ≡ r) (none : taken_at (place_at w t) l ≡ None)
      (none2 : taken_at p2 l ≡ None) where
    abbrev pub lock_taken : Site
    lock_taken = record (seen_in r l (with_line (parts_at w l) m left) (place_at w)) {
      lock = lock_in (with_line (parts_at w l) m left) (locks.taking t (map queued_of taken)
          (λ u. taken_at (place_at w u) l));
    }

    -- the deed, and what it makes of the lock
    module _ (v : State) (el : v.locks ≡ w.locks) (eh : v.shares ≡ w.shares) (es : v.sections ≡ w.sections)
        (threads : length v.places ≡ length w.places)
        (places : place_at v ≡ putting (told_by (TakenBy t) taken (place_at w)) t p2)
        (here : queue_at v (key_of l m) ≡ left)
        (others : (key : ℕ) → key ≢ key_of l m → queue_at v key ≡ queue_at w key) where
      pub take_goes : (location p2).inside ≡ (location (place_at w t)).inside → (location p2).stands ≡ None
          → (location p2).hand ≡ None
          → ((b : Bool) → (location p2).has_taken ≡ Some b → (b ≡ false) × ((u : ℕ) × (member u taken ≡ true)))
          → ((u : ℕ) → member u taken ≡ true → (location p2).has_taken ≡ Some false)
          → (d : Deed) → AreSingle (d ∷ []) → NoHandOff (d ∷ []) → ActsNeeded r (acts t (d ∷ []))
          (lock_by w l r)
          → lock_taken.lock ≡ (after_acts r (acts t (d ∷ [])) (lock_by w l r)).lock
          → lock_taken.parked ≡ (after_acts r (acts t (d ∷ [])) (lock_by w l r)).parked
          → lock_taken.aside_parked ≡ (after_acts r (acts t (d ∷ [])) (lock_by w l r)).aside_parked
          → lock_taken.filled ≡ (after_acts r (acts t (d ∷ [])) (lock_by w l r)).filled
          → role_on p2 l ≡ (after_acts r (acts t (d ∷ [])) (lock_by w l r)).role t
          → Goes w v l (acts t (d ∷ []))
      take_goes inside stands unheld =
          at.take_goes w t l inductive there p2 (own_alike l (place_at w t) p2 own of) fits m taken left
          (record {
            counts = splits.counts;
            sleeps = λ u h. taken_so w t l m (place_at w u) (splits.sleeps u h);
            lefts = splits.lefts;
            wants = splits.wants;
          })
          (λ one. absurd (many one)) (ap (λ (y : Location). y.has_taken) was_here ∙ bare) (location p2).has_taken
          (now inside stands unheld) r rules
          (none2 ∙ sym (ap (λ b. if b then taken_at (next_place (place_at w t) (TakenBy t)) l
          else taken_at (place_at w t) l) not_self ∙ none)) v el eh es threads places here others
