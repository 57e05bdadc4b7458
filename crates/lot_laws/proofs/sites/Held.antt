-- A thread that stands at a lock is by its place in the hand of the one that has taken it, and of nobody
-- while it stands in a line.
use Rattle.lot_laws.proofs.Imports
use Imports.{ℕ, Bool, true, false, Option, Some, None, if◌then◌else◌, ◌≡◌, ◌≢◌, ◌≤◌, inl, inr, refl, sym, ◌∙◌}
use Imports.{ap, subst, eqb-true, is_thread, Profile, hand_owner, location_by, Taken, standing, Line, Main}
use Imports.{CondvarPlace, NotifyAt, WaiterFate, WaitAt, condvar_row, hand_of, is_listed, notify_row, wait_row}
use Imports.{Place, Condvar, beside_of, calls, is_lock, or_else, profile, profile_at_mutex, taker, State}
use Imports.{place_at, lock_state, taken_at, location, location_at, IsInductive, holder}
use Rattle.steps_base.specs.Locations.{nowhere}
use Rattle.steps_condvar.specs.declared.places.CondvarPlace.TheVariants as condvar
use Rattle.steps_condvar.specs.declared.notify.NotifyAt.TheVariants as notify
use Rattle.steps_condvar.specs.declared.wait.WaiterFate.TheVariants as stands
use Rattle.steps_condvar.specs.declared.wait.WaitAt.TheVariants as wait
use Rattle.lot_laws.specs.Locations.{Location}
use Rattle.lot_laws.proofs.machine.Parts.{blank_beside, held_tells, single_or_two, single_location}
use Rattle.lot_laws.proofs.machine.Parts.{taken_held}
use Rattle.lot_laws.proofs.machine.PlaceTest.{beside_facts, row_facts}
use Rattle.lot_laws.proofs.promises.PlacePromises.{stands_there}

-- a thread that waits to be notified is in no hand
listed_unheld : (s : WaiterFate) → is_listed s ≡ true → hand_of s ≡ None
listed_unheld stands.Listed h = refl
listed_unheld s h = absurd cc

wait_listed : (m : ℕ) (to : WaitAt) → (wait_row m to).listed ≡ true → (wait_row m to).hand ≡ None
wait_listed m (wait.Release s to) h = listed_unheld s h
wait_listed m (wait.Asleep s) h = listed_unheld s h
wait_listed m (wait.Lock timed_out to) h = absurd cc
wait_listed m to h = refl

notify_unheld : (all : Bool) (m : ℕ) (to : NotifyAt) → (notify_row all m to).hand ≡ None
notify_unheld all m notify.Enter = refl
notify_unheld all m to = refl

row_listed : (to : CondvarPlace) → (condvar_row to).listed ≡ true → (condvar_row to).hand ≡ None
row_listed (condvar.Wait m timed to) h = wait_listed m to h
row_listed (condvar.Look all) h = refl
row_listed (condvar.Notify all m to) h = notify_unheld all m to

in_some : (b : Bool) (m : Line) → (if b then Some Main else None) ≡ Some m → b ≡ true
in_some true m h = refl
in_some false m h = absurd cc

-- ---------------------------------------------------------------- any place

stands_free : (p : Place) (l : ℕ) (m : Line) → (location_at p l).stands ≡ Some m → taker p ≡ None
stands_free p l m = elim (single_or_two p) [
  | inl single ↦ λ h. ap (λ (row : Profile). hand_owner (or_else row.hand (profile p).hand))
      (blank_beside p single) ∙ own (calls p l) (ap (λ (s : Location). s.stands)
      (sym (single_location p l single)) ∙ h)
  | inr two ↦ subst (λ q. (location_at q l).stands ≡ Some m → taker q ≡ None) (sym two.is)
      (beside two.lock two.at (calls (Condvar two.lock two.at) l)
      (is_lock l (beside_of (Condvar two.lock two.at))))
]
  where
    own : (b : Bool) → (if b then location p else nowhere).stands ≡ Some m
        → hand_owner (or_else None (profile p).hand) ≡ None
    own true h = ap hand_owner ((row_facts p).unheld m h)
    own false h = absurd cc

    beside : (k : ℕ) (to : CondvarPlace) (b c : Bool) → (if b then location (Condvar k to) else if c
        then location_by (profile_at_mutex (Condvar k to)) else nowhere).stands ≡ Some m
        → taker (Condvar k to) ≡ None
    beside k to true c h = ap (λ x. hand_owner (or_else x None))
        (row_listed to (in_some (condvar_row to).listed m h))
    beside k to false true h = ap (λ x. hand_owner (or_else x None)) ((beside_facts (Condvar k to)).unheld m
        h)
    beside k to false false h = absurd cc

owner_is : (t : ℕ) (o : Option ℕ) → is_thread t o ≡ true → o ≡ Some t
owner_is t None h = absurd cc
owner_is t (Some u) h = ap Some (eqb-true u t h)

module _ (w : State) (inductive : IsInductive w) where
  pub held : (t l : ℕ) → 1 ≤ standing t (lock_state w l) → taker (place_at w t)
      ≡ holder ((lock_state w l).taken t)
  held t l stands = by_taken (taken_at (place_at w t) l) refl
    where
      by_taken : (o : Option Taken) → taken_at (place_at w t) l ≡ o → taker (place_at w t) ≡ holder
          (taken_at (place_at w t) l)
      by_taken (Some h) e = owner_is h.by (taker (place_at w t)) (held_tells (place_at w t) h.by l false
          (taken_held (place_at w t) h.by l h.want e)) ∙ sym (ap holder e)
      by_taken None e = elim (stands_there w t inductive l stands) [
        | inl in_line ↦ by_line (location_at (place_at w t) l).stands refl in_line
        | inr taken ↦ absurd (taken e)
      ]
        where
          by_line : (o : Option Line) → (location_at (place_at w t) l).stands ≡ o
              → (location_at (place_at w t) l).stands ≢ None
              → taker (place_at w t) ≡ holder (taken_at (place_at w t) l)
          by_line (Some m) f some = stands_free (place_at w t) l m f ∙ sym (ap holder e)
          by_line None f some = absurd (some f)
