-- A waiter of a condition variable is taken by a notification, or moved to its mutex: where it goes, at
-- both locks.
use Rattle.lot_laws.proofs.Imports
use Imports.{ℕ, Bool, true, false, Option, Some, None, ◌≡◌, ◌≢◌, ◌*◌, ◌≤◌, refl, sym, ◌∙◌, ap, subst, arith}
use Imports.{Exclusive, times, At, Profile, hand, taken_from, Location, location_by, Condvar, profile_at}
use Imports.{next_place, UnlockAt, CondvarPlace, Look, Notify, Wait, WaitAt, IsReached, row_at_mutex, row_at_condvar}
use Imports.{condvar_profile, condvar_row, wait_row, AllOf, IsCondvar, moving, Taken, Rights, Main, State}
use Imports.{place_at, queue_at, section_at, lock_state, call_state, location_at, FitsCondvar, FitsItsLock}
use Imports.{IsInductive, condvar_of, key_of, rules_in, Reply, WasMoved, waiters_are_told, Place, MovedTo}
use Imports.{TakenBy}
use Rattle.steps_mutex.specs.declared.places.MutexPlace.TheVariants as mutex
use Rattle.steps_condvar.specs.declared.notify.NotifyAt.TheVariants as notify
use Rattle.steps_condvar.specs.declared.wait.WaiterFate.TheVariants as stands
use Rattle.steps_condvar.specs.declared.wait.WaitAt.TheVariants as wait
use Rattle.spec_locks.specs.Condvars as condvars
use Rattle.spec_locks.specs.Locks as locks
use Rattle.lot_laws.proofs.machine.Parts.{same}
use Rattle.lot_laws.proofs.sites.OneStep.{queued_times}
use Rattle.lot_laws.proofs.condvar.Moving.{GoesAcross, WaitsAcross}
use Rattle.lot_laws.proofs.condvar.TwoParts.{role_beside, role_there, nothing_else, location_beside}
use Rattle.lot_laws.proofs.condvar.TwoParts.{location_there, taken_beside, taken_there}
use Rattle.lot_laws.proofs.condvar.CondvarPromises.{unlisted}
use Rattle.lot_laws.proofs.condvar.Sites.{at_place}
use Rattle.lot_laws.proofs.condvar.WaitersAside.{waits_there}

module _ (w : State) (l m : ℕ) (apart : m ≢ l) (timed : Bool) where
  abbrev waits : WaitAt → CondvarPlace
  waits at = Wait m timed at

  abbrev there_of : WaitAt → Location
  there_of at = location_by (row_at_condvar (At (waits at)))

  abbrev beside_of : WaitAt → Location
  beside_of at = location_by (row_at_mutex (At (waits at)))

  abbrev taken_of : WaitAt → Option Taken
  taken_of at = taken_from (row_at_mutex (At (waits at))).hand (row_at_mutex (At (waits at))).wants true

  -- by its rows
  goes_across : (p p2 : WaitAt) (at_m : Location → Location) (held : Option Taken) → there_of p2
      ≡ record (there_of p) {
        stands = None;
        waits = None;
      } → beside_of p2 ≡ at_m (beside_of p) → (row_at_condvar (At (waits p2))).role
      ≡ (row_at_condvar (At (waits p))).role
      → (row_at_mutex (At (waits p2))).role ≡ (row_at_mutex (At (waits p))).role
      → taken_of p2 ≡ held → FitsItsLock w (Condvar l (waits p2))
      → GoesAcross w l m (Condvar l (waits p)) (Condvar l (waits p2)) at_m held
  goes_across p p2 at_m held left came did_c did_m held_m fits = record {
    left = location_there l m apart (At (waits p2)) refl ∙ left
        ∙ sym (ap (λ (y : Location). record y { stands = None; waits = None })
        (location_there l m apart (At (waits p)) refl));
    came = location_beside l m apart (At (waits p2)) refl ∙ came
        ∙ sym (ap at_m (location_beside l m apart (At (waits p)) refl));
    did_c = role_there l m apart (At (waits p2)) refl ∙ did_c
        ∙ sym (role_there l m apart (At (waits p)) refl);
    did_m = role_beside l m apart (At (waits p2)) refl ∙ did_m
        ∙ sym (role_beside l m apart (At (waits p)) refl);
    free_c = taken_there l m apart (At (waits p2)) refl ∙ sym (taken_there l m apart (At (waits p)) refl);
    held_m = taken_beside l m apart (At (waits p2)) refl ∙ held_m;
    alike = nothing_else l m apart (At (waits p)) (At (waits p2)) refl refl;
    fits = fits;
  }

  -- the thread has come to the next place too
  comes : (p p2 : WaitAt) → FitsCondvar w l (waits p) → (IsReached (waits p) → IsReached (waits p2))
      → FitsItsLock w (Condvar l (waits p2))
  comes p p2 fits reached = record { sort = fits.sort; reached = reached fits.reached; mutex = fits.mutex }

  module _ (t : ℕ) where
    -- asleep
    sleeper : FitsCondvar w l (waits (wait.Asleep stands.Listed))
        → WaitsAcross w t l m (Condvar l (waits (wait.Asleep stands.Listed)))
    sleeper fits = record {
      stands = ap (λ (y : Location). y.stands) (location_there l m apart (At (waits p)) refl);
      out = ap (λ (y : Location). y.stands) (location_beside l m apart (At (waits p)) refl);
      free = ap (λ (y : Location). y.hand) (location_beside l m apart (At (waits p)) refl);
      untaken = taken_beside l m apart (At (waits p)) refl;
      taken = goes_across p (wait.Asleep (stands.InHand t)) (λ y. record y { hand = hand t false })
          (Some (record { by = t; want = Exclusive })) refl refl refl refl refl
          (comes p (wait.Asleep (stands.InHand t)) fits (λ h. tt));
      moved = goes_across p (wait.Asleep stands.Moved) (λ y. record y {
        stands = Some Main;
        waits = Some Exclusive;
      }) None refl refl refl refl refl (comes p (wait.Asleep stands.Moved) fits (λ h. tt));
    }
      where
        p : WaitAt
        p = wait.Asleep stands.Listed

    -- A waiter whose mutex is not yet released fits its condition variable.
    releaser : (at : UnlockAt) → FitsCondvar w l (waits (wait.Release stands.Listed (mutex.Unlock at)))
        → WaitsAcross w t l m (Condvar l (waits (wait.Release stands.Listed (mutex.Unlock at))))
    releaser at fits = record {
      stands = ap (λ (y : Location). y.stands) (location_there l m apart (At (waits p)) refl);
      out = ap (λ (y : Location). y.stands) (location_beside l m apart (At (waits p)) refl);
      free = ap (λ (y : Location). y.hand) (location_beside l m apart (At (waits p)) refl);
      untaken = taken_beside l m apart (At (waits p)) refl;
      taken = goes_across p (wait.Release (stands.InHand t) (mutex.Unlock at))
          (λ y. record y { hand = hand t false }) (Some (record { by = t; want = Exclusive })) refl refl refl
          refl refl (comes p (wait.Release (stands.InHand t) (mutex.Unlock at)) fits
          (λ h. (h.0, λ f. absurd cc)));
      moved = goes_across p (wait.Release stands.Moved (mutex.Unlock at)) (λ y. record y {
        stands = Some Main;
        waits = Some Exclusive;
      }) None refl refl refl refl refl (comes p (wait.Release stands.Moved (mutex.Unlock at)) fits
          (λ h. (h.0, λ f. absurd cc)));
    }
      where
        p : WaitAt
        p = wait.Release stands.Listed (mutex.Unlock at)

-- ---------------------------------------------------------------- all of them, where a notification moves

module _ (w : State) (t l m : ℕ) (inductive : IsInductive w) (apart : m ≢ l) (sort_l : (rules_in w l).sort
    ≡ locks.Condvar)
    (all locked : Bool) (is : place_at w t ≡ Condvar l (Notify all m (notify.Move locked)))
    (kept : IsCondvar (condvar_of w l)) where
  abbrev this : CondvarPlace
  this = Notify all m (notify.Move locked)

  -- each waits with this mutex
  all_of : AllOf (condvar_of w l) m
  all_of = by_stage all (subst (λ i. condvars.IsAsInside (condvar_of w l) i)
      (at_place w inductive.stands t l this is).stage kept.inside)
    where
      by_stage : (b : Bool) → condvars.StageHolds (condvar_of w l) t (moving b m) → AllOf (condvar_of w l) m
      by_stage true h = h.2
      by_stage false h = h.2

  held : section_at w (key_of l Main) ≡ Some t
  held = (inductive.stands.sections t l Main).0 (ap (λ q. (location_at q l).inside) is
      ∙ ap (λ (y : Location). y.inside) (location_there l m apart (At this) refl))

  module _ (u : ℕ) (some : 1 ≤ times u (queue_at w (key_of l Main))) where
    listed : 1 ≤ locks.times u (lock_state w l).queue
    listed = let a : locks.times u (lock_state w l).queue ≡ times u (queue_at w (2 * l)) =
        queued_times u (queue_at w (2 * l)) in omega arith

    -- nobody else is inside the section
    not_inside : (timed : Bool) (p : WaitAt) → place_at w u ≡ Condvar l (Wait m timed p)
        → (location_by (row_at_condvar (At (Wait m timed p)))).inside ≡ Some Main → ⊥
    not_inside timed p at within = let a : section_at w (key_of l Main) ≡ Some u =
        (inductive.stands.sections u l Main).0 (ap (λ q. (location_at q l).inside) at
        ∙ ap (λ (y : Location). y.inside) (location_there l m apart (At (Wait m timed p)) refl) ∙ within) in
        let b : Some u ≡ Some t = sym a ∙ held in let c : u ≡ t = cc in let d : Condvar l (Wait m timed p)
        ≡ Condvar l this = sym at ∙ ap (place_at w) c ∙ is in cc

    -- the thread sleeps, or releases its mutex still
    module _ (P : Place → Type 0)
        (sleeps : (timed : Bool) → FitsCondvar w l (Wait m timed (wait.Asleep stands.Listed))
        → P (Condvar l (Wait m timed (wait.Asleep stands.Listed))))
        (releases : (timed : Bool) (at : UnlockAt)
        → FitsCondvar w l (Wait m timed (wait.Release stands.Listed (mutex.Unlock at)))
        → P (Condvar l (Wait m timed (wait.Release stands.Listed (mutex.Unlock at))))) where
      by_wait : (timed : Bool) (p : WaitAt) → place_at w u ≡ Condvar l (Wait m timed p)
          → (wait_row m p).listed ≡ true
          → FitsCondvar w l (Wait m timed p) → P (Condvar l (Wait m timed p))
      by_wait timed wait.Leave at h fits = absurd (not_inside timed wait.Leave at refl)
      by_wait timed wait.Remove at h fits = absurd (not_inside timed wait.Remove at refl)
      by_wait timed (wait.Asleep stands.Listed) at h fits = sleeps timed fits
      by_wait timed (wait.Asleep s) at h fits = absurd cc
      by_wait timed (wait.Release stands.Listed (mutex.Unlock p)) at h fits = releases timed p fits
      by_wait timed (wait.Release stands.Listed p) at h fits = absurd fits.reached.0
      by_wait timed (wait.Release s p) at h fits = absurd cc
      by_wait timed p at h fits = absurd cc

      by_at : (at : CondvarPlace) → place_at w u ≡ Condvar l at → (condvar_row at).listed ≡ true
          → P (place_at w u)
      by_at (Look all) at h = absurd cc
      by_at (Notify every k p) at h = absurd (let none : false ≡ true = sym (unlisted every k p) ∙ h in cc)
      by_at (Wait k timed p) at h =
          subst P (sym here) (by_wait timed p here (subst (λ j. (wait_row j p).listed ≡ true) named h)
          (subst (FitsItsLock w) here (inductive.stands.calls u)))
        where
          row : profile_at (place_at w u) l ≡ condvar_profile (Wait k timed p)
          row = rw (at, same l) refl

          named : k ≡ m
          named = let both : Some k ≡ Some m = sym (ap (λ (y : Profile). y.names) row) ∙ all_of u listed in cc

          here : place_at w u ≡ Condvar l (Wait m timed p)
          here = at ∙ ap (λ j. Condvar l (Wait j timed p)) named

      pub each_waiter : P (place_at w u)
      each_waiter = let x = waits_there w inductive l sort_l u listed in by_at x.at x.is x.listed

    pub waits_across : WaitsAcross w t l m (place_at w u)
    waits_across = each_waiter (WaitsAcross w t l m) (λ timed fits. sleeper w l m apart timed t fits)
        (λ timed at fits. releaser w l m apart timed t at fits)

    -- the thread's call knows then that it was moved
    abbrev KnowsIt : Reply → Place → Type 0
    KnowsIt reply p = (r : ℕ → Rights) → call_state (next_place p reply) r ≡ record (call_state p r)
        { recalls = WasMoved }

    pub knows_taken : KnowsIt (TakenBy t) (place_at w u)
    knows_taken = each_waiter (KnowsIt (TakenBy t)) (λ timed fits. waiters_are_told l m timed
        (wait.Asleep stands.Listed) (TakenBy t) tt tt) (λ timed at fits. waiters_are_told l m timed
        (wait.Release stands.Listed (mutex.Unlock at)) (TakenBy t) tt tt)

    pub knows_moved : KnowsIt (MovedTo (key_of m Main)) (place_at w u)
    knows_moved = each_waiter (KnowsIt (MovedTo (key_of m Main))) (λ timed fits. waiters_are_told l m timed
        (wait.Asleep stands.Listed) (MovedTo (key_of m Main)) tt tt) (λ timed at fits. waiters_are_told l m
        timed (wait.Release stands.Listed (mutex.Unlock at)) (MovedTo (key_of m Main)) tt tt)
