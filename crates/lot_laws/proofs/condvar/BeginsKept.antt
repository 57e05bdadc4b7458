-- Where a call of a condition variable begins, and where its time is up: every lock is a site again.
use Rattle.lot_laws.proofs.Imports
use Imports.{ℕ, Bool, true, false, Some, None, ◌&&◌, nat_lt, ◌≡◌, ◌≢◌, ◌<◌, inl, inr, List, [], ◌∷◌, length}
use Imports.{refl, sym, ◌∙◌, ap, subst, cases_eq, One, Exclusive, has_call, is_condvar, is_plain_mutex}
use Imports.{CondvarCall, Kind, At, Late, Location, Place, Condvar, Idle, late_key, next_place, CondvarPlace}
use Imports.{Wait, Look, Notify, mutex_beside, rules_of, Begin, Deed, Role, Has, In, Main, idle, State}
use Imports.{names_mutex_there, holds_right, is_free_under, is_open_to, kind_at, owners_at, place_at, put}
use Imports.{section_at, state_after_begin, state_after_late_on, state_with_sections, Suits, call_suits}
use Imports.{IsWellFormed, PlaceFits, taken_at, acts, role_on, location_at, FitsCondvar, FitsItsLock, Goes}
use Imports.{IsInductive, key_of, rules_in}
use Rattle.spec_locks.specs.declared.calls.Call.TheVariants as call
use Rattle.spec_locks.specs.declared.calls.CondvarCall.TheVariants as condvar_call
use Rattle.spec_locks.specs.declared.kinds.Kind.TheVariants as kind
use Rattle.spec_locks.specs.declared.outcomes.Answer.TheVariants as answer
use Rattle.steps_base.specs.declared.acts.Next.TheVariants.{End as Over}
use Rattle.steps_base.specs.Locations.{nowhere}
use Rattle.steps_condvar.specs.declared.wait.WaiterFate.TheVariants as stands
use Rattle.steps_condvar.specs.declared.wait.WaitAt.TheVariants as wait
use Rattle.spec_locks.specs.Locks as locks
use Rattle.lot_machine.proofs.Suits.{both}
use Rattle.lot_laws.proofs.machine.Parts.{differ, parts_at, put_here, same, thread_is}
use Rattle.lot_laws.proofs.sites.OneStep.{steps_by}
use Rattle.lot_laws.proofs.sites.StandsKept.{Alike, AlikeBeside}
use Rattle.lot_laws.proofs.sites.ActsAt as acting
use Rattle.lot_laws.proofs.sites.ByAct.{none_is}
use Rattle.lot_laws.proofs.calls.Looking.{fits_on}
use Rattle.lot_laws.proofs.promises.LineActs.{key_there}
use Rattle.lot_laws.proofs.condvar.TwoParts.{role_beside, role_there, nothing_else, location_beside}
use Rattle.lot_laws.proofs.condvar.TwoParts.{location_there, taken_beside, taken_there}
use Rattle.lot_laws.proofs.condvar.MutexUntouched.{enters_there}
use Rattle.lot_laws.proofs.condvar.WaitersAside.{plain_sort}

-- the mutex beside a condition variable is another lock
pub apart_of : (w : State) (l m : ℕ) (at : CondvarPlace) → FitsCondvar w l at → mutex_beside at ≡ Some m
    → m ≢ l
apart_of w l m at f names e = let both : locks.Mutex ≡ locks.Condvar =
    sym (plain_sort (kind_at w m) (f.mutex m names)) ∙ ap (λ j. (rules_in w j).sort) e ∙ f.sort in cc

-- ---------------------------------------------------------------- a call begins

-- a notification knows no mutex yet, and stands nowhere
module _ (w : State) (t l : ℕ) (all : Bool) (inductive : IsInductive w) (there : t < length w.places)
    (is : place_at w t ≡ Idle)
    (fits : FitsItsLock w (Condvar l (Look all))) where
  looks_nowhere : (k : ℕ) → Alike k Idle (Condvar l (Look all))
  looks_nowhere k = elim (cases_eq k l) [
    | inl e ↦ subst (λ j. Alike j Idle (Condvar l (Look all))) (sym e) (record {
      location = rw (same l) refl;
      role = rw (same l) refl;
      taken = refl;
    })
    | inr ne ↦ record {
      location = rw (differ l k (λ f. ne (sym f))) refl;
      role = rw (differ l k (λ f. ne (sym f))) refl;
      taken = refl;
    }
  ]

  pub notification_begins : Goes w (put w t (Condvar l (Look all))) l []
  notification_begins = acting.place_goes w t l inductive there (rules_in w l) refl (Condvar l (Look all))
      (λ k ne. subst (λ q. Alike k q (Condvar l (Look all))) (sym is) (looks_nowhere k)) fits [] (λ h. tt)
      (steps_by (rules_in w l) l (parts_at w l) (parts_at w l) (place_at w) t (Condvar l (Look all)) [] tt tt
      (ap (λ q. taken_at q l) is ∙ sym (looks_nowhere l).taken) refl refl refl refl ((looks_nowhere l).role
      ∙ sym (ap (λ q. role_on q l) is)))
      ((looks_nowhere l).location ∙ sym (ap (λ q. location_at q l) is))

module _ (w : State) (t l m : ℕ) (timed : Bool) (inductive : IsInductive w) (there : t < length w.places)
    (is : place_at w t ≡ Idle)
    (apart : m ≢ l) (fits : FitsItsLock w (Condvar l (Wait m timed wait.Enter))) where
  abbrev entering : Place
  entering = Condvar l (Wait m timed wait.Enter)

  begins_alike : AlikeBeside m Idle entering
  begins_alike k ne = elim (cases_eq k l) [
    | inl e ↦ subst (λ j. Alike j Idle entering) (sym e) (record {
      location = location_there l m apart (At (Wait m timed wait.Enter)) refl;
      role = role_there l m apart (At (Wait m timed wait.Enter)) refl;
      taken = taken_there l m apart (At (Wait m timed wait.Enter)) refl;
    })
    | inr nl ↦ nothing_else l m apart (Over answer.Ok) (At (Wait m timed wait.Enter)) tt refl k nl ne
  ]

  -- a wait owns its mutex
  pub wait_begins : (owners_at w m).exclusive ≡ Some t → Goes w (put w t entering) m
      (acts t (Begin (Some (Has Exclusive)) ∷ []))
  wait_begins owns = acting.place_goes w t m inductive there (rules_in w m) refl entering
      (λ k ne. subst (λ q. Alike k q entering) (sym is) (begins_alike k ne)) fits
      (Begin (Some (Has Exclusive)) ∷ []) (λ h. tt)
      (steps_by (rules_in w m) m (parts_at w m) (parts_at w m) (place_at w) t entering
      (Begin (Some (Has Exclusive)) ∷ []) (owns, tt) (tt, tt)
      (ap (λ q. taken_at q m) is ∙ sym (taken_beside l m apart (At (Wait m timed wait.Enter)) refl)) refl refl
      refl refl
      (role_beside l m apart (At (Wait m timed wait.Enter)) refl
      ∙ sym (put_here (λ u. role_on (place_at w u) m) t _
      ∙ ap (λ q. record (role_on q m) { claims = Some (Has Exclusive) }) is)))
      (location_beside l m apart (At (Wait m timed wait.Enter)) refl ∙ sym (ap (λ q. location_at q m) is))

-- the lock at which a call begins, and what it does there
abbrev pub begins_at : ℕ → CondvarCall → ℕ
begins_at l (condvar_call.Wait m timed) = m
begins_at l (condvar_call.Notify all) = l

abbrev pub begins_by : CondvarCall → List Deed
begins_by (condvar_call.Wait m timed) = Begin (Some (Has Exclusive)) ∷ []
begins_by (condvar_call.Notify all) = []

condvar_sort : (k : Kind) → is_condvar k ≡ true → (rules_of k).sort ≡ locks.Condvar
condvar_sort kind.Condvar h = refl
condvar_sort k h = absurd cc

-- a wait may begin where it names a plain mutex that its thread owns
module _ (w : State) (t l : ℕ) (inductive : IsInductive w) (there : t < length w.places) (is : place_at w t
    ≡ Idle) where
  pub condvar_begins : (c : CondvarCall) → is_open_to w t (call.Condvar l c) ≡ true
      → Goes w (state_after_begin w t (call.Condvar l c)) (begins_at l c) (acts t (begins_by c))
  condvar_begins (condvar_call.Notify all) may = notification_begins w t l all inductive there is (record {
    sort = condvar_sort (kind_at w l) suits.1.0;
    reached = tt;
    mutex = λ m none. absurd cc;
  })
    where
      suits : Suits (length w.locks) (kind_at w) (Condvar l (Look all))
      suits = call_suits w t (call.Condvar l (condvar_call.Notify all)) may
  condvar_begins (condvar_call.Wait m timed) may = wait_begins w t l m timed inductive there is
      (apart_of w l m (Wait m timed wait.Enter) fits refl) fits (thread_is t (owners_at w m).exclusive right)
    where
      suits : Suits (length w.locks) (kind_at w) (Condvar l (Wait m timed wait.Enter))
      suits = call_suits w t (call.Condvar l (condvar_call.Wait m timed)) may

      fits : FitsCondvar w l (Wait m timed wait.Enter)
      fits = record {
        sort = condvar_sort (kind_at w l) suits.1.0;
        reached = tt;
        mutex = λ k names. let same_mutex : m ≡ k = cc in subst (λ j. is_plain_mutex (kind_at w j) ≡ true)
            same_mutex suits.1.1;
      }

      right : holds_right w t (call.Condvar l (condvar_call.Wait m timed)) ≡ true
      right = let named = call.Condvar l (condvar_call.Wait m timed) in
          (both (names_mutex_there w (Some m)) (holds_right w t named) (both (has_call (kind_at w l) named)
          (names_mutex_there w (Some m) && holds_right w t named)
          (both (nat_lt l (length w.locks)) (has_call (kind_at w l) named &&
          (names_mutex_there w (Some m) && holds_right w t named)) may).1).1).1

-- ---------------------------------------------------------------- the time is up

module _ (w : State) (t l m : ℕ) (inductive : IsInductive w) (there : t < length w.places) (apart : m ≢ l)
  where
    -- the thread leaves the queue of the condition variable
    module _ (sort : (rules_in w l).sort ≡ locks.Condvar) (is : place_at w t
        ≡ Condvar l (Wait m true (wait.Asleep stands.Listed)))
        (fits : FitsItsLock w (Condvar l (Wait m true wait.Remove))) where
      same_beside : Alike m (place_at w t) (Condvar l (Wait m true wait.Remove))
      same_beside = subst (λ q. Alike m q (Condvar l (Wait m true wait.Remove))) (sym is) (record {
        location = location_beside l m apart (At (Wait m true wait.Remove)) refl
            ∙ sym (location_beside l m apart (At (Wait m true (wait.Asleep stands.Listed))) refl);
        role = role_beside l m apart (At (Wait m true wait.Remove)) refl
            ∙ sym (role_beside l m apart (At (Wait m true (wait.Asleep stands.Listed))) refl);
        taken = taken_beside l m apart (At (Wait m true wait.Remove)) refl
            ∙ sym (taken_beside l m apart (At (Wait m true (wait.Asleep stands.Listed))) refl);
      })

      pub listed_late : (line : key_of l Main < length w.sections) → section_at w (key_of l Main) ≡ None
          → Goes w (put (state_with_sections w (One (key_of l Main)) (Some t)) t
          (Condvar l (Wait m true wait.Remove))) l
          (acts t (In Main ∷ []))
      listed_late line free = enters_there w t l m (Wait m true (wait.Asleep stands.Listed)) inductive there
          apart
          sort is refl Late refl fits same_beside line free refl refl

    -- A waiter that is late leaves the queue of its mutex, to which it was moved.
    module _ (is : place_at w t ≡ Condvar l (Wait m true (wait.Asleep stands.Moved)))
        (fits : FitsItsLock w (Condvar l (Wait m true wait.RemoveMoved))) where
      abbrev before : CondvarPlace
      before = Wait m true (wait.Asleep stands.Moved)

      abbrev removing : CondvarPlace
      removing = Wait m true wait.RemoveMoved

      moves_alike : AlikeBeside m (Condvar l before) (Condvar l removing)
      moves_alike k ne = elim (cases_eq k l) [
        | inl e ↦ subst (λ j. Alike j (Condvar l before) (Condvar l removing)) (sym e) (record {
          location = location_there l m apart (At removing) refl
              ∙ sym (location_there l m apart (At before) refl);
          role = role_there l m apart (At removing) refl ∙ sym (role_there l m apart (At before) refl);
          taken = taken_there l m apart (At removing) refl ∙ sym (taken_there l m apart (At before) refl);
        })
        | inr nl ↦ nothing_else l m apart (At before) (At removing) refl refl k nl ne
      ]

      alike : AlikeBeside m (place_at w t) (Condvar l removing)
      alike k ne = subst (λ q. Alike k q (Condvar l removing)) (sym is) (moves_alike k ne)

      was : location_at (place_at w t) m ≡ record nowhere { stands = Some Main; waits = Some Exclusive }
      was = ap (λ q. location_at q m) is ∙ location_beside l m apart (At before) refl

      did : role_on (place_at w t) m ≡ idle
      did = ap (λ q. role_on q m) is ∙ role_beside l m apart (At before) refl

      pub moved_late : (line : key_of m Main < length w.sections) → section_at w (key_of m Main) ≡ None
          → Goes w (put (state_with_sections w (One (key_of m Main)) (Some t)) t (Condvar l removing)) m
          (acts t (In Main ∷ []))
      moved_late line free = acting.enter_goes w t m inductive there (rules_in w m) refl (Condvar l removing)
          alike
          fits Main line free (ap (λ (y : Location). y.inside) was)
          (acting.goes_into w t m inductive there (rules_in w m) refl (Condvar l removing) alike fits
          (ap (λ q. taken_at q m) is ∙ taken_beside l m apart (At before) refl
          ∙ sym (taken_beside l m apart (At removing) refl)) Main (
            (
              acting.nobody_inside w t m inductive there (rules_in w m) refl (Condvar l removing) alike fits
                  Main
                  free,
              ap (λ (d : Role). d.inside) did,
              ap (λ (d : Role). d.empty) did,
            ),
            tt,
          )
          (role_beside l m apart (At removing) refl
          ∙ sym (ap (λ (d : Role). record d { inside = Some Main }) did)))
          (location_beside l m apart (At removing) refl
          ∙ sym (ap (λ (y : Location). record y { inside = Some Main }) was))

-- wherever it sleeps with a deadline
module _ (w : State) (t l : ℕ) (shape : IsWellFormed w) (inductive : IsInductive w) (there : t
    < length w.places)
  where
    abbrev LateGoes : CondvarPlace → Type 0
    LateGoes at = (k : ℕ) × Goes w (state_after_late_on w t (late_key (Condvar l at))) k
        (acts t (In Main ∷ []))

    late_goes : (at : CondvarPlace) → place_at w t ≡ Condvar l at → FitsCondvar w l at
        → PlaceFits (length w.locks) (Condvar l at)
        → is_free_under w (late_key (Condvar l at)) ≡ true → LateGoes at
    late_goes (Wait m true (wait.Asleep stands.Listed)) is fits held can = (
      l,
      subst (λ q. Goes w (put (state_with_sections w (One (key_of l Main)) (Some t)) t (next_place q Late)) l
          (acts t (In Main ∷ []))) (sym is)
          (listed_late w t l m inductive there (apart_of w l m (Wait m true (wait.Asleep stands.Listed)) fits
          refl)
          fits.sort is
          (fits_on w l (Wait m true (wait.Asleep stands.Listed)) (Wait m true wait.Remove) fits refl refl)
          (key_there w l Main shape held.0) (none_is (section_at w (key_of l Main)) can)),
    )
    late_goes (Wait m true (wait.Asleep stands.Moved)) is fits held can = (
      m,
      subst (λ q. Goes w (put (state_with_sections w (One (key_of m Main)) (Some t)) t (next_place q Late)) m
          (acts t (In Main ∷ []))) (sym is)
          (moved_late w t l m inductive there (apart_of w l m (Wait m true (wait.Asleep stands.Moved)) fits
          refl)
          is
          (fits_on w l (Wait m true (wait.Asleep stands.Moved)) (Wait m true wait.RemoveMoved) fits refl refl)
          (key_there w m Main shape held.1) (none_is (section_at w (key_of m Main)) can)),
    )
    late_goes (Wait m true (wait.Asleep st)) is fits held can = absurd cc
    late_goes (Wait m false (wait.Asleep st)) is fits held can = absurd cc
    late_goes (Wait m timed at) is fits held can = absurd cc
    late_goes (Look all) is fits held can = absurd cc
    late_goes (Notify all m at) is fits held can = absurd cc

    pub condvar_goes_late : (at : CondvarPlace) → place_at w t ≡ Condvar l at
        → is_free_under w (late_key (Condvar l at)) ≡ true
        → LateGoes at
    condvar_goes_late at is can = late_goes at is (subst (FitsItsLock w) is (inductive.stands.calls t))
        (subst (PlaceFits (length w.locks)) is (shape.places t)) can
