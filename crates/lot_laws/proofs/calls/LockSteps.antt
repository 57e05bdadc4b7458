-- Each turn of a thread is a step of the abstract locks.
use Rattle.lot_laws.proofs.Imports
use Imports.{ℕ, Bool, true, false, Option, Some, None, if◌then◌else◌, ◌&&◌, ◌≡◌, ◌≢◌, ◌*◌, ◌<◌, ◌↔◌, inl, inr}
use Imports.{length, refl, sym, ◌∙◌, ap, subst, get_or-set_same, length-set, nat_lt, is_some, AtLock, is_marked}
use Imports.{OfOnce, can_close, close_outcome, closed_place, runs_closure, state_after_close, state_after_going}
use Imports.{can_go, run_ending, Closes, once_promises, Purpose, lock_for, semaphore_promises}
use Imports.{is_closure, Run, OncePlace, once_profile, SemaphorePlace, Acquire, semaphore_profile, taken_from}
use Imports.{has_readers, ltb-true, lt-ltb, One, Turn, Step, lock_in, Outcome}
use Imports.{Lock, TryLock, Unlock, UnlockFair, First, Load, Asleep, Place, Idle, Mutex, RwLock, Once, Condvar}
use Imports.{Semaphore, outcome_of, act_of, next_place, next_act, respins_from, late_key, first_place}
use Imports.{rwlock_goes}
use Imports.{key_in, calls, State, place_at, word_at, kind_at, section_at, put, state_after_act, go_reply}
use Imports.{state_with_sections, reply_to, can_do, state_after_look, look_outcome, state_after_go, go_outcome}
use Imports.{going_outcome, state_after_late_on, is_free_under, can_turn, state_after_turn, turn_outcome}
use Imports.{is_possible, after, step_outcome, IsWellFormed, SameSize, PlaceFits, looking_well_formed}
use Imports.{after_size, both, performed_counts, mutex_looks, AreCondvars, AreCounted, FitsCondvar, IsInductive}
use Imports.{FitsItsLock, rules_in, Main, Rights}
use Imports.{GoesOn, KeepsOrder, LocksState, Stays, Looks, IsOfMutex, Does, SectionChanges}
use Imports.{MayTurn, Turned, taken_at, call_state, locks_of, sleeps, RwLockCallPlace, CallStands, call_profile}
use Imports.{fair_sleepers_hear, MutexPlace, CondvarPlace}
use Rattle.lot_laws.proofs.calls.Begins.{begin_goes, begin_possible}
use Rattle.lot_laws.proofs.rwlock.Late.{call_late, late_row}
use Rattle.lot_laws.proofs.machine.Possible.{begins_outside, closure_gone, late_outside}
use Rattle.lot_laws.proofs.book.LockStaysASite.{Book}
use Rattle.lot_laws.proofs.book.Pages.{booked, semaphore_timed}
use Rattle.lot_laws.proofs.once.Page.{keeps_all as once_keeps}
use Rattle.lot_laws.proofs.semaphore.Page.{keeps_all as semaphore_keeps}
use Rattle.lot_laws.proofs.book.LockStepsAreEvents.{step, step_event}
use Rattle.lot_laws.proofs.once.Page.{closes_event}
use Rattle.lot_laws.proofs.calls.Looking.{alike_event, closing_here, closing_inductive, like}
use Rattle.lot_laws.proofs.calls.Closings.{closing_well_formed, closing_there, goes_there, is_after}
use Rattle.lot_laws.proofs.calls.Closings.{told_there}
use Rattle.lot_laws.proofs.calls.OwnPlace.{gone, gone_told, goes_from_there, told_from_there}
use Rattle.lot_laws.proofs.calls.Closures.{RunsOne}
use Rattle.lot_laws.proofs.calls.Closings.{closing}
use Rattle.steps_once.specs.declared.run.RunAt.TheVariants as run
use Rattle.spec_locks.specs.Locks as locks
use Rattle.lot_laws.proofs.rwlock.CallRows.{call_promises}
use Rattle.spec_locks.specs.declared.calls.OnceCall.TheVariants as once_call
use Rattle.steps_once.specs.declared.look.LookAt.TheVariants as look_at
use Rattle.steps_once.specs.declared.places.OncePlace.TheVariants.{Look}
use Rattle.lot_laws.proofs.once.OnceOwing.{late_place}
use Rattle.lot_laws.proofs.semaphore.SemaphoreOwing.{late_place as semaphore_late_place}
use Rattle.steps_semaphore.specs.declared.acquire.AcquireAt.TheVariants as acquire
use Rattle.core_base.specs.Keys.{key_of}
use Rattle.core_base.specs.declared.keys.Line.{Line}
use Rattle.steps_base.specs.declared.acts.Reply.TheVariants as reply
use Rattle.spec_locks.specs.declared.calls.Turn.TheVariants as turn
use Rattle.spec_locks.specs.declared.outcomes.Outcome.TheVariants as outcome
use Rattle.steps_mutex.specs.declared.lock.Entry.TheVariants as entries
use Rattle.steps_mutex.specs.declared.places.MutexPlace.TheVariants.{Bump}
use Rattle.steps_mutex.specs.declared.places.MutexPlace.TheVariants.{HandOff}
use Rattle.lot_laws.proofs.machine.Possible.{may_go, go_possible, may_be_late, late_possible, told_gone}
use Rattle.lot_laws.proofs.machine.Possible.{told_step, begins_awake, turner_there, gone_sections}
use Rattle.lot_laws.proofs.machine.Possible.{late_sections, late_awake}
use Rattle.lot_laws.proofs.hands.CountsPut.{looking_counted}
use Rattle.lot_laws.proofs.calls.Looking.{here, looks_now, looking_inductive, goes_as_before, stays_as_before}
use Rattle.lot_laws.proofs.calls.Closures.{closes_one, runs_one}
use Rattle.lot_laws.proofs.machine.KindsStay.{after_kinds}
use Rattle.lot_laws.proofs.condvar.Begins.{condvar_is_late}
use Rattle.lot_laws.proofs.machine.PlacesAlone.{placed}
use Rattle.lot_laws.proofs.rwlock.RwLockEvents.{rwlock_step}
use Rattle.steps_condvar.specs.declared.places.CondvarPlace.TheVariants as condvars
use Rattle.lot_laws.proofs.machine.Parts.{IsSingle, same, single_or_two}
use Rattle.lot_laws.proofs.condvar.ActsRefine.{condvar_on}
use Rattle.lot_laws.proofs.condvar.SameCondvars.{looking_condvars}
use Rattle.lot_laws.proofs.sites.SitesKept.{go_by}
use Rattle.lot_laws.proofs.mutex.MutexStepsAreEvents.{load_stays, mutex_step}
use Rattle.lot_laws.proofs.calls.CallEvents.{rights}

-- ---------------------------------------------------------------- a thread goes on

module _ (w : State) (t : ℕ) (shape : IsWellFormed w) (inductive : IsInductive w) (there : t
    < length w.places)
  where
    go_goes : AreCounted w → (p : Place) → place_at w t ≡ p → IsSingle p → PlaceFits (length w.locks) p
        → FitsItsLock w p
        → can_do w (act_of p) ≡ true
        → GoesOn (locks_of w) t (outcome_of (next_act p (reply_to w t (act_of p))))
        (locks_of (go_by w t p (act_of p)))
    go_goes counted Idle is single fits of can = absurd cc
    go_goes counted (Condvar l at) is single fits of can = absurd single
    go_goes counted (Once l at) is single fits of can = step w t l (Once l at) inductive shape there fits is
        (booked w t l (Once l at) inductive is tt (same l)) (same l) (once_keeps l at) can
    go_goes counted (Semaphore l at) is single fits of can = step w t l (Semaphore l at) inductive shape there
        fits
        is (booked w t l (Semaphore l at) inductive is tt (same l)) (same l) (semaphore_keeps l at
        (semaphore_timed w l at of)) can
    go_goes counted (RwLock l a c) is single fits of can = rwlock_step w t l a c inductive shape there fits is
        counted can
    go_goes counted (Mutex l at) is single fits of can = mutex_step w t l at inductive shape there fits.0 is
        can

    going_goes : AreCounted w → AreCondvars w → can_go w t ≡ true
        → GoesOn (locks_of w) t (go_outcome w t) (locks_of (state_after_go w t))
    going_goes counted condvars can = elim (single_or_two (place_at w t)) [
      | inl single ↦ subst (λ o. GoesOn (locks_of w) t o (locks_of (state_after_go w t)))
          (sym (gone_told w t single))
          (subst (λ v. GoesOn (locks_of w) t (outcome_of (next_act (place_at w t) (go_reply w t)))
          (locks_of v))
          (sym (gone w t single))
          (go_goes counted (place_at w t) refl single (shape.places t) (inductive.stands.calls t) can))
      | inr two ↦ subst (λ p. GoesOn (locks_of w) t (going_outcome w t p)
          (locks_of (state_after_going w t p)))
          (sym two.is)
          (condvar_on w t two.lock shape inductive condvars there two.at two.is
          (ap (λ p. can_do w (act_of p)) (sym two.is) ∙ can))
    ]

    -- ---------------------------------------------------------------- turns by which the place alone changes

    late_goes : (p : Place) → place_at w t ≡ p → is_free_under w (late_key p) ≡ true
        → Stays (locks_of w) t (record (call_state p (rights w t)) { late = true }) outcome.Step
        (locks_of (state_after_late_on w t (late_key p)))
    late_goes Idle is can = absurd cc
    late_goes (Condvar l at) is can = condvar_is_late w t l at there is can
    late_goes (Once l at) is can = by_line (once_profile at).late_line refl can
      where
        asleep : (again : Bool) (p : OncePlace) → p ≡ Look once_call.WaitTimed again look_at.Asleep
            → place_at w t ≡ Once l p → (m : Line) → Main ≡ m
            → Stays (locks_of w) t (record (call_state (Once l p) (rights w t)) { late = true })
            outcome.Step
            (locks_of (state_after_late_on w t (Some (key_of l m))))
        asleep again p e here m first =
            subst (λ n. Stays (locks_of w) t (record (call_state (Once l p) (rights w t)) { late = true })
            outcome.Step (locks_of (state_after_late_on w t (Some (key_of l n))))) first
            (subst (λ x. Stays (locks_of w) t (record (call_state (Once l x) (rights w t)) { late = true })
            outcome.Step (locks_of (state_after_late_on w t (Some (2 * l))))) (sym e)
            (timed again (here ∙ ap (Once l) e)))
          where
            timed : (again : Bool) → place_at w t ≡ Once l (Look once_call.WaitTimed again look_at.Asleep)
                → Stays (locks_of w) t (record
                (call_state (Once l (Look once_call.WaitTimed again look_at.Asleep)) (rights w t)) {
                  late =
                      true;
                }) outcome.Step
                (locks_of (state_after_late_on w t (Some (2 * l))))
            timed again at_it = placed w t there (state_with_sections w (One (2 * l)) (Some t)).sections
                (Once l (Look once_call.WaitTimed again look_at.Asleep)) (next_place (place_at w t)
                reply.Late)
                at_it (rw at_it (λ k. refl)) _ (rw at_it (λ r e. rw e refl))

        by_line : (m : Option Line) → (once_profile at).late_line ≡ m → is_free_under w (key_in (Some l) m)
            ≡ true
            → Stays (locks_of w) t (record (call_state (Once l at) (rights w t)) { late = true })
            outcome.Step
            (locks_of (state_after_late_on w t (key_in (Some l) m)))
        by_line None e can = absurd cc
        by_line (Some m) e can = let z = late_place at m e in asleep z.0 at z.1 is m z.2
    late_goes (Semaphore l at) is can = by_line (semaphore_profile at).late_line refl can
      where
        asleep : (again : Bool) (p : SemaphorePlace) → p ≡ Acquire true again acquire.Asleep → place_at w t
            ≡ Semaphore l p → (m : Line) → Main ≡ m
            → Stays (locks_of w) t (record (call_state (Semaphore l p) (rights w t)) { late = true })
            outcome.Step
            (locks_of (state_after_late_on w t (Some (key_of l m))))
        asleep again p e here m first =
            subst (λ n. Stays (locks_of w) t (record (call_state (Semaphore l p) (rights w t)) {
              late =
                  true;
            })
            outcome.Step (locks_of (state_after_late_on w t (Some (key_of l n))))) first
            (subst (λ x. Stays (locks_of w) t (record (call_state (Semaphore l x) (rights w t)) {
              late =
                  true;
            })
            outcome.Step (locks_of (state_after_late_on w t (Some (2 * l))))) (sym e)
            (timed again (here ∙ ap (Semaphore l) e)))
          where
            timed : (again : Bool) → place_at w t ≡ Semaphore l (Acquire true again acquire.Asleep)
                → Stays (locks_of w) t (record (call_state (Semaphore l (Acquire true again acquire.Asleep))
                (rights w t)) { late = true }) outcome.Step
                (locks_of (state_after_late_on w t (Some (2 * l))))
            timed again at_it = placed w t there (state_with_sections w (One (2 * l)) (Some t)).sections
                (Semaphore l (Acquire true again acquire.Asleep)) (next_place (place_at w t) reply.Late) at_it
                (rw at_it (λ k. refl)) _ (rw at_it (λ r e. rw e refl))

        by_line : (m : Option Line) → (semaphore_profile at).late_line ≡ m
            → is_free_under w (key_in (Some l) m)
            ≡ true
            → Stays (locks_of w) t (record (call_state (Semaphore l at) (rights w t)) { late = true })
            outcome.Step
            (locks_of (state_after_late_on w t (key_in (Some l) m)))
        by_line None e can = absurd cc
        by_line (Some m) e can = let z = semaphore_late_place at m e in asleep z.0 at z.1 is m z.2
    late_goes (RwLock l a c) is can = by_line (call_profile a c).late_line refl can
      where
        stands : CallStands a c
        stands = let calls : FitsItsLock w (RwLock l a c) =
            subst (FitsItsLock w) is (inductive.stands.calls t)
            in calls.1

        in_no_hand_at : (d : RwLockCallPlace) → (call_profile a d).hand ≡ None → (k : ℕ)
            → taken_at (RwLock l a d) k ≡ None
        in_no_hand_at d e k = ap (λ h. taken_from h (call_profile a d).wants (calls (RwLock l a d) k)) e

        by_line : (m : Option Line) → (call_profile a c).late_line ≡ m → is_free_under w (key_in (Some l) m)
            ≡ true
            → Stays (locks_of w) t (record (call_state (RwLock l a c) (rights w t)) { late = true })
            outcome.Step
            (locks_of (state_after_late_on w t (key_in (Some l) m)))
        by_line None e can = absurd cc
        by_line (Some m) e can = let z = call_late a c m (sym (late_row a c) ∙ e) in
            placed w t there (state_with_sections w (One (key_of l m)) (Some t)).sections (RwLock l a c)
            (next_place (place_at w t) reply.Late) is
            (λ k. ap (λ y. taken_at (next_place y reply.Late) k) is ∙ ap (λ n. taken_at (rwlock_goes l a n) k)
            z.1 ∙ in_no_hand_at z.0 z.3 k ∙ sym (in_no_hand_at c z.2 k)) _
            (λ r same_rights. ap (λ y. call_state (next_place y reply.Late) r) is
            ∙ ap (λ n. call_state (rwlock_goes l a n) r) z.1
            ∙ (fair_sleepers_hear a l c stands).late (λ none. let f : ◌≡◌ {A = Option Line} None (Some m) =
            sym none ∙ e in cc) z.0 r z.1
            ∙ ap (λ x. record (call_state (RwLock l a c) x) { late = true }) same_rights)
    late_goes (Mutex l (Lock entries.LockTimed retries Asleep)) is can =
        placed w t there (state_with_sections w (One (2 * l)) (Some t)).sections
        (Mutex l (Lock entries.LockTimed retries Asleep)) (next_place (place_at w t) reply.Late) is
        (rw is (λ k. refl)) _ (rw is (λ r e. rw e refl))
    late_goes (Mutex l (Lock entries.Lock retries Asleep)) is can = absurd cc
    late_goes (Mutex l (Lock entries.Bump retries Asleep)) is can = absurd cc
    late_goes (Mutex l (Lock entry retries First)) is can = absurd cc
    late_goes (Mutex l (Lock entry retries a)) is can = absurd cc
    late_goes (Mutex l TryLock) is can = absurd cc
    late_goes (Mutex l (Unlock a)) is can = absurd cc
    late_goes (Mutex l UnlockFair) is can = absurd cc
    late_goes (Mutex l Bump) is can = absurd cc
    late_goes (Mutex l (HandOff bumps a)) is can = absurd cc

-- ---------------------------------------------------------------- a look at the word once more

-- a call of another lock is of no mutex
own_sort : (w : State) (l : ℕ) (q : Purpose) → lock_for q ≡ l → (rules_in w l).sort ≢ locks.Mutex
    → IsOfMutex (locks_of w) (Some q) → ⊥
own_sort w l q own other of = other (ap (λ k. (rules_in w k).sort) (sym own) ∙ of)

condvar_no_mutex : (w : State) (l : ℕ) (at : CondvarPlace) → (rules_in w l).sort ≢ locks.Mutex
    → (r : ℕ → Rights)
    → IsOfMutex (locks_of w) (call_state (Condvar l at) r).purpose → ⊥
condvar_no_mutex w l (condvars.Wait m timed at) other r of = other of
condvar_no_mutex w l (condvars.Look all) other r of = other of
condvar_no_mutex w l (condvars.Notify all m at) other r of = other of

-- the thread's call goes on by what it sees there
module _ (w : State) (t : ℕ) (shape : IsWellFormed w) (inductive : IsInductive w) (there : t
    < length w.places)
    (q : Place)
    (is : respins_from (place_at w t) ≡ Some q) where
  abbrev moved : State
  moved = put w t q

  well_formed_moved : IsWellFormed moved
  well_formed_moved = looking_well_formed w t q shape is

  inductive_moved : IsInductive moved
  inductive_moved = looking_inductive w t there q is inductive

  there_moved : t < length moved.places
  there_moved = rw (length-set w.places t q) there

  look_stays : (p : Place) → place_at w t ≡ p → IsOfMutex (locks_of w) (call_state p (rights w t)).purpose
      → Stays (locks_of w) t ((locks_of w).calls t) (go_outcome moved t) (locks_of (state_after_go moved t))
  look_stays Idle e of = absurd of
  look_stays (Condvar l at) e of = absurd (let calls : FitsCondvar w l at =
      subst (FitsItsLock w) e (inductive.stands.calls t) in condvar_no_mutex w l at
      (λ f. let both : locks.Condvar ≡ locks.Mutex = sym calls.sort ∙ f in cc) (rights w t) of)
  look_stays (Once l at) e of = absurd (let calls : FitsItsLock w (Once l at) =
      subst (FitsItsLock w) e (inductive.stands.calls t) in own_sort w l ((once_profile at).purpose l)
      (once_promises l at).own (λ f. let both : locks.Once ≡ locks.Mutex = sym calls ∙ f in cc) of)
  look_stays (Semaphore l at) e of = absurd (let calls : FitsItsLock w (Semaphore l at) =
      subst (FitsItsLock w) e (inductive.stands.calls t) in own_sort w l ((semaphore_profile at).purpose l)
      (semaphore_promises l at).own (λ f. let both : locks.Semaphore ≡ locks.Mutex = sym calls.0 ∙ f in cc)
      of)
  look_stays (RwLock l a c) e of = absurd (let calls : FitsItsLock w (RwLock l a c) =
      subst (FitsItsLock w) e (inductive.stands.calls t) in own_sort w l ((call_profile a c).purpose l)
      (call_promises (rules_in w l) a l c calls.0 calls.1).own (λ f. let both : false ≡ true =
      sym (ap has_readers f) ∙ calls.0.0 in cc) of)
  look_stays (Mutex l at) e of = let loads = mutex_looks l at q (ap respins_from (sym e) ∙ is) in
      let now : place_at moved t ≡ Mutex l (Lock loads.0 loads.1 Load) = here w t there q is ∙ loads.2 in
      stays_as_before w t there q is _ (locks_of (state_after_go moved t))
      (subst (λ p. Stays (locks_of moved) t ((locks_of moved).calls t) (going_outcome moved t p)
      (locks_of (state_after_going moved t p))) (sym now)
      (load_stays moved t l loads.0 loads.1 inductive_moved well_formed_moved there_moved (fits_moved now).0
      now))
    where
      fits_moved : {x : MutexPlace} → place_at moved t ≡ Mutex l x → PlaceFits (length moved.locks)
          (Mutex l x)
      fits_moved now = subst (PlaceFits (length moved.locks)) now (well_formed_moved.places t)

  looks : AreCounted w → AreCondvars w → Looks (locks_of w) t (go_outcome moved t)
      (locks_of (state_after_go moved t))
  looks counted condvars = record {
    goes = goes_as_before w t there q is _ (locks_of (state_after_go moved t))
        (going_goes moved t well_formed_moved inductive_moved there_moved (looking_counted w t there q is
        counted)
        (looking_condvars w t q there is condvars) (looks_now w t there q is));
    stays = λ of. look_stays (place_at w t) refl of;
  }

-- ---------------------------------------------------------------- steps

module _ (w : State) (t : ℕ) (shape : IsWellFormed w) (inductive : IsInductive w) (there : t
    < length w.places)
  where
    -- the thread's closure has answered, and its run ends by the next act
    closed_does : (succeeded : Bool) → can_close w t succeeded ≡ true
        → (((locks_of w).stances t).in_closure ≡ true)
        × Closes (locks_of w) t (run_ending succeeded) (close_outcome w t succeeded)
        (locks_of (state_after_close w t succeeded))
    closed_does succeeded can = (
      (both (runs_closure (act_of (place_at w t))) (can_do w (act_of (closed_place w t succeeded))) can).0,
      record { goes = ended.0; lock = one.lock; ends = ended.1 },
    )
      where
        one : RunsOne (place_at w t)
        one = closes_one w t succeeded can

        at : OncePlace
        at = Run one.forced (run.Close succeeded)

        v : State
        v = closing w t there succeeded one

        ended : (g : GoesOn (locks_of w) t (close_outcome w t succeeded)
            (locks_of (state_after_close w t succeeded)))
            × (g.event ≡ AtLock one.lock (OfOnce (run_ending succeeded)))
        ended = subst (λ x. (g : GoesOn (locks_of w) t (close_outcome w t succeeded) (locks_of x))
            × (g.event ≡ AtLock one.lock (OfOnce (run_ending succeeded))))
            (sym (goes_there w t there succeeded one ∙ goes_from_there v t (Once one.lock at) is_v tt))
            (subst (λ o. (g : GoesOn (locks_of w) t o
            (locks_of (go_by v t (Once one.lock at) (act_of (Once one.lock at)))))
            × (g.event ≡ AtLock one.lock (OfOnce (run_ending succeeded))))
            (sym (told_there w t there succeeded one ∙ told_from_there v t (Once one.lock at) is_v tt))
            (alike_event w t there (closed_place w t succeeded) (like w t there succeeded one) _ _
            (AtLock one.lock (OfOnce (run_ending succeeded))) (
              step v t one.lock (Once one.lock at) inductive_v shape_v there_v lt is_v book_v (same one.lock)
                  (once_keeps one.lock at) refl,
              step_event v t one.lock (Once one.lock at) inductive_v shape_v
                  there_v lt is_v book_v (same one.lock) (once_keeps one.lock at) refl
                  ∙ closes_event one.lock succeeded (is_marked (word_at v one.lock)),
            )))
          where
            inductive_v : IsInductive v
            inductive_v = closing_inductive w t there succeeded one inductive

            shape_v : IsWellFormed v
            shape_v = closing_well_formed w t there succeeded one shape

            there_v : t < length v.places
            there_v = closing_there w t there succeeded one

            is_v : place_at v t ≡ Once one.lock at
            is_v = closing_here w t there succeeded one ∙ is_after w t there succeeded one

            lt : one.lock < length v.locks
            lt = subst (PlaceFits (length v.locks)) is_v (shape_v.places t)

            book_v : Book v one.lock
            book_v = booked v t one.lock (Once one.lock at) inductive_v is_v tt (same one.lock)

    turned_does : AreCounted w → AreCondvars w → (x : Turn) → can_turn w t x ≡ true
        → MayTurn (locks_of w) t x × Does (locks_of w) t x (turn_outcome w t x)
        (locks_of (state_after_turn w t x))
    turned_does counted condvars (turn.Begin c) can = begin_goes w t c shape inductive there can
    turned_does counted condvars turn.Go can =
        (may_go w t can, going_goes w t shape inductive there counted condvars can)
    turned_does counted condvars turn.Spin can =
        (can, by_look (respins_from (place_at w t)) refl can)
      where
        by_look : (o : Option Place) → respins_from (place_at w t) ≡ o → is_some o ≡ true
            → Looks (locks_of w) t (look_outcome w t o) (locks_of (state_after_look w t o))
        by_look None is can = absurd cc
        by_look (Some q) is can = looks w t shape inductive there q is counted condvars
    turned_does counted condvars turn.Late can =
        (may_be_late w t inductive can, late_goes w t shape inductive there (place_at w t) refl can)
    turned_does counted condvars turn.Ok can = closed_does true can
    turned_does counted condvars turn.Err can = closed_does false can

-- a turn that may be taken is possible
module _ (w : State) (t : ℕ) (inductive : IsInductive w) where
  -- after its closure it may swap the word
  closes_possible : (succeeded : Bool) → runs_closure (act_of (place_at w t)) ≡ true → can_close w t succeeded
      ≡ true
  closes_possible succeeded may = let one = runs_one (place_at w t) may in rw one.is refl

  possible : (x : Turn) → MayTurn (locks_of w) t x → can_turn w t x ≡ true
  possible (turn.Begin c) may = begin_possible w t c may
  possible turn.Go may = go_possible w t inductive may
  possible turn.Spin may = may
  possible turn.Late may = late_possible w t inductive may
  possible turn.Ok may = closes_possible true may
  possible turn.Err may = closes_possible false may

  stuck : (x : Turn) → (nat_lt t (length w.places) && can_turn w t x) ≡ false → MayTurn (locks_of w) t x → ⊥
  stuck x cannot may = let there : nat_lt t (length w.places) ≡ true = lt-ltb t (length w.places)
      (turner_there w t x may) in
      let can : can_turn w t x ≡ true = possible x may in let e : true ≡ false = rw (there, can) at cannot
      in cc

-- sections, and what the thread is told
module _ (w : State) (t : ℕ) (there : t < length w.places) where
  put_sleeps : (b : State) (p : Place) → length b.places ≡ length w.places
      → sleeps (act_of (place_at (put b t p) t)) ≡ sleeps (act_of p)
  put_sleeps b p size = ap (λ q. sleeps (act_of q)) (get_or-set_same b.places t p Idle (rw size there))

  told_going : (go_outcome w t ≡ outcome.Sleep)
      ↔ (sleeps (act_of (place_at (state_after_go w t) t)) ≡ true)
  told_going = let acted = state_after_act w t (place_at w t) (act_of (place_at w t)) in
      rw (put_sleeps acted (next_place (place_at acted t) (go_reply w t)) (performed_counts w t (place_at w t)
      (act_of (place_at w t))).0) (told_gone (place_at acted t) (go_reply w t))

module _ (w : State) (t : ℕ) (shape : IsWellFormed w) (inductive : IsInductive w) (there : t
    < length w.places)
  where
    closed_sections : (succeeded : Bool) → can_close w t succeeded ≡ true → (key : ℕ)
        → SectionChanges (section_at w key) t (section_at (state_after_close w t succeeded) key)
    closed_sections succeeded can key = let one = closes_one w t succeeded can
        in inl (ap (λ (v : State). section_at v key) (goes_there w t there succeeded one))

    turned_sections : (x : Turn) → can_turn w t x ≡ true → (key : ℕ)
        → SectionChanges (section_at w key) t (section_at (state_after_turn w t x) key)
    turned_sections (turn.Begin c) can key = inl refl
    turned_sections turn.Go can key = gone_sections w t shape inductive can key
    turned_sections turn.Spin can key = by_look (respins_from (place_at w t)) refl
      where
        by_look : (o : Option Place) → respins_from (place_at w t) ≡ o
            → SectionChanges (section_at w key) t (section_at (state_after_look w t o) key)
        by_look None is = inl refl
        by_look (Some q) is = gone_sections (put w t q) t (well_formed_moved w t shape inductive there q is)
            (inductive_moved w t shape inductive there q is) (looks_now w t there q is) key
    turned_sections turn.Late can key = late_sections w t shape inductive (place_at w t) refl
        (shape.places t) can key
    turned_sections turn.Ok can key = closed_sections true can key
    turned_sections turn.Err can key = closed_sections false can key

    closed_told : (succeeded : Bool) → can_close w t succeeded ≡ true
        → (close_outcome w t succeeded ≡ outcome.Sleep)
        ↔ (sleeps (act_of (place_at (state_after_close w t succeeded) t)) ≡ true)
    closed_told succeeded can = let one = closes_one w t succeeded can
        in told_going (closing w t there succeeded one) t (closing_there w t there succeeded one)

    turned_told : (x : Turn) → can_turn w t x ≡ true
        → (turn_outcome w t x ≡ outcome.Sleep)
        ↔ (sleeps (act_of (place_at (state_after_turn w t x) t)) ≡ true)
    turned_told (turn.Begin c) can =
        told_step _ (put_sleeps w t there w (first_place (kind_at w (lock_in c)) c) refl
        ∙ begins_awake (kind_at w (lock_in c)) c)
    turned_told turn.Go can = told_going w t there
    turned_told turn.Spin can = by_look (respins_from (place_at w t)) refl can
      where
        by_look : (o : Option Place) → respins_from (place_at w t) ≡ o → is_some o ≡ true
            → (look_outcome w t o ≡ outcome.Sleep)
            ↔ (sleeps (act_of (place_at (state_after_look w t o) t)) ≡ true)
        by_look None is can = absurd cc
        by_look (Some q) is can = told_going (put w t q) t (there_moved w t shape inductive there q is)
    turned_told turn.Late can =
        told_step _ (late_awake w t there inductive (late_key (place_at w t)) refl can)
    turned_told turn.Ok can = closed_told true can
    turned_told turn.Err can = closed_told false can

    going_runs : (v : State) → t < length v.places
        → is_closure (go_outcome v t) ≡ runs_closure (act_of (place_at (state_after_go v t) t))
    going_runs v there_v = let acted = state_after_act v t (place_at v t) (act_of (place_at v t))
        in closure_gone (place_at acted t) (go_reply v t)
        ∙ sym (ap (λ p. runs_closure (act_of p)) (get_or-set_same acted.places t
        (next_place (place_at acted t) (go_reply v t)) Idle
        (rw (performed_counts v t (place_at v t) (act_of (place_at v t))).0 there_v)))

    closing_runs : (succeeded : Bool) → can_close w t succeeded ≡ true
        → is_closure (close_outcome w t succeeded) ≡ runs_closure
        (act_of (place_at (state_after_close w t succeeded) t))
    closing_runs succeeded can = let one = closes_one w t succeeded can
        in going_runs (closing w t there succeeded one) (closing_there w t there succeeded one)

    late_runs : (o : Option ℕ) → late_key (place_at w t) ≡ o → is_free_under w o ≡ true
        → false ≡ runs_closure (act_of (place_at (state_after_late_on w t o) t))
    late_runs None e can = absurd cc
    late_runs (Some key) e can = sym (ap (λ p. runs_closure (act_of p)) (get_or-set_same w.places t
        (next_place (place_at w t) reply.Late) Idle there)
        ∙ late_outside (place_at w t) (λ none. let f : ◌≡◌ {A = Option ℕ} None (Some key) = sym none ∙ e
        in cc))

    turned_runs : (x : Turn) → can_turn w t x ≡ true
        → is_closure (turn_outcome w t x) ≡ runs_closure (act_of (place_at (state_after_turn w t x) t))
    turned_runs (turn.Begin c) can =
        sym (ap (λ p. runs_closure (act_of p))
        (get_or-set_same w.places t (first_place (kind_at w (lock_in c)) c) Idle there)
        ∙ begins_outside (kind_at w (lock_in c)) c)
    turned_runs turn.Go can = going_runs w there
    turned_runs turn.Spin can = by_look (respins_from (place_at w t)) refl can
      where
        by_look : (o : Option Place) → respins_from (place_at w t) ≡ o → is_some o ≡ true
            → is_closure (look_outcome w t o) ≡ runs_closure (act_of (place_at (state_after_look w t o) t))
        by_look None is can = absurd cc
        by_look (Some q) is can = going_runs (put w t q) (there_moved w t shape inductive there q is)
    turned_runs turn.Late can = late_runs (late_key (place_at w t)) refl can
    turned_runs turn.Ok can = closing_runs true can
    turned_runs turn.Err can = closing_runs false can

-- a step, but for what it leaves of the other threads
abbrev pub IsTurn : LocksState → Step → Outcome → LocksState → Type 0
IsTurn w s o v = KeepsOrder w s.thread o v × Turned w s.thread s.turn o v

pub after_step : (w : State) (s : Step) → IsWellFormed w → IsInductive w → AreCounted w → AreCondvars w
    → IsTurn (locks_of w) s (step_outcome w s) (locks_of (after w s))
after_step w s shape inductive counted condvars = (
  record {
    threads = size.threads;
    size = size.locks;
    kinds = after_kinds w s;
    sections = sections (is_possible w s) refl;
    told = told (is_possible w s) refl;
    runs = runs (is_possible w s) refl;
  },
  either (is_possible w s) refl,
)
  where
    size : SameSize w (after w s)
    size = after_size w s

    parts : is_possible w s ≡ true → (s.thread < length w.places) × (can_turn w s.thread s.turn ≡ true)
    parts can = let h = both (nat_lt s.thread (length w.places)) (can_turn w s.thread s.turn) can
        in (ltb-true s.thread (length w.places) h.0, h.1)

    sections : (b : Bool) → is_possible w s ≡ b → (key : ℕ)
        → SectionChanges (section_at w key) s.thread (section_at (if b then state_after_turn w s.thread s.turn
        else w) key)
    sections true can key = turned_sections w s.thread shape inductive (parts can).0 s.turn (parts can).1 key
    sections false cannot key = inl refl

    told : (b : Bool) → is_possible w s ≡ b
        → (if b then turn_outcome w s.thread s.turn else outcome.NotNow)
        ≢ outcome.NotNow
        → ((if b then turn_outcome w s.thread s.turn else outcome.NotNow)
        ≡ outcome.Sleep)
        ↔ (sleeps (act_of (place_at (if b then state_after_turn w s.thread s.turn else w) s.thread)) ≡ true)
    told true can ne = turned_told w s.thread shape inductive (parts can).0 s.turn (parts can).1
    told false cannot ne = absurd (ne refl)

    runs : (b : Bool) → is_possible w s ≡ b
        → (if b then turn_outcome w s.thread s.turn else outcome.NotNow)
        ≢ outcome.NotNow
        → is_closure (if b then turn_outcome w s.thread s.turn else outcome.NotNow)
        ≡ runs_closure (act_of (place_at (if b then state_after_turn w s.thread s.turn else w) s.thread))
    runs true can ne = turned_runs w s.thread shape inductive (parts can).0 s.turn (parts can).1
    runs false cannot ne = absurd (ne refl)

    either : (b : Bool) → is_possible w s ≡ b
        → Turned (locks_of w) s.thread s.turn (if b then turn_outcome w s.thread s.turn
        else outcome.NotNow)
        (locks_of (if b then state_after_turn w s.thread s.turn else w))
    either true can = inl (turned_does w s.thread shape inductive (parts can).0 counted condvars s.turn
        (parts can).1)
    either false cannot = inr (stuck w s.thread inductive s.turn cannot, (refl, refl))
