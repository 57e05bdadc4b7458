-- Each step of a thread in a call of a condition variable keeps what holds of it.
use Rattle.lot_laws.proofs.Imports
use Imports.{ℕ, Bool, true, false, Option, Some, None, if◌then◌else◌, ◌==◌, ◌≡◌, ◌≢◌, ◌⊎◌, ◌*◌, ◌<◌, length}
use Imports.{nat_lt, is_some, inl, inr, refl, sym, ◌∙◌, ap, subst, length-set, get_or-set_other}
use Imports.{get_or-set_same, cases_eq, ltb-true, CondvarCall, lock_in, Call, Step, Turn, Late, CondvarPlace}
use Imports.{Wait, Look, Notify, WaitAt, MayReply, after_condvar_deeds, condvar_deeds, condvar_act}
use Imports.{condvar_first, condvar_next, in_lock, Place, Idle, Mutex, RwLock, Once, Condvar, Semaphore, act_of}
use Imports.{first_place, in_condvar, is_idle, late_key, called_lock, respins_from, next_place, profile_at}
use Imports.{BeginsWait, IsCondvar, IsInsideNot, condvar_leads, Rules, putting, rules_of, condvar_deed_keeps}
use Imports.{SectionChanges, Line, Main, has_readers, IsWellFormed, PlaceFits, State, after, can_do, can_turn}
use Imports.{is_free_under, is_open_to, is_possible, kind_at, place_at, put, queue_at, reply_to, runs_closure}
use Imports.{section_at, state_after_going, state_after_late_on, state_after_look, state_after_turn}
use Imports.{step_outcome, both, looking_well_formed, lock_state, locks_of, location_at, AreCondvars}
use Imports.{AreCounted, FitsCondvar, FitsItsLock, IsInductive, condvar_of, inside_as, key_of, rules_in}
use Imports.{stood_in}
use Rattle.spec_locks.specs.declared.calls.CondvarCall.TheVariants as calls
use Rattle.spec_locks.specs.declared.calls.Call.TheVariants as call
use Rattle.spec_locks.specs.declared.calls.Turn.TheVariants as turn
use Rattle.steps_mutex.specs.declared.places.MutexPlace.TheVariants as mutex
use Rattle.steps_mutex.specs.declared.lock.LockAt.TheVariants as lock
use Rattle.steps_condvar.specs.declared.wait.WaiterFate.TheVariants as stands
use Rattle.steps_condvar.specs.declared.wait.WaitAt.TheVariants as wait
use Rattle.spec_locks.specs.Locks as locks
use Rattle.spec_locks.specs.Locks.{times}
use Rattle.lot_laws.specs.SitesOf.{Stands}
use Rattle.lot_laws.proofs.machine.Befallen.{others_keep_it}
use Rattle.lot_laws.proofs.calls.Closures.{condvar_runs_none}
use Rattle.lot_laws.proofs.condvar.Replies.{free_inside, may_hear}
use Rattle.lot_laws.proofs.condvar.FollowsDeeds.{condvar_stays}
use Rattle.lot_laws.proofs.condvar.OwnStand.{alike_same, went, went_alike, went_place}
use Rattle.lot_laws.proofs.condvar.CondvarRows.{names_of, names_unmoved, stage_of, stage_unmoved}
use Rattle.lot_laws.proofs.condvar.CondvarsKept.{condvar_kept, moved_on}
use Rattle.lot_laws.proofs.condvar.SameCondvars.{same_condvar}
use Rattle.lot_laws.proofs.condvar.MachineFollows.{goes_led}
use Rattle.lot_laws.proofs.machine.Parts.{calls_none, put_other, same}
use Rattle.lot_laws.proofs.machine.KindsStay.{after_kinds}
use Rattle.lot_laws.proofs.calls.LockSteps.{IsTurn, after_step}
use Rattle.lot_laws.proofs.calls.Looking.{looking_inductive}
use Rattle.lot_laws.proofs.sites.OneStep.{queued_times}
use Rattle.lot_laws.proofs.sites.StandsMoved.{mutex_rules}
use Rattle.lot_laws.proofs.sites.TurnsKept.{after_inductive}

-- the other threads' places say of a condition variable what they said
abbrev OthersSay : State → State → ℕ → ℕ → Type 0
OthersSay w v t l = (u : ℕ) → u ≢ t → (stage_of (place_at v u) l ≡ stage_of (place_at w u) l)
    × (names_of (place_at v u) l ≡ names_of (place_at w u) l)

module _ (w v : State) (t l : ℕ) (at : CondvarPlace) (shape : IsWellFormed w) (inductive : IsInductive w)
    (stands_then : Stands v)
    (is : place_at w t ≡ Condvar l at) (there : t < length w.places) (lt : l < length w.locks)
    (condvar : IsCondvar (condvar_of w l)) (says : OthersSay w v t l) (section : SectionChanges
    (section_at w (key_of l Main)) t (section_at v (key_of l Main))) where
  fits : FitsCondvar w l at
  fits = subst (FitsItsLock w) is (inductive.stands.calls t)

  -- the thread goes on by an act that it can do
  goes_on : v ≡ state_after_going w t (Condvar l at) → can_do w (condvar_act l at) ≡ true
      → IsCondvar (condvar_of v l)
  goes_on led can = condvar_stays w v t l at (reply_to w t (condvar_act l at)) inductive.stands stands_then is
      (went w t l at is fits.reached there)
      (ap (λ (x : State). place_at x t) led ∙ went_place w t l at is fits.reached there)
      (went_alike w t l at is fits.reached there) condvar (may_hear w t l at inductive is can) says section
      (ap (λ (x : State). (lock_state x l).shown) led ∙ (goes_led w t l at shape inductive is lt can).0)
      (ap (λ (x : State). (lock_state x l).queue) led ∙ (goes_led w t l at shape inductive is lt can).1)

  -- the thread goes into the section of the queue where it slept
  slept : (p : CondvarPlace) (key : ℕ) → at ≡ p → v ≡ state_after_late_on w t (Some key)
      → MayReply (condvar_of w l) t p Late
      → (lock_state v l).shown ≡ (after_condvar_deeds (condvar_deeds p Late) (condvar_of w l) t).shown
      → (lock_state v l).queue ≡ (after_condvar_deeds (condvar_deeds p Late) (condvar_of w l) t).waiters
      → IsCondvar (condvar_of v l)
  slept p key e led hears shown waiters = condvar_stays w v t l p Late inductive.stands stands_then (is
      ∙ ap (Condvar l) e) (condvar_next p Late)
      (ap (λ (x : State). place_at x t) led ∙ get_or-set_same w.places t (next_place (place_at w t) Late) Idle
      there ∙ ap (λ q. next_place q Late) (is ∙ ap (Condvar l) e))
      (alike_same (condvar_next p Late)) condvar hears says section shown waiters

  -- the thread's time is up
  late : v ≡ state_after_late_on w t (late_key (Condvar l at)) → is_free_under w (late_key (Condvar l at))
      ≡ true
      → IsCondvar (condvar_of v l)
  late = by_place at refl
    where
      by_wait : (m : ℕ) (timed : Bool) (p : WaitAt) → at ≡ Wait m timed p
          → v ≡ state_after_late_on w t (late_key (Condvar l (Wait m timed p)))
          → is_free_under w (late_key (Condvar l (Wait m timed p))) ≡ true → IsCondvar (condvar_of v l)
      by_wait m true (wait.Asleep stands.Listed) e led free = slept (Wait m true (wait.Asleep stands.Listed))
          (2 * l) e led (free_inside w t l at inductive is free) (ap (λ (x : State). (lock_state x l).shown)
          led)
          (ap (λ (x : State). (lock_state x l).queue) led)
      by_wait m true (wait.Asleep stands.Moved) e led free = slept (Wait m true (wait.Asleep stands.Moved))
          (2 * m) e led tt (ap (λ (x : State). (lock_state x l).shown) led)
          (ap (λ (x : State). (lock_state x l).queue) led)
      by_wait m true (wait.Asleep s) e led free = absurd cc
      by_wait m false (wait.Asleep s) e led free = absurd cc
      by_wait m timed p e led free = absurd cc

      by_place : (p : CondvarPlace) → at ≡ p → v ≡ state_after_late_on w t (late_key (Condvar l p))
          → is_free_under w (late_key (Condvar l p)) ≡ true → IsCondvar (condvar_of v l)
      by_place (Wait m timed p) e led free = by_wait m timed p e led free
      by_place (Look all) e led free = absurd cc
      by_place (Notify all m p) e led free = absurd cc

-- where it looks at its mutex once more
record LooksFrom (l : ℕ) (at : CondvarPlace) (q : Place) : Type 0 where
  pub place : CondvarPlace
  pub is : q ≡ Condvar l place
  pub stage : stage_of q l ≡ stage_of (Condvar l at) l
  pub names : names_of q l ≡ names_of (Condvar l at) l
  pub acts : (w : State) → can_do w (condvar_act l place) ≡ true

looks_from : (l : ℕ) (at : CondvarPlace) (q : Place) → respins_from (Condvar l at) ≡ Some q → LooksFrom l at q
looks_from l (Wait m timed (wait.Lock late (mutex.Lock e again (lock.Decide seen)))) q is =
    by_word (seen == 1) is
  where
    by_word : (b : Bool) → in_condvar l (in_lock m timed late (if b then Some (mutex.Lock e again lock.Load)
        else None)) ≡ Some q
        → LooksFrom l (Wait m timed (wait.Lock late (mutex.Lock e again (lock.Decide seen)))) q
    by_word true f = let there : Condvar l (Wait m timed (wait.Lock late (mutex.Lock e again lock.Load)))
        ≡ q = cc in
        subst (LooksFrom l (Wait m timed (wait.Lock late (mutex.Lock e again (lock.Decide seen))))) there
        (record {
          place = Wait m timed (wait.Lock late (mutex.Lock e again lock.Load));
          is = refl;
          stage = refl;
          names = refl;
          acts = λ w. refl;
        })
    by_word false f = absurd cc
looks_from l (Wait m timed (wait.Lock late (mutex.Lock e again a))) q is = absurd cc
looks_from l (Wait m timed (wait.Lock late a)) q is = absurd cc
looks_from l (Wait m timed p) q is = absurd cc
looks_from l (Look all) q is = absurd cc
looks_from l (Notify all m p) q is = absurd cc

module _ (w : State) (s : Step) (shape : IsWellFormed w) (inductive : IsInductive w) (counted : AreCounted w)
    (condvars : AreCondvars w)
    (l : ℕ) (at : CondvarPlace) (is : place_at w s.thread ≡ Condvar l at) (lt : l < length w.locks)
    (condvar : IsCondvar (condvar_of w l)) where
  abbrev v : State
  v = after w s

  abbrev t : ℕ
  t = s.thread

  stands_then : Stands v
  stands_then = (after_inductive w s shape inductive counted condvars).stands

  says : OthersSay w v t l
  says u ne = (
    others_keep_it (λ p. stage_of p l) (stage_unmoved l) w s u ne,
    others_keep_it (λ p. names_of p l) (names_unmoved l) w s u ne,
  )

  section : SectionChanges (section_at w (key_of l Main)) t (section_at v (key_of l Main))
  section = let step : IsTurn (locks_of w) s (step_outcome w s) (locks_of v) =
      after_step w s shape inductive counted condvars in step.0.sections (key_of l Main)

  -- from where it looks
  looks : (q : Place) → t < length w.places → respins_from (place_at w t) ≡ Some q
      → v ≡ state_after_look w t (Some q)
      → IsCondvar (condvar_of v l)
  looks q there looking_is led = goes_on looked v t l from.place (looking_well_formed w t q shape looking_is)
      (looking_inductive w t there q looking_is inductive) stands_then (here ∙ from.is)
      (rw (length-set w.places t q) there) lt
      (subst IsCondvar (sym same_there) condvar) says_there section (led ∙ ap (state_after_going looked t)
      (here ∙ from.is)) (from.acts looked)
    where
      looked : State
      looked = put w t q

      from : LooksFrom l at q
      from = looks_from l at q (ap respins_from (sym is) ∙ looking_is)

      here : place_at (put w t q) t ≡ q
      here = get_or-set_same w.places t q Idle there

      same_there : condvar_of (put w t q) l ≡ condvar_of w l
      same_there = same_condvar w (put w t q) l (refl, refl) refl (λ u. elim (cases_eq u t) [
        | inl e ↦ rw (e, here, is) (from.stage, from.names)
        | inr ne ↦ let stays = get_or-set_other w.places t u q Idle ne in (
          ap (λ p. stage_of p l) stays,
          ap (λ p. names_of p l) stays,
        )
      ])

      says_there : OthersSay (put w t q) v t l
      says_there u ne = let stays = get_or-set_other w.places t u q Idle ne
          in (
            (says u ne).0 ∙ sym (ap (λ p. stage_of p l) stays),
            (says u ne).1
                ∙ sym (ap (λ p. names_of p l) stays),
          )

  turned : t < length w.places → (x : Turn) → can_turn w t x ≡ true → v ≡ state_after_turn w t x
      → IsCondvar (condvar_of v l)
  turned there turn.Go can led = goes_on w v t l at shape inductive stands_then is there lt
      condvar
      says section (led ∙ ap (state_after_going w t) is) (ap (λ p. can_do w (act_of p)) (sym is) ∙ can)
  turned there turn.Late can led = late w v t l at shape inductive stands_then is there lt condvar
      says section (led ∙ ap (λ p. state_after_late_on w t (late_key p)) is)
      (ap (λ p. is_free_under w (late_key p)) (sym is) ∙ can)
  turned there turn.Spin can led = by_look (respins_from (place_at w t)) refl led
    where
      by_look : (o : Option Place) → respins_from (place_at w t) ≡ o → v ≡ state_after_look w t o
          → IsCondvar (condvar_of v l)
      by_look None e f = subst (λ (x : State). IsCondvar (condvar_of x l)) (sym f) condvar
      by_look (Some q) e f = looks q there e f
  turned there turn.Ok can led =
      absurd (let runs = (both (runs_closure (act_of (place_at w t))) _ can).0
      in let none : runs_closure (act_of (place_at w t)) ≡ false = ap (λ p. runs_closure (act_of p)) is
      ∙ condvar_runs_none l at in cc)
  turned there turn.Err can led =
      absurd (let runs = (both (runs_closure (act_of (place_at w t))) _ can).0
      in let none : runs_closure (act_of (place_at w t)) ≡ false = ap (λ p. runs_closure (act_of p)) is
      ∙ condvar_runs_none l at in cc)
  turned there (turn.Begin c) can led =
      absurd (let idle = (both (is_idle (place_at w t)) (is_open_to w t c) can).0
      in let busy : is_idle (place_at w t) ≡ false = ap is_idle is in cc)

  -- each of its turns
  pub own_condvar : IsCondvar (condvar_of v l)
  own_condvar = either (is_possible w s) refl
    where
      either : (b : Bool) → is_possible w s ≡ b → IsCondvar (condvar_of v l)
      either true can = let parts = both (nat_lt t (length w.places)) (can_turn w t s.turn) can in
          turned (ltb-true t (length w.places) parts.0) s.turn parts.1
          (ap (λ (b : Bool). if b then state_after_turn w t s.turn else w) can)
      either false cannot = subst (λ (x : State). IsCondvar (condvar_of x l))
          (sym (ap (λ (b : Bool). if b then state_after_turn w t s.turn else w) cannot)) condvar

-- ---------------------------------------------------------------- a call begins

module _ (w : State) (t l : ℕ) (inductive : IsInductive w) (idle : place_at w t ≡ Idle) (there : t
    < length w.places)
    (condvar : IsCondvar (condvar_of w l)) where
  unlisted : times t (condvar_of w l).waiters ≡ 0
  unlisted = queued_times t (queue_at w (2 * l)) ∙ inductive.stands.lines t l Main
      ∙ ap (λ p. stood_in (location_at p l).stands Main) idle

  not_inside_yet : IsInsideNot (condvar_of w l).inside t
  not_inside_yet = by_section (section_at w (key_of l Main)) refl
    where
      by_section : (o : Option ℕ) → section_at w (key_of l Main) ≡ o
          → IsInsideNot (inside_as o (λ u. (profile_at (place_at w u) l).stage)) t
      by_section None e = tt
      by_section (Some u) e = λ own.
          let in_it : (location_at (place_at w t) l).inside ≡ Some Main =
          (inductive.stands.sections t l Main).1
          (e ∙ ap Some own) in
          let out : (location_at (place_at w t) l).inside ≡ None = ap (λ p. (location_at p l).inside) idle in
          let never : ◌≡◌ {A = Option Line} None (Some Main) = sym out ∙ in_it in cc

  begun : (c : CondvarCall) → IsCondvar (condvar_of (put w t (Condvar l (condvar_first c))) l)
  begun (calls.Notify all) = subst IsCondvar
      (sym (same_condvar w (put w t (Condvar l (Look all))) l (refl, refl) refl says)) condvar
    where
      here : place_at (put w t (Condvar l (Look all))) t ≡ Condvar l (Look all)
      here = get_or-set_same w.places t (Condvar l (Look all)) Idle there

      says : (u : ℕ)
          → (stage_of (place_at (put w t (Condvar l (Look all))) u) l ≡ stage_of (place_at w u) l)
          × (names_of (place_at (put w t (Condvar l (Look all))) u) l ≡ names_of (place_at w u) l)
      says u = elim (cases_eq u t) [
        | inl e ↦ rw (e, here, idle, same l) (refl, refl)
        | inr ne ↦ let stays = get_or-set_other w.places t u (Condvar l (Look all)) Idle ne
            in (ap (λ p. stage_of p l) stays, ap (λ p. names_of p l) stays)
      ]
  begun (calls.Wait m timed) = subst IsCondvar (sym led) (condvar_deed_keeps (BeginsWait m) (condvar_of w l) t
      condvar (unlisted, not_inside_yet))
    where
      here : place_at (put w t (Condvar l (Wait m timed wait.Enter))) t ≡ Condvar l (Wait m timed wait.Enter)
      here = get_or-set_same w.places t (Condvar l (Wait m timed wait.Enter)) Idle there

      stages : (u : ℕ)
          → (profile_at (place_at (put w t (Condvar l (Wait m timed wait.Enter))) u) l).stage
          ≡ (profile_at (place_at w u) l).stage
      stages u = elim (cases_eq u t) [
        | inl e ↦ rw (e, here, idle, same l) refl
        | inr ne ↦ ap (λ p. (profile_at p l).stage) (get_or-set_other w.places t u
            (Condvar l (Wait m timed wait.Enter)) Idle ne)
      ]

      names : (u : ℕ)
          → (profile_at (place_at (put w t (Condvar l (Wait m timed wait.Enter))) u) l).names
          ≡ putting (λ k. (profile_at (place_at w k) l).names) t (Some m) u
      names u = elim (cases_eq u t) [
        | inl e ↦ rw (e, here, same l, same t) refl
        | inr ne ↦ ap (λ p. (profile_at p l).names) (get_or-set_other w.places t u
            (Condvar l (Wait m timed wait.Enter)) Idle ne)
            ∙ sym (put_other (λ k. (profile_at (place_at w k) l).names) t (Some m) u ne)
      ]

      led : condvar_of (put w t (Condvar l (Wait m timed wait.Enter))) l ≡ condvar_leads (BeginsWait m)
          (condvar_of w l) t
      led = λ i. record {
        shown = (condvar_of w l).shown;
        waiters = (condvar_of w l).waiters;
        inside = inside_as (section_at w (key_of l Main)) (λ u. stages u i);
        waits_with = λ u. names u i;
      }

-- ---------------------------------------------------------------- every step

is_or_not : (o : Option ℕ) (k : ℕ) → (o ≡ Some k) ⊎ (o ≢ Some k)
is_or_not None k = inr (λ e. cc)
is_or_not (Some j) k = elim (cases_eq j k) [ inl e ↦ inl (ap Some e) | inr ne ↦ inr (λ e. ne cc) ]

-- a thread that calls a condition variable is at a place of its calls
condvar_place : (w : State) → IsInductive w → (t l : ℕ) → (rules_in w l).sort ≡ locks.Condvar
    → called_lock (place_at w t) ≡ Some l
    → (at : CondvarPlace) × (place_at w t ≡ Condvar l at)
condvar_place w inductive t l sort own = by_place (place_at w t) refl (inductive.stands.calls t) own
  where
    by_place : (p : Place) → place_at w t ≡ p → FitsItsLock w p → called_lock p ≡ Some l
        → (at : CondvarPlace) × (place_at w t ≡ Condvar l at)
    by_place Idle is fits own = absurd cc
    by_place (Mutex k at) is fits own = absurd (let here : k ≡ l = cc in let both : locks.Mutex
        ≡ locks.Condvar = sym (ap (λ (r : Rules). r.sort) (mutex_rules (kind_at w k) fits))
        ∙ ap (λ j. (rules_in w j).sort) here ∙ sort in cc)
    by_place (RwLock k a c) is fits own = absurd (let here : k ≡ l = cc in let both : false ≡ true =
        sym (ap has_readers (ap (λ j. (rules_in w j).sort) here ∙ sort)) ∙ fits.0.0 in cc)
    by_place (Once k at) is fits own = absurd (let here : k ≡ l = cc in let both : locks.Once
        ≡ locks.Condvar = sym fits ∙ ap (λ j. (rules_in w j).sort) here ∙ sort in cc)
    by_place (Semaphore k at) is fits own = absurd (let here : k ≡ l = cc in let both : locks.Semaphore
        ≡ locks.Condvar = sym fits.0 ∙ ap (λ j. (rules_in w j).sort) here ∙ sort in cc)
    by_place (Condvar k at) is fits own = (at, is ∙ ap (λ j. Condvar j at) (let here : k ≡ l = cc in here))

pub after_condvars : (w : State) (s : Step) → IsWellFormed w → IsInductive w → AreCounted w → AreCondvars w
    → AreCondvars (after w s)
after_condvars w s shape inductive counted condvars l sort_then =
    by_lock (is_or_not (called_lock (place_at w s.thread)) l)
    (is_or_not (called_lock (place_at (after w s) s.thread)) l)
  where
    sort : (rules_in w l).sort ≡ locks.Condvar
    sort = sym (ap (λ x. (rules_of x).sort) (after_kinds w s l)) ∙ sort_then

    -- the thread has begun a call of it
    begins : (at : CondvarPlace) → place_at (after w s) s.thread ≡ Condvar l at
        → called_lock (place_at w s.thread) ≡ None
        → IsCondvar (condvar_of (after w s) l)
    begins at there_then none = either (is_possible w s) refl
      where
        idle : place_at w s.thread ≡ Idle
        idle = calls_none (place_at w s.thread) none

        by_call : s.thread < length w.places → (c : Call)
            → after w s ≡ put w s.thread (first_place (kind_at w (lock_in c)) c)
            → IsCondvar (condvar_of (after w s) l)
        by_call there c led = by_first c
            (sym (get_or-set_same w.places s.thread (first_place (kind_at w (lock_in c)) c) Idle there)
            ∙ sym (ap (λ (x : State). place_at x s.thread) led) ∙ there_then) led
          where
            by_first : (c : Call) → first_place (kind_at w (lock_in c)) c ≡ Condvar l at
                → after w s ≡ put w s.thread (first_place (kind_at w (lock_in c)) c)
                → IsCondvar (condvar_of (after w s) l)
            by_first (call.Mutex k x) e led = absurd cc
            by_first (call.RwLock k x) e led = absurd cc
            by_first (call.Once k x) e led = absurd cc
            by_first (call.Semaphore k x) e led = absurd cc
            by_first (call.Condvar k x) e led = let here : k ≡ l = cc in
                subst (λ (z : State). IsCondvar (condvar_of z l))
                (sym (led ∙ ap (λ j. put w s.thread (Condvar j (condvar_first x))) here))
                (begun w s.thread l inductive idle there (condvars l sort) x)

        turned_idle : s.thread < length w.places → (x : Turn) → can_turn w s.thread x ≡ true
            → after w s ≡ state_after_turn w s.thread x → IsCondvar (condvar_of (after w s) l)
        turned_idle there (turn.Begin c) can led = by_call there c led
        turned_idle there turn.Go can led =
            absurd (let no : can_do w (act_of (place_at w s.thread)) ≡ false =
            ap (λ p. can_do w (act_of p)) idle in cc)
        turned_idle there turn.Late can led =
            absurd (let no : is_free_under w (late_key (place_at w s.thread)) ≡ false =
            ap (λ p. is_free_under w (late_key p)) idle in cc)
        turned_idle there turn.Spin can led =
            absurd (let no : is_some (respins_from (place_at w s.thread)) ≡ false =
            ap (λ p. is_some (respins_from p)) idle in cc)
        turned_idle there turn.Ok can led = absurd (let runs =
            (both (runs_closure (act_of (place_at w s.thread))) _ can).0 in let none : runs_closure
            (act_of (place_at w s.thread)) ≡ false = ap (λ p. runs_closure (act_of p)) idle in cc)
        turned_idle there turn.Err can led =
            absurd (let runs = (both (runs_closure (act_of (place_at w s.thread))) _ can).0
            in let none : runs_closure (act_of (place_at w s.thread)) ≡ false =
            ap (λ p. runs_closure (act_of p)) idle in cc)

        either : (b : Bool) → is_possible w s ≡ b → IsCondvar (condvar_of (after w s) l)
        either true can = let parts = both (nat_lt s.thread (length w.places)) (can_turn w s.thread s.turn)
            can in
            turned_idle (ltb-true s.thread (length w.places) parts.0) s.turn parts.1
            (ap (λ (b : Bool). if b then state_after_turn w s.thread s.turn else w) can)
        either false cannot = subst (λ (x : State). IsCondvar (condvar_of x l))
            (sym (ap (λ (b : Bool). if b then state_after_turn w s.thread s.turn else w) cannot))
            (condvars l sort)

    by_lock : (called_lock (place_at w s.thread) ≡ Some l) ⊎ (called_lock (place_at w s.thread) ≢ Some l)
        → (called_lock (place_at (after w s) s.thread) ≡ Some l)
        ⊎ (called_lock (place_at (after w s) s.thread) ≢ Some l)
        → IsCondvar (condvar_of (after w s) l)
    by_lock (inl own) afterwards =
        let at = condvar_place w inductive s.thread l sort own in
        let fits : PlaceFits (length w.locks) (Condvar l at.0) = subst (PlaceFits (length w.locks)) at.1
        (shape.places s.thread) in
        own_condvar w s shape inductive counted condvars l at.0 at.1 fits.0 (condvars l sort)
    by_lock (inr other) (inl own) = elim (moved_on w s shape inductive counted condvars) [
      | inl stays ↦ absurd (elim stays [
        | inl same_lock ↦ other (sym same_lock ∙ own)
        | inr ended ↦
            let never : ◌≡◌ {A = Option ℕ} None (Some l) = sym ended ∙ own in cc
      ])
      | inr none ↦ let at = condvar_place (after w s) (after_inductive w s shape inductive counted condvars)
          s.thread l sort_then own in begins at.0 at.1 none
    ]
    by_lock (inr other) (inr other_then) =
        subst IsCondvar (sym (condvar_kept w s shape inductive counted condvars l sort other other_then))
        (condvars l sort)
