-- A run of a `Once` is on only while its thread is in the closure of its call.
use Rattle.lot_laws.proofs.Imports
use Imports.{moved_of, ◌==◌, ℕ, Bool, true, false, Option, Some, None, if◌then◌else◌, ◌≡◌, ◌≢◌, ◌⊎◌, inl, inr}
use Imports.{is_some, List, get_or-set_other, refl, sym, ◌∙◌, ap, subst, cases_eq, Step, Turn, Kind, Outcome}
use Imports.{Next, Reply, TakenBy, MovedTo, HandedBy, Woken, LockCase, LockState, OfOnce, Rules, left_after}
use Imports.{after_case, once_after, rights_of, phase_by, Phase, OnceCase, New, InProgress, Start, Finish, Fail}
use Imports.{Rest, TakeAll, Purpose, Enters, Releases, Converts, Bumps, CallsOnce, Awaits, Waits, Notifies}
use Imports.{AtLock, Begins, CallState, Closes, Does, Event, GoesOn, LocksState, MayDo, MayHappen, MayTurn}
use Imports.{Nothing, calls_after, is_closure, locks_after, rules_at, state_told, Moves, joined_by, OnceCall}
use Imports.{MutexPlace, mutex_next, GiveUpAt, LookAt, RunAt, Run, GiveUp, begins_run, course_of, closure_begun}
use Imports.{in_look, in_run, is_forced, next_look, next_run, is_late_asleep, in_give_up, next_give_up}
use Imports.{SemaphorePlace, semaphore_next, RwLockCallPlace, call_next, CondvarPlace, condvar_next, Place}
use Imports.{Idle, Mutex, RwLock, Once, Condvar, Semaphore, act_of, called_lock, respins_from, mutex_goes}
use Imports.{next_place, once_goes, rwlock_goes, condvar_goes, semaphore_goes, IsWellFormed, State, after}
use Imports.{opening, place_at, put, runs_closure, step_outcome, RunsClosure, call_at, call_state, lock_state}
use Imports.{locks_of, sleeps, AreCondvars, AreCounted, IsInductive, RunsInClosures}
use Rattle.std.proofs.Common.{eqb-true}
use Rattle.spec_locks.specs.declared.calls.Turn.TheVariants as turn
use Rattle.spec_locks.specs.declared.outcomes.Outcome.TheVariants as outcome
use Rattle.steps_base.specs.declared.acts.Next.TheVariants as next
use Rattle.steps_once.specs.declared.look.LookAt.TheVariants as look
use Rattle.steps_once.specs.declared.give_up.GiveUpAt.TheVariants as give_up
use Rattle.steps_once.specs.declared.run.RunAt.TheVariants as run
use Rattle.steps_once.specs.declared.places.OncePlace.TheVariants.{Look}
use Rattle.steps_once.specs.OnceSteps.{still_retries}
use Rattle.lot_laws.proofs.machine.Befallen.{others_keep_it}
use Rattle.lot_laws.proofs.calls.Closures.{call_runs_none, course_runs_none, mutex_runs_none, runs_one}
use Rattle.lot_laws.proofs.calls.Closures.{condvar_runs_none, semaphore_runs_none}
use Rattle.lot_laws.proofs.machine.Parts.{put_here, put_other, same}
use Rattle.lot_laws.proofs.calls.LockSteps.{IsTurn, after_step}
use Rattle.lot_laws.proofs.promises.PromisesKept.{opening_state}
use Rattle.lot_laws.proofs.promises.RowPromises.{Befalls}

-- ---------------------------------------------------------------- how far it has come, after an event

-- a run that is on after a case was on before, or this begins it
begun : (c : OnceCase) (s : LockState) (u t : ℕ) → (once_after c s u).phase ≡ InProgress t
    → (s.phase ≡ InProgress t) ⊎ ((forced : Bool) × (c ≡ Start forced) × (t ≡ u))
begun (Start forced) s u t e = inr (forced, refl, cc)
begun Finish s u t e = absurd cc
begun Fail s u t e = absurd cc
begun (Rest x forced) s u t e = inl e
begun TakeAll s u t e = inl e

abbrev Begun : LockState → ℕ → ℕ → LockCase → Type 0
Begun s u t case = (s.phase ≡ InProgress t) ⊎ ((forced : Bool) × (case ≡ OfOnce (Start forced)) × (t ≡ u))

by_case : (r : Rules) (case : LockCase) (s : LockState) (u t : ℕ) → (after_case r case s u).phase
    ≡ InProgress t
    → Begun s u t case
by_case r case s u t e = elim (phase_by r case s u) [
  | inl same ↦ inl (sym same ∙ e)
  | inr once ↦ subst (λ x. (after_case r x s u).phase ≡ InProgress t → Begun s u t x) (sym once.1)
      (λ f. told once.0 (begun once.0 s u t f)) e
]
  where
    told : (c : OnceCase) → (s.phase ≡ InProgress t) ⊎ ((forced : Bool) × (c ≡ Start forced) × (t ≡ u))
        → Begun s u t (OfOnce c)
    told c (inl on) = inl on
    told c (inr now) = inr (now.0, ap OfOnce now.1, now.2)

-- a notification's move changes none
moves_phase : (w : LocksState) (u c m : ℕ) (all owned : Bool) (number l : ℕ)
    → (locks_after w u (Moves c m all owned number) l).phase ≡ (w.locks l).phase
moves_phase w u c m all owned number l = either (l == m) (l == c) refl refl
  where
    either : (at_mutex at_condvar : Bool) → (l == m) ≡ at_mutex → (l == c) ≡ at_condvar
        → ◌≡◌ {A = Phase}
        (if at_mutex then joined_by owned u (moved_of all (w.locks c).queue) (w.locks m) else if at_condvar
        then left_after all (w.locks c) else w.locks l).phase
        (w.locks l).phase
    either true there e f = ap (λ k. (w.locks k).phase) (sym (eqb-true l m e))
    either false true e f = ap (λ k. (w.locks k).phase) (sym (eqb-true l c f))
    either false false e f = refl

-- A `Once` that is in progress after an event is run by the thread that the event says.
by_event : (w : LocksState) (u : ℕ) (event : Event) (l t : ℕ) → (locks_after w u event l).phase ≡ InProgress t
    → ((w.locks l).phase ≡ InProgress t) ⊎ ((forced : Bool) × (event ≡ AtLock l (OfOnce (Start forced)))
    × (t ≡ u))
by_event w u Nothing l t e = inl e
by_event w u (Moves c m all owned number) l t e = inl (sym (moves_phase w u c m all owned number l) ∙ e)
by_event w u (AtLock k case) l t e = elim (cases_eq l k) [
  | inl here ↦ subst (λ n. (locks_after w u (AtLock n case) l).phase ≡ InProgress t
      → ((w.locks l).phase ≡ InProgress t)
      ⊎ ((forced : Bool) × (AtLock n case ≡ AtLock l (OfOnce (Start forced))) × (t ≡ u)))
      here (λ f. at_it (by_case (rules_at w l) case (w.locks l) u t
      (sym (ap (λ (s : LockState). s.phase)
      (put_here w.locks l (after_case (rules_at w l) case (w.locks l) u))) ∙ f))) e
  | inr ne ↦ inl (sym (ap (λ (s : LockState). s.phase) (put_other w.locks k
      (after_case (rules_at w k) case (w.locks k) u) l ne)) ∙ e)
]
  where
    at_it : Begun (w.locks l) u t case
        → ((w.locks l).phase ≡ InProgress t)
        ⊎ ((forced : Bool) × (AtLock l case ≡ AtLock l (OfOnce (Start forced))) × (t ≡ u))
    at_it (inl on) = inl on
    at_it (inr now) = inr (now.0, ap (AtLock l) now.1, now.2)

-- ---------------------------------------------------------------- a thread in its closure stays there

look_runs_none : (l : ℕ) (c : OnceCall) (again : Bool) (at : LookAt)
    → runs_closure (act_of (Once l (Look c again at))) ≡ false
look_runs_none l c again (look.Decide seen) = course_runs_none l seen (course_of c seen)
look_runs_none l c again at = refl

give_up_runs_none : (l : ℕ) (again : Bool) (at : GiveUpAt) → runs_closure (act_of (Once l (GiveUp again at)))
    ≡ false
give_up_runs_none l again give_up.Remove = refl
give_up_runs_none l again give_up.Clear = refl
give_up_runs_none l again give_up.Leave = refl

-- the lock of whose call a place is in the closure
abbrev closure_lock : Place → Option ℕ
closure_lock p = if runs_closure (act_of p) then called_lock p else None

outside : (p : Place) → runs_closure (act_of p) ≡ false → closure_lock p ≡ None
outside p e = ap (λ b. if b then called_lock p else None) e

-- no run begins by what befalls a thread
begins_never : (c : OnceCall) (at : LookAt) (r : Reply) → Befalls r → begins_run c at r ≡ false
begins_never c (look.Decide x) (Woken n) h = refl
begins_never c (look.Decide x) (TakenBy t) h = refl
begins_never c (look.Decide x) (MovedTo key) h = refl
begins_never c (look.Decide x) (HandedBy t alone) h = refl
begins_never c (look.Decide x) r h = absurd h
begins_never c at r h = refl

stays_running : (at : RunAt) (r : Reply) → Befalls r → next_run at r ≡ next.At at
stays_running (run.Closure poisoned) (Woken n) h = refl
stays_running (run.Closure poisoned) (TakenBy t) h = refl
stays_running (run.Closure poisoned) (MovedTo key) h = refl
stays_running (run.Closure poisoned) (HandedBy t alone) h = refl
stays_running (run.Close succeeded) (Woken n) h = refl
stays_running (run.Close succeeded) (TakenBy t) h = refl
stays_running (run.Close succeeded) (MovedTo key) h = refl
stays_running (run.Close succeeded) (HandedBy t alone) h = refl
stays_running (run.Enter succeeded) (Woken n) h = refl
stays_running (run.Enter succeeded) (TakenBy t) h = refl
stays_running (run.Enter succeeded) (MovedTo key) h = refl
stays_running (run.Enter succeeded) (HandedBy t alone) h = refl
stays_running (run.Take succeeded) (Woken n) h = refl
stays_running (run.Take succeeded) (TakenBy t) h = refl
stays_running (run.Take succeeded) (MovedTo key) h = refl
stays_running (run.Take succeeded) (HandedBy t alone) h = refl
stays_running (run.Leave succeeded any) (Woken n) h = refl
stays_running (run.Leave succeeded any) (TakenBy t) h = refl
stays_running (run.Leave succeeded any) (MovedTo key) h = refl
stays_running (run.Leave succeeded any) (HandedBy t alone) h = refl
stays_running at r h = absurd h

unmoved : (p : Place) (r : Reply) → Befalls r → closure_lock (next_place p r) ≡ closure_lock p
unmoved Idle r h = refl
unmoved (Mutex l at) r h = by_next (mutex_next at r) ∙ sym (outside (Mutex l at) (mutex_runs_none l at))
  where
    by_next : (n : Next MutexPlace) → closure_lock (mutex_goes l n) ≡ None
    by_next (next.At q) = outside (Mutex l q) (mutex_runs_none l q)
    by_next (next.End answer) = refl
unmoved (RwLock l a c) r h = by_next (call_next a c r) ∙ sym (outside (RwLock l a c) (call_runs_none l a c))
  where
    by_next : (n : Next RwLockCallPlace) → closure_lock (rwlock_goes l a n) ≡ None
    by_next (next.At q) = outside (RwLock l a q) (call_runs_none l a q)
    by_next (next.End answer) = refl
unmoved (Condvar l at) r h = by_next (condvar_next at r)
    ∙ sym (outside (Condvar l at) (condvar_runs_none l at))
  where
    by_next : (n : Next CondvarPlace) → closure_lock (condvar_goes l n) ≡ None
    by_next (next.At q) = outside (Condvar l q) (condvar_runs_none l q)
    by_next (next.End answer) = refl
unmoved (Semaphore l at) r h = by_next (semaphore_next at r)
    ∙ sym (outside (Semaphore l at) (semaphore_runs_none l at))
  where
    by_next : (n : Next SemaphorePlace) → closure_lock (semaphore_goes l n) ≡ None
    by_next (next.At q) = outside (Semaphore l q) (semaphore_runs_none l q)
    by_next (next.End answer) = refl
unmoved (Once l (Run forced at)) r h = ap (λ n. closure_lock (once_goes l (in_run forced n)))
    (stays_running at r h)
unmoved (Once l (GiveUp again at)) r h = by_next (next_give_up at r)
    ∙ sym (outside (Once l (GiveUp again at)) (give_up_runs_none l again at))
  where
    by_next : (n : Next GiveUpAt) → closure_lock (once_goes l (in_give_up again n)) ≡ None
    by_next (next.At q) = outside (Once l (GiveUp again q)) (give_up_runs_none l again q)
    by_next (next.End answer) = refl
unmoved (Once l (Look c again at)) r h = looks (begins_run c at r) (is_late_asleep c at r)
    (begins_never c at r h) ∙ sym (outside (Once l (Look c again at)) (look_runs_none l c again at))
  where
    by_next : (n : Next LookAt) → closure_lock (once_goes l (in_look c (still_retries again r) n)) ≡ None
    by_next (next.At q) = outside (Once l (Look c (still_retries again r) q))
        (look_runs_none l c (still_retries again r) q)
    by_next (next.End answer) = refl

    looks : (b late : Bool) → b ≡ false
        → closure_lock
        (once_goes l (if b then next.At (Run (is_forced c) (closure_begun r)) else if late then next.At
        (GiveUp again give_up.Remove) else in_look c (still_retries again r) (next_look c at r)))
        ≡ None
    looks true late e = absurd cc
    looks false true e = refl
    looks false false e = by_next (next_look c at r)

-- for every act of another thread
stays_inside : (w : State) (s : Step) (t l : ℕ) → t ≢ s.thread → RunsClosure w t l
    → RunsClosure (after w s) t l
stays_inside w s t l ne h = inside (place_at (after w s) t) (others_keep_it closure_lock unmoved w s t ne
    ∙ ap (λ b. if b then called_lock (place_at w t) else None) h.1 ∙ h.0)
  where
    inside : (p : Place) → closure_lock p ≡ Some l → (called_lock p ≡ Some l)
        × (runs_closure (act_of p) ≡ true)
    inside p e = either (runs_closure (act_of p)) refl e
      where
        either : (b : Bool) → runs_closure (act_of p) ≡ b → (if b then called_lock p else None) ≡ Some l
            → (called_lock p ≡ Some l) × (runs_closure (act_of p) ≡ true)
        either true on own = (own, on)
        either false on own = absurd cc

-- ---------------------------------------------------------------- the call of the thread

-- a call that runs a closure
abbrev IsCallOnce : Option Purpose → ℕ → Type 0
IsCallOnce purpose l = (forced : Bool) × (purpose ≡ Some (CallsOnce l forced))

calls_once : (w : State) (t l : ℕ) → RunsClosure w t l → IsCallOnce (call_at w t).purpose l
calls_once w t l h =
    let one = runs_one (place_at w t) h.1 in
    let same_lock : Some one.lock ≡ Some l = sym (ap called_lock one.is) ∙ h.0 in
    let here : one.lock ≡ l = cc in (
      one.forced,
      ap (λ p. (call_state p (λ k. rights_of (lock_state w k) t)).purpose) one.is
          ∙ ap (λ n. Some (CallsOnce n one.forced)) here,
    )

runs_its_own : (w : State) (t l : ℕ) → runs_closure (act_of (place_at w t)) ≡ true
    → IsCallOnce (call_at w t).purpose l
    → RunsClosure w t l
runs_its_own w t l inside call =
    let one = runs_one (place_at w t) inside in
    let own : Some (CallsOnce one.lock one.forced) ≡ Some (CallsOnce l call.0) =
    sym (ap (λ p. (call_state p (λ k. rights_of (lock_state w k) t)).purpose) one.is) ∙ call.1 in
    let here : one.lock ≡ l = cc in
    (ap called_lock one.is ∙ ap Some here, inside)

-- a call does to no lock but its own what a `Once` is for
once_only : (w : LocksState) (t l : ℕ) (c : OnceCase) (purpose : Option Purpose) (m : ℕ)
    → MayDo w t l (OfOnce c) purpose
    → IsCallOnce purpose m → l ≡ m
once_only w t l c None m may call = absurd may
once_only w t l c (Some (CallsOnce k forced)) m may call = let own : Some (CallsOnce k forced)
    ≡ Some (CallsOnce m call.0) = call.1 in let same : k ≡ m = cc in may.0.0 ∙ same
once_only w t l c (Some purpose) m may call = absurd (let own = call.1 in cc)

starts_only : (w : LocksState) (t l : ℕ) (forced : Bool) (purpose : Option Purpose)
    → MayDo w t l (OfOnce (Start forced)) purpose
    → IsCallOnce purpose l
starts_only w t l forced None may = absurd may
starts_only w t l forced (Some (CallsOnce k own)) may = (own, ap (λ n. Some (CallsOnce n own)) (sym may.0.0))
starts_only w t l forced (Some (Awaits k own timed)) may = absurd (may.0.1)
starts_only w t l forced (Some (Enters k x how)) may = absurd (may.0.1)
starts_only w t l forced (Some (Releases k x fair)) may = absurd (may.0.1)
starts_only w t l forced (Some (Converts k x y how)) may = absurd (may.0.1)
starts_only w t l forced (Some (Waits k m timed)) may =
    absurd (elim (may.0) [ inl there ↦ there.1 | inr beside ↦ elim beside.1 [ inl a ↦ a | inr b ↦ b.1 ] ])
starts_only w t l forced (Some (Notifies k all)) may =
    absurd (elim (may.0) [ inl there ↦ there.1 | inr beside ↦ beside ])
starts_only w t l forced (Some (Bumps k x)) may =
    absurd (elim (may.0.1) [ inl gives ↦ gives | inr enters ↦ enters.1 ])

-- ---------------------------------------------------------------- a step

module _ (w : State) (s : Step) (o : Outcome) (step : IsTurn (locks_of w) s o (locks_of (after w s)))
    (running : RunsInClosures w) where
  abbrev v : State
  v = after w s

  abbrev u : ℕ
  u = s.thread

  -- a run that was on before
  went_on : (t l : ℕ) → (lock_state w l).phase ≡ InProgress t → (RunsClosure w u l → ⊥) → RunsClosure v t l
  went_on t l on other = elim (cases_eq t u) [
    | inl own ↦ absurd (other (subst (λ n. RunsClosure w n l) own (running t l on)))
    | inr ne ↦ stays_inside w s t l ne (running t l on)
  ]

  -- one that begins
  starts : (l : ℕ) (forced : Bool) (g : GoesOn (locks_of w) u o (locks_of v))
      → g.event ≡ AtLock l (OfOnce (Start forced))
      → RunsClosure v u l
  starts l forced g is = runs_its_own v u l inside
      (by_outcome o told (ap (λ (c : CallState). c.purpose) (g.calls u)))
    where
      told : o ≡ outcome.Closure (state_told (lock_state w l).phase)
      told = subst (λ e. Begins (locks_of w) e o) is g.begins

      inside : runs_closure (act_of (place_at v u)) ≡ true
      inside = sym (step.0.runs (λ none. let f : outcome.Closure
          (state_told (lock_state w l).phase) ≡ outcome.NotNow = sym told ∙ none in cc))
          ∙ ap is_closure told

      may : MayDo (locks_of w) u l (OfOnce (Start forced)) (call_at w u).purpose
      may = subst (λ e. MayHappen (locks_of w) u e) is g.may

      by_outcome : (x : Outcome) → x ≡ outcome.Closure (state_told (lock_state w l).phase)
          → (call_at v u).purpose ≡ (calls_after (locks_of w) u g.event o u).purpose
          → IsCallOnce (call_at v u).purpose l
      by_outcome x e same_call = subst (λ p. IsCallOnce p l) (sym (same_call ∙ kept))
          (starts_only (locks_of w) u l forced (call_at w u).purpose may)
        where
          kept : (calls_after (locks_of w) u g.event o u).purpose ≡ (call_at w u).purpose
          kept = rw (is, told) (ap (λ b. (if b then record (call_at w u) {
            retries = None;
            released = true;
          } else call_at w u).purpose) (same u))

  goes : (g : GoesOn (locks_of w) u o (locks_of v)) → ((l : ℕ) → RunsClosure w u l → (lock_state v l).phase
      ≢ InProgress u)
      → RunsInClosures v
  goes g over t l e = elim (by_event (locks_of w) u g.event l t
      (sym (ap (λ (x : LockState). x.phase) (g.locks l)) ∙ e)) [
        | inl on ↦ elim (cases_eq t u) [
          | inl own ↦ absurd (over l (subst (λ n. RunsClosure w n l) own (running t l on)) (e
              ∙ ap InProgress own))
          | inr ne ↦ stays_inside w s t l ne (running t l on)
        ]
        | inr start ↦ subst (λ n. RunsClosure v n l) (sym start.2) (starts l start.0 g start.1)
      ]

  -- a run that its closure has ended is on no more
  ends : (c : OnceCase) → ((x : LockState) → (once_after c x u).phase ≢ InProgress u)
      → Closes (locks_of w) u c o (locks_of v)
      → (l : ℕ) → RunsClosure w u l → (lock_state v l).phase ≢ InProgress u
  ends c over closes l h e = over (lock_state w l) (sym ended ∙ e)
    where
      here : closes.lock ≡ l
      here = once_only (locks_of w) u closes.lock c (call_at w u).purpose l
          (subst (λ x. MayHappen (locks_of w) u x) closes.ends closes.goes.may) (calls_once w u l h)

      ended : (lock_state v l).phase ≡ (once_after c (lock_state w l) u).phase
      ended = ap (λ (x : LockState). x.phase) (closes.goes.locks l)
          ∙ ap (λ x. (locks_after (locks_of w) u x l).phase) (closes.ends ∙ ap (λ n. AtLock n (OfOnce c))
          here)
          ∙ ap (λ (x : LockState). x.phase) (put_here (lock_state w) l (once_after c (lock_state w l) u))

  by_turn : (x : Turn) → MayTurn (locks_of w) u x → Does (locks_of w) u x o (locks_of v) → RunsInClosures v
  by_turn (turn.Begin c) may does t l e =
      went_on t l (sym (ap (λ (x : LockState). x.phase) (does.locks l)) ∙ e)
      (λ h. let call = calls_once w u l h in let f : None ≡ Some (CallsOnce l call.0) = sym may.idle ∙ call.1
      in cc)
  by_turn turn.Late may does t l e =
      went_on t l (sym (ap (λ (x : LockState). x.phase) (does.locks l)) ∙ e)
      (λ h. let awake : false ≡ true = sym (ap (λ p. sleeps (act_of p)) (runs_one (place_at w u) h.1).is)
      ∙ may.asleep in cc)
  by_turn turn.Go may does t l e = goes does (λ l h e. let f : true ≡ false = sym h.1
      ∙ may.outside in cc) t l e
  by_turn turn.Spin may does t l e = goes does.goes (λ l h e. let f : false ≡ true =
      sym (ap (λ p. is_some (respins_from p)) (runs_one (place_at w u) h.1).is) ∙ may in cc) t l e
  by_turn turn.Ok may does t l e = goes does.goes (ends Finish (λ x e. cc) does) t l e
  by_turn turn.Err may does t l e = goes does.goes (ends Fail (λ x e. cc) does) t l e

  unchanged : locks_of v ≡ locks_of w → RunsInClosures v
  unchanged same_locks t l e =
      let h = running t l (sym (ap (λ (x : LocksState). (x.locks l).phase) same_locks) ∙ e) in
      runs_its_own v t l (ap (λ (x : LocksState). (x.stances t).in_closure) same_locks ∙ h.1)
      (subst (λ p. IsCallOnce p l) (sym (ap (λ (x : LocksState). (x.calls t).purpose) same_locks))
      (calls_once w t l h))

  runs_on : RunsInClosures v
  runs_on = elim step.1 [
    | inl now ↦ by_turn s.turn now.0 now.1
    | inr refused ↦ unchanged refused.1.1
  ]

pub running_after : (w : State) (s : Step) → IsWellFormed w → IsInductive w → AreCounted w → AreCondvars w
    → RunsInClosures w
    → RunsInClosures (after w s)
running_after w s shape inductive counted condvars running =
    runs_on w s (step_outcome w s) (after_step w s shape inductive counted condvars) running

-- a thread that stands elsewhere in its call, and in no closure, has no run on
pub put_running : (w : State) (t : ℕ) (q : Place) → runs_closure (act_of (place_at w t)) ≡ false
    → RunsInClosures w
    → RunsInClosures (put w t q)
put_running w t q outside_now running u l e = elim (cases_eq u t) [
  | inl own ↦ absurd (let f : true ≡ false = sym (running u l e).1
      ∙ ap (λ n. runs_closure (act_of (place_at w n))) own ∙ outside_now in cc)
  | inr ne ↦ subst (λ p. (called_lock p ≡ Some l) × (runs_closure (act_of p) ≡ true))
      (sym (get_or-set_other w.places t u q Idle ne)) (running u l e)
]

-- ---------------------------------------------------------------- the opening state

-- no run is on
pub opening_running : (kinds : List Kind) (threads : ℕ) → RunsInClosures (opening kinds threads)
opening_running kinds threads t l e = absurd (let none : New ≡ InProgress t =
    sym (ap (λ (x : LockState). x.phase) (opening_state kinds threads l)) ∙ e in cc)
