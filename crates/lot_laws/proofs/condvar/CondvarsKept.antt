-- Each step keeps what holds of condition variables: those that its call is not of are as they were.
use Rattle.lot_laws.proofs.Imports
use Imports.{ℕ, Bool, true, false, Option, Some, None, if◌then◌else◌, ◌==◌, ◌≡◌, ◌≢◌, ◌⊎◌, inl, inr, refl, sym}
use Imports.{◌∙◌, ap, subst, cases_eq, eqb-true, Step, Turn, Outcome, Location, location_by, CondvarPlace, Wait}
use Imports.{Look, Notify, condvar_profile, condvar_row, mutex_side, mutex_beside, Place, Idle, Mutex, RwLock}
use Imports.{Once, Condvar, Semaphore, is_lock, called_lock, profile, moved_of, LockCase, LockState, Rules}
use Imports.{SeeOwner, Wake, after_case, left_after, Purpose, Enters, Releases, Converts, Bumps, CallsOnce}
use Imports.{Awaits, Waits, Notifies, IsMadeOf, NotifiesAtMutex, CondvarMemory, lock_for, rules_of, AtLock}
use Imports.{CallState}
use Imports.{Event, GoesOn, LocksState, MayDo, MayHappen, MayTurn, Does, Moves, Nothing, SectionChanges}
use Imports.{going_on, joined_by, locks_after, rules_at, unless_ended, woken, Main, IsWellFormed, State, after}
use Imports.{kind_at, place_at, section_at, step_outcome, KnowsRights, call_at, call_state, lock_state}
use Imports.{locks_of, location_at, AreCondvars, AreCounted, FitsCondvar, FitsItsLock, IsInductive, condvar_of}
use Imports.{key_of, rules_in}
use Rattle.spec_locks.specs.declared.calls.Turn.TheVariants as turn
use Rattle.spec_locks.specs.declared.outcomes.Outcome.TheVariants as outcome
use Rattle.steps_base.specs.Locations.{nowhere}
use Rattle.spec_locks.specs.Locks as locks
use Rattle.lot_laws.proofs.machine.Befallen.{others_keep_it}
use Rattle.lot_laws.proofs.calls.CallEvents.{rights}
use Rattle.lot_laws.proofs.condvar.CondvarRows.{names_of, names_unmoved, stage_of, stage_unmoved}
use Rattle.lot_laws.proofs.machine.Parts.{IsSingle, put_here, same, single_location}
use Rattle.lot_laws.proofs.machine.KindsStay.{after_kinds}
use Rattle.lot_laws.proofs.calls.LockSteps.{IsTurn, after_step}
use Rattle.lot_laws.proofs.promises.PlacePromises.{row_promises}
use Rattle.lot_laws.proofs.calls.SingleCalls.{call_here}
use Rattle.lot_laws.proofs.calls.Purposes.{purpose_stays, woken_purpose}
use Rattle.lot_laws.proofs.condvar.SameCondvars.{Kept, same_condvar}
use Rattle.lot_laws.proofs.sites.TurnsKept.{after_inductive}
use Rattle.lot_laws.proofs.condvar.WaitersAside.{plain_sort}

-- ---------------------------------------------------------------- which lock a call is of

abbrev of_purpose : Option Purpose → Option ℕ
of_purpose None = None
of_purpose (Some q) = Some (lock_for q)

module _ (w : State) (inductive : IsInductive w) (t : ℕ) where
  fits_at : (l : ℕ) (at : CondvarPlace) → place_at w t ≡ Condvar l at → FitsCondvar w l at
  fits_at l at is = subst (FitsItsLock w) is (inductive.stands.calls t)

  -- the lock of a call is that of the thread's place
  pub call_lock : of_purpose (call_at w t).purpose ≡ called_lock (place_at w t)
  call_lock = by_place (place_at w t) refl
    where
      here : (l : ℕ) (p : Place) → place_at w t ≡ p → IsSingle p → called_lock p ≡ Some l
          → of_purpose (call_at w t).purpose ≡ Some l
      here l p is single own = ap (λ (c : CallState). of_purpose c.purpose)
          (call_here (place_at w t) l (subst IsSingle (sym is) single) (ap called_lock is ∙ own) (rights w t))
          ∙ ap Some (row_promises w t inductive l (subst IsSingle (sym is) single) (ap called_lock is
          ∙ own)).own

      by_place : (p : Place) → place_at w t ≡ p → of_purpose (call_at w t).purpose ≡ called_lock p
      by_place Idle is = ap (λ q. of_purpose (call_state q (rights w t)).purpose) is
      by_place (Mutex l at) is = here l (Mutex l at) is tt refl
      by_place (RwLock l a c) is = here l (RwLock l a c) is tt refl
      by_place (Once l at) is = here l (Once l at) is tt refl
      by_place (Semaphore l at) is = here l (Semaphore l at) is tt refl
      by_place (Condvar l (Wait m timed at)) is = ap (λ q. of_purpose (call_state q (rights w t)).purpose) is
      by_place (Condvar l (Look all)) is = ap (λ q. of_purpose (call_state q (rights w t)).purpose) is
      by_place (Condvar l (Notify all m at)) is = ap (λ q. of_purpose (call_state q (rights w t)).purpose) is

  -- Each call is for rights that its lock knows.
  pub knows : KnowsRights (λ l. (rules_in w l).sort) (call_at w t).purpose
  knows = by_place (place_at w t) refl
    where
      Knowing : CallState → Type 0
      Knowing c = KnowsRights (λ l. (rules_in w l).sort) c.purpose

      here : (l : ℕ) (p : Place) → place_at w t ≡ p → IsSingle p → called_lock p ≡ Some l
          → Knowing (call_at w t)
      here l p is single own = subst Knowing
          (sym (call_here (place_at w t) l (subst IsSingle (sym is) single) (ap called_lock is ∙ own)
          (rights w t))) ((row_promises w t inductive l (subst IsSingle (sym is) single) (ap called_lock is
          ∙ own)).known (λ l. (rules_in w l).sort) refl)

      by_place : (p : Place) → place_at w t ≡ p → Knowing (call_at w t)
      by_place Idle is = subst (λ q. Knowing (call_state q (rights w t))) (sym is) tt
      by_place (Mutex l at) is = here l (Mutex l at) is tt refl
      by_place (RwLock l a c) is = here l (RwLock l a c) is tt refl
      by_place (Once l at) is = here l (Once l at) is tt refl
      by_place (Semaphore l at) is = here l (Semaphore l at) is tt refl
      by_place (Condvar l (Wait m timed at)) is = subst (λ q. Knowing (call_state q (rights w t))) (sym is) (
        (fits_at l (Wait m timed at) is).sort,
        plain_sort (kind_at w m)
            ((fits_at l (Wait m timed at) is).mutex m refl),
      )
      by_place (Condvar l (Look all)) is = subst (λ q. Knowing (call_state q (rights w t))) (sym is)
          (fits_at l (Look all) is).sort
      by_place (Condvar l (Notify all m at)) is = subst (λ q. Knowing (call_state q (rights w t))) (sym is)
          (fits_at l (Notify all m at) is).sort

  -- at a condition variable that its call is not of, it is not inside, about to do nothing, and names no
  -- mutex
  module _ (k : ℕ) (sort : (rules_in w k).sort ≡ locks.Condvar) (other : called_lock (place_at w t) ≢ Some k)
    where
      other_lock : (l : ℕ) → called_lock (place_at w t) ≡ Some l → (l == k) ≡ false
      other_lock l own = either (l == k) refl
        where
          either : (b : Bool) → (l == k) ≡ b → b ≡ false
          either false f = refl
          either true f = absurd (other (own ∙ ap Some (eqb-true l k f)))

      pub not_inside : (location_at (place_at w t) k).inside ≡ None
      not_inside = by_place (place_at w t) refl
        where
          single : (l : ℕ) (p : Place) → place_at w t ≡ p → IsSingle p → called_lock p ≡ Some l
              → (location_at p k).inside ≡ None
          single l p is one own = ap (λ (x : Location). x.inside) (single_location p k one)
              ∙ ap (λ o. (if is_lock k o then location_by (profile p) else nowhere).inside) own
              ∙ ap (λ (b : Bool). (if b then location_by (profile p) else nowhere).inside)
              (other_lock l (ap called_lock is ∙ own))

          beside : (at : CondvarPlace) (o : Option ℕ) → ((m : ℕ) → o ≡ Some m → (rules_in w m).sort
              ≡ locks.Mutex)
              → (if is_lock k o then location_by (mutex_side at) else nowhere).inside ≡ None
          beside at None plain = refl
          beside at (Some m) plain = either (m == k) refl
            where
              either : (b : Bool) → (m == k) ≡ b → (if b then location_by (mutex_side at) else nowhere).inside
                  ≡ None
              either false f = refl
              either true f = absurd (let both : locks.Mutex ≡ locks.Condvar = sym (plain m refl)
                  ∙ ap (λ j. (rules_in w j).sort) (eqb-true m k f) ∙ sort in cc)

          by_place : (p : Place) → place_at w t ≡ p → (location_at p k).inside ≡ None
          by_place Idle is = refl
          by_place (Mutex l at) is = single l (Mutex l at) is tt refl
          by_place (RwLock l a c) is = single l (RwLock l a c) is tt refl
          by_place (Once l at) is = single l (Once l at) is tt refl
          by_place (Semaphore l at) is = single l (Semaphore l at) is tt refl
          by_place (Condvar l at) is =
              ap (λ (b : Bool). (if b then location_by (condvar_profile at) else if is_lock k
              (mutex_beside at)
              then location_by (mutex_side at) else nowhere).inside) (other_lock l (ap called_lock is))
              ∙ beside at (mutex_beside at) (λ m e. plain_sort (kind_at w m) ((fits_at l at is).mutex m e))

      pub says_nothing : (stage_of (place_at w t) k ≡ None) × (names_of (place_at w t) k ≡ None)
      says_nothing = by_place (place_at w t) refl
        where
          by_place : (p : Place) → place_at w t ≡ p → (stage_of p k ≡ None) × (names_of p k ≡ None)
          by_place Idle is = (refl, refl)
          by_place (Mutex l at) is = (refl, refl)
          by_place (RwLock l a c) is = (refl, refl)
          by_place (Once l at) is = (refl, refl)
          by_place (Semaphore l at) is = (refl, refl)
          by_place (Condvar l at) is = let out = other_lock l (ap called_lock is) in (
            ap (λ (b : Bool). if b then (condvar_row at).stage else None) out,
            ap (λ (b : Bool). if b then (condvar_row at).waits_with else None) out,
          )

-- ---------------------------------------------------------------- an event of another lock

abbrev KeepsIt : LockCase → Type 0
KeepsIt case = (r : Rules) (s : LockState) (t : ℕ) → Kept s (after_case r case s t)

module _ (w : LocksState) (t k : ℕ) (sort : (rules_at w k).sort ≡ locks.Condvar) where
  abbrev Elsewhere : ℕ → LockCase → Type 0
  Elsewhere j case = (j ≢ k) ⊎ KeepsIt case

  no_mutex : (m : ℕ) → (rules_at w m).sort ≡ locks.Mutex → m ≢ k
  no_mutex m mutex e = let both : locks.Mutex ≡ locks.Condvar = sym mutex ∙ ap (λ j. (rules_at w j).sort) e
      ∙ sort in cc

  apart : (l j : ℕ) → Some l ≢ Some k → j ≡ l → j ≢ k
  apart l j other here e = other (ap Some (sym here ∙ e))

  by_purpose : (q : Purpose) (g : Option ℕ) (r : Bool) (rc : CondvarMemory) (j : ℕ) (case : LockCase)
      → Some (lock_for q) ≢ Some k
      → KnowsRights (λ l. (rules_at w l).sort) (Some q) → IsMadeOf q g r rc j case → Elsewhere j case
  by_purpose (Enters l x how) g r rc j case other known made = inl (apart l j other made.0)
  by_purpose (Releases l x fair) g r rc j case other known made = inl (apart l j other made.0)
  by_purpose (Converts l x y how) g r rc j case other known made = inl (apart l j other made.0)
  by_purpose (Bumps l x) g r rc j case other known made = inl (apart l j other made.0)
  by_purpose (CallsOnce l forced) g r rc j case other known made = inl (apart l j other made.0)
  by_purpose (Awaits l forced timed) g r rc j case other known made = inl (apart l j other made.0)
  by_purpose (Waits l m timed) g r rc j case other known made = elim made [
    | inl there ↦ inl (apart l j other there.0)
    | inr beside ↦ inl (λ e. no_mutex m known.1 (sym beside.0 ∙ e))
  ]
  by_purpose (Notifies l all) g r rc j case other known made = elim made [
    | inl there ↦ inl (apart l j other there.0)
    | inr beside ↦ inr (sees case beside)
  ]
    where
      sees : (case : LockCase) → NotifiesAtMutex rc j case → KeepsIt case
      sees (SeeOwner owned) h = λ r s t. (refl, refl)
      sees Wake h = λ r s t. (refl, refl)
      sees case h = absurd h

  untouched : (e : Event) → MayHappen w t e → KnowsRights (λ l. (rules_at w l).sort) (w.calls t).purpose
      → of_purpose (w.calls t).purpose ≢ Some k → Kept (w.locks k) (locks_after w t e k)
  untouched Nothing may known other = (refl, refl)
  untouched (AtLock j case) may known other = by_call (w.calls t).purpose may known other
    where
      here : (b : Bool) → (k == j) ≡ b → Elsewhere j case
          → Kept (w.locks k) (if b then after_case (rules_at w j) case (w.locks j) t else w.locks k)
      here false e h = (refl, refl)
      here true e (inl ne) = absurd (ne (sym (eqb-true k j e)))
      here true e (inr keeps) = subst (λ i. Kept (w.locks i) (after_case (rules_at w j) case (w.locks j) t))
          (sym (eqb-true k j e)) (keeps (rules_at w j) (w.locks j) t)

      by_call : (o : Option Purpose) → MayDo w t j case o → KnowsRights (λ l. (rules_at w l).sort) o
          → of_purpose o ≢ Some k
          → Kept (w.locks k) (locks_after w t (AtLock j case) k)
      by_call None may known other = absurd may
      by_call (Some q) may known other = here (k == j) refl (by_purpose q _ _ _ j case other known may.0)
  untouched (Moves c m all owned number) may known other = here (k == m) (k == c) refl refl
    where
      here : (at_mutex at_condvar : Bool) → (k == m) ≡ at_mutex → (k == c) ≡ at_condvar
          → Kept (w.locks k)
          (if at_mutex then joined_by owned t (moved_of all (w.locks c).queue) (w.locks m) else if at_condvar
          then left_after all (w.locks c) else w.locks k)
      here true there e f = absurd (no_mutex m may.sorts.1 (sym (eqb-true k m e)))
      here false true e f = absurd (other (ap of_purpose may.notifies ∙ ap Some (sym (eqb-true k c f))))
      here false false e f = (refl, refl)

-- ---------------------------------------------------------------- a step

module _ (w : State) (s : Step) (shape : IsWellFormed w) (inductive : IsInductive w) (counted : AreCounted w)
    (condvars : AreCondvars w) where
  abbrev v : State
  v = after w s

  abbrev t : ℕ
  t = s.thread

  inductive_then : IsInductive v
  inductive_then = after_inductive w s shape inductive counted condvars

  step : IsTurn (locks_of w) s (step_outcome w s) (locks_of v)
  step = after_step w s shape inductive counted condvars

  -- the thread's call is of the lock that it was of, or it has ended
  abbrev pub StaysOf : Type 0
  StaysOf = (called_lock (place_at v t) ≡ called_lock (place_at w t)) ⊎ (called_lock (place_at v t) ≡ None)

  same_purpose : (call_at v t).purpose ≡ (call_at w t).purpose → StaysOf
  same_purpose e = inl (sym (call_lock v inductive_then t) ∙ ap of_purpose e ∙ call_lock w inductive t)

  goes_of : GoesOn (locks_of w) t (step_outcome w s) (locks_of v) → StaysOf
  goes_of g = by_outcome (step_outcome w s) (g.calls t
      ∙ ap (λ (b : Bool). if b then unless_ended (step_outcome w s) called else woken (locks_of w) t g.event t
      (call_at w t)) (same t))
    where
      called : CallState
      called = woken (locks_of w) t g.event t (going_on g.event (call_at w t))

      by_outcome : (o : Outcome) → call_at v t ≡ unless_ended o called → StaysOf
      by_outcome (outcome.End a) e = inr (sym (call_lock v inductive_then t)
          ∙ ap (λ (c : CallState). of_purpose c.purpose) e)
      by_outcome o e = same_purpose (ap (λ (c : CallState). c.purpose) e ∙ woken_purpose (locks_of w) t
          g.event (going_on g.event (call_at w t)) ∙ purpose_stays g.event (call_at w t))

  -- A call stays at its condition variable, or begins.
  pub moved_on : StaysOf ⊎ (called_lock (place_at w t) ≡ None)
  moved_on = elim step.1 [
    | inl now ↦ by_turn s.turn now.0 now.1
    | inr refused ↦ inl (same_purpose (ap (λ (x : LocksState). (x.calls t).purpose) refused.1.1))
  ]
    where
      by_turn : (x : Turn) → MayTurn (locks_of w) t x → Does (locks_of w) t x (step_outcome w s) (locks_of v)
          → StaysOf ⊎ (called_lock (place_at w t) ≡ None)
      by_turn (turn.Begin c) may does = inr (sym (call_lock w inductive t)
          ∙ ap of_purpose may.idle)
      by_turn turn.Late may does =
          inl (same_purpose (ap (λ (c : CallState). c.purpose) (does.calls t
          ∙ put_here (call_at w) t (record (call_at w t) { late = true }))))
      by_turn turn.Go may does = inl (goes_of does)
      by_turn turn.Spin may does = inl (goes_of does.goes)
      by_turn turn.Ok may does = inl (goes_of does.goes)
      by_turn turn.Err may does = inl (goes_of does.goes)

  module _ (k : ℕ) (sort : (rules_in w k).sort ≡ locks.Condvar) (other : called_lock (place_at w t) ≢ Some k)
    where
      sort_then : (rules_in v k).sort ≡ locks.Condvar
      sort_then = ap (λ x. (rules_of x).sort) (after_kinds w s k) ∙ sort

      same_lock : lock_state v k ≡ lock_state w k → Kept (lock_state w k) (lock_state v k)
      same_lock e = (ap (λ (x : LockState). x.shown) e, ap (λ (x : LockState). x.queue) e)

      goes_by : GoesOn (locks_of w) t (step_outcome w s) (locks_of v) → Kept (lock_state w k) (lock_state v k)
      goes_by g =
          let u = untouched (locks_of w) t k sort g.event g.may (knows w inductive t)
          (λ e. other (sym (call_lock w inductive t) ∙ e)) in (
            ap (λ (x : LockState). x.shown) (g.locks k) ∙ u.0,
            ap (λ (x : LockState). x.queue) (g.locks k)
                ∙ u.1,
          )

      lock_kept : Kept (lock_state w k) (lock_state v k)
      lock_kept = elim step.1 [
        | inl now ↦ by_turn s.turn now.1
        | inr refused ↦ same_lock (ap (λ (x : LocksState). x.locks k) refused.1.1)
      ]
        where
          by_turn : (x : Turn) → Does (locks_of w) t x (step_outcome w s) (locks_of v)
              → Kept (lock_state w k) (lock_state v k)
          by_turn (turn.Begin c) does = same_lock (does.locks k)
          by_turn turn.Late does = same_lock (does.locks k)
          by_turn turn.Go does = goes_by does
          by_turn turn.Spin does = goes_by does.goes
          by_turn turn.Ok does = goes_by does.goes
          by_turn turn.Err does = goes_by does.goes

      -- the others are about to do there what they were
      says_kept : (u : ℕ) → u ≢ t
          → (stage_of (place_at v u) k ≡ stage_of (place_at w u) k)
          × (names_of (place_at v u) k ≡ names_of (place_at w u) k)
      says_kept u ne = (
        others_keep_it (λ p. stage_of p k) (stage_unmoved k) w s u ne,
        others_keep_it (λ p. names_of p k) (names_unmoved k) w s u ne,
      )

      -- a condition variable is as it was, where the thread is in no call of it before or after the step
      pub condvar_kept : called_lock (place_at v t) ≢ Some k → condvar_of v k ≡ condvar_of w k
      condvar_kept other_then = same_condvar w v k lock_kept (by_change (step.0.sections (key_of k Main)))
          says
        where
          by_change : SectionChanges (section_at w (key_of k Main)) t (section_at v (key_of k Main))
              → section_at v (key_of k Main) ≡ section_at w (key_of k Main)
          by_change (inl stays) = stays
          by_change (inr (inl enters)) = absurd (let within : (location_at (place_at v t) k).inside
              ≡ Some Main = (inductive_then.stands.sections t k Main).1 enters.1 in let out =
              not_inside v inductive_then t k sort_then other_then in cc)
          by_change (inr (inr leaves)) = absurd (let within : (location_at (place_at w t) k).inside
              ≡ Some Main = (inductive.stands.sections t k Main).1 leaves.0 in let out =
              not_inside w inductive t k sort other in cc)

          says : (u : ℕ)
              → (stage_of (place_at v u) k ≡ stage_of (place_at w u) k)
              × (names_of (place_at v u) k ≡ names_of (place_at w u) k)
          says u = elim (cases_eq u t) [
            | inl e ↦ let before = says_nothing w inductive t k sort other in let afterwards =
                says_nothing v inductive_then t k sort_then other_then in
                rw e (afterwards.0 ∙ sym before.0, afterwards.1 ∙ sym before.1)
            | inr ne ↦ says_kept u ne
          ]
