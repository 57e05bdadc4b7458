-- Each step of a world, and the steps of another run that come as far.
use Rattle.std.proofs.Common.{ℕ, arith, Bool, true, false, Option, Some, None, if◌then◌else◌, ◌==◌}
use Rattle.std.proofs.Common.{◌&&◌, nat_lt, ◌≡◌, ◌⊎◌, inl, inr, ◌<◌, length}
use Rattle.std.proofs.Common.{refl, sym, ◌∙◌, ap, subst, eq-eqb, eqb-true, get_or-set_same}
use Rattle.std.proofs.Common.{length-set}
use Rattle.std.specs.Prelude.{is_some}
use Rattle.std.proofs.lemmas.Bool.Decides.{nat_tests}
use Rattle.core_base.specs.declared.keys.Keys.TheVariants as keys
use Rattle.spec_locks.specs.declared.calls.Access.TheVariants as access
use Rattle.spec_locks.specs.declared.calls.Call.{Call}
use Rattle.spec_locks.specs.declared.calls.Call.TheVariants as call
use Rattle.spec_locks.specs.declared.calls.Patience.TheVariants.{Patient, Timed, Try}
use Rattle.spec_locks.specs.declared.calls.MutexCall.{MutexCall}
use Rattle.spec_locks.specs.declared.calls.MutexCall.TheVariants as mutex_call
use Rattle.spec_locks.specs.declared.calls.RwLockCall.{RwLockCall}
use Rattle.spec_locks.specs.declared.calls.RwLockCall.TheVariants as rwlock_call
use Rattle.spec_locks.specs.declared.calls.SemaphoreCall.{SemaphoreCall}
use Rattle.spec_locks.specs.declared.calls.SemaphoreCall.TheVariants as semaphore_call
use Rattle.spec_locks.specs.declared.calls.CondvarCall.{CondvarCall}
use Rattle.spec_locks.specs.declared.calls.CondvarCall.TheVariants as condvar_call
use Rattle.spec_locks.specs.declared.calls.Step.{Step}
use Rattle.spec_locks.specs.declared.calls.Turn.{Turn}
use Rattle.spec_locks.specs.declared.calls.Turn.TheVariants as turn
use Rattle.spec_locks.specs.declared.kinds.Kind.{Kind}
use Rattle.spec_locks.specs.declared.outcomes.Outcome.{Outcome}
use Rattle.spec_locks.specs.declared.outcomes.Outcome.TheVariants as outcome
use Rattle.spec_locks.specs.Kinds.{is_fair}
use Rattle.spec_locks.specs.Calls.{lock_in, lock_of_right}
use Rattle.core_base.specs.declared.ops.Op.TheVariants.{Load}
use Rattle.steps_base.specs.declared.acts.Act.TheVariants as act
use Rattle.steps_base.specs.declared.acts.Next.{Next}
use Rattle.steps_base.specs.declared.acts.Next.TheVariants.{At, End}
use Rattle.steps_base.specs.declared.acts.Reply.{Reply}
use Rattle.steps_base.specs.declared.acts.Reply.TheVariants.{Value, Late, Closed}
use Rattle.steps_mutex.specs.MutexSteps.{mutex_first}
use Rattle.steps_once.specs.declared.places.OncePlace.TheVariants as once
use Rattle.steps_once.specs.declared.run.RunAt.{RunAt}
use Rattle.steps_once.specs.declared.run.RunAt.TheVariants as run
use Rattle.steps_once.specs.OnceSteps.{in_run, next_run}
use Rattle.steps_semaphore.specs.SemaphoreSteps.{semaphore_first}
use Rattle.steps_condvar.specs.CondvarSteps.{condvar_first}
use Rattle.steps_rwlock.specs.declared.places.Admission.{Admission}
use Rattle.steps_rwlock_fair.specs.FairBegins.{call_first}
use Rattle.lot_steps.specs.declared.places.Place.{Place}
use Rattle.lot_steps.specs.declared.places.Place.TheVariants.{Idle, Mutex, RwLock, Once, Condvar, Semaphore}
use Rattle.lot_steps.specs.Steps.{act_of, first_place, late_key, respins_from, next_place, once_goes}
use Rattle.lot_machine.specs.Machine.{State, after, can_do, can_turn, can_close, close_outcome}
use Rattle.lot_machine.specs.Machine.{closed_place, go_outcome, is_free_under, is_possible, kind_at}
use Rattle.lot_machine.specs.Machine.{place_at, put, reply_to, runs_closure, state_after_begin}
use Rattle.lot_machine.specs.Machine.{state_after_close, state_after_act, state_after_go, state_after_going}
use Rattle.lot_machine.specs.Machine.{state_after_late, state_after_late_on, state_after_look}
use Rattle.lot_machine.specs.Machine.{state_after_spin, state_after_turn, state_with_sections, look_outcome}
use Rattle.lot_machine.specs.Machine.{spin_outcome, step_outcome, turn_outcome, word_at}
use Rattle.lot_machine.proofs.Closures.{RunsOne, runs_one}
use Rattle.lot_laws.specs.SitesOf.{FitsItsLock, IsWorld}
use Rattle.lot_laws.proofs.promises.WorldRuns.{world_after}
use Rattle.lot_misses.specs.Looks.{LooksFor}
use Rattle.lot_misses.specs.Looks.{MayBeAt, looked_from, looks, looks_by}
use Rattle.lot_misses.specs.Looks.{misses}
use Rattle.lot_misses.proofs.Acted.{AllSane, acted_sane, before, can_so, free_kept, idle_kept, kept}
use Rattle.lot_misses.proofs.Acted.{kept_same, place_so, put_so, set_sane, shares_so}
use Rattle.lot_misses.proofs.Loads.{may_be, sane_or}
use Rattle.lot_misses.proofs.Places.{GoesBy, GoesByLook, GoesByNoLook, IsSane, Tells, goes_so, stays_sane}
use Rattle.lot_misses.proofs.Rows.{IsNoValue, exchange_by}
use Rattle.lot_misses.proofs.Spins.{looking_is}
use Rattle.lot_misses.proofs.Turns.{Comes, One, here_so, moved, one_turn, there_so, went_by_word}
use Rattle.lot_misses.proofs.World.{alone_by, by_look, go_sane, goes_so_far, look_sane, looks_anew}
use Rattle.lot_misses.proofs.World.{plain_leads, plain_tells, stays_goes, stays_here}

both : (a b : Bool) → (a && b) ≡ true → (a ≡ true) × (b ≡ true)
both true b e = (refl, e)
both false b e = absurd cc

some_of : {A : Type 0} (o : Option A) → is_some o ≡ true → (x : A) × (o ≡ Some x)
some_of None e = absurd cc
some_of (Some x) e = (x, refl)

-- a thread goes on, or looks once more
abbrev pub GoesOn : Turn → Type 0
GoesOn u = (u ≡ turn.Go) ⊎ (u ≡ turn.Spin)

-- ---------------------------------------------------------------- where a call begins

mutex_first_looked : (l : ℕ) (fair : Bool) (c : MutexCall) → looked_from (Mutex l (mutex_first fair c)) ≡ None
mutex_first_looked l fair mutex_call.Lock = refl
mutex_first_looked l fair mutex_call.LockTimed = refl
mutex_first_looked l fair mutex_call.TryLock = refl
mutex_first_looked l true mutex_call.Unlock = refl
mutex_first_looked l false mutex_call.Unlock = refl
mutex_first_looked l fair mutex_call.UnlockFair = refl
mutex_first_looked l fair mutex_call.Bump = refl

semaphore_first_looked : (l : ℕ) (c : SemaphoreCall) → (looked_from (Semaphore l (semaphore_first c)) ≡ None)
    × IsSane (Semaphore l (semaphore_first c))
semaphore_first_looked l (semaphore_call.Acquire Patient) = (refl, tt)
semaphore_first_looked l (semaphore_call.Acquire Timed) = (refl, tt)
semaphore_first_looked l (semaphore_call.Acquire Try) = (refl, tt)
semaphore_first_looked l semaphore_call.Release = (refl, tt)

condvar_first_looked : (l : ℕ) (c : CondvarCall) → (looked_from (Condvar l (condvar_first c)) ≡ None)
    × IsSane (Condvar l (condvar_first c))
condvar_first_looked l (condvar_call.Wait m timed) = (refl, tt)
condvar_first_looked l (condvar_call.Notify all) = (refl, tt)

rwlock_first_looked : (l : ℕ) (a : Admission) (c : RwLockCall)
    → (looked_from (RwLock l a (call_first c)) ≡ None) × IsSane (RwLock l a (call_first c))
rwlock_first_looked l a (rwlock_call.Enter access.Shared how) = (refl, tt)
rwlock_first_looked l a (rwlock_call.Enter access.Upgradable how) = (refl, tt)
rwlock_first_looked l a (rwlock_call.Enter access.Exclusive how) = (refl, tt)
rwlock_first_looked l a (rwlock_call.Release x) = (refl, tt)
rwlock_first_looked l a (rwlock_call.Downgrade d) = (refl, tt)
rwlock_first_looked l a (rwlock_call.Upgrade Patient) = (refl, tt)
rwlock_first_looked l a (rwlock_call.Upgrade Timed) = (refl, tt)
rwlock_first_looked l a (rwlock_call.Upgrade Try) = (refl, tt)
rwlock_first_looked l a (rwlock_call.ReleaseFair access.Shared) = (refl, tt)
rwlock_first_looked l a (rwlock_call.ReleaseFair access.Upgradable) = (refl, tt)
rwlock_first_looked l a (rwlock_call.ReleaseFair access.Exclusive) = (refl, tt)
rwlock_first_looked l a (rwlock_call.Bump x) = (refl, tt)

first_looked : (kind : Kind) (c : Call) → (looked_from (first_place kind c) ≡ None)
    × IsSane (first_place kind c)
first_looked kind (call.Mutex l c) = (mutex_first_looked l (is_fair kind) c, tt)
first_looked kind (call.RwLock l c) = rwlock_first_looked l _ c
first_looked kind (call.Once l c) = (refl, tt)
first_looked kind (call.Condvar l c) = condvar_first_looked l c
first_looked kind (call.Semaphore l c) = semaphore_first_looked l c

-- ---------------------------------------------------------------- what a turn leaves

-- a reply that tells no value may be told to any thread
tells_any : (p : Place) (r : Reply) → IsNoValue r → Tells p r
tells_any (RwLock l a c) (Value v) h = absurd h
tells_any (RwLock l a c) r h = tt
tells_any Idle r h = tt
tells_any (Mutex l at) r h = tt
tells_any (Once l at) r h = tt
tells_any (Condvar l at) r h = tt
tells_any (Semaphore l at) r h = tt

-- a run that ends swaps the word
module _ (k : ℕ → Bool) (w : State) (all : AllSane k w.places) (t l : ℕ) (forced ok : Bool) (is : place_at w t
    ≡ Once l (once.Run forced (run.Close ok))) where
  run_none : (n : Next RunAt) → looked_from (once_goes l (in_run forced n)) ≡ None
  run_none (At at) = refl
  run_none (End answer) = refl

  abbrev closing : Place
  closing = Once l (once.Run forced (run.Close ok))

  closing_kept : kept (k t) (next_place closing (Value (word_at w l)))
      ≡ next_place closing (Value (word_at w l))
  closing_kept = free_kept (k t) (next_place closing (Value (word_at w l)))
      (run_none (next_run (run.Close ok) (Value (word_at w l))))

  closing_leads : state_after_go (before k w) t ≡ before k (state_after_go w t)
  closing_leads = plain_leads k w t closing closing all is (free_kept (k t) closing refl) is
      (free_kept (k t) closing refl) closing_kept

  closing_sane : AllSane k (state_after_go w t).places
  closing_sane = subst (λ v. AllSane k v.places) (sym (ap (state_after_going w t) is
      ∙ ap (λ x. put (state_after_act w t closing (act_of closing)) t (next_place x (Value (word_at w l))))
      is))
      (set_sane k w.places t (next_place closing (Value (word_at w l))) all
      (λ off. stays_sane closing (Value (word_at w l)) tt tt))

  closing_tells : go_outcome (before k w) t ≡ go_outcome w t
  closing_tells = plain_tells k w t closing closing all is (free_kept (k t) closing refl) is
      (free_kept (k t) closing refl) closing_kept

module _ (k : ℕ → Bool) (w : State) (h : IsWorld w) (all : AllSane k w.places) (t : ℕ)
    (there : t < length w.places) where
  abbrev p : Place
  p = place_at w t

  abbrev b : State
  b = before k w

  possible_too : (u : Turn) → can_turn b t u ≡ true → is_possible b (record { thread = t; turn = u }) ≡ true
  possible_too u can = let lt : nat_lt t (length b.places) ≡ true = let x = there_so k w t there
      in grind (arith, nat_tests) in rw (lt, can) refl

  -- in neither run has the thread begun a call, or its closure runs
  pub begin_same : (c : Call) → can_turn b t (turn.Begin c) ≡ can_turn w t (turn.Begin c)
  begin_same c = rw (
    place_so k w all t,
    idle_kept (k t) (place_at w t) (all t),
    shares_so k w all
        (lock_of_right c),
  ) refl

  pub close_same : looked_from (place_at w t) ≡ None → (ok : Bool) → can_close b t ok ≡ can_close w t ok
  close_same free ok =
      rw (here_so k w all t (place_at w t) refl free, can_so k w (act_of (closed_place w t ok))) refl

  -- the other run takes the same turn
  abbrev Same : State → Outcome → Turn → Type 0
  Same v o x = One (k t) (before k w) (before k v) o (record { thread = t; turn = x })

  -- ---------------------------------------------------------------- a call begins

  begins : (c : Call) → can_turn w t (turn.Begin c) ≡ true
      → Same (state_after_begin w t c) outcome.Step (turn.Begin c)
  begins c can = one_turn (k t) b (before k (state_after_begin w t c)) outcome.Step
      (record { thread = t; turn = turn.Begin c })
      (possible_too (turn.Begin c) (begin_same c ∙ can)) (λ off. refl) refl
      (ap (put b t) (sym (free_kept (k t) (first_place (kind_at w (lock_in c)) c)
      (first_looked (kind_at w (lock_in c)) c).0))
      ∙ put_so k w all t (first_place (kind_at w (lock_in c)) c))
      refl

  -- ---------------------------------------------------------------- a thread gives up

  late_looked : (key : ℕ) → IsSane (place_at w t) → late_key (place_at w t) ≡ Some key
      → looked_from (place_at w t) ≡ None
  late_looked key sane late = by_place (looked_from (place_at w t)) refl
    where
      by_place : (o : Option Place) → looked_from (place_at w t) ≡ o → looked_from (place_at w t) ≡ None
      by_place None e = e
      by_place (Some q) e = absurd (let by : GoesByLook (place_at w t) q = subst (GoesBy (place_at w t)) e
          (goes_so (place_at w t) sane) in
          let none : None ≡ Some key = sym by.late ∙ late in cc)

  late_then : IsSane (place_at w t) → looked_from (place_at w t) ≡ None
      → looked_from (next_place (place_at w t) Late) ≡ None
  late_then sane free = let by : GoesByNoLook (place_at w t) = subst (GoesBy (place_at w t)) free
      (goes_so (place_at w t) sane) in by.others Late tt

  -- in both runs it stands at the same place, and comes to the same
  late_both : (key : ℕ) → late_key (place_at w t) ≡ Some key
      → (kept (k t) (place_at w t) ≡ place_at w t)
      × (kept (k t) (next_place (place_at w t) Late) ≡ next_place (place_at w t) Late)
  late_both key late = by_keep (k t) refl
    where
      by_keep : (c : Bool) → k t ≡ c → (kept (k t) (place_at w t) ≡ place_at w t)
          × (kept (k t) (next_place (place_at w t) Late) ≡ next_place (place_at w t) Late)
      by_keep true on = (
        ap (λ c. kept c (place_at w t)) on,
        ap (λ c. kept c (next_place (place_at w t) Late)) on,
      )
      by_keep false off =
          let free = late_looked key (all t off) late in (
            free_kept (k t) (place_at w t) free,
            free_kept (k t) (next_place (place_at w t) Late) (late_then (all t off) free),
          )

  late_here : (key : ℕ) → late_key (place_at w t) ≡ Some key → place_at b t ≡ place_at w t
  late_here key late = place_so k w all t ∙ (late_both key late).0

  late_leads : (key : ℕ) → late_key (place_at w t) ≡ Some key → state_after_late b t
      ≡ before k (state_after_late w t)
  late_leads key late =
      ap (λ x. state_after_late_on b t (late_key x)) (late_here key late) ∙ ap (state_after_late_on b t) late
      ∙ ap (λ x. put (state_with_sections b (keys.One key) (Some t)) t (next_place x Late))
      (late_here key late)
      ∙ ap (put (state_with_sections b (keys.One key) (Some t)) t) (sym (late_both key late).1)
      ∙ put_so k (state_with_sections w (keys.One key) (Some t)) all t (next_place (place_at w t) Late)
      ∙ ap (before k) (sym (ap (state_after_late_on w t) late))

  late_possible : (key : ℕ) → late_key (place_at w t) ≡ Some key → can_turn w t turn.Late ≡ true
      → can_turn b t turn.Late ≡ true
  late_possible key late can = ap (λ x. is_free_under b (late_key x)) (late_here key late) ∙ can

  gives_up : can_turn w t turn.Late ≡ true → Same (state_after_late w t) outcome.Step turn.Late
  gives_up can = by_key (late_key (place_at w t)) refl
    where
      by_key : (o : Option ℕ) → late_key (place_at w t) ≡ o
          → Same (state_after_late w t) outcome.Step turn.Late
      by_key None e = absurd (let never : false ≡ true = sym (ap (is_free_under w) e) ∙ can in cc)
      by_key (Some key) e = one_turn (k t) b (before k (state_after_late w t)) outcome.Step
          (record { thread = t; turn = turn.Late })
          (possible_too turn.Late (late_possible key e can)) (λ off. refl) refl (late_leads key e) refl

  -- ---------------------------------------------------------------- a closure ends

  module _ (ok : Bool) (one : RunsOne (place_at w t)) where
    abbrev c : Place
    c = closed_place w t ok

    run_here : place_at b t ≡ place_at w t
    run_here = here_so k w all t (place_at w t) refl (ap looked_from one.is)

    closed_is : closed_place w t ok ≡ Once one.lock (once.Run one.forced (run.Close ok))
    closed_is = ap (λ x. next_place x (Closed ok)) one.is

    closed_sane : AllSane k (put w t (closed_place w t ok)).places
    closed_sane = set_sane k w.places t (closed_place w t ok) all (λ off. subst IsSane (sym closed_is) tt)

    closed_here : place_at (put w t (closed_place w t ok)) t
        ≡ Once one.lock (once.Run one.forced (run.Close ok))
    closed_here = get_or-set_same w.places t (closed_place w t ok) Idle there ∙ closed_is

    closed_so : put b t (closed_place b t ok) ≡ before k (put w t (closed_place w t ok))
    closed_so = ap (λ x. put b t (next_place x (Closed ok))) run_here
        ∙ ap (put b t) (sym (free_kept (k t) (closed_place w t ok) (ap looked_from closed_is)))
        ∙ put_so k w all t (closed_place w t ok)

    close_leads : state_after_close b t ok ≡ before k (state_after_close w t ok)
    close_leads = ap (λ x. state_after_go x t) closed_so ∙ closing_leads k (put w t (closed_place w t ok))
        closed_sane t one.lock one.forced ok closed_here

    close_tells : close_outcome b t ok ≡ close_outcome w t ok
    close_tells = ap (λ x. go_outcome x t) closed_so ∙ closing_tells k (put w t (closed_place w t ok))
        closed_sane t one.lock one.forced ok closed_here

    close_possible : can_close w t ok ≡ true → can_close b t ok ≡ true
    close_possible can = rw (run_here, can_so k w (act_of (closed_place w t ok))) can

  one_run : (ok : Bool) → can_close w t ok ≡ true → RunsOne (place_at w t)
  one_run ok can = runs_one (place_at w t) (both (runs_closure (act_of (place_at w t)))
      (can_do w (act_of (closed_place w t ok))) can).0

  closes : (ok : Bool) → can_close w t ok ≡ true → (u : Turn)
      → (can_close b t ok ≡ true → can_turn b t u ≡ true)
      → misses b (record { thread = t; turn = u }) ≡ false → looks b (record { thread = t; turn = u }) ≡ false
      → state_after_turn b t u ≡ state_after_close b t ok → turn_outcome b t u ≡ close_outcome b t ok
      → Same (state_after_close w t ok) (close_outcome w t ok) u
  closes ok can u turns hit alone leads tells =
      let one = one_run ok can in
      one_turn (k t) b (before k (state_after_close w t ok)) (close_outcome w t ok)
      (record { thread = t; turn = u })
      (possible_too u (turns (close_possible ok one can))) (λ off. hit) alone (leads ∙ close_leads ok one)
      (tells
      ∙ close_tells ok one)

  close_sane : (ok : Bool) → can_close w t ok ≡ true → AllSane k (state_after_close w t ok).places
  close_sane ok can =
      let one = one_run ok can in
      closing_sane k (put w t (closed_place w t ok)) (closed_sane ok one) t one.lock one.forced
      ok (closed_here ok one)

  late_sane : (o : Option ℕ) → AllSane k (state_after_late_on w t o).places
  late_sane None = all
  late_sane (Some key) = set_sane k w.places t (next_place (place_at w t) Late) all
      (λ off. stays_sane (place_at w t) Late (tells_any (place_at w t) Late tt) (all t off))

  -- ---------------------------------------------------------------- a thread looks once more

  -- where a place leads that it looks at, from another
  module _ (m : Place) (respins : respins_from (place_at w t) ≡ Some m) where
    spin_is : state_after_go (put w t m) t ≡ state_after_spin w t
    spin_is = ap (state_after_look w t) (sym respins)

    spin_tells : go_outcome (put w t m) t ≡ spin_outcome w t
    spin_tells = ap (look_outcome w t) (sym respins)

  spins : (off : k t ≡ false) → can_turn w t turn.Spin ≡ true → is_some (looked_from (place_at w t)) ≡ true
      → Comes (k t) b (before k (state_after_spin w t)) t (spin_outcome w t)
  spins off can for_one =
      let m = some_of (respins_from (place_at w t)) can in
      let q = some_of (looked_from (place_at w t)) for_one in
      let same : m.0 ≡ q.0 = looking_is (place_at w t) m.0 q.0 m.1 q.1 in
      let respins : respins_from (place_at w t) ≡ Some q.0 = m.1 ∙ ap Some same in
      let by = by_look k w h all t there off q.0 q.1 in
      moved (k t) b b (before k (state_after_go (put w t q.0) t)) (before k (state_after_spin w t)) t
      (spin_outcome w t) (go_outcome (put w t q.0) t) refl (ap (before k) (spin_is q.0 respins))
      (spin_tells q.0 respins)
      (looks_anew k w h all t there off q.0 q.1 (spun_fits q.0 respins by.lock by.load))
    where
      -- the world is one after it has looked
      spun_fits : (q : Place) → respins_from (place_at w t) ≡ Some q → (l : ℕ) → act_of q ≡ act.Word l Load
          → MayBeAt (next_place q (Value (word_at w l)))
      spun_fits q respins l load = may_be (after w spin) (next_place q (Value (word_at w l)))
          (subst (FitsItsLock (after w spin)) place ((world_after w spin h).inductive.stands.calls t))
        where
          spin : Step
          spin = record { thread = t; turn = turn.Spin }

          possible : is_possible w spin ≡ true
          possible = let lt : nat_lt t (length w.places) ≡ true = grind (arith, nat_tests) in
              rw (lt, can) refl

          place : place_at (after w spin) t ≡ next_place q (Value (word_at w l))
          place = rw possible (ap (λ v. place_at v t) (sym (spin_is q respins)
              ∙ went_by_word (put w t q) t q (get_or-set_same w.places t q Idle there) l Load load)
              ∙ get_or-set_same (put w t q).places t (next_place q (Value (word_at w l))) Idle
              (rw (length-set w.places t q) there))

  spins_sane : (off : k t ≡ false) → can_turn w t turn.Spin ≡ true
      → is_some (looked_from (place_at w t)) ≡ true
      → AllSane k (state_after_spin w t).places
  spins_sane off can for_one =
      let m = some_of (respins_from (place_at w t)) can in
      let q = some_of (looked_from (place_at w t)) for_one in
      let same : m.0 ≡ q.0 = looking_is (place_at w t) m.0 q.0 m.1 q.1 in
      subst (λ v. AllSane k v.places) (spin_is q.0 (m.1 ∙ ap Some same))
      (look_sane k w h all t there q.0 off q.1)

  -- a thread that stays as it is looks once more in both runs
  module _ (on : k t ≡ true) where
    stay : (q : Place) → kept (k t) q ≡ q
    stay q = ap (λ c. kept c q) on

    stays_spins : can_turn w t turn.Spin ≡ true → Same (state_after_spin w t) (spin_outcome w t) turn.Spin
    stays_spins can =
        let m = some_of (respins_from (place_at w t)) can in
        let here = stays_here k w all t there on in
        let put_all : AllSane k (put w t m.0).places = set_sane k w.places t m.0 all
        (λ off. absurd (let never : true ≡ false = sym on ∙ off in cc)) in
        let lies : t < length (put w t m.0).places = rw (length-set w.places t m.0) there in
        let put_is : put b t m.0 ≡ before k (put w t m.0) = ap (put b t) (sym (stay m.0))
        ∙ put_so k w all t m.0 in
        let respins : respins_from (place_at b t) ≡ Some m.0 = ap respins_from here ∙ m.1 in
        let v = put w t m.0 in
        let at_m : place_at (put w t m.0) t ≡ m.0 = get_or-set_same w.places t m.0 Idle there in
        let o : Place = place_at (state_after_act (put w t m.0) t m.0 (act_of m.0)) t in
        one_turn (k t) b (before k (state_after_spin w t)) (spin_outcome w t)
        (record { thread = t; turn = turn.Spin })
        (possible_too turn.Spin (ap is_some respins)) (λ off. refl) refl
        (ap (state_after_look b t) respins ∙ ap (λ y. state_after_go y t) put_is
        ∙ plain_leads k v t m.0 o put_all at_m (stay m.0) refl (stay o)
        (stay (next_place o (reply_to v t (act_of m.0))))
        ∙ ap (before k) (spin_is m.0 m.1))
        (ap (look_outcome b t) respins ∙ ap (λ y. go_outcome y t) put_is
        ∙ plain_tells k v t m.0 o put_all at_m (stay m.0) refl (stay o)
        (stay (next_place o (reply_to v t (act_of m.0))))
        ∙ spin_tells m.0 m.1)

    stays_spins_sane : can_turn w t turn.Spin ≡ true → AllSane k (state_after_spin w t).places
    stays_spins_sane can =
        let m = some_of (respins_from (place_at w t)) can in
        let never : (q : Place) → k t ≡ false
        → IsSane q = λ q off. absurd (let x : true ≡ false = sym on ∙ off in cc) in
        let n : Place = next_place (place_at (state_after_act (put w t m.0) t (place_at (put w t m.0) t)
        (act_of (place_at (put w t m.0) t))) t)
        (reply_to (put w t m.0) t (act_of (place_at (put w t m.0) t))) in
        subst (λ v. AllSane k v.places) (spin_is m.0 m.1)
        (set_sane k (state_after_act (put w t m.0) t (place_at (put w t m.0) t)
        (act_of (place_at (put w t m.0) t))).places
        t n (acted_sane k (put w t m.0) (set_sane k w.places t m.0 all (never m.0)) t
        (place_at (put w t m.0) t)
        (act_of (place_at (put w t m.0) t))) (never n))

  -- ---------------------------------------------------------------- each turn

  -- Another run comes to the same. Its thread takes the same turn, or goes on where it goes on or looks once
  -- more.
  abbrev Taken : State → Turn → Outcome → Type 0
  Taken v u o = (GoesOn u × Comes (k t) (before k w) (before k v) t o)
      ⊎ One (k t) (before k w) (before k v) o (record { thread = t; turn = u })

  turns : k t ≡ false → (u : Turn) → can_turn w t u ≡ true → LooksFor w t u
      → Taken (state_after_turn w t u) u (turn_outcome w t u)
  turns off (turn.Begin c) can for_one = inr (begins c can)
  turns off turn.Go can for_one = inl (inl refl, goes_so_far k w h all t there off can)
  turns off turn.Spin can for_one = inl (inr refl, spins off can for_one)
  turns off turn.Late can for_one = inr (gives_up can)
  turns off turn.Ok can for_one = inr (closes true can turn.Ok (λ e. e) refl refl refl refl)
  turns off turn.Err can for_one = inr (closes false can turn.Err (λ e. e) refl refl refl refl)

  turns_sane : k t ≡ false → (u : Turn) → can_turn w t u ≡ true → LooksFor w t u
      → AllSane k (state_after_turn w t u).places
  turns_sane off (turn.Begin c) can for_one =
      set_sane k w.places t (first_place (kind_at w (lock_in c)) c) all
      (λ e. (first_looked (kind_at w (lock_in c)) c).1)
  turns_sane off turn.Go can for_one = go_sane k w h all t there
  turns_sane off turn.Spin can for_one = spins_sane off can for_one
  turns_sane off turn.Late can for_one = late_sane (late_key (place_at w t))
  turns_sane off turn.Ok can for_one = close_sane true can
  turns_sane off turn.Err can for_one = close_sane false can

  -- a thread that stays as it is takes the same turn
  stays_turns : k t ≡ true → (u : Turn) → can_turn w t u ≡ true
      → (u ≡ turn.Go → looks_by (before k w) (place_at w t) (act_of (place_at w t)) ≡ false)
      → Same (state_after_turn w t u) (turn_outcome w t u) u
  stays_turns on (turn.Begin c) can alone = begins c can
  stays_turns on turn.Go can alone = stays_goes k w all t there on can (alone refl)
  stays_turns on turn.Spin can alone = stays_spins on can
  stays_turns on turn.Late can alone = gives_up can
  stays_turns on turn.Ok can alone = closes true can turn.Ok (λ e. e) refl refl refl refl
  stays_turns on turn.Err can alone = closes false can turn.Err (λ e. e) refl refl refl refl

  stays_turns_sane : k t ≡ true → (u : Turn) → can_turn w t u ≡ true
      → AllSane k (state_after_turn w t u).places
  stays_turns_sane on (turn.Begin c) can = set_sane k w.places t (first_place (kind_at w (lock_in c)) c) all
      (λ e. (first_looked (kind_at w (lock_in c)) c).1)
  stays_turns_sane on turn.Go can = go_sane k w h all t there
  stays_turns_sane on turn.Spin can = stays_spins_sane on can
  stays_turns_sane on turn.Late can = late_sane (late_key (place_at w t))
  stays_turns_sane on turn.Ok can = close_sane true can
  stays_turns_sane on turn.Err can = close_sane false can

-- ---------------------------------------------------------------- each step

may : (w : State) (s : Step) → is_possible w s ≡ true
    → (s.thread < length w.places) × (can_turn w s.thread s.turn ≡ true)
may w s possible = let two = both (nat_lt s.thread (length w.places)) (can_turn w s.thread s.turn) possible in
    let lt = two.0 in (grind (arith, nat_tests), two.1)

goes_after : (w : State) (s : Step) → is_possible w s ≡ true
    → (state_after_turn w s.thread s.turn ≡ after w s) × (turn_outcome w s.thread s.turn ≡ step_outcome w s)
goes_after w s e = (rw e refl, rw e refl)

-- of a thread, from one state of the other run to another
abbrev pub TakenBy : Bool → State → State → Step → Outcome → Type 0
TakenBy stays b z s o = (GoesOn s.turn × Comes stays b z s.thread o) ⊎ One stays b z o s

pub stepped : (k : ℕ → Bool) (w : State) → IsWorld w → AllSane k w.places → (s : Step) → k s.thread ≡ false
    → LooksFor w s.thread s.turn → is_possible w s ≡ true
    → TakenBy (k s.thread) (before k w) (before k (after w s)) s (step_outcome w s)
    × AllSane k (after w s).places
stepped k w h all s off for_one e =
    let m = may w s e in
    let to = goes_after w s e in (
      subst (λ o. TakenBy (k s.thread) (before k w) (before k (after w s)) s o) to.1
          (subst (λ v. TakenBy (k s.thread) (before k w) (before k v) s (turn_outcome w s.thread s.turn)) to.0
          (turns k w h all s.thread m.0 off s.turn m.1 for_one)),
      subst (λ v. AllSane k v.places) to.0 (turns_sane k w h all s.thread m.0 off s.turn m.1 for_one),
    )

stays_stepped : (k : ℕ → Bool) (w : State) → IsWorld w → AllSane k w.places → (s : Step) → k s.thread ≡ true
    → (s.turn ≡ turn.Go → looks_by (before k w) (place_at w s.thread) (act_of (place_at w s.thread)) ≡ false)
    → is_possible w s ≡ true
    → TakenBy (k s.thread) (before k w) (before k (after w s)) s (step_outcome w s)
    × AllSane k (after w s).places
stays_stepped k w h all s on alone e =
    let m = may w s e in
    let to = goes_after w s e in (
      subst (λ o. TakenBy (k s.thread) (before k w) (before k (after w s)) s o) to.1
          (subst (λ v. TakenBy (k s.thread) (before k w) (before k v) s (turn_outcome w s.thread s.turn)) to.0
          (inr (stays_turns k w h all s.thread m.0 on s.turn m.1 alone))),
      subst (λ v. AllSane k v.places) to.0 (stays_turns_sane k w h all s.thread m.0 on s.turn m.1),
    )

-- ---------------------------------------------------------------- who stays

-- with this thread, or without it
abbrev also : (ℕ → Bool) → ℕ → ℕ → Bool
also k t u = if u == t then true else k u

abbrev without : (ℕ → Bool) → ℕ → ℕ → Bool
without k t u = if u == t then false else k u

module _ (k : ℕ → Bool) (t : ℕ) where
  also_on : also k t t ≡ true
  also_on = ap (λ b. if b then true else k t) (eq-eqb t t refl)

  without_off : without k t t ≡ false
  without_off = ap (λ b. if b then false else k t) (eq-eqb t t refl)

  module _ (w : State) (all : AllSane k w.places) (free : looked_from (place_at w t) ≡ None) where
    also_same : before k w ≡ before (also k t) w
    also_same = ap (λ ps. record w { places = ps })
        (kept_same k (also k t) w.places (λ u. by_thread u (u == t) refl))
      where
        by_thread : (u : ℕ) (b : Bool) → (u == t) ≡ b
            → kept (k u) (place_at w u) ≡ kept (if b then true else k u) (place_at w u)
        by_thread u true e = ap (λ v. kept (k u) (place_at w v)) (eqb-true u t e)
            ∙ free_kept (k u) (place_at w t) free
            ∙ ap (place_at w) (sym (eqb-true u t e))
        by_thread u false e = refl

    without_same : before k w ≡ before (without k t) w
    without_same =
        ap (λ ps. record w { places = ps })
        (kept_same k (without k t) w.places (λ u. by_thread u (u == t) refl))
      where
        by_thread : (u : ℕ) (b : Bool) → (u == t) ≡ b
            → kept (k u) (place_at w u) ≡ kept (if b then false else k u) (place_at w u)
        by_thread u true e = ap (λ v. kept (k u) (place_at w v)) (eqb-true u t e)
            ∙ free_kept (k u) (place_at w t) free
            ∙ sym (ap (λ v. kept false (place_at w v)) (eqb-true u t e) ∙ free_kept false (place_at w t) free)
        by_thread u false e = refl

    also_sane : AllSane (also k t) w.places
    also_sane u off = all u (by_thread (u == t) off)
      where
        by_thread : (b : Bool) → (if b then true else k u) ≡ false → k u ≡ false
        by_thread true e = absurd cc
        by_thread false e = e

    without_sane : IsSane (place_at w t) → AllSane (without k t) w.places
    without_sane sane u off = by_thread (u == t) refl off
      where
        by_thread : (b : Bool) → (u == t) ≡ b → (if b then false else k u) ≡ false → IsSane (place_at w u)
        by_thread true e off = subst (λ v. IsSane (place_at w v)) (sym (eqb-true u t e)) sane
        by_thread false e off = all u off

-- ---------------------------------------------------------------- any step

-- A step of a world, in the other run. From there on other threads may stay as they are.
pub record Follows (k : ℕ → Bool) (w : State) (s : Step) : Type 0 where
  pub stay : ℕ → Bool
  pub sane : AllSane stay (after w s).places
  pub taken : TakenBy (stay s.thread) (before k w) (before stay (after w s)) s (step_outcome w s)

looks_for_or : (w : State) (t : ℕ) (u : Turn) → LooksFor w t u
    ⊎ ((u ≡ turn.Spin) × (looked_from (place_at w t) ≡ None))
looks_for_or w t (turn.Begin c) = inl tt
looks_for_or w t turn.Go = inl tt
looks_for_or w t turn.Spin = by_look (looked_from (place_at w t)) refl
  where
    by_look : (o : Option Place) → looked_from (place_at w t) ≡ o
        → LooksFor w t turn.Spin ⊎ ((turn.Spin ≡ turn.Spin) × (looked_from (place_at w t) ≡ None))
    by_look None e = inr (refl, e)
    by_look (Some q) e = inl (ap is_some e)
looks_for_or w t turn.Late = inl tt
looks_for_or w t turn.Ok = inl tt
looks_for_or w t turn.Err = inl tt

spin_no_go : (u : Turn) → u ≡ turn.Spin → u ≡ turn.Go → ⊥
spin_no_go u spin go = let never : turn.Spin ≡ turn.Go = sym spin ∙ go in cc

exchange_alone : (w : State) (p : Place) (b : Bool) (l from to : ℕ)
    → looks_by w p (exchange_by b l from to) ≡ false
exchange_alone w p true l from to = refl
exchange_alone w p false l from to = refl

module _ (w : State) (h : IsWorld w) (s : Step) (e : is_possible w s ≡ true) where
  abbrev t : ℕ
  t = s.thread

  stays_follows : (k : ℕ → Bool) → AllSane k w.places → k t ≡ true
      → (s.turn ≡ turn.Go → looks_by (before k w) (place_at w t) (act_of (place_at w t)) ≡ false)
      → Follows k w s
  stays_follows k all on alone = let one = stays_stepped k w h all s on alone e in
      record { stay = k; sane = one.1; taken = one.0 }

  moves_follows : (k : ℕ → Bool) → AllSane k w.places → k t ≡ false → Follows k w s
  moves_follows k all off = elim (looks_for_or w t s.turn) [
    | inl for_one ↦ (let one =
        stepped k w h all s off for_one e in record { stay = k; sane = one.1; taken = one.0 })
    | inr free ↦ (let f = stays_follows (also k t) (also_sane k t w all free.1) (also_on k t)
        (λ go. absurd (spin_no_go s.turn free.0 go)) in
        record {
          stay = f.stay;
          sane = f.sane;
          taken = subst (λ b. TakenBy (f.stay s.thread) b (before f.stay (after w s)) s (step_outcome w s))
              (sym (also_same k t w all free.1)) f.taken;
        })
  ]

  pub follows : (k : ℕ → Bool) → AllSane k w.places → Follows k w s
  follows k all = by_keep (k t) refl
    where
      on_look : k t ≡ true → (sane : IsSane (place_at w t)) → (o : Option Place)
          → looked_from (place_at w t) ≡ o
          → Follows k w s
      on_look on sane (Some q) looked =
          let by : GoesByLook (place_at w t) q =
          subst (GoesBy (place_at w t)) looked (goes_so (place_at w t) sane) in
          stays_follows k all on (λ go. ap (looks_by (before k w) (place_at w t)) by.exchange
          ∙ exchange_alone (before k w) (place_at w t) by.hands by.lock by.from by.to)
      on_look on sane None free =
          let f = moves_follows (without k t) (without_sane k t w all free sane) (without_off k t) in
          record {
            stay = f.stay;
            sane = f.sane;
            taken = subst (λ b. TakenBy (f.stay s.thread) b (before f.stay (after w s)) s (step_outcome w s))
                (sym (without_same k t w all free)) f.taken;
          }

      by_keep : (c : Bool) → k t ≡ c → Follows k w s
      by_keep false off = moves_follows k all off
      by_keep true on = elim (sane_or (place_at w t)) [
        | inl sane ↦ on_look on sane (looked_from (place_at w t)) refl
        | inr alone ↦ stays_follows k all on
            (λ go. alone_by (before k w) (place_at w t) (act_of (place_at w t))
            (λ l load. alone l (word_at w l) load))
      ]
