-- Where everybody rests, and nobody owns between calls, a drain is over.
use Rattle.std.proofs.Common.{ℕ, suc, Bool, true, false, Option, Some, None, ◌&&◌, ◌≡◌, ◌≢◌, ◌+◌, ◌≤◌, ◌<◌}
use Rattle.std.proofs.Common.{◌⊎◌, List, [], ◌∷◌, length, map, nat_le, inl, inr, refl, sym, ◌∙◌, ap, subst}
use Rattle.std.proofs.Common.{arith}
use Rattle.std.specs.Prelude.{slice_index, sum}
use Rattle.std.proofs.lemmas.Bool.Decides.{nat_tests}
use Rattle.core_base.specs.declared.wants.Waiter.{Waiter}
use Rattle.core_base.specs.Lines.{first_of, times}
use Rattle.steps_base.specs.declared.acts.Act.TheVariants as act
use Rattle.spec_locks.proofs.HandLimits.{sum_cons}
use Rattle.spec_locks.specs.Picks.{queued_of}
use Rattle.spec_locks.specs.Locks.{LockState, Pending, Rights, Rules, count, one_if_pending, one_if_thread}
use Rattle.spec_locks.specs.Locks.{one_if_some, readers, rights_of}
use Rattle.spec_locks.specs.Runs.{no_rights}
use Rattle.spec_locks.specs.Sites.{Line, Main, Second, has_readers, is_full}
use Rattle.lot_steps.specs.declared.places.Place.{Place}
use Rattle.lot_steps.specs.declared.places.Place.TheVariants.{Idle, Mutex, RwLock, Once, Condvar, Semaphore}
use Rattle.lot_steps.specs.Steps.{act_of, calls, is_lock, called_lock, profile}
use Rattle.lot_machine.specs.Machine.{State, place_at, queue_at}
use Rattle.lot_machine.specs.Fits.{PlaceFits}
use Rattle.lot_laws.specs.Refinement.{call_state, lock_state}
use Rattle.lot_laws.specs.SitesOf.{FitsItsLock, key_of, rules_in, site_of, stood_in}
use Rattle.lot_laws.specs.Locations.{role_on, location, location_at}
use Rattle.lot_world.specs.Drained.{Drains, IsEmptied, IsResting, OwnsNothing, as_now}
use Rattle.lot_world.specs.Few.{HasFew}
use Rattle.lot_world.proofs.Drained.{resting_is_empty}
use Rattle.lot_world.specs.Sleepers.{BeganWithFew, without_pending}
use Rattle.lot_world.specs.Standing.{MayStandAt}
use Rattle.lot_world.proofs.Sleepers.{pending_own_nothing, sleepers_own_nothing, sleepers_rest}
use Rattle.lot_world.proofs.Sleepers.{sleepers_stand}
use Rattle.lot_world.specs.Quiet.{HasOneLock, IsDraining, IsQuiet, QuietIsOver}

-- a thread is in no call, or in one of the lock
abbrev pub OnlyHere : Place → Type 0
OnlyHere p = (p ≡ Idle) ⊎ ((called_lock p ≡ Some 0) × MayStandAt p)

number_of : (l n : ℕ) → n ≡ 1 → l < n → l ≡ 0
number_of l n e lt = omega arith

pub only_here : (w : State) → HasOneLock w → (p : Place) → PlaceFits (length w.locks) p → FitsItsLock w p
    → OnlyHere p
only_here w lock Idle there fits = inl refl
only_here w lock (Mutex l at) there fits = inr (ap Some (number_of l (length w.locks) lock.one there.0), tt)
only_here w lock (RwLock l a c) there fits = inr (
  ap Some (number_of l (length w.locks) lock.one there),
  fits.1,
)
only_here w lock (Once l at) there fits = absurd (
    let e : l ≡ 0 = number_of l (length w.locks) lock.one there in
    let f = subst (λ j. (rules_in w j).sort ≡ Rattle.spec_locks.specs.Locks.Once) e fits in
    subst Drains f lock.sort)
only_here w lock (Semaphore l at) there fits = absurd (
    let e : l ≡ 0 = number_of l (length w.locks) lock.one there in
    let f = subst (λ j. (rules_in w j).sort ≡ Rattle.spec_locks.specs.Locks.Semaphore) e fits.0 in
    subst Drains f lock.sort)
only_here w lock (Condvar l at) there fits = absurd (
    let e : l ≡ 0 = number_of l (length w.locks) lock.one there.0 in
    let f = subst (λ j. (rules_in w j).sort ≡ Rattle.spec_locks.specs.Locks.Condvar) e fits.sort in
    subst Drains f lock.sort)

-- the beginning of the thread's call
pub began : (p : Place) (rights : ℕ → Rights) → called_lock p ≡ Some 0 → MayStandAt p
    → HasFew (call_state p rights).purpose ((call_state p rights).former 0) (rights 0)
    → BeganWithFew 0 p rights
began Idle rights of stands few = absurd cc
began (Mutex l at) rights of stands few =
    subst (λ j. HasFew (Some ((profile (Mutex l at)).purpose j)) ((profile (Mutex l at)).former j rights 0)
    (rights 0)) (let e : l ≡ 0 = cc in e) few
began (RwLock l a c) rights of stands few =
    subst (λ j. HasFew (Some ((profile (RwLock l a c)).purpose j)) ((profile (RwLock l a c)).former j rights
    0) (rights 0)) (let e : l ≡ 0 = cc in e) few
began (Once l at) rights of stands few = absurd stands
began (Semaphore l at) rights of stands few = absurd stands
began (Condvar l at) rights of stands few = absurd stands

calls_here : (p : Place) → called_lock p ≡ Some 0 → calls p 0 ≡ true
calls_here p of = ap (is_lock 0) of

pub zero_sum : (xs : List ℕ) → ((t : ℕ) → slice_index xs t ≡ 0) → sum xs ≡ 0
zero_sum [] h = refl
zero_sum (x ∷ xs) h = let all : sum (x ∷ xs) ≡ x + sum xs = sum_cons x xs in let first : x ≡ 0 = h 0
    in let rest : sum xs ≡ 0 = zero_sum xs (λ t. h (suc t)) in omega arith

none_queued : (q : List Waiter) → map queued_of q ≡ [] → q ≡ []
none_queued [] e = refl
none_queued (x ∷ q) e = absurd cc

none_first : (q : List Waiter) → first_of q ≡ None → q ≡ []
none_first [] e = refl
none_first (x ∷ q) e = absurd cc

module _ (w : State) (draining : IsDraining w) (quiet : IsQuiet w) where
  abbrev rules : Rules
  rules = rules_in w 0

  abbrev s : LockState
  s = lock_state w 0

  abbrev rights : (t l : ℕ) → Rights
  rights t l = rights_of (lock_state w l) t

  here : (t : ℕ) → OnlyHere (place_at w t)
  here t = only_here w draining.lock (place_at w t) (draining.world.well_formed.places t)
      (draining.world.inductive.stands.calls t)

  -- a thread in no call, or asleep, with what its place says
  record Sleeps (t : ℕ) : Type 0 where
    pub of : called_lock (place_at w t) ≡ Some 0
    pub stands : MayStandAt (place_at w t)
    pub asleep : act_of (place_at w t) ≡ act.Sleep

  idle_or : (t : ℕ) → (place_at w t ≡ Idle) ⊎ Sleeps t
  idle_or t = elim (quiet.rest t) [
    | inl idle ↦ inl idle
    | inr asleep ↦ elim (here t) [
      | inl idle ↦ inl idle
      | inr there ↦ inr (record { of = there.0; stands = there.1; asleep = asleep })
    ]
  ]

  location_here : (t : ℕ) → Sleeps t → location_at (place_at w t) 0 ≡ location (place_at w t)
  location_here t h = rw (calls_here (place_at w t) h.of) refl

  resting : (t : ℕ) → IsResting (role_on (place_at w t) 0)
  resting t = elim (idle_or t) [
    | inl idle ↦ subst (λ p. IsResting (role_on p 0)) (sym idle) (record {
      wakes = refl;
      has_taken = refl;
      owes_taken = refl;
      retries = refl;
    })
    | inr h ↦ subst IsResting (sym (let e : role_on (place_at w t) 0 ≡ (profile (place_at w t)).role =
        rw (calls_here (place_at w t) h.of) refl in e)) (sleepers_rest (place_at w t) h.stands h.asleep).0
  ]

  -- nobody has anybody in hand
  no_carrier : (t : ℕ) (b : Bool) → (location_at (place_at w t) 0).has_taken ≡ Some b → ⊥
  no_carrier t b e = elim (idle_or t) [
    | inl idle ↦ let f : (location_at Idle 0).has_taken ≡ Some b =
        subst (λ p. (location_at p 0).has_taken ≡ Some b) idle e in let g : ◌≡◌ {A = Option Bool} None
        (Some b) = f in cc
    | inr h ↦ let row = sleepers_stand (place_at w t) h.stands h.asleep in let g : ◌≡◌ {A = Option Bool} None
        (Some b) = sym row.has_taken ∙ sym (ap (λ x. x.has_taken) (location_here t h)) ∙ e in cc
  ]

  -- a thread that sleeps stands in a line
  in_line : (t : ℕ) → Sleeps t → ((profile (place_at w t)).stands ≡ Some Main)
      ⊎ ((profile (place_at w t)).stands ≡ Some Second)
  in_line t h = elim (sleepers_stand (place_at w t) h.stands h.asleep).somewhere [
    | inl main ↦ inl main
    | inr more ↦ elim more [
      | inl second ↦ inr second
      | inr held ↦ absurd (no_carrier held.0 held.1 (draining.world.inductive.stands.hands.taken held.0 t 0
          held.1 (ap (λ x. x.hand) (location_here t h) ∙ held.2)))
    ]
  ]

  few_of : (t : ℕ) → Sleeps t → BeganWithFew 0 (place_at w t) (rights t)
  few_of t h = began (place_at w t) (rights t) h.of h.stands (draining.few t)

  -- a thread owns nothing, unless it stands aside and is pending
  owns : (t : ℕ) → (rights t 0 ≡ no_rights) ⊎ ((without_pending (rights t 0) ≡ no_rights) × Sleeps t
      × ((profile (place_at w t)).stands ≡ Some Second))
  owns t = elim (idle_or t) [
    | inl idle ↦ inl (quiet.idle t idle)
    | inr h ↦ elim (in_line t h) [
      | inl main ↦ inl (sleepers_own_nothing 0 (place_at w t) (rights t) h.stands h.of main h.asleep
          (few_of t h))
      | inr second ↦ inr (
        pending_own_nothing 0 (place_at w t) (rights t) h.stands h.of second h.asleep
            (few_of t h),
        h,
        second,
      )
    ]
  ]

  own_none : (t : ℕ) → without_pending (rights t 0) ≡ no_rights
  own_none t = elim (owns t) [
    | inl none ↦ ap without_pending none
    | inr more ↦ more.0
  ]

  no_exclusive : (o : Option ℕ) → s.exclusive ≡ o → s.exclusive ≡ None
  no_exclusive None e = e
  no_exclusive (Some t) e = absurd (let z : one_if_thread t s.exclusive ≡ 0 =
      ap (λ (r : Rights). r.exclusive) (own_none t) in let o : one_if_thread t (Some t) ≡ 1 =
      grind (arith, nat_tests) in let f : one_if_thread t s.exclusive ≡ one_if_thread t (Some t) =
      ap (one_if_thread t) e in omega arith)

  no_upgradable : (o : Option ℕ) → s.upgradable ≡ o → s.upgradable ≡ None
  no_upgradable None e = e
  no_upgradable (Some t) e = absurd (let z : one_if_thread t s.upgradable ≡ 0 =
      ap (λ (r : Rights). r.upgradable) (own_none t) in let o : one_if_thread t (Some t) ≡ 1 =
      grind (arith, nat_tests) in let f : one_if_thread t s.upgradable ≡ one_if_thread t (Some t) =
      ap (one_if_thread t) e in omega arith)

  no_readers : readers s ≡ 0
  no_readers = zero_sum s.shared (λ t. ap (λ (r : Rights). r.shared) (own_none t))

  -- how often it stands there
  stands_aside : (t : ℕ) → Sleeps t → (profile (place_at w t)).stands ≡ Some Second
      → times t (queue_at w (key_of 0 Second)) ≡ 1
  stands_aside t h second = draining.world.inductive.stands.lines t 0 Second ∙ ap (λ x. stood_in x Second)
      (ap (λ x. x.stands) (location_here t h) ∙ second)

  stands_main : (t : ℕ) → Sleeps t → (profile (place_at w t)).stands ≡ Some Main
      → times t (queue_at w (key_of 0 Main)) ≡ 1
  stands_main t h main = draining.world.inductive.stands.lines t 0 Main ∙ ap (λ x. stood_in x Main)
      (ap (λ x. x.stands) (location_here t h) ∙ main)

  somebody_aside : (o : Option Pending) → s.pending ≡ o → s.pending ≢ None → s.aside ≢ None
  somebody_aside None e some away = some e
  somebody_aside (Some p) e some away = elim (owns p.thread) [
    | inl none ↦ let z : one_if_pending p.thread s.pending ≡ 0 = ap (λ (r : Rights). r.pending) none
        in let o : one_if_pending p.thread (Some p) ≡ 1 = grind (arith, nat_tests)
        in let f : one_if_pending p.thread s.pending ≡ one_if_pending p.thread (Some p) =
        ap (one_if_pending p.thread) e in absurd (omega arith)
    | inr more ↦ let one = stands_aside p.thread more.1 more.2 in
        let none : queue_at w (key_of 0 Second) ≡ [] = none_first (queue_at w (key_of 0 Second)) away in
        let z : times p.thread (queue_at w (key_of 0 Second)) ≡ times p.thread [] = ap (times p.thread) none
        in
        absurd (omega arith)
  ]

  owns_nothing : OwnsNothing s
  owns_nothing = record {
    exclusive = no_exclusive s.exclusive refl;
    upgradable = no_upgradable s.upgradable refl;
    readers = no_readers;
    pending = somebody_aside s.pending refl;
  }

  -- the lock isn't full now
  unfilled : (b : Bool) → has_readers rules.sort ≡ b → is_full rules s ≡ false
  unfilled false e = ap (λ b. b && nat_le rules.limit (count s)) e
  unfilled true e =
      let room : 1 ≤ rules.limit = (draining.world.inductive.sites.limits 0 e).0.0 in
      let up : one_if_some s.upgradable ≡ 0 = ap one_if_some owns_nothing.upgradable in
      let none : count s ≡ 0 = (let r = no_readers in omega arith) in
      grind (arith, nat_tests)

  emptied : IsEmptied s
  emptied = resting_is_empty rules (as_now rules (site_of w 0)) draining.now draining.lock.sort resting
      owns_nothing (unfilled (has_readers rules.sort) refl)

  main_empty : queue_at w (key_of 0 Main) ≡ []
  main_empty = none_queued (queue_at w (key_of 0 Main)) emptied.queue

  second_empty : queue_at w (key_of 0 Second) ≡ []
  second_empty = none_first (queue_at w (key_of 0 Second)) emptied.aside

  all_idle : (t : ℕ) → place_at w t ≡ Idle
  all_idle t = elim (idle_or t) [
    | inl idle ↦ idle
    | inr h ↦ elim (in_line t h) [
      | inl main ↦ let one = stands_main t h main in let z : times t (queue_at w (key_of 0 Main))
          ≡ times t [] = ap (times t) main_empty in absurd (omega arith)
      | inr second ↦ let one = stands_aside t h second in let z : times t (queue_at w (key_of 0 Second))
          ≡ times t [] = ap (times t) second_empty in absurd (omega arith)
    ]
  ]

pub quiet_is_over : QuietIsOver
quiet_is_over w draining quiet = record {
  idle = all_idle w draining quiet;
  queues = queues;
  owners = λ t. quiet.idle t (all_idle w draining quiet t);
}
  where
    queues : (m : Line) → queue_at w (key_of 0 m) ≡ []
    queues Main = main_empty w draining quiet
    queues Second = second_empty w draining quiet
