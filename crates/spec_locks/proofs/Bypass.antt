-- A waiter for a mutex that is handed over is overtaken by nobody.
use Rattle.std.proofs.Common.{ℕ, zero, suc, Bool, true, false, Option, Some, None, if◌then◌else◌, ◌==◌, ◌≡◌}
use Rattle.std.proofs.Common.{◌≢◌, ◌≤◌, ◌<◌, ◌+◌, ◌⊎◌, inl, inr, List, [], ◌∷◌, ◌++◌, refl, sym, ◌∙◌, ap}
use Rattle.std.proofs.Common.{subst, arith}
use Rattle.std.proofs.lemmas.Bool.{eqb-true, cases_eq}
use Rattle.std.proofs.lemmas.Bool.Decides.{nat_tests}
use Rattle.std.specs.Prelude.{drop}
use Rattle.core_base.specs.declared.wants.Want.{Want}
use Rattle.core_base.specs.declared.wants.Want.TheVariants.{Exclusive, Upgradable, Shared}
use Rattle.spec_locks.specs.declared.calls.Turn.{Turn}
use Rattle.spec_locks.specs.declared.calls.Turn.TheVariants as turn
use Rattle.spec_locks.specs.declared.outcomes.Outcome.{Outcome}
use Rattle.spec_locks.specs.Condvars.{moved_of, line_of, taken_of}
use Rattle.spec_locks.specs.Locks as locks
use Rattle.spec_locks.specs.Locks.{LockState, LockCase, Mutex, Queued, Rules, Taken, Needs, Enter, Pend}
use Rattle.spec_locks.specs.Locks.{Settle, Leave, Convert, Park, Aside, TakeFirst, TakeAside, TakePicked}
use Rattle.spec_locks.specs.Locks.{Wake, HandOff, Late, Rollback, OfOnce, OfCondvar, SeeOwner, IsLockState}
use Rattle.spec_locks.specs.Locks.{after_case, keep_from, left_after, let_go, one_if_some, putting}
use Rattle.spec_locks.specs.Locks.{standing, taking, times}
use Rattle.spec_locks.specs.Runs.{LocksState, AreLockStates, Event, Nothing, AtLock, Moves, GoesOn, Does}
use Rattle.spec_locks.specs.Runs.{MayHappen, Turned, is_among, joined_by, locks_after, rules_at}
use Rattle.spec_locks.specs.Bypass.{BypassIsBounded, IsHandedOn, NobodyOvertakes, ahead, in_hands, passed}
use Rattle.spec_locks.specs.Bypass.{turns}
use Rattle.spec_locks.proofs.Runs.{needs_of, step_keeps}

-- ---------------------------------------------------------------- lines

-- a thread that joins stands after
ahead_more : (t : ℕ) (q r : List Queued) → 1 ≤ times t q → ahead t (q ++ r) ≡ ahead t q
ahead_more t [] r h = absurd (let e : 1 ≤ 0 = h in omega arith)
ahead_more t (x ∷ q) r h = grind (arith, nat_tests, ahead_more t q r)

-- a thread that leaves lets those after come closer
ahead_without : (t u : ℕ) (q : List Queued) → ahead t (locks.without u q) ≤ ahead t q ⊎ (u ≡ t)
ahead_without t u q = elim (cases_eq u t) [
  | inl e ↦ inr e
  | inr ne ↦ inl (fewer ne q)
]
  where
    fewer : u ≢ t → (q : List Queued) → ahead t (locks.without u q) ≤ ahead t q
    fewer ne [] = grind arith
    fewer ne (x ∷ q) = grind (arith, nat_tests, ne, fewer ne q)

gone : (t : ℕ) (q : List Queued) → times t (locks.without t q) ≡ 0
gone t [] = refl
gone t (x ∷ q) = grind (arith, nat_tests, gone t q)

-- ---------------------------------------------------------------- hands

kept_few : (t : ℕ) (o : Option Taken) → one_if_some (keep_from t o) ≤ one_if_some o
kept_few t None = grind arith
kept_few t (Some h) = either (h.by == t)
  where
    either : (b : Bool) → one_if_some (if b then None else Some h) ≤ 1
    either true = omega arith
    either false = omega arith

let_go_few : (n t : ℕ) (taken : ℕ → Option Taken) → in_hands n (let_go t taken) ≤ in_hands n taken
let_go_few zero t taken = omega arith
let_go_few (suc n) t taken = let a = let_go_few n t taken in let b = kept_few t (taken n) in omega arith

-- one that it had in hand is there no more
let_go_one : (n t u : ℕ) (taken : ℕ → Option Taken) (x : Want) → u < n → taken u
    ≡ Some (record { by = t; want = x }) → in_hands n (let_go t taken) + 1 ≤ in_hands n taken
let_go_one zero t u taken x lt is = absurd (omega arith)
let_go_one (suc n) t u taken x lt is = elim (cases_eq u n) [
  | inl e ↦ (
      let there : taken n ≡ Some (record { by = t; want = x }) =
      subst (λ k. taken k ≡ Some (record { by = t; want = x })) e is in
      let before : one_if_some (taken n) ≡ 1 = ap one_if_some there in
      let after : one_if_some (keep_from t (taken n)) ≡ 0 = ap (λ o. one_if_some (keep_from t o)) there
      ∙ ap (λ (b : Bool). one_if_some {A = Taken} (if b then None else Some
      (record { by = t; want = x }))) (same t) in
      let rest = let_go_few n t taken in
      omega arith)
  | inr ne ↦ (let rest = let_go_one n t u taken x (omega arith) is in let b = kept_few t (taken n)
      in omega arith)
]
  where
    same : (k : ℕ) → (k == k) ≡ true
    same k = grind arith

-- one more is in a hand at most
put_few : (n u : ℕ) (taken : ℕ → Option Taken) (h : Option Taken) → in_hands n (putting taken u h) ≤ 1
    + in_hands n taken
put_few n u taken h = (by_number n).0
  where
    one : (o : Option Taken) → one_if_some o ≤ 1
    one None = omega arith
    one (Some x) = omega arith

    by_number : (n : ℕ) → (in_hands n (putting taken u h) ≤ 1 + in_hands n taken)
        × (n ≤ u → in_hands n (putting taken u h) ≡ in_hands n taken)
    by_number zero = (omega arith, λ le. refl)
    by_number (suc n) = let more = by_number n in elim (cases_eq n u) [
      | inl e ↦ (
        (let same : in_hands n (putting taken u h) ≡ in_hands n taken = more.1 (omega arith)
            in let few : one_if_some (putting taken u h n) ≤ 1 = one (putting taken u h n) in omega arith),
        λ le. absurd (omega arith),
      )
      | inr ne ↦ (
        (let same : putting taken u h n ≡ taken n = other n ne in let f : one_if_some (putting taken u h n)
            ≡ one_if_some (taken n) = ap one_if_some same in let g = more.0 in omega arith),
        λ le. (let same : putting taken u h n ≡ taken n = other n ne
            in let f : one_if_some (putting taken u h n) ≡ one_if_some (taken n) = ap one_if_some same
            in let g : in_hands n (putting taken u h) ≡ in_hands n taken = more.1 (omega arith)
            in omega arith),
      )
    ]
      where
        other : (k : ℕ) → k ≢ u → putting taken u h k ≡ taken k
        other k ne = grind (arith, nat_tests)

-- ---------------------------------------------------------------- a case

never_more : (o : Option ℕ) → passed o o ≡ 0
never_more None = refl
never_more (Some a) = either (a == a) (same a)
  where
    same : (k : ℕ) → (k == k) ≡ true
    same k = grind arith

    either : (b : Bool) → b ≡ true → ◌≡◌ {A = ℕ} (if b then 0 else 1) 0
    either true e = refl
    either false e = absurd cc

passed_few : (a b : Option ℕ) → passed a b ≤ 1
passed_few None b = omega arith
passed_few (Some a) None = omega arith
passed_few (Some a) (Some b) = either (a == b)
  where
    either : (c : Bool) → (if c then 0 else 1) ≤ 1
    either true = omega arith
    either false = omega arith

-- what is asked of the state that it leads to
record Goes (n t : ℕ) (s v : LockState) : Type 0 where
  pub waits : 1 ≤ times t v.queue
  pub owned : v.exclusive ≢ None
  pub few : (u : ℕ) → 1 ≤ standing u s → u < n
  pub hands : (u : ℕ) → v.taken u ≢ None → (s.taken u ≢ None) ⊎ (1 ≤ times u s.queue)

abbrev Costs : ℕ → ℕ → LockState → LockState → Type 0
Costs n t s v = turns n t v + passed s.exclusive v.exclusive ≤ turns n t s

-- the owner stays, and no more come before it
costs_none : (n t : ℕ) (s v : LockState) → v.exclusive ≡ s.exclusive → turns n t v ≤ turns n t s
    → Costs n t s v
costs_none n t s v e le = let none : passed s.exclusive v.exclusive ≡ 0 = ap (passed s.exclusive) e
    ∙ never_more s.exclusive in omega arith

costs_same : (n t : ℕ) (s v : LockState) → v.exclusive ≡ s.exclusive → v.queue ≡ s.queue → v.taken ≡ s.taken
    → Costs n t s v
costs_same n t s v e f g = costs_none n t s v e (let a : ahead t v.queue ≡ ahead t s.queue = ap (ahead t) f
    in let b : in_hands n v.taken ≡ in_hands n s.taken = ap (in_hands n) g in omega arith)

module _ (r : Rules) (s : LockState) (u n t : ℕ) (state : IsLockState r s) (mutex : r.sort ≡ Mutex)
    (waits : 1 ≤ times t s.queue) (owned : s.exclusive ≢ None) where
  unwritten : (s.pending ≡ None) × (s.upgradable ≡ None)
  unwritten = state.unpending (λ k. subst (λ x. locks.Knows x Upgradable) mutex k)

  no_pending : locks.IsSomePending s.pending u → ⊥
  no_pending h = subst (λ o. locks.IsSomePending o u) unwritten.0 h

  no_upgradable : s.upgradable ≢ Some u
  no_upgradable h = let e : ◌≡◌ {A = Option ℕ} None (Some u) = sym unwritten.1 ∙ h in cc

  barred : (x : Want) → locks.IsFree r s x → ⊥
  barred x free = owned (subst (λ y. locks.IsFreeAt y r.limit s x) mutex free.1)

  -- the waiter that it has taken owns in its place
  hands_on : (y : Queued) → s.taken y.thread ≡ Some (record { by = u; want = y.want }) → y.want ≡ Exclusive
      → Goes n t s (locks.handed u Exclusive (Some y) s) → Costs n t s (locks.handed u Exclusive (Some y) s)
  hands_on y is wants goes = by_want y.want wants goes
    where
      left : LockState
      left = locks.sharing_handed u (locks.without_owner u Exclusive s)

      by_readers : (b : Bool) → Goes n t s (if b then locks.with_owner y.thread Exclusive left
          else locks.pending_for y.thread false left)
          → Costs n t s (if b then locks.with_owner y.thread Exclusive left else locks.pending_for y.thread
          false left)
      by_readers false g = absurd (g.owned refl)
      by_readers true g =
          let held : one_if_some (s.taken y.thread) ≡ 1 = ap one_if_some is in
          let few : y.thread < n = g.few y.thread (omega arith) in
          let less = let_go_one n u y.thread s.taken y.want few is in
          let most = passed_few s.exclusive (Some y.thread) in
          omega arith

      by_want : (x : Want) → x ≡ Exclusive → Goes n t s (locks.succeeding x y.thread left)
          → Costs n t s (locks.succeeding x y.thread left)
      by_want x e g = subst (λ z. Goes n t s (locks.succeeding z y.thread left)
          → Costs n t s (locks.succeeding z y.thread left)) (sym e) (λ h. by_readers (locks.readers left == 0)
          h) g

  wants_it : (y : Queued) → s.taken y.thread ≡ Some (record { by = u; want = y.want }) → y.want ≡ Exclusive
  wants_it y is = exclusive y.want (subst (λ z. locks.Knows z y.want) mutex
      (state.known_taken y.thread (record { by = u; want = y.want }) is))
    where
      exclusive : (x : Want) → locks.Knows Mutex x → x ≡ Exclusive
      exclusive Exclusive k = refl
      exclusive x k = absurd k

  first_gone : (x : Queued) (rest q : List Queued) → q ≡ x ∷ rest → 1 ≤ times t (drop 1 q) → times t q ≤ 1
      → ahead t q ≡ 1 + ahead t (drop 1 q)
  first_gone x rest q e still once = grind (arith, nat_tests)

  costs : (case : LockCase) → Needs r case s u → Goes n t s (after_case r case s u)
      → Costs n t s (after_case r case s u)
  costs (Enter Exclusive) needs goes = absurd (barred Exclusive needs.0.0)
  costs (Enter x) needs goes = absurd (barred x needs.0)
  costs Pend needs goes = absurd (barred Exclusive needs.0.0)
  costs Settle needs goes = absurd (no_pending needs.0)
  costs (Leave Exclusive) needs goes = absurd (goes.owned refl)
  costs (Leave Upgradable) needs goes = absurd (no_upgradable needs)
  costs (Leave Shared) needs goes = costs_same n t s (after_case r (Leave Shared) s u) refl refl refl
  costs (Leave x) needs goes = absurd needs
  costs (Convert Exclusive Shared) needs goes = absurd (subst (λ y. locks.Knows y Shared) mutex needs.2)
  costs (Convert Exclusive Upgradable) needs goes =
      absurd (subst (λ y. locks.Knows y Upgradable) mutex needs.2)
  costs (Convert Upgradable x) needs goes = absurd (no_upgradable needs.0)
  costs (Convert x y) needs goes = absurd needs.1
  costs (Park x) needs goes = costs_none n t s (after_case r (Park x) s u) refl (let e =
      ahead_more t s.queue ((record { thread = u; want = x }) ∷ []) waits in omega arith)
  costs Aside needs goes = costs_same n t s (after_case r Aside s u) refl refl refl
  costs (TakeFirst x) needs goes = costs_none n t s (after_case r (TakeFirst x) s u) refl
      (let once : standing t s ≤ 1 = state.once t in
      let closer = first_gone x needs.0.0 s.queue needs.0.1 goes.waits (omega arith) in
      let more = put_few n x.thread s.taken (Some (record { by = u; want = x.want })) in
      omega arith)
  costs (TakeAside y) needs goes =
      absurd (subst (λ o. locks.IsSomePending o y) unwritten.0 (state.aside_pending y needs.0))
  costs (TakePicked start) needs goes = absurd (subst (λ y. locks.Knows y Upgradable) mutex needs.1)
  costs Wake needs goes = costs_none n t s (after_case r Wake s u) refl (let less = let_go_few n u s.taken
      in omega arith)
  costs (HandOff Exclusive None) needs goes = absurd (goes.owned refl)
  costs (HandOff Exclusive (Some y)) needs goes = let is : locks.IsTaken s u y.thread y.want =
      ((needs.2 y.thread y.want).0 refl).0 in hands_on y is (wants_it y is) goes
  costs (HandOff Upgradable y) needs goes = absurd (no_upgradable needs.0)
  costs (HandOff Shared y) needs goes = absurd (needs.1 refl)
  costs (HandOff x y) needs goes = absurd needs.0
  costs Late needs goes = elim (ahead_without t u s.queue) [
    | inl le ↦ costs_none n t s (after_case r Late s u) refl (omega arith)
    | inr e ↦ absurd (let none : times t (locks.without u s.queue) ≡ 0 =
        subst (λ k. times t (locks.without k s.queue) ≡ 0) (sym e) (gone t s.queue) in let some : 1
        ≤ times t (locks.without u s.queue) = goes.waits in omega arith)
  ]
  costs Rollback needs goes = absurd (no_pending needs.0)
  costs (OfOnce case) needs goes = absurd (let e : Mutex ≡ locks.Once = sym mutex ∙ needs.0 in cc)
  costs (OfCondvar case) needs goes = absurd (let e : Mutex ≡ locks.Condvar = sym mutex ∙ needs.0 in cc)
  costs (SeeOwner b) needs goes = costs_same n t s s refl refl refl

-- ---------------------------------------------------------------- a notification

-- nobody is brought into a hand
none_brought : (owned : Bool) (u : ℕ) (moved : List Queued) (taken : ℕ → Option Taken)
    → ((x : Queued) (rest : List Queued) → moved ≡ x ∷ rest → owned ≡ false → ⊥)
    → taking u (taken_of owned moved) taken ≡ taken
none_brought true u moved taken none = refl
none_brought false u [] taken none = refl
none_brought false u (x ∷ rest) taken none = absurd (none x rest refl refl)

module _ (w : LocksState) (u n t l : ℕ) (all : AreLockStates w) (mutex : (rules_at w l).sort ≡ Mutex)
    (waits : 1 ≤ times t (w.locks l).queue) (owned : (w.locks l).exclusive ≢ None) where
  moves_cost : (c m : ℕ) (every locked : Bool) (k : ℕ) → MayHappen w u (Moves c m every locked k)
      → Goes n t (w.locks l) (locks_after w u (Moves c m every locked k) l)
      → Costs n t (w.locks l) (locks_after w u (Moves c m every locked k) l)
  moves_cost c m every locked k may = at_mutex (l == m) refl
    where
      moved : List Queued
      moved = moved_of every (w.locks c).queue

      at_condvar : (b : Bool) → (l == c) ≡ b → Costs n t (w.locks l) (if b then left_after every (w.locks c)
          else w.locks l)
      at_condvar false e = costs_same n t (w.locks l) (w.locks l) refl refl refl
      at_condvar true e = absurd (let same : l ≡ c = eqb-true l c e in let f : Mutex ≡ locks.Condvar =
          sym mutex ∙ ap (λ j. (rules_at w j).sort) same ∙ may.sorts.0 in cc)

      brought : (l ≡ m) → Goes n t (w.locks l) (joined_by locked u moved (w.locks m))
          → (x : Queued) (rest : List Queued) → moved ≡ x ∷ rest → locked ≡ false → ⊥
      brought same goes x rest is free =
          let among : is_among x.thread moved ≡ true = grind (arith, nat_tests) in
          let nowhere : standing x.thread (w.locks l) ≡ 0 = subst (λ j. standing x.thread (w.locks j) ≡ 0)
          (sym same) (may.wait x.thread among).1 in
          let taken_now : (joined_by locked u moved (w.locks m)).taken x.thread ≢ None =
          grind (arith, nat_tests) in
          elim (goes.hands x.thread taken_now) [
            | inl before ↦ before (none_so ((w.locks l).taken x.thread) (omega arith))
            | inr stood ↦ omega arith
          ]
        where
          none_so : (o : Option Taken) → one_if_some o ≡ 0 → o ≡ None
          none_so None e = refl
          none_so (Some h) e = absurd (omega arith)

      at_mutex : (b : Bool) → (l == m) ≡ b
          → Goes n t (w.locks l) (if b then joined_by locked u moved (w.locks m) else putting w.locks c
          (left_after every (w.locks c)) l)
          → Costs n t (w.locks l) (if b then joined_by locked u moved (w.locks m) else putting w.locks c
          (left_after every (w.locks c)) l)
      at_mutex false e goes = at_condvar (l == c) refl
      at_mutex true e goes = let same : l ≡ m = eqb-true l m e in
          let hands : taking u (taken_of locked moved) (w.locks m).taken ≡ (w.locks m).taken =
          none_brought locked u moved (w.locks m).taken (brought same goes) in
          subst (λ j. Costs n t (w.locks j) (joined_by locked u moved (w.locks m))) (sym same)
          (costs_none n t (w.locks m) (joined_by locked u moved (w.locks m)) refl
          (let line = ahead_more t (w.locks m).queue (line_of locked moved)
          (subst (λ j. 1 ≤ times t (w.locks j).queue) same waits) in
          let number : in_hands n (taking u (taken_of locked moved) (w.locks m).taken) ≡ in_hands n
          (w.locks m).taken = ap (in_hands n) hands in
          omega arith))

  event_costs : (e : Event) → MayHappen w u e → Goes n t (w.locks l) (locks_after w u e l)
      → Costs n t (w.locks l) (locks_after w u e l)
  event_costs Nothing may goes = costs_same n t (w.locks l) (w.locks l) refl refl refl
  event_costs (Moves c m every locked k) may goes = moves_cost c m every locked k may goes
  event_costs (AtLock k case) may goes = either (l == k) refl goes
    where
      either : (b : Bool) → (l == k) ≡ b
          → Goes n t (w.locks l) (if b then after_case (rules_at w k) case (w.locks k) u else w.locks l)
          → Costs n t (w.locks l) (if b then after_case (rules_at w k) case (w.locks k) u else w.locks l)
      either false e g = costs_same n t (w.locks l) (w.locks l) refl refl refl
      either true e g = let same : l ≡ k = eqb-true l k e in
          rw same (costs (rules_at w k) (w.locks k) u n t (all k) (subst (λ j. (rules_at w j).sort ≡ Mutex)
          same mutex) (subst (λ j. 1 ≤ times t (w.locks j).queue) same waits)
          (subst (λ j. (w.locks j).exclusive ≢ None) same owned)
          case (needs_of w u k case (w.calls u).purpose may)
          (subst (λ j. Goes n t (w.locks j) (after_case (rules_at w k) case (w.locks k) u)) same g))

-- ---------------------------------------------------------------- a step

module _ (w v : LocksState) (u n t l : ℕ) (o : Outcome) (all : AreLockStates w) (h : IsHandedOn w v n l t)
  where
    by_event : GoesOn w u o v → Costs n t (w.locks l) (v.locks l)
    by_event g = subst (Costs n t (w.locks l)) (sym (g.locks l))
        (event_costs w u n t l all h.mutex h.waits h.owned g.event g.may (subst (Goes n t (w.locks l))
        (g.locks l) (record {
          waits = h.waits_on;
          owned = h.owned_on;
          few = h.few;
          hands = h.hands;
        })))

    by_same : v.locks l ≡ w.locks l → Costs n t (w.locks l) (v.locks l)
    by_same e = subst (Costs n t (w.locks l)) (sym e) (costs_same n t (w.locks l) (w.locks l) refl refl refl)

    by_turn : (x : Turn) → Does w u x o v → Costs n t (w.locks l) (v.locks l)
    by_turn (turn.Begin c) d = by_same (d.locks l)
    by_turn turn.Go d = by_event d
    by_turn turn.Spin d = by_event d.goes
    by_turn turn.Late d = by_same (d.locks l)
    by_turn turn.Ok d = by_event d.goes
    by_turn turn.Err d = by_event d.goes

    turned : (x : Turn) → Turned w u x o v → Costs n t (w.locks l) (v.locks l)
    turned x (inl d) = by_turn x d.1
    turned x (inr r) = by_same (ap (λ (k : LocksState). k.locks l) r.1.1)

pub nobody_overtakes : NobodyOvertakes
nobody_overtakes w v s o n l t all step h = turned w v s.thread n t l o all h s.turn step.1

pub bypass_is_bounded : BypassIsBounded
bypass_is_bounded n l t number w v [] [] all h = let e : number ≡ 0 = h.0
    in subst (λ (u : LocksState). turns n t (u.locks l) + number ≤ turns n t (w.locks l)) (sym h.1)
    (omega arith)
bypass_is_bounded n l t number w v (s ∷ ss) (o ∷ os) all h =
    let cost = nobody_overtakes w h.0 s o n l t all h.2 h.3 in
    let rest = bypass_is_bounded n l t h.1 h.0 v ss os (step_keeps w h.0 s o h.2 all) h.5 in
    let sum : number ≡ passed (w.locks l).exclusive (h.0.locks l).exclusive + h.1 = h.4 in
    omega arith
bypass_is_bounded n l t number w v [] (o ∷ os) all h = absurd h
bypass_is_bounded n l t number w v (s ∷ ss) [] all h = absurd h
