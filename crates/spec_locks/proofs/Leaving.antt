-- A thread leaves a queue as its time is up, as it comes into a hand, or as a notification moves it.
use Rattle.std.proofs.Common.{ℕ, Bool, true, false, Option, Some, None, if◌then◌else◌, ◌==◌, ◌≡◌}
use Rattle.std.proofs.Common.{◌≢◌, ◌≤◌, ◌+◌, ◌⊎◌, inl, inr, List, [], ◌∷◌, ◌++◌, refl, sym, ◌∙◌, ap, subst}
use Rattle.std.proofs.Common.{arith}
use Rattle.std.proofs.lemmas.Bool.{cases_eq, cases_lt, eqb-true}
use Rattle.std.proofs.lemmas.Bool.Decides.{nat_tests}
use Rattle.std.specs.Prelude.{drop}
use Rattle.spec_locks.specs.declared.calls.Turn.{Turn}
use Rattle.spec_locks.specs.declared.calls.Turn.TheVariants as turn
use Rattle.spec_locks.specs.declared.outcomes.Outcome.{Outcome}
use Rattle.spec_locks.specs.Condvars.{line_of, moved_of}
use Rattle.spec_locks.specs.Locks as locks
use Rattle.spec_locks.specs.Locks.{LockState, LockCase, Queued, Rules, Taken, Needs, Enter, Pend, Settle}
use Rattle.spec_locks.specs.Locks.{Leave, Convert, Park, Aside, TakeFirst, TakeAside, TakePicked, Wake}
use Rattle.spec_locks.specs.Locks.{HandOff, Late, Rollback, OfOnce, OfCondvar, SeeOwner, Look, Show, Hide}
use Rattle.spec_locks.specs.Locks.{after_case, left_after, putting, taking, times}
use Rattle.spec_locks.specs.Onces.{OnceCase, Start, Finish, Fail, Rest, TakeAll}
use Rattle.spec_locks.specs.Purposes.{Notifies, Purpose, Waits, WasMoved}
use Rattle.spec_locks.specs.Runs.{LocksState, CallState, Event, Nothing, AtLock, Moves, Does, GoesOn}
use Rattle.spec_locks.specs.Runs.{IsNotified, IsTimely, MayDo, MayHappen, Turned, is_among}
use Rattle.spec_locks.specs.Runs.{joined_by, locks_after, rules_at}
use Rattle.spec_locks.proofs.Hands.{taking_others, times_picked}
use Rattle.spec_locks.proofs.Idle.{other_then}
use Rattle.spec_locks.proofs.LockKeeps.{times_append}
use Rattle.spec_locks.proofs.QueueOrder.{converts, disowned, falls, owned, succeeded}
use Rattle.spec_locks.proofs.Runs.{needs_of}

timely_of : (w : LocksState) (t l : ℕ) (case : LockCase) (o : Option Purpose) → MayDo w t l case o
    → IsTimely (w.calls t).late case
timely_of w t l case None may = absurd may
timely_of w t l case (Some p) may = may.2

taking_some : (t u : ℕ) (xs : List Queued) (taken : ℕ → Option Taken) → 1 ≤ times u xs
    → taking t xs taken u ≢ None
taking_some t u [] taken some = absurd (let e : 1 ≤ 0 = some in omega arith)
taking_some t u (x ∷ xs) taken some = elim (cases_lt 0 (times u xs)) [
  | inl lt ↦ taking_some t u xs (putting taken x.thread (Some (record { by = t; want = x.want }))) lt
  | inr ge ↦ λ none. (let others = taking_others t u xs
      (putting taken x.thread (Some (record { by = t; want = x.want }))) (omega arith) in
      let same : (u == x.thread) ≡ true = grind (arith, nat_tests) in
      let e : ◌≡◌ {A = Option Taken} (Some (record { by = t; want = x.want })) None =
      sym (ap (λ (b : Bool). if b then Some (record { by = t; want = x.want }) else taken u) same)
      ∙ sym others ∙ none in
      cc)
]

-- ---------------------------------------------------------------- one lock

module _ (r : Rules) (s : LockState) (t u : ℕ) (some : 1 ≤ times u s.queue) where
  abbrev Gone : LockCase → LockState → Type 0
  Gone case v = ((u ≡ t) × (case ≡ Late)) ⊎ (v.taken u ≢ None)

  stays : {A : Type 0} (q : List Queued) → q ≡ s.queue → times u q ≡ 0 → A
  stays q e none = absurd (let f : times u s.queue ≡ 0 = ap (times u) (sym e) ∙ none in omega arith)

  longer : {A : Type 0} (more : List Queued) → times u (s.queue ++ more) ≡ 0 → A
  longer more none = absurd (let f = times_append u s.queue more in omega arith)

  first : (x : Queued) → Needs r (TakeFirst x) s t → times u (drop 1 s.queue) ≡ 0
      → putting s.taken x.thread (Some (record { by = t; want = x.want })) u ≢ None
  first x needs none = elim (cases_eq u x.thread) [
    | inl e ↦ λ f. (let same : (u == x.thread) ≡ true = grind (arith, nat_tests) in
        let g : ◌≡◌ {A = Option Taken} (Some (record { by = t; want = x.want })) None =
        sym (ap (λ (b : Bool). if b then Some (record { by = t; want = x.want }) else s.taken u) same)
        ∙ f in
        cc)
    | inr ne ↦ absurd (let q : s.queue ≡ x ∷ needs.0.0 = needs.0.1 in
        let rest : times u (drop 1 (x ∷ needs.0.0)) ≡ 0 = subst (λ k. times u (drop 1 k) ≡ 0) q none in
        let all : 1 ≤ times u (x ∷ needs.0.0) = subst (λ k. 1 ≤ times u k) q some in
        grind (arith, nat_tests))
  ]

  late : times u (locks.without t s.queue) ≡ 0 → u ≡ t
  late none = elim (cases_eq u t) [
    | inl e ↦ e
    | inr ne ↦ absurd (let f : times u (locks.without t s.queue) ≡ times u s.queue = others_left ne
        s.queue in omega arith)
  ]
    where
      others_left : (u ≢ t) → (q : List Queued) → times u (locks.without t q) ≡ times u q
      others_left ne [] = refl
      others_left ne (x ∷ q) = grind (arith, nat_tests, others_left ne q)

  at_once : (case : OnceCase) → times u (locks.once_after case s t).queue ≡ 0
      → Gone (OfOnce case) (locks.once_after case s t)
  at_once (Start forced) none = stays s.queue refl none
  at_once Finish none = stays s.queue refl none
  at_once Fail none = stays s.queue refl none
  at_once (Rest wanted forced) none = longer ((record { thread = t; want = wanted }) ∷ []) none
  at_once TakeAll none = inr (taking_some t u s.queue s.taken some)

  gone : (case : LockCase) → Needs r case s t → times u (after_case r case s t).queue ≡ 0
      → Gone case (after_case r case s t)
  gone (TakeFirst x) needs none = inr (first x needs none)
  gone (TakePicked start) needs none =
      inr (taking_some t u (locks.picked r.sort start s.queue) s.taken
      (let sum = times_picked r.sort start u s.queue in omega arith))
  gone Late needs none = inl (late none, refl)
  gone (OfOnce case) needs none = at_once case none
  gone (Park x) needs none = longer ((record { thread = t; want = x }) ∷ []) none
  gone (Enter x) needs none = stays _ (owned r s t x) none
  gone Pend needs none = stays s.queue refl none
  gone Settle needs none = stays s.queue refl none
  gone (Leave x) needs none = stays _ (disowned r s t x) none
  gone (Convert x y) needs none = stays _ (converts t y (locks.without_owner t x s) ∙ disowned r s t x) none
  gone Aside needs none = stays s.queue refl none
  gone (TakeAside y) needs none = stays s.queue refl none
  gone Wake needs none = stays s.queue refl none
  gone (HandOff x y) needs none =
      stays _ (succeeded y (locks.sharing_handed t (locks.without_owner t x s)) ∙ disowned r s t x) none
  gone Rollback needs none = stays _ (falls t s.pending (record s { pending = None })) none
  gone (OfCondvar (Look seen)) needs none = stays s.queue refl none
  gone (OfCondvar (Show m)) needs none = stays s.queue refl none
  gone (OfCondvar Hide) needs none = stays s.queue refl none
  gone (SeeOwner b) needs none = stays s.queue refl none

-- ---------------------------------------------------------------- a step

module _ (w v : LocksState) (t : ℕ) (o : Outcome) (u l : ℕ) (some : 1 ≤ times u (w.locks l).queue) where
  abbrev Leaves : LockState → Type 0
  Leaves s = ((u ≡ t) × ((w.calls u).late ≡ true)) ⊎ ((s.taken u ≢ None) ⊎ IsNotified (v.calls u).recalls)

  same : {A : Type 0} (s : LockState) → s ≡ w.locks l → times u s.queue ≡ 0 → A
  same s e none = stays (rules_at w l) (w.locks l) t u some s.queue (ap (λ (k : LockState). k.queue) e) none

  module _ (g : GoesOn w t o v) where
    by_case : (case : LockCase) → MayHappen w t (AtLock l case)
        → times u (after_case (rules_at w l) case (w.locks l) t).queue ≡ 0
        → Leaves (after_case (rules_at w l) case (w.locks l) t)
    by_case case may none =
        elim (gone (rules_at w l) (w.locks l) t u some case (needs_of w t l case (w.calls t).purpose may)
        none) [
          | inl late ↦ inl (
            late.0,
            subst (λ k. (w.calls k).late ≡ true) (sym late.0)
                (subst (λ c. IsTimely (w.calls t).late c) late.1 (timely_of w t l case (w.calls t).purpose
                may)),
          )
          | inr hand ↦ inr (inl hand)
        ]

    moved_call : (m n : ℕ) (every locked : Bool) → g.event ≡ Moves l m every locked n
        → MayHappen w t (Moves l m every locked n)
        → is_among u (moved_of every (w.locks l).queue) ≡ true → IsNotified (v.calls u).recalls
    moved_call m n every locked e may among =
        let waits = (may.wait u among).0 in
        let apart : u ≢ t = (λ same. (let f : Some (Waits l m waits.0) ≡ Some (Notifies l every) = sym
        waits.1 ∙ ap (λ k. (w.calls k).purpose) same ∙ may.notifies in cc)) in
        subst (λ (c : CallState). IsNotified c.recalls)
        (sym (other_then w v t o g u apart ∙ ap (λ x. Rattle.spec_locks.specs.Runs.woken w t x u (w.calls u))
        e
        ∙ ap (λ (b : Bool). if b then record (w.calls u) { recalls = WasMoved } else w.calls u) among)) tt

    left_all : (every : Bool) (q : List Queued) → 1 ≤ times u q
        → times u (if every then [] else drop 1 q) ≡ 0 → is_among u (moved_of every q) ≡ true
    left_all true q some none = grind (arith, nat_tests)
    left_all false [] some none = absurd (let e : 1 ≤ 0 = some in omega arith)
    left_all false (x ∷ q) some none = grind (arith, nat_tests)

    by_event : (e : Event) → g.event ≡ e → MayHappen w t e → times u (locks_after w t e l).queue ≡ 0
        → Leaves (locks_after w t e l)
    by_event Nothing h may none = same (w.locks l) refl none
    by_event (AtLock k case) h may none = either (l == k) refl none
      where
        either : (b : Bool) → (l == k) ≡ b
            → times u (if b then after_case (rules_at w k) case (w.locks k) t else w.locks l).queue ≡ 0
            → Leaves (if b then after_case (rules_at w k) case (w.locks k) t else w.locks l)
        either false e none = same (w.locks l) refl none
        either true e none = let there : k ≡ l = sym (eqb-true l k e) in
            subst (λ j. Leaves (after_case (rules_at w j) case (w.locks j) t)) (sym there)
            (by_case case (subst (λ j. MayHappen w t (AtLock j case)) there may)
            (subst (λ j. times u (after_case (rules_at w j) case (w.locks j) t).queue ≡ 0) there none))
    by_event (Moves c m every locked n) h may none = at_mutex (l == m) refl none
      where
        at_condvar : (b : Bool) → (l == c) ≡ b
            → times u (if b then left_after every (w.locks c) else w.locks l).queue ≡ 0
            → Leaves (if b then left_after every (w.locks c) else w.locks l)
        at_condvar false e none = same (w.locks l) refl none
        at_condvar true e none = let there : c ≡ l = sym (eqb-true l c e) in
            inr (inr (moved_call m n every locked (h ∙ ap (λ j. Moves j m every locked n) there)
            (subst (λ j. MayHappen w t (Moves j m every locked n)) there may)
            (left_all every (w.locks l).queue some
            (subst (λ j. times u (left_after every (w.locks j)).queue ≡ 0) there none))))

        at_mutex : (b : Bool) → (l == m) ≡ b
            → times u (if b then joined_by locked t (moved_of every (w.locks c).queue) (w.locks m) else
            putting w.locks c (left_after every (w.locks c)) l).queue ≡ 0
            → Leaves (if b then joined_by locked t (moved_of every (w.locks c).queue) (w.locks m) else
            putting w.locks c (left_after every (w.locks c)) l)
        at_mutex false e none = at_condvar (l == c) refl none
        at_mutex true e none = absurd (let there : l ≡ m = eqb-true l m e in
            let before : 1 ≤ times u (w.locks m).queue = subst (λ j. 1 ≤ times u (w.locks j).queue) there
            some in
            let sum = times_append u (w.locks m).queue (line_of locked (moved_of every (w.locks c).queue)) in
            omega arith)

    goes : times u (v.locks l).queue ≡ 0 → Leaves (v.locks l)
    goes none =
        subst Leaves (sym (g.locks l))
        (by_event g.event refl g.may (subst (λ (s : LockState). times u s.queue ≡ 0) (g.locks l) none))

  does : (x : Turn) → Does w t x o v → times u (v.locks l).queue ≡ 0 → Leaves (v.locks l)
  does (turn.Begin c) d none = same (v.locks l) (d.locks l) none
  does turn.Late d none = same (v.locks l) (d.locks l) none
  does turn.Go d none = goes d none
  does turn.Spin d none = goes d.goes none
  does turn.Ok d none = goes d.goes none
  does turn.Err d none = goes d.goes none

  pub leaves : (x : Turn) → Turned w t x o v → times u (v.locks l).queue ≡ 0 → Leaves (v.locks l)
  leaves x (inl d) none = does x d.1 none
  leaves x (inr r) none = same (v.locks l) (ap (λ (k : LocksState). k.locks l) r.1.1) none
