-- Rights to a lock change by a step of their thread in its call of the lock, or are handed over to it.
use Rattle.std.proofs.Common.{ℕ, zero, suc, Bool, true, false, Option, Some, None, if◌then◌else◌, ◌==◌, ◌≡◌}
use Rattle.std.proofs.Common.{◌≢◌, ◌≤◌, ◌+◌, ◌⊎◌, inl, inr, List, [], ◌∷◌, refl, sym, ◌∙◌, ap, subst, arith}
use Rattle.std.proofs.lemmas.Bool.{cases_eq, eqb-true}
use Rattle.std.proofs.lemmas.Bool.Decides.{nat_tests}
use Rattle.std.specs.Prelude.{◌&&◌, slice_index}
use Rattle.core_base.specs.declared.wants.Want.{Want}
use Rattle.core_base.specs.declared.wants.Want.TheVariants.{Exclusive, Upgradable, Shared}
use Rattle.spec_locks.specs.declared.calls.Turn.{Turn}
use Rattle.spec_locks.specs.declared.calls.Turn.TheVariants as turn
use Rattle.spec_locks.specs.declared.outcomes.Outcome.{Outcome}
use Rattle.spec_locks.specs.Condvars.{moved_of}
use Rattle.spec_locks.specs.Locks as locks
use Rattle.spec_locks.specs.Locks.{LockState, LockCase, Queued, Rules, Taken, Needs, Enter, Pend, Settle}
use Rattle.spec_locks.specs.Locks.{Leave, Convert, Park, Aside, TakeFirst, TakeAside, TakePicked, Wake}
use Rattle.spec_locks.specs.Locks.{HandOff, Late, Rollback, OfOnce, OfCondvar, SeeOwner, Look, Show, Hide}
use Rattle.spec_locks.specs.Locks.{IsLockState, after_case, left_after, one_if_some, putting, rights_of}
use Rattle.spec_locks.specs.Locks.{sharing_from, standing}
use Rattle.spec_locks.specs.Purposes.{MayWait, Purpose, Enters, Releases, Converts, Bumps, CallsOnce, Awaits}
use Rattle.spec_locks.specs.Purposes.{Waits, Notifies, CondvarMemory, AwaitsBy, CallsOnceBy, IsMadeOf}
use Rattle.spec_locks.specs.Purposes.{NotifiesAtMutex, NotifiesAtCondvar, WaitsAtCondvar}
use Rattle.spec_locks.specs.Runs.{LocksState, AreLockStates, Event, Nothing, AtLock, Moves, Does, GoesOn}
use Rattle.spec_locks.specs.Runs.{MayDo, MayHappen, Turned, is_taken_by, joined_by, locks_after, rights_in}
use Rattle.spec_locks.specs.Runs.{rules_at}
use Rattle.spec_locks.specs.Trade.{MayChange}
use Rattle.spec_locks.proofs.Idle.{same_number}
use Rattle.spec_locks.proofs.Rights.{once_keeps, others_keep, rights_are}
use Rattle.spec_locks.proofs.Runs.{needs_of}

-- ---------------------------------------------------------------- a thread that is in no hand of the step's

sharing_else : (t : ℕ) (taken : ℕ → Option Taken) (i u : ℕ) (ns : List ℕ)
    → locks.shares_handed t (taken (i + u)) ≡ 0 → slice_index (sharing_from t taken i ns) u ≡ slice_index ns u
sharing_else t taken i u [] e = grind arith
sharing_else t taken i zero (n ∷ ns) e =
    let f : locks.shares_handed t (taken i) ≡ 0 = subst (λ k. locks.shares_handed t (taken k) ≡ 0)
    (omega arith) e in let g : slice_index (sharing_from t taken i (n ∷ ns)) 0 ≡ n + locks.shares_handed
    t (taken i) = refl in omega arith
sharing_else t taken i (suc u) (n ∷ ns) e =
    sharing_else t taken (i + 1) u ns (subst (λ k. locks.shares_handed t (taken k) ≡ 0) (omega arith) e)

module _ (r : Rules) (s : LockState) (t u : ℕ) (state : IsLockState r s) (other : u ≢ t)
    (free : is_taken_by t (s.taken u) ≡ false) where
  unhanded : (o : Option Taken) → is_taken_by t o ≡ false → locks.shares_handed t o ≡ 0
  unhanded None e = refl
  unhanded (Some h) e = ap (λ (b : Bool). if b && locks.wants_shared h.want then 1 else 0) e

  shared_else : slice_index (sharing_from t s.taken 0 s.shared) u ≡ slice_index s.shared u
  shared_else =
      sharing_else t s.taken 0 u s.shared
      (subst (λ k. locks.shares_handed t (s.taken k) ≡ 0) (omega arith) (unhanded (s.taken u) free))

  -- a hand-over leaves it what it has
  hands_else : (x : Want) (y : Option Queued) → Needs r (HandOff x y) s t
      → rights_of (after_case r (HandOff x y) s t) u ≡ rights_of s u
  hands_else Exclusive None n = rights_are _ _ _ _ _ _ _ _ (grind (arith, nat_tests)) refl refl shared_else
  hands_else Upgradable None n = rights_are _ _ _ _ _ _ _ _ refl refl (grind (arith, nat_tests)) shared_else
  hands_else Exclusive (Some y) n = by_want y.want (((n.2 y.thread y.want).0 refl).1)
    where
      left : LockState
      left = locks.sharing_handed t (locks.without_owner t Exclusive s)

      apart : y.thread ≢ u
      apart e =
          let h : s.taken y.thread ≡ Some (record { by = t; want = y.want }) =
          ((n.2 y.thread y.want).0 refl).0 in let f : false ≡ true = sym free
          ∙ ap (is_taken_by t) (ap s.taken (sym e) ∙ h) ∙ same_number t in cc

      by_readers : (b : Bool)
          → rights_of (if b then locks.with_owner y.thread Exclusive left else locks.pending_for y.thread
          false left) u ≡ rights_of s u
      by_readers true = rights_are _ _ _ _ _ _ _ _ (grind (arith, nat_tests, apart)) refl refl shared_else
      by_readers false =
          rights_are _ _ _ _ _ _ _ _ (grind (arith, nat_tests))
          (grind (arith, nat_tests, apart, state.exclusive_alone)) refl shared_else

      by_want : (z : Want) → z ≢ Shared → rights_of (locks.succeeding z y.thread left) u ≡ rights_of s u
      by_want Exclusive more = by_readers (locks.readers left == 0)
      by_want Upgradable more =
          rights_are _ _ _ _ _ _ _ _ (grind (arith, nat_tests)) refl
          (grind (arith, nat_tests, apart, state.exclusive_alone)) shared_else
      by_want Shared more = absurd (more refl)
      by_want z more = rights_are _ _ _ _ _ _ _ _ (grind (arith, nat_tests)) refl refl shared_else
  hands_else Upgradable (Some y) n = by_want y.want (((n.2 y.thread y.want).0 refl).1)
    where
      left : LockState
      left = locks.sharing_handed t (locks.without_owner t Upgradable s)

      apart : y.thread ≢ u
      apart e =
          let h : s.taken y.thread ≡ Some (record { by = t; want = y.want }) =
          ((n.2 y.thread y.want).0 refl).0 in let f : false ≡ true = sym free
          ∙ ap (is_taken_by t) (ap s.taken (sym e) ∙ h) ∙ same_number t in cc

      by_readers : (b : Bool)
          → rights_of (if b then locks.with_owner y.thread Exclusive left else locks.pending_for y.thread
          false left) u ≡ rights_of s u
      by_readers true =
          rights_are _ _ _ _ _ _ _ _ (grind (arith, nat_tests, apart, state.exclusive_alone)) refl
          (grind (arith, nat_tests)) shared_else
      by_readers false =
          rights_are _ _ _ _ _ _ _ _ refl (grind (arith, nat_tests, apart, state.pending_alone))
          (grind (arith, nat_tests)) shared_else

      by_want : (z : Want) → z ≢ Shared → rights_of (locks.succeeding z y.thread left) u ≡ rights_of s u
      by_want Exclusive more = by_readers (locks.readers left == 0)
      by_want Upgradable more =
          rights_are _ _ _ _ _ _ _ _ refl refl (grind (arith, nat_tests, apart)) shared_else
      by_want Shared more = absurd (more refl)
      by_want z more = rights_are _ _ _ _ _ _ _ _ refl refl (grind (arith, nat_tests)) shared_else
  hands_else Shared y n = absurd (n.1 refl)
  hands_else x y n = absurd n.0

  case_else : (case : LockCase) → Needs r case s t → rights_of (after_case r case s t) u ≡ rights_of s u
  case_else (HandOff x y) n = hands_else x y n
  case_else (Enter x) n = others_keep r s t u state other (Enter x) (λ a b. grind arith) n
  case_else Pend n = others_keep r s t u state other Pend (λ a b. grind arith) n
  case_else Settle n = others_keep r s t u state other Settle (λ a b. grind arith) n
  case_else (Leave x) n = others_keep r s t u state other (Leave x) (λ a b. grind arith) n
  case_else (Convert x y) n = others_keep r s t u state other (Convert x y) (λ a b. grind arith) n
  case_else (Park x) n = others_keep r s t u state other (Park x) (λ a b. grind arith) n
  case_else Aside n = others_keep r s t u state other Aside (λ a b. grind arith) n
  case_else (TakeFirst x) n = others_keep r s t u state other (TakeFirst x) (λ a b. grind arith) n
  case_else (TakeAside x) n = others_keep r s t u state other (TakeAside x) (λ a b. grind arith) n
  case_else (TakePicked x) n = others_keep r s t u state other (TakePicked x) (λ a b. grind arith) n
  case_else Wake n = others_keep r s t u state other Wake (λ a b. grind arith) n
  case_else Late n = others_keep r s t u state other Late (λ a b. grind arith) n
  case_else Rollback n = others_keep r s t u state other Rollback (λ a b. grind arith) n
  case_else (OfOnce case) n = others_keep r s t u state other (OfOnce case) (λ a b. grind arith) n
  case_else (OfCondvar case) n = others_keep r s t u state other (OfCondvar case) (λ a b. grind arith) n
  case_else (SeeOwner b) n = others_keep r s t u state other (SeeOwner b) (λ a b. grind arith) n

-- ---------------------------------------------------------------- a thread's own rights

-- a call gives its thread rights to its own lock alone, and takes them there
module _ (r : Rules) (s : LockState) (t : ℕ) where
  once_call : (case : LockCase) (forced : Bool) → CallsOnceBy forced case
      → rights_of (after_case r case s t) t ≡ rights_of s t
  once_call (OfOnce case) forced made = once_keeps case s t t
  once_call Wake forced made = refl
  once_call case forced made = absurd made

  await_call : (case : LockCase) (forced timed : Bool) (gave_up : Option ℕ)
      → AwaitsBy forced timed gave_up case → rights_of (after_case r case s t) t ≡ rights_of s t
  await_call (OfOnce case) forced timed gave_up made = once_keeps case s t t
  await_call Late forced timed gave_up made = refl
  await_call case forced timed gave_up made = absurd made

  wait_call : (case : LockCase) (m : ℕ) (timed : Bool) (gave_up : Option ℕ) (released : Bool)
      → WaitsAtCondvar m timed gave_up released case
      → rights_of (after_case r case s t) t ≡ rights_of s t
  wait_call (OfCondvar (Show m)) k timed gave_up released made = refl
  wait_call (OfCondvar Hide) k timed gave_up released made = refl
  wait_call (Park x) k timed gave_up released made = refl
  wait_call Late k timed gave_up released made = refl
  wait_call case k timed gave_up released made = absurd made

  notify_there : (case : LockCase) (recalls : CondvarMemory) → NotifiesAtCondvar recalls case
      → rights_of (after_case r case s t) t ≡ rights_of s t
  notify_there (OfCondvar (Look seen)) recalls made = refl
  notify_there (OfCondvar Hide) recalls made = refl
  notify_there case recalls made = absurd made

  notify_beside : (case : LockCase) (recalls : CondvarMemory) (m : ℕ) → NotifiesAtMutex recalls m case
      → rights_of (after_case r case s t) t ≡ rights_of s t
  notify_beside (SeeOwner owned) recalls m made = refl
  notify_beside Wake recalls m made = refl
  notify_beside case recalls m made = absurd made

  own_case : (q : Purpose) (gave_up : Option ℕ) (released : Bool) (recalls : CondvarMemory) (l : ℕ)
      (case : LockCase) → IsMadeOf q gave_up released recalls l case
      → (rights_of (after_case r case s t) t ≡ rights_of s t) ⊎ MayChange (Some q) l
  own_case (Enters k x how) g b c l case made = inr (sym made.0)
  own_case (Releases k x fair) g b c l case made = inr (sym made.0)
  own_case (Converts k x y how) g b c l case made = inr (sym made.0)
  own_case (Bumps k x) g b c l case made = inr (sym made.0)
  own_case (CallsOnce k forced) g b c l case made = inl (once_call case forced made.1)
  own_case (Awaits k forced timed) g b c l case made = inl (await_call case forced timed g made.1)
  own_case (Waits k m timed) g b c l case (inl made) = inl (wait_call case m timed g b made.1)
  own_case (Waits k m timed) g b c l case (inr made) = inr (sym made.0)
  own_case (Notifies k all) g b c l case (inl made) = inl (notify_there case c made.1)
  own_case (Notifies k all) g b c l case (inr made) = inl (notify_beside case c l made)

-- ---------------------------------------------------------------- hand-overs

is_hand_over : (case : LockCase)
    → ((x : Want) × (y : Option Queued) × (case ≡ HandOff x y)) ⊎
    ((x : Want) (y : Option Queued) → case ≢ HandOff x y)
is_hand_over (HandOff x y) = inl (x, y, refl)
is_hand_over case = inr (λ x y. grind arith)

-- ---------------------------------------------------------------- a step

-- a thread that waits is in a call
module _ (w v : LocksState) (t : ℕ) (o : Outcome) (all : AreLockStates w)
    (waiting : (u l : ℕ) → 1 ≤ standing u (w.locks l) → MayWait (w.calls u).purpose l) where
  abbrev Held : ℕ → ℕ → Type 0
  Held u l = (is_taken_by t ((w.locks l).taken u) ≡ true) × MayWait (w.calls u).purpose l

  -- whose rights to a lock may change, and by what
  abbrev Changes : ℕ → ℕ → Type 0
  Changes u l = ((u ≡ t) × MayChange (w.calls u).purpose l) ⊎ Held u l

  taken_waits : (u l : ℕ) (h : Option Taken) → (w.locks l).taken u ≡ h → is_taken_by t h ≡ true
      → MayWait (w.calls u).purpose l
  taken_waits u l None e held = absurd cc
  taken_waits u l (Some h) e held =
      waiting u l (let one : one_if_some ((w.locks l).taken u) ≡ 1 = ap one_if_some e in omega arith)

  own_rights : (l : ℕ) (case : LockCase) (q : Option Purpose) → MayDo w t l case q
      → (rights_of (after_case (rules_at w l) case (w.locks l) t) t ≡ rights_in w t l) ⊎ MayChange q l
  own_rights l case None may = absurd may
  own_rights l case (Some q) may =
      own_case (rules_at w l) (w.locks l) t q (w.calls t).gave_up (w.calls t).released (w.calls t).recalls l
      case may.0

  other_rights : (u l : ℕ) → u ≢ t → (case : LockCase) → MayDo w t l case (w.calls t).purpose
      → (rights_of (after_case (rules_at w l) case (w.locks l) t) u ≡ rights_in w u l) ⊎ Held u l
  other_rights u l other case may = by_hand (is_taken_by t ((w.locks l).taken u)) refl
    where
      needs : Needs (rules_at w l) case (w.locks l) t
      needs = needs_of w t l case (w.calls t).purpose may

      by_hand : (b : Bool) → is_taken_by t ((w.locks l).taken u) ≡ b
          → (rights_of (after_case (rules_at w l) case (w.locks l) t) u ≡ rights_in w u l) ⊎ Held u l
      by_hand false e = inl (case_else (rules_at w l) (w.locks l) t u (all l) other e case needs)
      by_hand true e = elim (is_hand_over case) [
        | inl hands ↦ inr (e, taken_waits u l ((w.locks l).taken u) refl e)
        | inr none ↦ inl (others_keep (rules_at w l) (w.locks l) t u (all l) other case none needs)
      ]

  case_rights : (u l : ℕ) (case : LockCase) → MayDo w t l case (w.calls t).purpose
      → (rights_of (after_case (rules_at w l) case (w.locks l) t) u ≡ rights_in w u l) ⊎ Changes u l
  case_rights u l case may = elim (cases_eq u t) [
    | inl e ↦ subst (λ k. (rights_of (after_case (rules_at w l) case (w.locks l) t) k ≡ rights_in w k l) ⊎
        Changes k l) (sym e) own
    | inr ne ↦ elim (other_rights u l ne case may) [ inl same ↦ inl same | inr hands ↦ inr (inr hands) ]
  ]
    where
      own : (rights_of (after_case (rules_at w l) case (w.locks l) t) t ≡ rights_in w t l) ⊎ Changes t l
      own =
          elim (own_rights l case (w.calls t).purpose may)
          [ inl same ↦ inl same | inr mine ↦ inr (inl (refl, mine)) ]

  event_rights : (e : Event) → MayHappen w t e → (u l : ℕ)
      → (rights_of (locks_after w t e l) u ≡ rights_in w u l) ⊎ Changes u l
  event_rights Nothing may u l = inl refl
  event_rights (Moves c m every owned n) may u l = inl (at_mutex (l == m) refl)
    where
      at_condvar : (b : Bool) → (l == c) ≡ b
          → rights_of (if b then left_after every (w.locks c) else w.locks l) u ≡ rights_in w u l
      at_condvar false e = refl
      at_condvar true e = ap (λ k. rights_of (w.locks k) u) (sym (eqb-true l c e))

      at_mutex : (b : Bool) → (l == m) ≡ b
          → rights_of (if b then joined_by owned t (moved_of every (w.locks c).queue) (w.locks m) else
          putting w.locks c (left_after every (w.locks c)) l) u ≡ rights_in w u l
      at_mutex false e = at_condvar (l == c) refl
      at_mutex true e = ap (λ k. rights_of (w.locks k) u) (sym (eqb-true l m e))
  event_rights (AtLock k case) may u l = either (l == k) refl
    where
      either : (b : Bool) → (l == k) ≡ b
          → (rights_of (if b then after_case (rules_at w k) case (w.locks k) t else w.locks l) u ≡
          rights_in w u l) ⊎ Changes u l
      either false e = inl refl
      either true e =
          subst (λ j. (rights_of (after_case (rules_at w k) case (w.locks k) t) u ≡ rights_in w u j) ⊎
          Changes u j) (sym (eqb-true l k e)) (case_rights u k case may)

  goes_rights : GoesOn w t o v → (u l : ℕ) → (rights_in v u l ≡ rights_in w u l) ⊎ Changes u l
  goes_rights g u l = elim (event_rights g.event g.may u l) [
    | inl same ↦ inl (ap (λ (s : LockState). rights_of s u) (g.locks l) ∙ same)
    | inr changes ↦ inr changes
  ]

  does_rights : (x : Turn) → Does w t x o v → (u l : ℕ) → (rights_in v u l ≡ rights_in w u l) ⊎ Changes u l
  does_rights (turn.Begin c) d u l = inl (ap (λ (s : LockState). rights_of s u) (d.locks l))
  does_rights turn.Late d u l = inl (ap (λ (s : LockState). rights_of s u) (d.locks l))
  does_rights turn.Go d u l = goes_rights d u l
  does_rights turn.Spin d u l = goes_rights d.goes u l
  does_rights turn.Ok d u l = goes_rights d.goes u l
  does_rights turn.Err d u l = goes_rights d.goes u l

  pub rights_change : (x : Turn) → Turned w t x o v → (u l : ℕ)
      → (rights_in v u l ≡ rights_in w u l) ⊎ Changes u l
  rights_change x (inl d) u l = does_rights x d.1 u l
  rights_change x (inr r) u l = inl (ap (λ (k : LocksState). rights_of (k.locks l) u) r.1.1)
