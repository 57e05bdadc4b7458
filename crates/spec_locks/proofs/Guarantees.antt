-- The guarantees of each state and step follow from the run of the abstract locks. Their consequences follow
-- from them.
use Rattle.std.proofs.Common.{ℕ, zero, suc, Bool, true, false, Option, Some, None, if◌then◌else◌, ◌==◌, ◌≡◌}
use Rattle.std.proofs.Common.{◌≢◌, ◌≤◌, ◌+◌, ◌⊎◌, ◌↔◌, inl, inr, List, [], ◌∷◌, refl, sym, ◌∙◌, ap, subst}
use Rattle.std.proofs.Common.{arith}
use Rattle.std.proofs.lemmas.Bool.{cases_lt, eqb-true}
use Rattle.core_base.specs.declared.keys.Keys.{Keys}
use Rattle.core_base.specs.declared.keys.Keys.TheVariants.{One, Two}
use Rattle.core_base.specs.Keys.{key_of}
use Rattle.spec_locks.specs.declared.calls.Call.{Call}
use Rattle.spec_locks.specs.declared.calls.Turn.{Turn}
use Rattle.spec_locks.specs.declared.calls.Turn.TheVariants as turn
use Rattle.spec_locks.specs.declared.calls.Step.{Step}
use Rattle.spec_locks.specs.declared.outcomes.Answer.{Answer}
use Rattle.spec_locks.specs.declared.outcomes.Answer.TheVariants as answer
use Rattle.spec_locks.specs.declared.outcomes.Outcome.{Outcome}
use Rattle.spec_locks.specs.declared.outcomes.Outcome.TheVariants as outcome
use Rattle.spec_locks.specs.Onces.{IsRunning, Phase, New, Poisoned, InProgress, Done, Start, Finish, Fail}
use Rattle.spec_locks.specs.Onces.{Rest, TakeAll}
use Rattle.spec_locks.specs.Locks.{LockState, LockCase, Pending, Sort, Mutex, Normal, Recursive, Semaphore}
use Rattle.spec_locks.specs.Locks.{Once, Condvar, Enter, Pend, Settle, Leave, Convert, Park, Aside, TakeFirst}
use Rattle.spec_locks.specs.Locks.{TakeAside, TakePicked, Wake, HandOff, Late, Rollback, OfOnce, OfCondvar}
use Rattle.spec_locks.specs.Locks.{SeeOwner, Look, Show, Hide, Taken, readers, has_caller, one_if_some}
use Rattle.spec_locks.specs.Locks.{one_if_thread, standing, times}
use Rattle.spec_locks.specs.Locks as locks
use Rattle.spec_locks.specs.Purposes.{Purpose}
use Rattle.spec_locks.specs.Purposes.{Notifies, CondvarMemory, Blank, Saw, SawOwner, HasMoved, WasMoved}
use Rattle.spec_locks.specs.Purposes.{WasNotified}
use Rattle.spec_locks.specs.Sites.{Line, Main, Second, counts_some}
use Rattle.spec_locks.specs.Runs.{LocksState, CallState, Event, Nothing, AtLock, Moves, AnswerHolds, Agrees}
use Rattle.spec_locks.specs.Runs.{AreFree, Does, GoesOn, IsNotified, IsStep, IsTimely, MayBegin, MayDo, MayGo}
use Rattle.spec_locks.specs.Runs.{MayHappen, MayTurn, MovedNobody, NotifiesAnswer, Turned, going_on, gives_up}
use Rattle.spec_locks.specs.Runs.{TriesEnd, new_call, rights_in, rules_at}
use Rattle.spec_locks.specs.EachState.{IsAwake, Opens, full_by}
use Rattle.spec_locks.specs.Rest.{IsQuiet, WaitersWaitRightly, WaitsForSome, sort_in}
use Rattle.spec_locks.specs.EachStep.{Recalls, StepHolds}
use Rattle.spec_locks.specs.Guarantees.{AllHold}
use Rattle.spec_locks.proofs.CallTable.{answer_is, goal_is, is_possible, may_turn}
use Rattle.spec_locks.specs.GuaranteeLaws.{HeadlineGuarantees, NoNotificationIsLost, OwnersExcludeInRuns}
use Rattle.spec_locks.specs.GuaranteeLaws.{QuietWorldsRest, SafeStatesHold, SomebodyGoes, TellsNobody}
use Rattle.spec_locks.specs.Headline.{Behaves, GoesFreely, IsDebtor, IsLookedAfter, IsOpenNow, IsSafe}
use Rattle.spec_locks.specs.Headline.{WakesWaiters, want_of}
use Rattle.spec_locks.proofs.LockKeeps.{opening_is_state}
use Rattle.spec_locks.proofs.Owners.{exclude, stand}
use Rattle.spec_locks.proofs.Runs.{run_keeps}
use Rattle.spec_locks.proofs.QueueOrder.{queues_keep_order}
use Rattle.spec_locks.proofs.Idle.{begins, ends, goes_on, is_late}
use Rattle.spec_locks.proofs.Firsts.{first_taken}
use Rattle.spec_locks.proofs.Leaving.{leaves}
use Rattle.spec_locks.proofs.Recalling.{answer_recalls, recalls_truly}
use Rattle.spec_locks.proofs.RightsChange.{rights_change}
use Rattle.spec_locks.proofs.OnceRuns.{closes, starts}
use Rattle.spec_locks.proofs.Joining.{joins}
use Rattle.spec_locks.proofs.Moved.{answer_tells, step_tells}
use Rattle.spec_locks.proofs.MovedInOrder.{in_order}
use Rattle.spec_locks.proofs.Pending.{pends_on}
use Rattle.spec_locks.proofs.Phases.{phase_changes}
use Rattle.spec_locks.proofs.UserLaws.{readers_stay_out}
use Rattle.spec_locks.proofs.NobodyWakes.{nobody_wakes}

-- ---------------------------------------------------------------- exclusion

pub owners_exclude_in_runs : OwnersExcludeInRuns
owners_exclude_in_runs w v steps told opens run = run_keeps w v steps told run
    (λ l. subst (locks.IsLockState (rules_at w l)) (sym (opens.locks l)) (opening_is_state (rules_at w l)
    w.threads))

-- ---------------------------------------------------------------- no stuck world

-- each key is of a line of a lock
key_is : (key : ℕ) → (l : ℕ) × (m : Line) × (key ≡ key_of l m)
key_is zero = (0, Main, refl)
key_is (suc key) = next (key_is key)
  where
    next : ((l : ℕ) × (m : Line) × (key ≡ key_of l m)) → (l : ℕ) × (m : Line) × (suc key ≡ key_of l m)
    next (l, Main, e) = (l, Second, omega arith)
    next (l, Second, e) = (suc l, Main, omega arith)

-- ------------------------------------------------ what a state says

-- nobody bars the way of the first waiter
abbrev Way : Sort → ℕ → LockState → Type 0
Way sort limit s = IsOpenNow (record { sort = sort; limit = limit }) s

some_writer : (s : LockState) (limit : ℕ) → (Way Normal limit s → ⊥) → (s.exclusive ≢ None)
    ⊎ ((s.pending ≢ None) ⊎ (s.upgradable ≢ None))
some_writer s limit closed = writers s.exclusive s.pending s.upgradable refl refl refl
  where
    writers : (a : Option ℕ) (b : Option Pending) (c : Option ℕ) → s.exclusive ≡ a → s.pending ≡ b
        → s.upgradable ≡ c → (s.exclusive ≢ None) ⊎ ((s.pending ≢ None) ⊎ (s.upgradable ≢ None))
    writers (Some x) b c e f g = inl (λ h. let k : ◌≡◌ {A = Option ℕ} (Some x) None = sym e ∙ h in cc)
    writers None (Some x) c e f g = inr (inl (λ h. let k : ◌≡◌ {A = Option Pending} (Some x) None = sym f ∙ h
        in cc))
    writers None None (Some x) e f g =
        inr (inr (λ h. let k : ◌≡◌ {A = Option ℕ} (Some x) None = sym g ∙ h in cc))
    writers None None None e f g = absurd (closed (inl (e, f, g)))

recursive_so : (limit : ℕ) (s : LockState) → Way Normal limit s → Way Recursive limit s
recursive_so limit s (inl h) = inl h
recursive_so limit s (inr (inl h)) = absurd (let e : Normal ≡ Semaphore = h.0 in cc)
recursive_so limit s (inr (inr h)) = absurd (let e : Normal ≡ Once = h.0 in cc)

module _ (w : LocksState) (full : ℕ → Bool) (safe : IsSafe w full) where
  inside_goes : (key u : ℕ) → w.inside key ≡ Some u → ((w.calls u).purpose ≢ None) × GoesFreely (w.stances u)
  inside_goes key u h = let k = key_is key in safe.waiters.inside u k.0 k.1
      (subst (λ n. w.inside n ≡ Some u) k.2 h)

  goes : (u : ℕ) → (w.calls u).purpose ≢ None → GoesFreely (w.stances u) → MayGo w u
  goes u called free = record {
    called = called;
    awake = free.0;
    outside = free.1;
    free = subst (AreFree w) (sym free.2) tt;
  }

  by_section : (key : ℕ) (o : Option ℕ) → w.inside key ≡ o → (w.inside key ≡ None) ⊎ ((u : ℕ) × MayGo w u)
  by_section key None e = inl e
  by_section key (Some u) e = let h = inside_goes key u e in inr (u, goes u h.0 h.1)

  sections : (o : Option Keys) → AreFree w o ⊎ ((u : ℕ) × MayGo w u)
  sections None = inl tt
  sections (Some (One key)) = by_section key (w.inside key) refl
  sections (Some (Two a b)) = elim (by_section a (w.inside a) refl) [
    | inr some ↦ inr some
    | inl first ↦ elim (by_section b (w.inside b) refl) [
      | inr some ↦ inr some
      | inl second ↦ inl (first, second)
    ]
  ]

  somebody : (t : ℕ) → (w.calls t).purpose ≢ None → IsAwake (w.stances t) → (u : ℕ) × MayGo w u
  somebody t called up = elim (sections (w.stances t).enters) [
    | inl free ↦ (t, record { called = called; awake = up.0; outside = up.1; free = free })
    | inr other ↦ other
  ]

  -- ------------------------------------------------ quiet worlds

  module _ (quiet : IsQuiet w) where
    not_up : (u : ℕ) → (w.calls u).purpose ≢ None → IsAwake (w.stances u) → ⊥
    not_up u called up = elim (quiet u called) [
      | inl asleep ↦ (let e : false ≡ true = sym up.0 ∙ asleep in cc)
      | inr closure ↦ (let e : false ≡ true = sym up.1 ∙ closure in cc)
    ]

    nobody_inside : (key u : ℕ) → w.inside key ≡ Some u → ⊥
    nobody_inside key u h = let k = inside_goes key u h in not_up u k.0 (k.1.0, k.1.1)

    called_to_wake : (sort : Sort) (o : Option Purpose) (gave_up : Option ℕ) (recalls : CondvarMemory) (l : ℕ)
        → WakesWaiters sort o gave_up recalls l → o ≢ None
    called_to_wake sort None gave_up recalls l h = absurd h
    called_to_wake sort (Some p) gave_up recalls l h = λ e. cc

    called_to_have : (sort : Sort) (o : Option Purpose) → counts_some sort (want_of o) ≡ true → o ≢ None
    called_to_have sort None h = absurd cc
    called_to_have sort (Some p) h = λ e. cc

    called : (u l : ℕ) (m : Line) → IsDebtor w u l m → (w.calls u).purpose ≢ None
    called u l Main (inl at) = called_to_wake (sort_in w l) (w.calls u).purpose (w.calls u).gave_up
        (w.calls u).recalls l at.1
    called u l Main (inr again) = called_to_have (sort_in w l) (w.calls u).purpose again.1
    called u l Second at = at.1

    unattended : (l : ℕ) (m : Line) → IsLookedAfter w l m → ⊥
    unattended l m h = not_up h.debtor (called h.debtor l m h.debt) h.awake

    owner_there : (sort : Sort) (limit : ℕ) (s : LockState) → (Way sort limit s → ⊥)
        → (sort ≡ Condvar → s.shown ≢ None)
        → WaitsForSome sort limit s
    owner_there Mutex limit s closed shows = λ e. closed (inl e)
    owner_there Normal limit s closed shows = some_writer s limit closed
    owner_there Recursive limit s closed shows = some_writer s limit (λ h. closed (recursive_so limit s h))
    owner_there Semaphore limit s closed shows = elim (cases_lt (readers s) limit) [
      | inl lt ↦ absurd (closed (inr (inl (refl, lt))))
      | inr ge ↦ ge
    ]
    owner_there Once limit s closed shows = (λ e. closed (inr (inr (refl, e))), runs s.phase refl)
      where
        runs : (p : Phase) → s.phase ≡ p → has_caller s.queue ≡ true → IsRunning s.phase
        runs (InProgress t) e h = subst IsRunning (sym e) tt
        runs New e h = absurd (closed (inl (h, λ r. subst IsRunning e r)))
        runs Poisoned e h = absurd (closed (inl (h, λ r. subst IsRunning e r)))
        runs Done e h = absurd (closed (inl (h, λ r. subst IsRunning e r)))
    owner_there Condvar limit s closed shows = shows refl

    shows : (t l : ℕ) → 1 ≤ times t (w.locks l).queue → sort_in w l ≡ Condvar → (w.locks l).shown ≢ None
    shows t l some sort none = elim ((safe.shown l sort).none none) [
      | inl empty ↦ (let k : 1 ≤ times t [] = subst (λ q. 1 ≤ times t q) empty some in omega arith)
      | inr b ↦ nobody_inside (key_of l Main) b.thread b.inside
    ]

    nobody_taken : (t l : ℕ) (o : Option Taken) → (w.locks l).taken t ≡ o → (w.locks l).taken t ≡ None
    nobody_taken t l None e = e
    nobody_taken t l (Some h) e = let k = safe.waiters.in_hand t l h e
        in absurd (nobody_inside (key_of l k.0) h.by k.1)

    one_so : (t : ℕ) (o : Option ℕ) → 1 ≤ one_if_thread t o → o ≡ Some t
    one_so t None h = absurd (let e : 1 ≤ 0 = h in omega arith)
    one_so t (Some u) h = by_test (u == t) refl h
      where
        by_test : (b : Bool) → (u == t) ≡ b → 1 ≤ (if b then 1 else 0) → Some u ≡ Some t
        by_test true e h = ap Some (eqb-true u t e)
        by_test false e h = absurd (let f : 1 ≤ 0 = h in omega arith)

    stands : (t l : ℕ) → 1 ≤ standing t (w.locks l) → (1 ≤ times t (w.locks l).queue)
        ⊎ ((w.locks l).aside ≡ Some t)
    stands t l some = elim (cases_lt 0 (times t (w.locks l).queue)) [
      | inl lt ↦ inl lt
      | inr ge ↦ inr (one_so t (w.locks l).aside (let free : one_if_some ((w.locks l).taken t) ≡ 0 =
          ap one_if_some (nobody_taken t l ((w.locks l).taken t) refl) in let sum : 1 ≤ times t
          (w.locks l).queue + one_if_thread t (w.locks l).aside + one_if_some ((w.locks l).taken t) = some
          in omega arith))
    ]

    rests : WaitersWaitRightly w full
    rests = record {
      waits = λ t l some room. owner_there (sort_in w l) (rules_at w l).limit (w.locks l)
          (λ way. unattended l Main (safe.waiters.main t l some way room)) (shows t l some);
      aside = λ l some. elim (cases_lt 0 (readers (w.locks l))) [
        | inl lt ↦ lt
        | inr ge ↦ absurd (unattended l Second (safe.waiters.second l some (omega arith)))
      ];
      in_no_hand = λ t l. nobody_taken t l ((w.locks l).taken t) refl;
      somewhere = λ t asleep. elim (safe.waiters.asleep t asleep) [
        | inl some ↦ (some.0, stands t some.0 some.1)
        | inr h ↦ absurd (nobody_inside (key_of h.lock Main) h.by h.inside)
      ];
    }

pub somebody_goes : SomebodyGoes
somebody_goes w full t safe called up = somebody w full safe t called up

pub quiet_worlds_rest : QuietWorldsRest
quiet_worlds_rest w full safe quiet = rests w full safe quiet

-- ---------------------------------------------------------------- each step

pub timely_of : (w : LocksState) (t l : ℕ) (case : LockCase) (o : Option Purpose) → MayDo w t l case o
    → IsTimely (w.calls t).late case
timely_of w t l case None may = absurd may
timely_of w t l case (Some p) may = may.2

pub made_of : (w : LocksState) (t l : ℕ) (case : LockCase) (o : Option Purpose) (p : Purpose) → o ≡ Some p
    → MayDo w t l case o
    → Rattle.spec_locks.specs.Purposes.IsMadeOf p (w.calls t).gave_up (w.calls t).released (w.calls t).recalls
    l case
made_of w t l case o p e may = (subst (MayDo w t l case) e may).0

module _ (w v : LocksState) (t : ℕ) where
  recalled : (c : CallState) → c.purpose ≡ (w.calls t).purpose → c.former ≡ (w.calls t).former
      → c.gave_up ≡ (w.calls t).gave_up → c.recalls ≡ (w.calls t).recalls
      → ((w.calls t).released ≡ true → c.released ≡ true) → Recalls w t c
  recalled c e f g h i = record {
    purpose = e;
    former = f;
    gave_up = inl g;
    notified = λ n. subst IsNotified h n;
    released = i;
  }

  -- the time of the thread is up
  recalls_late : (l : ℕ) (r : CondvarMemory) → (w.calls t).recalls ≡ r → (w.calls t).late ≡ true
      → Recalls w t (gives_up l r (w.calls t))
  recalls_late l WasMoved e late = record {
    purpose = refl;
    former = refl;
    gave_up = inl refl;
    notified = λ n. subst IsNotified (sym e) tt;
    released = λ r. r;
  }
  recalls_late l Blank e late = record {
    purpose = refl;
    former = refl;
    gave_up = inr late;
    notified = λ n. n;
    released = λ r. r;
  }
  recalls_late l (Saw m) e late = record {
    purpose = refl;
    former = refl;
    gave_up = inr late;
    notified = λ n. n;
    released = λ r. r;
  }
  recalls_late l (SawOwner m b) e late = record {
    purpose = refl;
    former = refl;
    gave_up = inr late;
    notified = λ n. n;
    released = λ r. r;
  }
  recalls_late l (HasMoved m n) e late = record {
    purpose = refl;
    former = refl;
    gave_up = inr late;
    notified = λ n. n;
    released = λ r. r;
  }
  recalls_late l WasNotified e late = record {
    purpose = refl;
    former = refl;
    gave_up = inr late;
    notified = λ n. n;
    released = λ r. r;
  }

  pub recalls : (e : Event) → MayHappen w t e → Recalls w t (going_on e (w.calls t))
  recalls Nothing may = recalled _ refl refl refl refl (λ r. r)
  recalls (Moves c m all owned n) may = record {
    purpose = refl;
    former = refl;
    gave_up = inl refl;
    notified = λ n. absurd n;
    released = λ r. r;
  }
  recalls (AtLock l Late) may = recalls_late l (w.calls t).recalls refl (timely_of w t l Late
      (w.calls t).purpose may)
  recalls (AtLock l (Enter x)) may = recalled _ refl refl refl refl (λ r. r)
  recalls (AtLock l Pend) may = recalled _ refl refl refl refl (λ r. r)
  recalls (AtLock l Settle) may = recalled _ refl refl refl refl (λ r. r)
  recalls (AtLock l (Park x)) may = recalled _ refl refl refl refl (λ r. r)
  recalls (AtLock l Aside) may = recalled _ refl refl refl refl (λ r. r)
  recalls (AtLock l (Leave x)) may = recalled _ refl refl refl refl (λ r. refl)
  recalls (AtLock l (HandOff x y)) may = recalled _ refl refl refl refl (λ r. refl)
  recalls (AtLock l (OfOnce (Start b))) may = recalled _ refl refl refl refl (λ r. refl)
  recalls (AtLock l (OfOnce (Rest x b))) may = recalled _ refl refl refl refl (λ r. r)
  recalls (AtLock l (OfOnce Fail)) may = recalled _ refl refl refl refl (λ r. r)
  recalls (AtLock l (OfOnce Finish)) may = recalled _ refl refl refl refl (λ r. r)
  recalls (AtLock l (OfOnce TakeAll)) may = recalled _ refl refl refl refl (λ r. r)
  recalls (AtLock l (OfCondvar (Look (Some m)))) may = record {
    purpose = refl;
    former = refl;
    gave_up = inl refl;
    notified = λ n. absurd n;
    released = λ r. r;
  }
  recalls (AtLock l (OfCondvar (Look None))) may = recalled _ refl refl refl refl (λ r. r)
  recalls (AtLock l (OfCondvar (Show m))) may = recalled _ refl refl refl refl (λ r. r)
  recalls (AtLock l (OfCondvar Hide)) may = recalled _ refl refl refl refl (λ r. r)
  recalls (AtLock l (SeeOwner b)) may = record {
    purpose = refl;
    former = refl;
    gave_up = inl refl;
    notified = λ n. absurd n;
    released = λ r. r;
  }
  recalls (AtLock l (Convert x y)) may = recalled _ refl refl refl refl (λ r. r)
  recalls (AtLock l (TakeFirst x)) may = recalled _ refl refl refl refl (λ r. r)
  recalls (AtLock l (TakeAside u)) may = recalled _ refl refl refl refl (λ r. r)
  recalls (AtLock l (TakePicked x)) may = recalled _ refl refl refl refl (λ r. r)
  recalls (AtLock l Wake) may = recalled _ refl refl refl refl (λ r. r)
  recalls (AtLock l Rollback) may = recalled _ refl refl refl refl (λ r. r)

  module _ (o : Outcome) where
    goes_told : GoesOn w t o v → o ≢ outcome.NotNow
    goes_told g e = subst (λ x. Agrees t (going_on g.event (w.calls t)) x v) e g.agrees

    step_told : o ≡ outcome.Step → o ≢ outcome.NotNow
    step_told s e = let f : outcome.Step ≡ outcome.NotNow = sym s ∙ e in cc

    does_told : (x : Turn) → Does w t x o v → o ≢ outcome.NotNow
    does_told (turn.Begin c) d = step_told d.told
    does_told turn.Go d = goes_told d
    does_told turn.Spin d = goes_told d.goes
    does_told turn.Late d = step_told d.told
    does_told turn.Ok d = goes_told d.goes
    does_told turn.Err d = goes_told d.goes

    -- a call that ends goes on by an event
    ends_going : (x : Turn) (a : Answer) → o ≡ outcome.End a → Does w t x o v → GoesOn w t o v
    ends_going (turn.Begin c) a e d =
        absurd (let f : outcome.Step ≡ outcome.End a = sym d.told ∙ e in cc)
    ends_going turn.Go a e d = d
    ends_going turn.Spin a e d = d.goes
    ends_going turn.Late a e d =
        absurd (let f : outcome.Step ≡ outcome.End a = sym d.told ∙ e in cc)
    ends_going turn.Ok a e d = d.goes
    ends_going turn.Err a e d = d.goes

    pub ended : (x : Turn) (a : Answer) → o ≡ outcome.End a → Turned w t x o v → GoesOn w t o v
    ended x a e (inl d) = ends_going x a e d.1
    ended x a e (inr r) = absurd (let f : outcome.NotNow ≡ outcome.End a = sym r.1.0
        ∙ e in cc)

    pub answered : (a : Answer) → o ≡ outcome.End a → (g : GoesOn w t o v)
        → AnswerHolds (going_on g.event (w.calls t)).purpose v t (going_on g.event (w.calls t)) a
    answered a e g = let agrees : Agrees t (going_on g.event (w.calls t)) (outcome.End a) v =
        subst (λ x. Agrees t (going_on g.event (w.calls t)) x v) e g.agrees in agrees.0

    refused : (x : Turn) → Turned w t x o v → (o ≡ outcome.NotNow) ↔ (MayTurn w t x → ⊥)
    refused x (inl d) = ((λ e. absurd (does_told x d.1 e)), (λ n. absurd (n d.0)))
    refused x (inr r) = ((λ e. r.0), (λ n. r.1.0))

    nothing : (x : Turn) → Turned w t x o v → o ≡ outcome.NotNow → v ≡ w
    nothing x (inl d) e = absurd (does_told x d.1 e)
    nothing x (inr r) e = r.1.1

pub step_holds : (w v : LocksState) (s : Step) (o : Outcome) (full : ℕ → Bool) → IsSafe w full
    → IsStep w s o v → TriesEnd w s o → StepHolds w s o v
step_holds w v s o full safe h tries = record {
  same = (h.0.threads, h.0.size, h.0.kinds);
  goes = (
    λ e can. (refused w v s.thread o s.turn h.1).0 e (may_turn w s.thread s.turn can),
    λ none. (refused w v s.thread o s.turn h.1).1 (λ may. none (is_possible w s.thread s.turn may)),
  );
  refused = nothing w v s.thread o s.turn h.1;
  sleeps = h.0.told;
  runs = h.0.runs;
  answer = λ a e. (let g = ended w v s.thread o s.turn a e h.1 in (
    going_on g.event (w.calls s.thread),
    recalls w v s.thread g.event g.may,
    answer_recalls w v s.thread o g,
    answer_tells w v s.thread o g,
    answer_is (going_on g.event (w.calls s.thread)).purpose v s.thread (going_on g.event (w.calls s.thread))
        a (answered w v s.thread o a e g),
  ));
  tries = tries;
  begins = λ begun e told. begins w v s o h.1 begun e told ∙ ap (λ p. new_call p (rights_in w s.thread))
      (goal_is w s.thread begun (may_begin begun e told).right);
  is_late = is_late w v s o h.1;
  ends = ends w v s o h.1;
  goes_on = goes_on w v s o h.1;
  recalled = recalls_truly w v s.thread o s.turn h.1;
  told = step_tells w v s o h.1;
  rights = rights_change w v s.thread o safe.exclude safe.waiting s.turn h.1;
  pends = λ l. pends_on w v s.thread o safe.exclude l s.turn h.1;
  readers = readers_stay_out w v s o safe.exclude h;
  starts = λ state told. starts w v s.thread o state told s.turn h.1;
  closes = λ l runs told. closes w v s.thread o full safe l runs s.turn h.1 told;
  phase = λ l. phase_changes w v s.thread o l s.turn h.1;
  notified = nobody_wakes w v s o safe.exclude h;
  sections = h.0.sections;
  others = h.2.others;
  joins = λ u l none. joins w v s.thread o u l none s.turn h.1;
  order = queues_keep_order w v s o h;
  in_order = λ c l all notifies mutex. in_order w v s.thread o c l all notifies mutex s.turn h.1;
  leaves = λ u l some. leaves w v s.thread o u l some s.turn h.1;
  first = λ u. first_taken w v s.thread o safe.exclude u s.turn h.1;
}
  where
    may_begin : (begun : Call) → s.turn ≡ turn.Begin begun → o ≢ outcome.NotNow
        → MayBegin w s.thread begun
    may_begin begun e told = elim h.1 [
      | inl does ↦ subst (MayTurn w s.thread) e does.0
      | inr refused ↦ absurd (told refused.1.0)
    ]

pub safe_holds : SafeStatesHold
safe_holds w full safe = record {
  exclude = λ l. exclude (rules_at w l) (w.locks l) (safe.exclude l);
  stand = λ l. stand (rules_at w l) (w.locks l) (safe.exclude l);
  rests = quiet_worlds_rest w full safe;
  goes = λ t. somebody_goes w full t safe;
  shown = safe.shown;
  let_go = safe.let_go;
  keeps = safe.keeps;
  runs = safe.runs;
  fair = safe.fair;
  limited = safe.limited;
  on_its_way = safe.on_its_way;
  heeds = safe.heeds;
}

-- one state, and then others
first_then : LocksState → (ℕ → LocksState) → ℕ → LocksState
first_then w states zero = w
first_then w states (suc n) = states n

behaves_hold : (full : ℕ → Bool) (w : LocksState) (ss : List Step) (os : List Outcome) (v : LocksState)
    → Behaves full w ss os v
    → (states : ℕ → LocksState) × (states 0 ≡ w) × AllHold full states ss os
unfolding first_then
behaves_hold full w [] [] v h = ((λ n. w), refl, safe_holds w full h.0)
behaves_hold full w (s ∷ ss) (o ∷ os) v h =
    let more = behaves_hold (full_by full h.1.0) h.1.0 ss os v h.1.3 in (
      first_then w more.0,
      refl,
      (
        safe_holds w full h.0,
        subst (StepHolds w s o) (sym more.1) (step_holds w h.1.0 s o full h.0 h.1.1 h.1.2),
        subst (λ u. AllHold (full_by full u) more.0 ss os) (sym more.1) more.2,
      ),
    )
behaves_hold full w [] (o ∷ os) v h = absurd h
behaves_hold full w (s ∷ ss) [] v h = absurd h

pub headline_guarantees : HeadlineGuarantees
headline_guarantees kinds threads steps told h =
    let held = behaves_hold (λ l. false) h.first steps told h.last h.behaves in
    (held.0, record { opens = subst (Opens kinds threads) (sym held.1) h.opens; holds = held.2 })

-- ---------------------------------------------------------------- no lost notification

moved_nobody : (s : LockState) (r : CondvarMemory) → MovedNobody s r → (s.shown ≡ None)
    ⊎ ((k : ℕ) × (s.shown ≡ Some k) × (r ≢ Saw k))
moved_nobody s Blank h = inl h
moved_nobody s (Saw m) h = by_shown s.shown refl
  where
    by_shown : (o : Option ℕ) → s.shown ≡ o → (s.shown ≡ None) ⊎ ((k : ℕ) × (s.shown ≡ Some k)
        × (Saw m ≢ Saw k))
    by_shown None e = inl e
    by_shown (Some k) e = inr (k, e, λ f. (let g : m ≡ k = cc in h (e ∙ ap Some (sym g))))
moved_nobody s (SawOwner m b) h = absurd h
moved_nobody s (HasMoved m n) h = absurd h
moved_nobody s WasMoved h = absurd h
moved_nobody s WasNotified h = absurd h

-- where it has moved nobody, it recalls a mutex that it saw before
module _ (w v : LocksState) (t c : ℕ) (all : Bool) (for : (w.calls t).purpose ≡ Some (Notifies c all)) (k : ℕ)
    (saw : (w.calls t).recalls ≡ Saw k) where
  look_blank : (l m : ℕ) → MayDo w t l (OfCondvar (Look (Some m))) (w.calls t).purpose → ⊥
  look_blank l m may = elim (made_of w t l (OfCondvar (Look (Some m))) (w.calls t).purpose (Notifies c all)
      for may) [
        | inl there ↦ (let e : Saw k ≡ Blank = sym saw ∙ there.1 in cc)
        | inr beside ↦ beside
      ]

  still_saw : (e : Event) → MayHappen w t e → MovedNobody (v.locks c) (going_on e (w.calls t)).recalls
      → (going_on e (w.calls t)).recalls ≡ Saw k
  still_saw Nothing may h = saw
  still_saw (Moves d m every owned n) may h = absurd h
  still_saw (AtLock l Late) may h = subst (λ r. (gives_up l r (w.calls t)).recalls ≡ Saw k) (sym saw) saw
  still_saw (AtLock l (Enter x)) may h = saw
  still_saw (AtLock l Pend) may h = saw
  still_saw (AtLock l Settle) may h = saw
  still_saw (AtLock l (Park x)) may h = saw
  still_saw (AtLock l Aside) may h = saw
  still_saw (AtLock l (Leave x)) may h = saw
  still_saw (AtLock l (HandOff x y)) may h = saw
  still_saw (AtLock l (OfOnce (Start b))) may h = saw
  still_saw (AtLock l (OfOnce (Rest x b))) may h = saw
  still_saw (AtLock l (OfOnce Fail)) may h = saw
  still_saw (AtLock l (OfOnce Finish)) may h = saw
  still_saw (AtLock l (OfOnce TakeAll)) may h = saw
  still_saw (AtLock l (OfCondvar (Look (Some m)))) may h = absurd (look_blank l m may)
  still_saw (AtLock l (OfCondvar (Look None))) may h = saw
  still_saw (AtLock l (OfCondvar (Show m))) may h = saw
  still_saw (AtLock l (OfCondvar Hide)) may h = saw
  still_saw (AtLock l (SeeOwner b)) may h = absurd h
  still_saw (AtLock l (Convert x y)) may h = saw
  still_saw (AtLock l (TakeFirst x)) may h = saw
  still_saw (AtLock l (TakeAside u)) may h = saw
  still_saw (AtLock l (TakePicked x)) may h = saw
  still_saw (AtLock l Wake) may h = saw
  still_saw (AtLock l Rollback) may h = saw

moved_none : (v : LocksState) (t c : ℕ) (all : Bool) (call : CallState) → (a : Answer) → (a ≡ answer.No)
    ⊎ (a ≡ answer.Number 0) → NotifiesAnswer v t call c all a → MovedNobody (v.locks c) call.recalls
moved_none v t c false call answer.No h holds = holds.0
moved_none v t c true (call) (answer.Number n) h (inl holds) = holds.1
moved_none v t c true (call) (answer.Number n) h (inr holds) = elim h [
  | inl e ↦ (let f : answer.Number n ≡ answer.No = e in absurd cc)
  | inr e ↦ absurd (holds.0 (let f : answer.Number n ≡ answer.Number 0 = e in cc))
]
moved_none v t c false call answer.Yes h holds =
    absurd (elim h [
      | inl e ↦ (let f : answer.Yes ≡ answer.No = e in absurd cc)
      | inr e ↦
          (let f : answer.Yes ≡ answer.Number 0 = e in absurd cc)
    ])
moved_none v t c all call a h holds = absurd holds

told_nobody : (o : Outcome) → TellsNobody o → (a : Answer) × (o ≡ outcome.End a)
    × ((a ≡ answer.No) ⊎ (a ≡ answer.Number 0))
told_nobody o (inl e) = (answer.No, e, inl refl)
told_nobody o (inr e) = (answer.Number 0, e, inr refl)

pub no_notification_is_lost : NoNotificationIsLost
no_notification_is_lost w v s o c all sort h for nobody =
    let told = told_nobody o nobody in
    let g = ended w v s.thread o s.turn told.0 told.1 h.1 in
    let kept = recalls w v s.thread g.event g.may in
    let holds : AnswerHolds (Some (Notifies c all)) v s.thread (going_on g.event (w.calls s.thread)) told.0 =
    subst (λ p. AnswerHolds p v s.thread (going_on g.event (w.calls s.thread)) told.0) (kept.purpose ∙ for)
    (answered w v s.thread o told.0 told.1 g) in
    let moved = moved_none v s.thread c all (going_on g.event (w.calls s.thread)) told.0 told.2 holds in
    elim (moved_nobody (v.locks c) (going_on g.event (w.calls s.thread)).recalls moved) [
      | inl none ↦ elim ((h.2.shown c sort).none none) [
        | inl empty ↦ inl empty
        | inr emptied ↦ inr (inr emptied)
      ]
      | inr other ↦ inr (inl (record {
        mutex = other.0;
        shown = other.1;
        unseen = λ saw. other.2 (still_saw w v s.thread c all for other.0 saw g.event g.may moved);
      }))
    ]
