-- The promises of the world say the headline: in the words of the abstract locks alone, nobody is forgotten.
use Rattle.lot_laws.proofs.Imports
use Imports.{ℕ, Bool, true, false, Option, Some, None, ◌≤◌, ◌⊎◌, List, [], ◌∷◌, ◌++◌, ◌≡◌, ◌≢◌, inl, inr, refl}
use Imports.{sym, ◌∙◌, ap, subst, length-replicate, length-map, Kind, Step, Outcome, Act, Sleep, Place, Idle}
use Imports.{Once, act_of, beside_of, called_lock, line_owed, profile, profile_at_mutex, retries_on, Run}
use Imports.{runs_one, Rights, rights_of, standing, CallsOnce, MayTell, Behaves, Opens, State, kind_at, opening}
use Imports.{unlocked, place_at, filled_at, after, step_outcome, after_steps, step_outcomes, RunsClosure}
use Imports.{call_at, call_on_both, call_state, keys_entered, lock_state, locks_of, sleeps, AreLookedAfterIn}
use Imports.{IsKept, IsDebtorOf, IsLookedAfterIn, IsHandedOverIn, Owes, IsWorld, Tells, states_of, StateHolds}
use Imports.{StepHolds, AllHold, IsGuaranteed, IsSafe, safe_holds, step_holds, solo}
use Rattle.core_base.specs.declared.keys.Line.{Line}
use Rattle.core_base.specs.declared.keys.Line.TheVariants.{Main, Second}
use Rattle.steps_once.specs.declared.run.RunAt.TheVariants as running
use Rattle.lot_laws.proofs.machine.Parts.{calls_none}
use Rattle.lot_laws.proofs.machine.Filled.{filled_after}
use Rattle.spec_locks.specs.Headline as headline
use Rattle.lot_laws.specs.Refinement.{runs_closure}
use Rattle.lot_laws.proofs.sites.Opening.{kind_is, unfilled_0}
use Rattle.lot_laws.proofs.promises.PromisesKept.{opening_is}
use Rattle.lot_laws.proofs.promises.WorldRuns.{solo_world, step_is, world_after, world_kept}
use Rattle.lot_laws.proofs.promises.Heeds.{heeds}
use Rattle.lot_laws.proofs.promises.OnItsWay.{on_its_way}
use Rattle.lot_laws.proofs.calls.TriesEnd.{tries_end}
use Rattle.lot_laws.proofs.condvar.SleepersOwn.{sleepers_own}
use Rattle.lot_laws.proofs.mutex.FairHands.{fair_kind, fair_owned}

awake_is : (a : Act) → a ≢ Sleep → sleeps a ≡ false
awake_is Sleep n = absurd (n refl)
awake_is a n = refl

asleep_is : (a : Act) → sleeps a ≡ true → a ≡ Sleep
asleep_is Sleep h = refl
asleep_is a h = absurd cc

-- ---------------------------------------------------------------- a state

-- a thread that isn't idle is in a call
in_call : (p : Place) (r : ℕ → Rights) → (p ≡ Idle → ⊥) → (call_state p r).purpose ≢ None
in_call p r busy = by_lock (beside_of p) (called_lock p) refl
  where
    by_lock : (m o : Option ℕ) → called_lock p ≡ o
        → (call_on_both m o (profile p) (profile_at_mutex p) r).purpose ≢ None
    by_lock None (Some l) e = λ h. cc
    by_lock (Some m) (Some l) e = λ h. cc
    by_lock m None e = absurd (busy (calls_none p e))

-- an idle one owes nothing
idle_owes : (l : ℕ) (m : Line) → line_owed Idle l ≡ Some m → ⊥
idle_owes l m e = absurd cc

-- a thread that runs its closure tries no lock again
closure_tries : (p : Place) (l : ℕ) → runs_closure (act_of p) ≡ true → retries_on p l ≡ true → ⊥
closure_tries p l runs again = let one = runs_one p runs
    in absurd (let e : retries_on (Once one.lock (Run one.forced (running.Closure one.poisoned))) l ≡ true =
    subst (λ q. retries_on q l ≡ true) one.is again in cc)

module _ (w : State) (k : IsKept w) where
  busy : (t l : ℕ) (m : Line) → Owes w t l m → (call_at w t).purpose ≢ None
  busy t l m owes = in_call (place_at w t) (λ l. rights_of (lock_state w l) t)
      (λ idle. idle_owes l m (subst (λ p. line_owed p l ≡ Some m) idle owes))

  -- a thread that owes a wake is inside the section, or enters it next
  at_line : (t l : ℕ) (m : Line) → Owes w t l m → headline.IsAtLine (locks_of w) t l m
  at_line t l m owes = elim (k.owing t l m owes) [
    | inl inside ↦ inl inside
    | inr goes ↦
        inr (ap keys_entered goes.0)
  ]

  -- A thread that owes runs no closure.
  no_closure : (t l : ℕ) (m : Line) → Owes w t l m → runs_closure (act_of (place_at w t)) ≡ false
  no_closure t l m owes = elim (k.owing t l m owes) [
    | inl inside ↦ (k.inside_goes t l m inside).1
    | inr goes ↦
        ap runs_closure goes.0
  ]

  tries_open : (t l : ℕ) → (call_at w t).retries ≡ Some l → runs_closure (act_of (place_at w t)) ≡ false
  tries_open t l again = by_act (runs_closure (act_of (place_at w t))) refl
    where
      by_act : (b : Bool) → runs_closure (act_of (place_at w t)) ≡ b → runs_closure (act_of (place_at w t))
          ≡ false
      by_act false e = e
      by_act true e = absurd (closure_tries (place_at w t) l e ((k.retrying t l).1 again))

  debt_so : (t l : ℕ) (m : Line) → IsDebtorOf w t l m → headline.IsDebtor (locks_of w) t l m
  debt_so t l Main (inl owes) = inl (at_line t l Main owes.0, owes.1)
  debt_so t l Main (inr again) = inr again
  debt_so t l Second owes = (at_line t l Second owes, busy t l Second owes)

  debt_awake : (t l : ℕ) (m : Line) → IsDebtorOf w t l m → runs_closure (act_of (place_at w t)) ≡ false
  debt_awake t l Main (inl owes) = no_closure t l Main owes.0
  debt_awake t l Main (inr again) = tries_open t l again.0
  debt_awake t l Second owes = no_closure t l Second owes

  looked_after : (l : ℕ) (m : Line) → IsLookedAfterIn w l m → headline.IsLookedAfter (locks_of w) l m
  looked_after l m h = record {
    debtor = h.debtor;
    debt = debt_so h.debtor l m h.debt;
    awake = (awake_is (act_of (place_at w h.debtor)) h.awake, debt_awake h.debtor l m h.debt);
  }

  looked_by : (l number : ℕ) → AreLookedAfterIn w l number → headline.AreLookedAfter (locks_of w) l number
  looked_by l number many = record {
    debtor = many.debtor;
    apart = many.apart;
    each = λ i lt. (let h = many.each i lt in
        subst (λ t. headline.IsDebtor (locks_of w) t l Main × headline.IsAwake ((locks_of w).stances t)) h.1 (
          debt_so h.0.debtor l Main h.0.debt,
          (
            awake_is (act_of (place_at w h.0.debtor)) h.0.awake,
            debt_awake h.0.debtor l Main h.0.debt,
          ),
        ));
  }

  handed_over : (t : ℕ) → IsHandedOverIn w t → headline.IsHandedOver (locks_of w) t
  handed_over t h = record {
    lock = h.lock;
    by = h.by;
    want = h.want;
    waited = h.waited;
    owner = h.owner;
    inside = h.inside;
  }

  sleeps_so : (t : ℕ) → act_of (place_at w t) ≡ Sleep → ((l : ℕ) × (1 ≤ standing t (lock_state w l)))
      ⊎ headline.IsHandedOver (locks_of w) t
  sleeps_so t asleep = elim (k.sleeping t asleep) [
    | inl some ↦ inl some
    | inr handed ↦
        inr (handed_over t handed)
  ]

  pub nobody_forgotten : headline.NobodyForgotten (locks_of w) (filled_at w)
  nobody_forgotten = record {
    main = λ t l waits way full. looked_after l Main (k.nobody_forgotten.main t l waits way full);
    permits = λ t l waits sort. looked_by l _ (k.nobody_forgotten.permits t l waits sort);
    second = λ l aside alone. looked_after l Second (k.nobody_forgotten.second l aside alone);
    in_hand = k.in_hand;
    asleep = λ t sleeping. sleeps_so t (asleep_is (act_of (place_at w t)) sleeping);
    inside = λ t l m inside. (busy t l m (k.inside_owes t l m inside), k.inside_goes t l m inside);
  }

  -- a thread runs a closure in a call that runs a `Once`
  abbrev RunsOnce : ℕ → ℕ → Type 0
  RunsOnce t l = (runs_closure (act_of (place_at w t)) ≡ true)
      × ((forced : Bool) × ((call_at w t).purpose ≡ Some (CallsOnce l forced)))

  runs_once : (t l : ℕ) → RunsClosure w t l → RunsOnce t l
  runs_once t l h =
      let one = runs_one (place_at w t) h.1 in
      let called : Some one.lock ≡ Some l = sym (ap called_lock one.is) ∙ h.0 in
      let same : one.lock ≡ l = cc in (
        h.1,
        (
          one.forced,
          ap (λ p. (call_state p (λ k. rights_of (lock_state w k) t)).purpose) one.is
              ∙ ap (λ k. Some (CallsOnce k one.forced)) same,
        ),
      )

  runs_there : (t l : ℕ) → RunsOnce t l → RunsClosure w t l
  runs_there t l h =
      let one = runs_one (place_at w t) h.0 in
      let for : Some (CallsOnce one.lock one.forced) ≡ Some (CallsOnce l h.1.0) =
      sym (ap (λ p. (call_state p (λ k. rights_of (lock_state w k) t)).purpose) one.is) ∙ h.1.1 in
      let same : one.lock ≡ l = cc in
      (ap called_lock one.is ∙ ap Some same, h.0)

pub safe_now : (w : State) → IsWorld w → headline.IsSafe (locks_of w) (filled_at w)
safe_now w h = let k = world_kept w h in record {
  exclude = k.state;
  waiters = nobody_forgotten w k;
  shown = k.shows;
  waiting = k.waiting;
  let_go = k.let_go;
  keeps = sleepers_own w h.inductive;
  runs = λ t l. (
    (λ e. runs_once w k t l ((k.runs t l).0 e)),
    (λ runs. (k.runs t l).1 (runs_there w k t l runs)),
  );
  fair = λ t l fair. fair_owned w h l (fair_kind (kind_at w l) fair) t;
  limited = k.limited;
  on_its_way = on_its_way w h.inductive;
  heeds = heeds w h.inductive;
}

-- ---------------------------------------------------------------- a run

pub run_behaves : (steps : List Step) (w : State) → IsWorld w → Behaves (filled_at w) (locks_of w) steps
    (step_outcomes w steps) (locks_of (after_steps w steps))
run_behaves [] w h = (safe_now w h, refl)
run_behaves (s ∷ ss) w h = (
  safe_now w h,
  (
    locks_of (after w s),
    step_is w s h,
    tries_end w s h.inductive,
    subst (λ full. Behaves full (locks_of (after w s)) ss (step_outcomes (after w s) ss)
        (locks_of (after_steps (after w s) ss))) (λ i l. filled_after w s (world_after w s h) l i)
        (run_behaves ss (after w s) (world_after w s h)),
  ),
)

pub step_behaves : (w : State) (s : Step) → IsWorld w
    → Behaves (filled_at w) (locks_of w) (s ∷ []) (step_outcome w s ∷ []) (locks_of (after w s))
step_behaves w s h = run_behaves (s ∷ []) w h

pub opens : (kinds : List Kind) (threads : ℕ) → Opens kinds threads (locks_of (opening kinds threads))
opens kinds threads = record {
  opening = opening_is kinds threads;
  threads_there = length-replicate threads Idle;
  locks_there = length-map kinds unlocked;
  kinds_there = kind_is kinds;
}

filled_first : (w : State) (kinds : List Kind) (threads : ℕ) → w ≡ opening kinds threads → (l : ℕ)
    → filled_at w l ≡ false
filled_first w kinds threads is l = subst (λ u. filled_at u l ≡ false) (sym is) (unfilled_0 kinds l)

-- steps from the opening state tell what they may
pub run_tells : (kinds : List Kind) (threads : ℕ) (steps : List Step) (w : State) → w ≡ opening kinds threads
    → IsWorld w
    → MayTell kinds threads steps (step_outcomes w steps)
run_tells kinds threads steps w is h = record {
  first = locks_of w;
  last = locks_of (after_steps w steps);
  opens = subst (λ u. Opens kinds threads (locks_of u)) (sym is) (opens kinds threads);
  behaves = subst (λ full. Behaves full (locks_of w) steps (step_outcomes w steps)
      (locks_of (after_steps w steps))) (λ i l. filled_first w kinds threads is l i) (run_behaves steps w h);
}

-- ---------------------------------------------------------------- outcomes after those that were there

module _ (w v : State) (ss : List Step) (before now : List Outcome) (h : IsWorld w) (led : v
    ≡ after_steps w ss)
    (answers : now ≡ before ++ step_outcomes w ss) where
  pub tells_behaves : Tells before now (λ told. Behaves (filled_at w) (locks_of w) ss told (locks_of v))
  tells_behaves = (
    step_outcomes w ss,
    answers,
    subst (λ x. Behaves (filled_at w) (locks_of w) ss (step_outcomes w ss) (locks_of x)) (sym led)
        (run_behaves ss w h),
  )

  pub tells_headline : (kinds : List Kind) (threads : ℕ) → w ≡ opening kinds threads
      → Tells before now (λ told. MayTell kinds threads ss told)
  tells_headline kinds threads is = (step_outcomes w ss, answers, run_tells kinds threads ss w is h)

-- ---------------------------------------------------------------- what follows of a state that is safe

pub safe_after : (ss : List Step) (w v : State) → IsWorld w → v ≡ after_steps w ss
    → IsSafe (locks_of v) (filled_at v)
safe_after [] w v h led = subst (λ u. IsSafe (locks_of u) (filled_at u)) (sym led) (safe_now w h)
safe_after (s ∷ ss) w v h led = safe_after ss (after w s) v (world_after w s h) led

-- a state that is led to holds what the first page promises
pub holds_after : (ss : List Step) (w v : State) → IsWorld w → v ≡ after_steps w ss
    → StateHolds (locks_of v) (filled_at v)
holds_after ss w v h led = safe_holds (locks_of v) (filled_at v) (safe_after ss w v h led)

-- a state that a thread alone leads to
pub solo_holds : (n : ℕ) (w : State) (t : ℕ) (last : Outcome) → IsWorld w
    → StateHolds (locks_of (solo n w t last).state) (filled_at (solo n w t last).state)
solo_holds n w t last h = safe_holds (locks_of (solo n w t last).state) (filled_at (solo n w t last).state)
    (safe_now (solo n w t last).state (solo_world n w t last h))

-- each step holds what the first page promises
pub step_guaranteed : (w : State) (s : Step) → IsWorld w → StepHolds (locks_of w) s (step_outcome w s)
    (locks_of (after w s))
step_guaranteed w s h = step_holds (locks_of w) (locks_of (after w s)) s (step_outcome w s) (filled_at w)
    (safe_now w h) (step_is w s h) (tries_end w s h.inductive)

-- ---------------------------------------------------------------- the first page, of the world's own states

all_hold : (ss : List Step) (w : State) → IsWorld w → AllHold (filled_at w) (states_of w ss) ss
    (step_outcomes w ss)
all_hold [] w h = safe_holds (locks_of w) (filled_at w) (safe_now w h)
all_hold (s ∷ ss) w h = (
  safe_holds (locks_of w) (filled_at w) (safe_now w h),
  step_guaranteed w s h,
  subst (λ full. AllHold full (states_of (after w s) ss) ss (step_outcomes (after w s) ss))
      (λ i l. filled_after w s (world_after w s h) l i) (all_hold ss (after w s) (world_after w s h)),
)

pub tells_guaranteed : (w v : State) (ss : List Step) (before now : List Outcome) → IsWorld w
    → v ≡ after_steps w ss
    → now ≡ before ++ step_outcomes w ss → (kinds : List Kind) (threads : ℕ) → w ≡ opening kinds threads
    → Tells before now (λ told. IsGuaranteed kinds threads (states_of w ss) ss told)
tells_guaranteed w v ss before now h led answers kinds threads is = (
  step_outcomes w ss,
  answers,
  record {
    opens = subst (λ u. Opens kinds threads (locks_of u)) (sym is) (opens kinds threads);
    holds = subst (λ full. AllHold full (states_of w ss) ss (step_outcomes w ss))
        (λ i l. filled_first w kinds threads is l i) (all_hold ss w h);
  },
)
