-- A call of a semaphore that steps alone from its beginning, and to what it comes.
use Rattle.lot_laws.proofs.Imports
use Imports.{nat_tests, ℕ, zero, suc, Bool, true, false, Option, Some, None, if◌then◌else◌, ◌==◌, ◌≡◌, ◌+◌, ◌-◌}
use Imports.{◌*◌, ◌<◌, ◌≤◌, ◌⊎◌, ◌++◌, ◌∷◌, [], List, length, map, replicate, refl, sym, ◌∙◌, ap, subst, arith}
use Imports.{One, Normal, Waiter, Shared, Upgradable, first_of, waiter, apply, Patience, Patient, Timed}
use Imports.{Try as OnlyTry, SemaphoreCall, Answer, Outcome, WordIs, Next, Value, Nobody, outcome_of}
use Imports.{wakes_taken, has_parked, IsBlocked, IsFree, IsFreeAt, Knows, LockState, Owns, one_if_some, readers}
use Imports.{rights_of, with_right, queued_of, Enters, semaphore_purpose, IsFull, Line, Main, has_readers}
use Imports.{SemaphorePlace, Acquire, Release, acquired, in_acquire, in_release, in_try, is_free, semaphore_act}
use Imports.{semaphore_first, semaphore_next, semaphore_profile, Semaphore, semaphore_does, semaphore_goes}
use Imports.{State, after, go_of, place_at, queue_at, queues_without_first, solo, state_after_taking, word_at}
use Imports.{call_at, call_state, lock_state, locks_of, IsInductive, key_of, rules_in, site_of, EndsAlone}
use Imports.{EntersAlone, IsBarred, ReleasesAlone, SleepsLast, WaitsAlone, entered_answer}
use Rattle.std.specs.Prelude.{◌&&◌, not}
use Rattle.core_base.specs.declared.ops.Op.TheVariants as op
use Rattle.spec_locks.specs.declared.calls.SemaphoreCall.TheVariants as call
use Rattle.spec_locks.specs.declared.outcomes.Answer.TheVariants as answer
use Rattle.spec_locks.specs.declared.outcomes.Outcome.TheVariants as outcome
use Rattle.steps_base.specs.declared.acts.Act.TheVariants as act
use Rattle.steps_base.specs.declared.acts.Next.TheVariants as next
use Rattle.steps_base.specs.declared.acts.TakeWhich.TheVariants as whom
use Rattle.spec_locks.specs.Locks.{Semaphore as OfSemaphores}
use Rattle.steps_semaphore.specs.declared.places.TheConstants.{NOT_PARKED}
use Rattle.steps_semaphore.specs.declared.acquire.AcquireAt.TheVariants as acquire
use Rattle.steps_semaphore.specs.declared.tries.TryAt.TheVariants as tries
use Rattle.steps_semaphore.specs.declared.release.ReleaseAt.TheVariants as release
use Rattle.steps_semaphore.specs.declared.places.SemaphorePlace.TheVariants.{Try}
use Rattle.steps_semaphore.specs.SemaphoreSteps.{decided}
use Rattle.steps_semaphore.specs.SemaphoreSteps.{looked}
use Rattle.steps_semaphore.proofs.SemaphoreWords as words
use Rattle.lot_laws.proofs.machine.Parts.{put_here, same}
use Rattle.lot_alone.proofs.TwoLines.{Comes, StepsAlone, leads_into, leave_comes, park_comes, parks_last}
use Rattle.lot_alone.proofs.TwoLines.{take_comes, word_comes}
use Rattle.lot_laws.proofs.sites.OneStep.{queued_after}
use Rattle.lot_alone.proofs.Leads.{Leads, leads_more, leads_rest, leads_step, or_so}
use Rattle.lot_alone.proofs.Answers.{HasAnswered, answered}
use Rattle.lot_laws.proofs.promises.WorldRuns.{RunsAlone, run_refines}

-- to take the first of a line changes no word
taken_word : (b : State) (t l : ℕ) (o : Option ℕ) → word_at (state_after_taking b t o) l ≡ word_at b l
taken_word b t l None = refl
taken_word b t l (Some u) = refl

-- a word by which none is free is 0, or its bit is set
few_words : (v : ℕ) → is_free v ≡ false → v ≤ 1
few_words v none = grind (arith, nat_tests)

-- tells what a thread does by the word that it saw
pub takes_free : (l seen : ℕ) → is_free seen ≡ true → decided l seen ≡ act.Word l
    (op.Exchange seen (seen - 2))
takes_free l seen free = ap (λ (b : Bool). if b then act.Word l (op.Exchange seen (seen - 2))
    else if seen == 0 then act.Word l (op.Exchange 0 1) else act.Enter (One (2 * l))) free

pub none_is_free : (l seen : ℕ) → is_free seen ≡ false
    → decided l seen ≡ (if seen == 0 then act.Word l (op.Exchange 0 1) else act.Enter (One (2 * l)))
none_is_free l seen none = ap (λ (b : Bool). if b then act.Word l (op.Exchange seen (seen - 2))
    else if seen == 0 then act.Word l (op.Exchange 0 1) else act.Enter (One (2 * l))) none

pub sets_bit : (l seen : ℕ) → is_free seen ≡ false → (seen == 0) ≡ true → decided l seen ≡ act.Word l
    (op.Exchange 0 1)
sets_bit l seen none zero_is = none_is_free l seen none
    ∙ ap (λ (b : Bool). if b then act.Word l (op.Exchange 0 1) else act.Enter (One (2 * l))) zero_is

pub goes_inside : (l seen : ℕ) → is_free seen ≡ false → (seen == 0) ≡ false → decided l seen
    ≡ act.Enter (One (2 * l))
goes_inside l seen none parked = none_is_free l seen none
    ∙ ap (λ (b : Bool). if b then act.Word l (op.Exchange 0 1) else act.Enter (One (2 * l))) parked

-- the thread's call goes on, by any act
pub steps_on : (l seen : ℕ) → outcome_of (decided l seen) ≡ outcome.Step
steps_on l seen = either (is_free seen) (seen == 0)
  where
    either : (b c : Bool) → outcome_of (if b then act.Word l (op.Exchange seen (seen - 2)) else if c
        then act.Word l (op.Exchange 0 1) else act.Enter (One (2 * l))) ≡ outcome.Step
    either true c = refl
    either false true = refl
    either false false = refl

pub tries_so : (l seen : ℕ) (free : Bool) → is_free seen ≡ free
    → semaphore_act l (Try (tries.Decide seen)) ≡ act.Word l (if free then op.Exchange seen (seen - 2)
    else op.Load)
tries_so l seen true e = ap (λ (b : Bool). if b then act.Word l (op.Exchange seen (seen - 2))
    else act.Word l op.Load) e
tries_so l seen false e = ap (λ (b : Bool). if b then act.Word l (op.Exchange seen (seen - 2))
    else act.Word l op.Load) e

module _ (t l : ℕ) where
  abbrev Queues : Type 0
  Queues = Line → List Waiter

  abbrev Alone : State → SemaphorePlace → ℕ → Queues → Type 0
  Alone w p v q = StepsAlone w t l (Semaphore l p) v q

  -- the thread sleeps as the last of the queue
  abbrev pub Sleeps : Queues → State → Outcome → Type 0
  Sleeps q v o = (o ≡ outcome.Sleep) × (queue_at v (2 * l) ≡ q Main ++ waiter (2 * l) t Shared ∷ [])

  abbrev pub Answers : Answer → State → Outcome → Type 0
  Answers answer v o = o ≡ outcome.End answer

  module _ (w : State) (v : ℕ) (q : Queues) (n : Next SemaphorePlace)
      (c : Comes w t l (semaphore_goes l n) (outcome_of (semaphore_does l n)) v q) where
    pub goes : (k : ℕ) (P : State → Outcome → Type 0) (p : SemaphorePlace) → n ≡ next.At p
        → outcome_of (semaphore_act l p) ≡ outcome.Step
        → (Alone (after w (go_of t)) p v q → Leads k (after w (go_of t)) t P) → Leads (k + 1) w t P
    goes k P p is steps on = leads_step w t P k (c.0 ∙ ap (λ x. outcome_of (semaphore_does l x)) is ∙ steps)
        (on (subst (λ x. StepsAlone (after w (go_of t)) t l (semaphore_goes l x) v q) is c.1))

    pub ends : (answer : Answer) → n ≡ next.End answer → Leads 1 w t (Answers answer)
    ends answer is = leads_rest w t (Answers answer) (outcome.End answer) (c.0
        ∙ ap (λ x. outcome_of (semaphore_does l x)) is) tt refl

  -- ---------------------------------------------------------------- waiters for a permit

  module _ (timed : Bool) where
    leaves : (again : Bool) (v : ℕ) (w : State) (q q2 : Queues) → q2 Main ≡ q Main ++ waiter (2 * l) t Shared
        ∷ []
        → Alone w (Acquire timed again (acquire.Leave true)) v q2 → Leads 1 w t (Sleeps q)
    leaves again v w q q2 last f = let out = leave_comes w t l _ v q2 f Main Nobody refl
        in leads_rest w t (Sleeps q) outcome.Sleep out.0 tt (refl, out.1.queue Main ∙ last)

    checks : (again : Bool) (w : State) (q : Queues) → Alone w (Acquire timed again acquire.Check) 1 q
        → Leads 2 w t (Sleeps q)
    checks again w q f = goes w 1 _ _ (park_comes w t l _ 1 q f (2 * l) (WordIs 1) Shared true refl refl) 1
        (Sleeps q) (Acquire timed (again && not true) (acquire.Leave true)) refl refl
        (λ g. leaves (again && not true) 1 _ q _ (parks_last w t l _ 1 q f refl Main Shared) g)

    parks : (again : Bool) (w : State) (q : Queues) → Alone w (Acquire timed again (acquire.Decide 1)) 1 q
        → Leads 3 w t (Sleeps q)
    parks again w q f = leads_into w t l _ 1 q f (Sleeps q) 2 Main refl refl refl (λ g. checks again _ q g)

    -- tells what it comes to, by whether a permit is free
    abbrev pub Ended : Queues → Bool → State → Outcome → Type 0
    Ended q true = Answers (acquired timed)
    Ended q false = Sleeps q

    -- the thread decides by the word as it is
    module _ (again : Bool) (w : State) (q : Queues) where
      abbrev pub Deciding : ℕ → Type 0
      Deciding v = Alone w (Acquire timed again (acquire.Decide v)) v q

      takes_one : (v : ℕ) → is_free v ≡ true → Deciding v → Leads 1 w t (Answers (acquired timed))
      takes_one v free f = ends w _ q _ (word_comes w t l _ v q f (op.Exchange v (v - 2))
          (takes_free l v free)) (acquired timed) on
        where
          on : semaphore_next (Acquire timed again (acquire.Decide v)) (Value v) ≡ next.End (acquired timed)
          on = ap (λ (b : Bool). in_acquire timed again (if not b then next.At (acquire.Decide v)
              else if is_free v then next.End (acquired timed) else next.At (acquire.Decide 1))) (same v)
              ∙ ap (λ (b : Bool). in_acquire timed again (if b then next.End (acquired timed)
              else next.At (acquire.Decide 1))) free

      sleeps : (v : ℕ) → v ≤ 1 → Deciding v → Leads 4 w t (Sleeps q)
      sleeps zero few f = goes w 1 q _ (word_comes w t l _ 0 q f (op.Exchange 0 1) refl) 3 (Sleeps q)
          (Acquire timed again (acquire.Decide 1)) refl refl (λ g. parks again _ q g)
      sleeps (suc zero) few f = leads_more 3 4 w t (Sleeps q) (omega arith) (parks again w q f)
      sleeps (suc (suc n)) few f = absurd (omega arith)

      pub decides : (v : ℕ) (free : Bool) → is_free v ≡ free → Deciding v → Leads 4 w t (Ended q free)
      decides v true e f = leads_more 1 4 w t (Answers (acquired timed)) (omega arith) (takes_one v e f)
      decides v false e f = sleeps v (few_words v e) f

    pub loads : (again : Bool) (w : State) (q : Queues) (v : ℕ) (free : Bool) → is_free v ≡ free
        → Alone w (Acquire timed again acquire.Load) v q → Leads 5 w t (Ended q free)
    loads again w q v free e f = goes w v q _ (word_comes w t l _ v q f op.Load refl) 4 (Ended q free)
        (Acquire timed again (acquire.Decide v)) refl (steps_on l v) (λ g. decides again (after w (go_of t)) q
        v free e g)

  -- ---------------------------------------------------------------- a thread that only tries

  abbrev pub tried : Bool → Answer
  tried free = if free then answer.Yes else answer.No

  pub try_decides : (w : State) (q : Queues) (v : ℕ) → is_free v ≡ true → Alone w (Try (tries.Decide v)) v q
      → Leads 1 w t (Answers answer.Yes)
  try_decides w q v free f = ends w _ q _ (word_comes w t l _ v q f (op.Exchange v (v - 2))
      (tries_so l v true free)) answer.Yes on
    where
      on : semaphore_next (Try (tries.Decide v)) (Value v) ≡ next.End answer.Yes
      on = ap (λ (b : Bool). in_try (if b && is_free v then next.End answer.Yes else looked v)) (same v)
          ∙ ap (λ (b : Bool). in_try (if b then next.End answer.Yes else looked v)) free

  pub try_looks : (w : State) (q : Queues) (v : ℕ) (free : Bool) → is_free v ≡ free
      → Comes w t l (semaphore_goes l (in_try (looked v))) (outcome_of (semaphore_does l (in_try (looked v))))
      v q
      → Leads 2 w t (Answers (tried free))
  try_looks w q v true free c = goes w v q _ c 1 (Answers answer.Yes) (Try (tries.Decide v))
      (ap (λ (b : Bool). in_try (if b then next.At (tries.Decide v) else next.End answer.No)) free)
      (ap outcome_of (tries_so l v true free)) (λ g. try_decides _ q v free g)
  try_looks w q v false none c = leads_more 1 2 w t (Answers answer.No) (omega arith)
      (ends w v q _ c answer.No (ap (λ (b : Bool). in_try (if b then next.At (tries.Decide v)
      else next.End answer.No)) none))

  pub try_loads : (w : State) (q : Queues) (v : ℕ) (free : Bool) → is_free v ≡ free
      → Alone w (Try tries.Load) v q
      → Leads 2 w t (Answers (tried free))
  try_loads w q v free e f = try_looks w q v free e (word_comes w t l _ v q f op.Load refl)

  -- ---------------------------------------------------------------- a thread that gives a permit back

  pub release_leaves : (any : Bool) (w : State) (q : Queues) (v : ℕ) → Alone w (Release (release.Leave any)) v
      q → Leads 1 w t (Answers answer.Ok)
  release_leaves any w q v f = ends w v q _ (leave_comes w t l _ v q f Main (wakes_taken any Normal) refl)
      answer.Ok refl

  pub release_clears : (any : Bool) (w : State) (q : Queues) (v : ℕ) → Alone w (Release (release.Clear any)) v
      q → Leads 2 w t (Answers answer.Ok)
  release_clears any w q v f = goes w _ q _ (word_comes w t l _ v q f (op.And NOT_PARKED) refl) 1
      (Answers answer.Ok) (Release (release.Leave any)) refl refl (λ g. release_leaves any _ q _ g)

  abbrev taken_from : State → State
  taken_from w = record w { queues = queues_without_first w.queues (2 * l) }

  pub release_takes : (w : State) (q : Queues) (v : ℕ) → Alone w (Release release.Take) v q
      → Leads 3 w t (Answers answer.Ok)
  release_takes w q v f = either _ _ (take_comes w t l _ v q f (2 * l) whom.First refl
      (taken_word (taken_from w) t l (first_of (queue_at w (2 * l)))))
    where
      either : (any none_left : Bool) {q2 : Queues}
          → Comes w t l (semaphore_goes l (in_release (if none_left then next.At (release.Clear any)
          else next.At (release.Leave any))))
          (outcome_of (semaphore_does l (in_release (if none_left then next.At (release.Clear any)
          else next.At (release.Leave any))))) v q2
          → Leads 3 w t (Answers answer.Ok)
      either any true {q2} c = goes w v q2 _ c 2 (Answers answer.Ok) (Release (release.Clear any)) refl refl
          (λ g. release_clears any _ q2 v g)
      either any false {q2} c = leads_more 2 3 w t (Answers answer.Ok) (omega arith)
          (goes w v q2 _ c 1 (Answers answer.Ok) (Release (release.Leave any)) refl refl
          (λ g. release_leaves any _ q2 v g))

  pub release_enters : (w : State) (q : Queues) (v : ℕ) → Alone w (Release release.Enter) v q
      → Leads 4 w t (Answers answer.Ok)
  release_enters w q v f = leads_into w t l _ v q f (Answers answer.Ok) 3 Main refl refl refl
      (λ g. release_takes _ q v g)

  pub release_adds : (w : State) (q : Queues) (v : ℕ) → Alone w (Release release.Add) v q
      → Leads 5 w t (Answers answer.Ok)
  release_adds w q v f = either (has_parked v) (word_comes w t l _ v q f (op.Add 2) refl)
    where
      either : (b : Bool)
          → Comes w t l (semaphore_goes l
          (in_release (if b then next.At release.Enter else next.End answer.Ok)))
          (outcome_of (semaphore_does l
          (in_release (if b then next.At release.Enter else next.End answer.Ok)))) (apply (op.Add 2) v) q
          → Leads 5 w t (Answers answer.Ok)
      either true c = goes w _ q _ c 4 (Answers answer.Ok) (Release release.Enter) refl refl
          (λ g. release_enters _ q _ g)
      either false c = leads_more 1 5 w t (Answers answer.Ok) (omega arith) (ends w _ q _ c answer.Ok refl)

-- ---------------------------------------------------------------- as the abstract locks see it

module _ (w : State) (l : ℕ) (inductive : IsInductive w) (sort : (rules_in w l).sort ≡ OfSemaphores) where
  abbrev s : LockState
  s = lock_state w l

  abbrev free_now : ℕ
  free_now = words.free_in (rules_in w l).limit (site_of w l)

  worded : word_at w l ≡ words.word_of free_now (site_of w l).parked
  worded = inductive.sites.word l ∙ words.coded (rules_in w l) (site_of w l) sort

  -- a permit is free exactly where fewer share than there are permits
  free_word : readers s < (rules_in w l).limit → is_free (word_at w l) ≡ true
  free_word fewer = either (is_free (word_at w l)) refl
    where
      either : (b : Bool) → is_free (word_at w l) ≡ b → b ≡ true
      either true e = refl
      either false e = absurd (let none : free_now ≡ 0 = words.none_free free_now (site_of w l).parked
          (ap is_free (sym worded) ∙ e) in omega arith)

  full_word : (readers s < (rules_in w l).limit → ⊥) → is_free (word_at w l) ≡ false
  full_word full = either (is_free (word_at w l)) refl
    where
      either : (b : Bool) → is_free (word_at w l) ≡ b → b ≡ false
      either false e = refl
      either true e = absurd (let some : 1 ≤ free_now = words.some_free free_now (site_of w l).parked
          (ap is_free (sym worded) ∙ e) in full (omega arith))

  may_share : IsFree (rules_in w l) s Shared → readers s < (rules_in w l).limit
  may_share free = subst (λ x. IsFreeAt x (rules_in w l).limit s Shared) sort free.1

  is_barred : IsBlocked (rules_in w l) s Shared → readers s < (rules_in w l).limit → ⊥
  is_barred b fewer = b.1 (subst (λ x. IsFreeAt x (rules_in w l).limit s Shared) (sym sort) fewer)

  -- nothing else than the permits keeps a thread out
  never_full : IsFull (locks_of w) l Shared → ⊥
  never_full full = let fewer = may_share full.1 in
      let none : s.upgradable ≡ None =
      ((inductive.sites.site l).state.unpending (λ k. subst (λ x. Knows x Upgradable) sort k)).1 in
      let alone : one_if_some s.upgradable ≡ 0 = ap one_if_some none in
      let most : (rules_in w l).limit ≤ readers s + one_if_some s.upgradable = full.2 in omega arith

  no_readers : has_readers (rules_in w l).sort ≡ true → ⊥
  no_readers h = let f : false ≡ true = sym (ap has_readers sort) ∙ h in cc

module _ (w : State) (t l : ℕ) (inductive : IsInductive w) (sort : (rules_in w l).sort ≡ OfSemaphores)
    (v2 : State) (x : Outcome)
    (run : RunsAlone w t x v2) where
  abbrev queues : Line → List Waiter
  queues m = queue_at w (key_of l m)

  -- the thread's answer holds
  holds : (p : SemaphorePlace) → place_at w t ≡ Semaphore l p → (answer : Answer) → x ≡ outcome.End answer
      → HasAnswered t (Some ((semaphore_profile p).purpose l)) (call_at w t).former answer (locks_of v2)
  holds p is answer e = subst (λ q. HasAnswered t q (call_at w t).former answer (locks_of v2)) called
      (answered run.told (locks_of w) (locks_of v2) t answer
      (run_refines w v2 (replicate (length run.told) (go_of t)) run.told run.run) run.goes_on (sym run.last
      ∙ e))
    where
      called : (call_at w t).purpose ≡ Some ((semaphore_profile p).purpose l)
      called = ap (λ q. (call_state q (λ k. rights_of (lock_state w k) t)).purpose) is

  -- each thread that has entered holds a permit
  owns_then : (how : Patience) → HasAnswered t (Some (Enters l Shared how)) (call_at w t).former
      (entered_answer how) (locks_of v2)
      → Owns (lock_state v2 l) t Shared
  owns_then Patient h = h.holds.0
  owns_then Timed h = h.holds.0
  owns_then OnlyTry h = h.holds.0

  enters_alone : (p : SemaphorePlace) (how : Patience) → place_at w t ≡ Semaphore l p
      → (semaphore_profile p).purpose l ≡ Enters l Shared how
      → (is_free (word_at w l) ≡ true → x ≡ outcome.End (entered_answer how))
      → (is_free (word_at w l) ≡ false → WaitsAlone how (lock_state w l) t Shared x (lock_state v2 l))
      → EntersAlone (word_at w l ≡ 0) (locks_of w) t l Shared how x (locks_of v2)
  enters_alone p how is of takes waits = record {
    owns = λ may. let told = takes (free_word w l inductive sort (may_share w l inductive sort may.0)) in (
      told,
      owns_then how (subst (λ q. HasAnswered t (Some q) (call_at w t).former (entered_answer how)
          (locks_of v2)) of (holds p is (entered_answer how) told)),
    );
    pends = λ e may some. absurd cc;
    refused = λ shared e. absurd (no_readers w l inductive sort shared);
    full = λ full. absurd (never_full w l inductive sort full);
    barred = λ b. waits (full_word w l inductive sort (is_barred w l inductive sort b));
  }

  asleep : Sleeps t l queues v2 x → SleepsLast (lock_state w l) t Shared x (lock_state v2 l)
  asleep h = (h.0, ap (map queued_of) h.1 ∙ queued_after (2 * l) t Shared (queue_at w (2 * l)))

  -- a thread that gives a permit back holds one less
  releases_alone : place_at w t ≡ Semaphore l (Release release.Add) → x ≡ outcome.End answer.Ok
      → ReleasesAlone (locks_of w) t l Shared false x (locks_of v2)
  releases_alone is told = let h = holds (Release release.Add) is answer.Ok told in (
    told,
    sym (put_here (λ k. rights_of (lock_state v2 k) t) l (with_right Shared (rights_of (lock_state v2 l) t)))
        ∙ h.holds l
        ∙ ap (λ f. f l) (h.former_is ∙ ap (λ p. (call_state p (λ k. rights_of (lock_state w k) t)).former)
        is),
  )

-- ---------------------------------------------------------------- each call, from its beginning

pub semaphore_alone : (w : State) (t l : ℕ) (c : SemaphoreCall) (n : ℕ) (last : Outcome) → 5 ≤ n
    → IsInductive w
    → (rules_in w l).sort ≡ OfSemaphores → place_at w t ≡ Semaphore l (semaphore_first c)
    → StepsAlone w t l (Semaphore l (semaphore_first c)) (word_at w l) (λ m. queue_at w (key_of l m))
    → RunsAlone w t (solo n w t last).outcome (solo n w t last).state
    → EndsAlone w t (Some (semaphore_purpose l c)) (solo n w t last).outcome (solo n w t last).state
    ⊎ IsBarred (solo n w t last).state t
semaphore_alone w t l c n last le inductive sort is f run = by_call c is f
  where
    v2 : State
    v2 = (solo n w t last).state

    x : Outcome
    x = (solo n w t last).outcome

    lines : Line → List Waiter
    lines m = queue_at w (key_of l m)

    tried_so : Answers t l (tried t l (is_free (word_at w l))) v2 x → (b : Bool) → is_free (word_at w l) ≡ b
        → x ≡ outcome.End (tried t l b)
    tried_so h b e = h ∙ ap (λ (free : Bool). outcome.End (tried t l free)) e

    by_call : (c : SemaphoreCall) → place_at w t ≡ Semaphore l (semaphore_first c)
        → StepsAlone w t l (Semaphore l (semaphore_first c)) (word_at w l) lines
        → EndsAlone w t (Some (semaphore_purpose l c)) x v2 ⊎ IsBarred v2 t
    by_call (call.Acquire Patient) is f = or_so
        (λ h. enters_alone w t l inductive sort v2 x run (Acquire false false acquire.Load) Patient is refl
        (λ e. subst (λ b. Ended t l false lines b v2 x) e h) (λ e. asleep w t l inductive sort v2 x run
        (subst (λ b. Ended t l false lines b v2 x) e h)))
        (loads t l false false w lines (word_at w l) (is_free (word_at w l)) refl f n last (omega arith))
    by_call (call.Acquire Timed) is f = or_so
        (λ h. enters_alone w t l inductive sort v2 x run (Acquire true false acquire.Load) Timed is refl
        (λ e. subst (λ b. Ended t l true lines b v2 x) e h) (λ e. asleep w t l inductive sort v2 x run
        (subst (λ b. Ended t l true lines b v2 x) e h)))
        (loads t l true false w lines (word_at w l) (is_free (word_at w l)) refl f n last (omega arith))
    by_call (call.Acquire OnlyTry) is f = or_so
        (λ h. enters_alone w t l inductive sort v2 x run (Try tries.Load) OnlyTry is refl (tried_so h true)
        (tried_so h false))
        (try_loads t l w lines (word_at w l) (is_free (word_at w l)) refl f n last (omega arith))
    by_call call.Release is f = or_so (releases_alone w t l inductive sort v2 x run is)
        (release_adds t l w lines (word_at w l) f n last (omega arith))
