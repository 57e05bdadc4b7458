-- A call of a `Once` that steps alone from its beginning, and to what it comes.
use Rattle.lot_laws.proofs.Imports
use Imports.{ℕ, Bool, true, false, Some, if◌then◌else◌, ◌≡◌, ◌+◌, ◌*◌, ◌≤◌, ◌⊎◌, ◌++◌, ◌∷◌, [], List, map, refl}
use Imports.{sym, ◌∙◌, ap, subst, arith, One, Waiter, waiter, apply, OnceCall, WaitTimed, Answer, Outcome, Next}
use Imports.{Value, Nobody, holds, outcome_of, Phase, New, Poisoned, InProgress, queued_of, once_purpose, Line}
use Imports.{Main, Runs as Running, idle, OncePlace, Run, once_profile, check_of, in_look, is_forced, once_act}
use Imports.{once_first, once_next, state_before, when_done, Once, once_does, once_goes, State, after, go_of}
use Imports.{queue_at, solo, word_at, lock_state, FitsItsLock, key_of, rules_in, site_of, EndsAlone, IsBarred}
use Imports.{role_on}
use Rattle.std.specs.Prelude.{◌&&◌, not}
use Rattle.core_base.specs.declared.ops.Op.TheVariants as op
use Rattle.spec_locks.specs.declared.calls.OnceCall.TheVariants.{CallOnce, Wait}
use Rattle.spec_locks.specs.declared.outcomes.Answer.TheVariants as answer
use Rattle.spec_locks.specs.declared.outcomes.Outcome.TheVariants as outcome
use Rattle.steps_base.specs.declared.acts.Act.TheVariants as act
use Rattle.steps_base.specs.declared.acts.Next.TheVariants as next
use Rattle.spec_locks.specs.Onces.{Done as IsDone}
use Rattle.steps_once.specs.declared.look.LookAt.TheVariants as look
use Rattle.steps_once.specs.declared.run.RunAt.TheVariants as run
use Rattle.steps_once.specs.declared.places.OncePlace.TheVariants.{Look}
use Rattle.steps_once.specs.OnceSteps.{looked}
use Rattle.steps_once.specs.OnceSteps.{want_of}
use Rattle.steps_once.proofs.OnceWords as words
use Rattle.lot_laws.proofs.machine.Parts.{same}
use Rattle.lot_alone.proofs.TwoLines.{Comes, StepsAlone, leads_into, leave_comes, park_comes, parks_last}
use Rattle.lot_alone.proofs.TwoLines.{word_comes}
use Rattle.lot_laws.proofs.sites.OneStep.{queued_after}
use Rattle.lot_alone.proofs.Leads.{Leads, leads_more, leads_rest, leads_step, or_so}

-- a thread that waits for a run still does so while none has ended
none_yet : (forced : Bool) → holds (check_of (Wait forced)) 8 ≡ true
none_yet true = refl
none_yet false = refl

runs_yet : (forced : Bool) → holds (check_of (Wait forced)) 12 ≡ true
runs_yet true = refl
runs_yet false = refl

module _ (t l : ℕ) where
  abbrev Queues : Type 0
  Queues = Line → List Waiter

  abbrev Alone : State → OncePlace → ℕ → Queues → Type 0
  Alone w p v q = StepsAlone w t l (Once l p) v q

  -- the thread sleeps as the last of the queue
  abbrev pub Sleeps : OnceCall → Queues → State → Outcome → Type 0
  Sleeps c q v o = (o ≡ outcome.Sleep) × (queue_at v (2 * l) ≡ q Main ++ waiter (2 * l) t (want_of c) ∷ [])

  -- the thread's closure begins
  abbrev pub Starts : Bool → State → Outcome → Type 0
  Starts poisoned v o = (o ≡ outcome.Closure (state_before poisoned))
      × ((lock_state v l).phase ≡ InProgress t)

  abbrev pub Answers : Answer → State → Outcome → Type 0
  Answers answer v o = o ≡ outcome.End answer

  module _ (w : State) (v : ℕ) (q : Queues) (n : Next OncePlace)
      (c : Comes w t l (once_goes l n) (outcome_of (once_does l n)) v q) where
    goes : (k : ℕ) (P : State → Outcome → Type 0) (p : OncePlace) → n ≡ next.At p → outcome_of (once_act l p)
        ≡ outcome.Step
        → (Alone (after w (go_of t)) p v q → Leads k (after w (go_of t)) t P) → Leads (k + 1) w t P
    goes k P p is steps on = leads_step w t P k (c.0 ∙ ap (λ x. outcome_of (once_does l x)) is ∙ steps)
        (on (subst (λ x. StepsAlone (after w (go_of t)) t l (once_goes l x) v q) is c.1))

    ends : (answer : Answer) → n ≡ next.End answer → Leads 1 w t (Answers answer)
    ends answer is = leads_rest w t (Answers answer) (outcome.End answer) (c.0
        ∙ ap (λ x. outcome_of (once_does l x)) is) tt refl

    starts : (forced poisoned : Bool) → n ≡ next.At (Run forced (run.Closure poisoned))
        → Leads 1 w t (Starts poisoned)
    starts forced poisoned is = leads_rest w t (Starts poisoned) (outcome.Closure (state_before poisoned))
        (c.0 ∙ ap (λ x. outcome_of (once_does l x)) is) tt (refl, running)
      where
        there : Alone (after w (go_of t)) (Run forced (run.Closure poisoned)) v q
        there = subst (λ x. StepsAlone (after w (go_of t)) t l (once_goes l x) v q) is c.1

        running : (lock_state (after w (go_of t)) l).phase ≡ InProgress t
        running = (there.inductive.sites.site l).held t Running
            (ap (λ p. (role_on p l).claims) there.place
            ∙ ap (λ (z : Bool). (if z then (once_profile (Run forced (run.Closure poisoned))).role
            else idle).claims) (same l))

  module _ (c : OnceCall) where
    leaves : (again : Bool) (v : ℕ) (w : State) (q q2 : Queues) → q2 Main ≡ q Main ++ waiter (2 * l) t
        (want_of c) ∷ []
        → Alone w (Look c again (look.Leave true)) v q2 → Leads 1 w t (Sleeps c q)
    leaves again v w q q2 last f = let out = leave_comes w t l _ v q2 f Main Nobody refl
        in leads_rest w t (Sleeps c q) outcome.Sleep out.0 tt (refl, out.1.queue Main ∙ last)

    checks : (again : Bool) (v : ℕ) (w : State) (q : Queues) → holds (check_of c) v ≡ true
        → Alone w (Look c again look.Check) v q
        → Leads 2 w t (Sleeps c q)
    checks again v w q h f = goes w v _ _ (park_comes w t l _ v q f (2 * l) (check_of c) (want_of c) true refl
        h) 1 (Sleeps c q) (Look c (again && not true) (look.Leave true)) refl refl
        (λ g. leaves (again && not true) v _ q _ (parks_last w t l _ v q f refl Main (want_of c)) g)

    parks : (again : Bool) (seen v : ℕ) (w : State) (q : Queues)
        → once_act l (Look c again (look.Decide seen)) ≡ act.Enter (One (2 * l)) → holds (check_of c) v ≡ true
        → Alone w (Look c again (look.Decide seen)) v q → Leads 3 w t (Sleeps c q)
    parks again seen v w q is h f = leads_into w t l _ v q f (Sleeps c q) 2 Main is refl refl
        (λ g. checks again v _ q h g)

  -- tells what a call comes to, by how far its lock has come
  abbrev pub Ended : Queues → OnceCall → Phase → State → Outcome → Type 0
  Ended q (CallOnce forced) New = Starts false
  Ended q (CallOnce true) Poisoned = Starts true
  Ended q (CallOnce false) Poisoned = Answers answer.Poisoned
  Ended q (CallOnce forced) (InProgress u) = Sleeps (CallOnce forced) q
  Ended q c IsDone = Answers (when_done c)
  Ended q (Wait false) Poisoned = Answers answer.Poisoned
  Ended q (Wait true) Poisoned = Sleeps (Wait true) q
  Ended q (Wait forced) New = Sleeps (Wait forced) q
  Ended q (Wait forced) (InProgress u) = Sleeps (Wait forced) q
  Ended q WaitTimed Poisoned = Answers answer.Poisoned
  Ended q WaitTimed New = Sleeps WaitTimed q
  Ended q WaitTimed (InProgress u) = Sleeps WaitTimed q

  -- the thread decides by the word as it is
  module _ (again : Bool) (w : State) (q : Queues) where
    abbrev pub Deciding : OnceCall → ℕ → Type 0
    Deciding c v = Alone w (Look c again (look.Decide v)) v q

    answers_again : (c : OnceCall) (v : ℕ) (answer : Answer) → once_act l (Look c again (look.Decide v))
        ≡ act.Word l op.Load
        → once_next (Look c again (look.Decide v)) (Value v) ≡ next.End answer
        → Deciding c v → Leads 4 w t (Answers answer)
    answers_again c v answer loads on f = leads_more 1 4 w t (Answers answer) (omega arith)
        (ends w v q _ (word_comes w t l _ v q f op.Load loads) answer on)

    begins : (c : OnceCall) (v m : ℕ) (poisoned : Bool) → once_act l (Look c again (look.Decide v))
        ≡ act.Word l (op.Exchange v m)
        → once_next (Look c again (look.Decide v)) (Value v)
        ≡ next.At (Run (is_forced c) (run.Closure poisoned)) → Deciding c v
        → Leads 4 w t (Starts poisoned)
    begins c v m poisoned starts_it on f = leads_more 1 4 w t (Starts poisoned) (omega arith)
        (starts w _ q _ (word_comes w t l _ v q f (op.Exchange v m) starts_it) (is_forced c) poisoned on)

    sleeps_parked : (c : OnceCall) (v : ℕ) → once_act l (Look c again (look.Decide v)) ≡ act.Enter
        (One (2 * l))
        → holds (check_of c) v ≡ true → Deciding c v → Leads 4 w t (Sleeps c q)
    sleeps_parked c v enters h f = leads_more 3 4 w t (Sleeps c q) (omega arith)
        (parks c again v v w q enters h f)

    sleeps_marked : (c : OnceCall) (v m : ℕ) → once_act l (Look c again (look.Decide v)) ≡ act.Word l
        (op.Exchange v m)
        → apply (op.Exchange v m) v ≡ m
        → once_next (Look c again (look.Decide v)) (Value v) ≡ next.At (Look c again (look.Decide m))
        → once_act l (Look c again (look.Decide m)) ≡ act.Enter (One (2 * l)) → holds (check_of c) m ≡ true
        → Deciding c v → Leads 4 w t (Sleeps c q)
    sleeps_marked c v m marks puts on enters h f =
        goes w _ q _ (word_comes w t l _ v q f (op.Exchange v m) marks) 3 (Sleeps c q) _ on
        (ap outcome_of enters)
        (λ k. parks c again m m _ q enters h
        (subst (λ x. Alone (after w (go_of t)) (Look c again (look.Decide m)) x q) puts k))

    pub decides : (c : OnceCall) (parked : Bool) (phase : Phase) → Deciding c (words.word parked phase)
        → Leads 4 w t (Ended q c phase)
    decides (CallOnce forced) true New f = begins (CallOnce forced) 8 12 false refl refl f
    decides (CallOnce forced) false New f = begins (CallOnce forced) 0 4 false refl refl f
    decides (CallOnce true) true Poisoned f = begins (CallOnce true) 10 12 true refl refl f
    decides (CallOnce true) false Poisoned f = begins (CallOnce true) 2 4 true refl refl f
    decides (CallOnce false) true Poisoned f = answers_again (CallOnce false) 10 answer.Poisoned refl refl f
    decides (CallOnce false) false Poisoned f = answers_again (CallOnce false) 2 answer.Poisoned refl refl f
    decides (CallOnce forced) true (InProgress u) f = sleeps_parked (CallOnce forced) 12 refl refl f
    decides (CallOnce forced) false (InProgress u) f = sleeps_marked (CallOnce forced) 4 12 refl refl refl
        refl refl f
    decides (CallOnce forced) true IsDone f = answers_again (CallOnce forced) 9 answer.Ok refl refl f
    decides (CallOnce forced) false IsDone f = answers_again (CallOnce forced) 1 answer.Ok refl refl f
    decides (Wait forced) true New f = sleeps_parked (Wait forced) 8 refl (none_yet forced) f
    decides (Wait forced) false New f = sleeps_marked (Wait forced) 0 8 refl refl refl refl (none_yet forced)
        f
    decides (Wait true) true Poisoned f = sleeps_parked (Wait true) 10 refl refl f
    decides (Wait true) false Poisoned f = sleeps_marked (Wait true) 2 10 refl refl refl refl refl f
    decides (Wait false) true Poisoned f = answers_again (Wait false) 10 answer.Poisoned refl refl f
    decides (Wait false) false Poisoned f = answers_again (Wait false) 2 answer.Poisoned refl refl f
    decides (Wait forced) true (InProgress u) f = sleeps_parked (Wait forced) 12 refl (runs_yet forced) f
    decides (Wait forced) false (InProgress u) f = sleeps_marked (Wait forced) 4 12 refl refl refl refl
        (runs_yet forced) f
    decides (Wait forced) true IsDone f = answers_again (Wait forced) 9 answer.Ok refl refl f
    decides (Wait forced) false IsDone f = answers_again (Wait forced) 1 answer.Ok refl refl f
    decides WaitTimed true New f = sleeps_parked WaitTimed 8 refl refl f
    decides WaitTimed false New f = sleeps_marked WaitTimed 0 8 refl refl refl refl refl f
    decides WaitTimed true Poisoned f = answers_again WaitTimed 10 answer.Poisoned refl refl f
    decides WaitTimed false Poisoned f = answers_again WaitTimed 2 answer.Poisoned refl refl f
    decides WaitTimed true (InProgress u) f = sleeps_parked WaitTimed 12 refl refl f
    decides WaitTimed false (InProgress u) f = sleeps_marked WaitTimed 4 12 refl refl refl refl refl f
    decides WaitTimed true IsDone f = answers_again WaitTimed 9 answer.Yes refl refl f
    decides WaitTimed false IsDone f = answers_again WaitTimed 1 answer.Yes refl refl f

  -- the thread has looked at the word as it is, and ends or decides by it
  module _ (again : Bool) (w : State) (q : Queues) where
    abbrev pub Looked : OnceCall → ℕ → Type 0
    Looked c v = Comes w t l (once_goes l (in_look c again (looked c v)))
        (outcome_of (once_does l (in_look c again (looked c v)))) v q

    answers : (c : OnceCall) (v : ℕ) (answer : Answer) → in_look c again (looked c v) ≡ next.End answer
        → Looked c v
        → Leads 5 w t (Answers answer)
    answers c v answer is f = leads_more 1 5 w t (Answers answer) (omega arith) (ends w v q _ f answer is)

    on : (c : OnceCall) (parked : Bool) (phase : Phase)
        → in_look c again (looked c (words.word parked phase))
        ≡ next.At (Look c again (look.Decide (words.word parked phase)))
        → outcome_of (once_act l (Look c again (look.Decide (words.word parked phase)))) ≡ outcome.Step
        → Looked c (words.word parked phase) → Leads 5 w t (Ended q c phase)
    on c parked phase is steps f = goes w (words.word parked phase) q _ f 4 (Ended q c phase) _ is steps
        (λ g. decides again (after w (go_of t)) q c parked phase g)

    pub looks : (c : OnceCall) (parked : Bool) (phase : Phase) → Looked c (words.word parked phase)
        → Leads 5 w t (Ended q c phase)
    looks (CallOnce forced) true New f = on (CallOnce forced) true New refl refl f
    looks (CallOnce forced) false New f = on (CallOnce forced) false New refl refl f
    looks (CallOnce true) true Poisoned f = on (CallOnce true) true Poisoned refl refl f
    looks (CallOnce true) false Poisoned f = on (CallOnce true) false Poisoned refl refl f
    looks (CallOnce false) true Poisoned f = answers (CallOnce false) 10 answer.Poisoned refl f
    looks (CallOnce false) false Poisoned f = answers (CallOnce false) 2 answer.Poisoned refl f
    looks (CallOnce forced) true (InProgress u) f = on (CallOnce forced) true (InProgress u) refl refl f
    looks (CallOnce forced) false (InProgress u) f = on (CallOnce forced) false (InProgress u) refl refl f
    looks (CallOnce forced) true IsDone f = answers (CallOnce forced) 9 answer.Ok refl f
    looks (CallOnce forced) false IsDone f = answers (CallOnce forced) 1 answer.Ok refl f
    looks (Wait forced) true New f = on (Wait forced) true New refl refl f
    looks (Wait forced) false New f = on (Wait forced) false New refl refl f
    looks (Wait true) true Poisoned f = on (Wait true) true Poisoned refl refl f
    looks (Wait true) false Poisoned f = on (Wait true) false Poisoned refl refl f
    looks (Wait false) true Poisoned f = answers (Wait false) 10 answer.Poisoned refl f
    looks (Wait false) false Poisoned f = answers (Wait false) 2 answer.Poisoned refl f
    looks (Wait forced) true (InProgress u) f = on (Wait forced) true (InProgress u) refl refl f
    looks (Wait forced) false (InProgress u) f = on (Wait forced) false (InProgress u) refl refl f
    looks (Wait forced) true IsDone f = answers (Wait forced) 9 answer.Ok refl f
    looks (Wait forced) false IsDone f = answers (Wait forced) 1 answer.Ok refl f
    looks WaitTimed true New f = on WaitTimed true New refl refl f
    looks WaitTimed false New f = on WaitTimed false New refl refl f
    looks WaitTimed true Poisoned f = answers WaitTimed 10 answer.Poisoned refl f
    looks WaitTimed false Poisoned f = answers WaitTimed 2 answer.Poisoned refl f
    looks WaitTimed true (InProgress u) f = on WaitTimed true (InProgress u) refl refl f
    looks WaitTimed false (InProgress u) f = on WaitTimed false (InProgress u) refl refl f
    looks WaitTimed true IsDone f = answers WaitTimed 9 answer.Yes refl f
    looks WaitTimed false IsDone f = answers WaitTimed 1 answer.Yes refl f

    pub loads : (c : OnceCall) (parked : Bool) (phase : Phase) → Alone w (Look c again look.Load)
        (words.word parked phase) q
        → Leads 5 w t (Ended q c phase)
    loads c parked phase f = looks c parked phase (word_comes w t l _ (words.word parked phase) q f op.Load
        refl)

-- a call of a `Once`, as the abstract locks see it
module _ (w : State) (t l : ℕ) (v : State) (o : Outcome) where
  abbrev queues : Line → List Waiter
  queues m = queue_at w (key_of l m)

  asleep : (c : OnceCall) → Sleeps t l c queues v o → (o ≡ outcome.Sleep)
      × ((lock_state v l).queue ≡ (lock_state w l).queue ++ (record { thread = t; want = want_of c }) ∷ [])
  asleep c h = (h.0, ap (map queued_of) h.1 ∙ queued_after (2 * l) t (want_of c) (queue_at w (2 * l)))

  ended_so : (c : OnceCall) (phase : Phase) → (lock_state w l).phase ≡ phase → Ended t l queues c phase v o
      → EndsAlone w t (Some (once_purpose l c)) o v
  ended_so (CallOnce forced) New e h = rw e h
  ended_so (CallOnce true) Poisoned e h = rw e h
  ended_so (CallOnce false) Poisoned e h = rw e h
  ended_so (CallOnce forced) (InProgress u) e h = rw e (asleep (CallOnce forced) h)
  ended_so (CallOnce true) IsDone e h = rw e h
  ended_so (CallOnce false) IsDone e h = rw e h
  ended_so (Wait true) New e h = rw e (asleep (Wait true) h)
  ended_so (Wait false) New e h = rw e (asleep (Wait false) h)
  ended_so (Wait true) Poisoned e h = rw e (asleep (Wait true) h)
  ended_so (Wait false) Poisoned e h = rw e h
  ended_so (Wait true) (InProgress u) e h = rw e (asleep (Wait true) h)
  ended_so (Wait false) (InProgress u) e h = rw e (asleep (Wait false) h)
  ended_so (Wait forced) IsDone e h = rw e h
  ended_so WaitTimed New e h = rw e (asleep WaitTimed h)
  ended_so WaitTimed Poisoned e h = rw e h
  ended_so WaitTimed (InProgress u) e h = rw e (asleep WaitTimed h)
  ended_so WaitTimed IsDone e h = rw e h

module _ (w : State) (t l : ℕ) where
  -- the word says how far the lock has come
  pub told_by_word : (p : OncePlace) (v : ℕ) (q : Line → List Waiter) → StepsAlone w t l (Once l p) v q
      → v ≡ words.word (site_of w l).parked (lock_state w l).phase
  told_by_word p v q f = sym f.word ∙ f.inductive.sites.word l ∙ words.coded (rules_in w l) (site_of w l)
      (subst (FitsItsLock w) f.place (f.inductive.stands.calls t))

  pub once_alone : (c : OnceCall) (n : ℕ) (last : Outcome) → 18 ≤ n
      → StepsAlone w t l (Once l (once_first c)) (word_at w l) (λ m. queue_at w (key_of l m))
      → EndsAlone w t (Some (once_purpose l c)) (solo n w t last).outcome (solo n w t last).state
      ⊎ IsBarred (solo n w t last).state t
  once_alone c n last le f = or_so (ended_so w t l (solo n w t last).state (solo n w t last).outcome c
      (lock_state w l).phase refl)
      (loads t l false w (λ m. queue_at w (key_of l m)) c (site_of w l).parked (lock_state w l).phase
      (subst (λ v. StepsAlone w t l (Once l (once_first c)) v (λ m. queue_at w (key_of l m)))
      (told_by_word _ _ _ f) f) n last (omega arith))
