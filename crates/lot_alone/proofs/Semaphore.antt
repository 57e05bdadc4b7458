-- A call of a semaphore whose thread steps alone ends or sleeps.
use Rattle.lot_laws.proofs.Imports
use Imports.{eqb-true, ℕ, Bool, true, false, if◌then◌else◌, ◌==◌, ◌≡◌, ◌≢◌, ◌+◌, ◌-◌, ◌*◌, ◌≤◌, List, refl, sym}
use Imports.{◌∙◌, ap, subst, arith, Op, Waiter, Shared, apply, Outcome, Answer, WordIs, Value, Nobody}
use Imports.{outcome_of, Line, Main, AcquireAt, TryAt, ReleaseAt, SemaphorePlace, Acquire, Release, acquired}
use Imports.{in_acquire, in_try, is_free, semaphore_next, Semaphore, act_of, semaphore_does, semaphore_goes}
use Imports.{State, after, go_of, step_outcome, EndsOrSleeps}
use Rattle.std.specs.Prelude.{◌&&◌, not}
use Rattle.core_base.specs.declared.ops.Op.TheVariants as op
use Rattle.spec_locks.specs.declared.outcomes.Outcome.TheVariants as outcome
use Rattle.spec_locks.specs.declared.outcomes.Answer.TheVariants as answer
use Rattle.steps_base.specs.declared.acts.Act.TheVariants as act
use Rattle.steps_base.specs.declared.acts.Next.TheVariants as next
use Rattle.steps_semaphore.specs.declared.places.TheConstants.{NOT_PARKED}
use Rattle.steps_semaphore.specs.declared.acquire.AcquireAt.TheVariants as acquire
use Rattle.steps_semaphore.specs.declared.tries.TryAt.TheVariants as tries
use Rattle.steps_semaphore.specs.declared.release.ReleaseAt.TheVariants as release
use Rattle.steps_semaphore.specs.declared.places.SemaphorePlace.TheVariants.{Try}
use Rattle.steps_semaphore.specs.SemaphoreSteps.{looked}
use Rattle.lot_alone.proofs.TwoLines.{Comes, StepsAlone, leads_into, leave_comes, park_comes}
use Rattle.lot_alone.proofs.TwoLines.{remove_comes, word_comes}
use Rattle.lot_alone.proofs.SemaphoreEnds.{Answers, Ended, decides, goes_inside, loads, release_adds}
use Rattle.lot_alone.proofs.SemaphoreEnds.{release_clears, release_enters, release_leaves, release_takes}
use Rattle.lot_alone.proofs.SemaphoreEnds.{sets_bit, steps_on, takes_free, tried, tries_so, try_decides}
use Rattle.lot_alone.proofs.SemaphoreEnds.{try_loads, try_looks}
use Rattle.lot_alone.proofs.Leads.{Leads, leads_more, leads_rest, leads_so, leads_step}

module _ (t l : ℕ) where
  abbrev Queues : Type 0
  Queues = Line → List Waiter

  abbrev Alone : State → SemaphorePlace → ℕ → Queues → Type 0
  Alone w p v q = StepsAlone w t l (Semaphore l p) v q

  abbrev RestsIn : ℕ → State → Type 0
  RestsIn k w = Leads k w t (λ v o. EndsOrSleeps o)

  -- the thread goes on, and rests after
  goes : (k v : ℕ) (w : State) (q : Queues) (p : SemaphorePlace) (told : Outcome) → told ≡ outcome.Step
      → Comes w t l (Semaphore l p) told v q
      → (Alone (after w (go_of t)) p v q → RestsIn k (after w (go_of t))) → RestsIn (k + 1) w
  goes k v w q p told steps comes on = leads_step w t (λ v o. EndsOrSleeps o) k (comes.0 ∙ steps) (on comes.1)

  rests : (w : State) (o : Outcome) → step_outcome w (go_of t) ≡ o → EndsOrSleeps o → RestsIn 1 w
  rests w o told h = leads_rest w t (λ v o. EndsOrSleeps o) o told h h

  more : (k m : ℕ) (w : State) → k ≤ m → RestsIn k w → RestsIn m w
  more k m w le h = leads_more k m w t (λ v o. EndsOrSleeps o) le h

  answer_rests : (k : ℕ) (w : State) (a : Answer) → Leads k w t (Answers t l a) → RestsIn k w
  answer_rests k w a h = leads_so k w t (Answers t l a) (λ v o. EndsOrSleeps o) (λ v o e. rw e tt) h

  -- ---------------------------------------------------------------- waiters for a permit

  module _ (timed : Bool) where
    ended_rests : (q : Queues) (free : Bool) (v : State) (o : Outcome) → Ended t l timed q free v o → EndsOrSleeps o
    ended_rests q true v o h = rw h tt
    ended_rests q false v o h = rw (h.0) tt

    decides_rests_now : (again : Bool) (v : ℕ) (w : State) (q : Queues)
        → Alone w (Acquire timed again (acquire.Decide v)) v q → RestsIn 4 w
    decides_rests_now again v w q f = leads_so 4 w t (Ended t l timed q (is_free v)) (λ v o. EndsOrSleeps o)
        (ended_rests q (is_free v)) (decides t l timed again w q v (is_free v) refl f)

    loads_rest : (again : Bool) (v : ℕ) (w : State) (q : Queues) → Alone w (Acquire timed again acquire.Load)
        v q → RestsIn 5 w
    loads_rest again v w q f = leads_so 5 w t (Ended t l timed q (is_free v)) (λ v o. EndsOrSleeps o)
        (ended_rests q (is_free v)) (loads t l timed again w q v (is_free v) refl f)

    leaves : (again parked : Bool) (v : ℕ) (w : State) (q : Queues)
        → Alone w (Acquire timed again (acquire.Leave parked)) v q → RestsIn 6 w
    leaves again true v w q f = more 1 6 w (omega arith)
        (rests w outcome.Sleep (leave_comes w t l _ v q f Main Nobody refl).0 tt)
    leaves again false v w q f = goes 5 v w q (Acquire timed again acquire.Load) _ refl
        (leave_comes w t l _ v q f Main Nobody refl) (λ g. loads_rest again v _ q g)

    checks : (again : Bool) (v : ℕ) (w : State) (q : Queues) → Alone w (Acquire timed again acquire.Check) v q
        → RestsIn 7 w
    checks again v w q f = either (v == 1) refl
      where
        either : (b : Bool) → (v == 1) ≡ b → RestsIn 7 w
        either true e = goes 6 v w _ (Acquire timed (again && not true) (acquire.Leave true)) _ refl
            (park_comes w t l _ v q f (2 * l) (WordIs 1) Shared true refl e)
            (λ g. leaves (again && not true) true v _ _ g)
        either false e = goes 6 v w _ (Acquire timed (again && not false) (acquire.Leave false)) _ refl
            (park_comes w t l _ v q f (2 * l) (WordIs 1) Shared false refl e)
            (λ g. leaves (again && not false) false v _ _ g)

    -- the thread saw another value than the word has now
    module _ (again : Bool) (seen v : ℕ) (w : State) (q : Queues) (other : (v == seen) ≡ false)
        (f : Alone w (Acquire timed again (acquire.Decide seen)) v q) where
      sees : semaphore_next (Acquire timed again (acquire.Decide seen)) (Value v)
          ≡ next.At (Acquire timed again (acquire.Decide v))
      sees = ap (λ b. in_acquire timed again (if not b then next.At (acquire.Decide v) else if is_free v
          then next.End (acquired timed) else next.At (acquire.Decide 1))) other

      fails : (o : Op) → act_of (Semaphore l (Acquire timed again (acquire.Decide seen))) ≡ act.Word l o
          → apply o v ≡ v → RestsIn 8 w
      fails o is same_word = more 5 8 w (omega arith) (goes 4 v w q (Acquire timed again (acquire.Decide v)) _
          (steps_on l v)
          (subst (λ n. Comes w t l (semaphore_goes l n) (outcome_of (semaphore_does l n)) v q) sees
          (subst (λ x. Comes w t l (semaphore_goes l
          (semaphore_next (Acquire timed again (acquire.Decide seen)) (Value v)))
          (outcome_of (semaphore_does l (semaphore_next (Acquire timed again (acquire.Decide seen))
          (Value v)))) x q) same_word
          (word_comes w t l _ v q f o is)))
          (λ g. decides_rests_now again v _ q g))

      by_seen : (b c : Bool) → is_free seen ≡ b → (seen == 0) ≡ c → RestsIn 8 w
      by_seen true c e g = fails (op.Exchange seen (seen - 2)) (takes_free l seen e)
          (ap (λ b. if b then seen - 2 else v) other)
      by_seen false true e g = fails (op.Exchange 0 1) (sets_bit l seen e g)
          (ap (λ b. if b then 1 else v) (ap (λ n. v == n) (sym (eqb-true seen 0 g)) ∙ other))
      by_seen false false e g = leads_into w t l _ v q f (λ v o. EndsOrSleeps o) 7 Main (goes_inside l seen e g) refl
          refl (λ h. checks again v _ q h)

    decides_rests : (again : Bool) (seen v : ℕ) (w : State) (q : Queues)
        → Alone w (Acquire timed again (acquire.Decide seen)) v q → RestsIn 8 w
    decides_rests again seen v w q f = either (v == seen) refl
      where
        either : (b : Bool) → (v == seen) ≡ b → RestsIn 8 w
        either true e = more 4 8 w (omega arith) (decides_rests_now again v w q
            (subst (λ x. Alone w (Acquire timed again (acquire.Decide x)) v q) (sym (eqb-true v seen e)) f))
        either false e = by_seen again seen v w q e f (is_free seen) (seen == 0) refl refl

    gives_up_rests : (again : Bool) (v : ℕ) (w : State) (q : Queues)
        → Alone w (Acquire timed again acquire.GiveUp) v q → RestsIn 1 w
    gives_up_rests again v w q f = rests w (outcome.End answer.No) (leave_comes w t l _ v q f Main Nobody
        refl).0 tt

    clear_rests : (again : Bool) (v : ℕ) (w : State) (q : Queues)
        → Alone w (Acquire timed again acquire.Clear) v q → RestsIn 2 w
    clear_rests again v w q f = goes 1 _ w q (Acquire timed again acquire.GiveUp) _ refl
        (word_comes w t l _ v q f (op.And NOT_PARKED) refl) (λ g. gives_up_rests again _ _ q g)

    remove_rests : (again : Bool) (v : ℕ) (w : State) (q : Queues)
        → Alone w (Acquire timed again acquire.Remove) v q → RestsIn 3 w
    remove_rests again v w q f = either _ (remove_comes w t l _ v q f (2 * l) refl)
      where
        either : (b : Bool) {q2 : Queues}
            → Comes w t l (semaphore_goes l (in_acquire timed again (if b then next.At acquire.Clear
            else next.At acquire.GiveUp)))
            (outcome_of (semaphore_does l (in_acquire timed again (if b then next.At acquire.Clear
            else next.At acquire.GiveUp)))) v q2
            → RestsIn 3 w
        either true {q2} c = goes 2 v w q2 (Acquire timed again acquire.Clear) _ refl c
            (λ g. clear_rests again v _ q2 g)
        either false {q2} c = more 2 3 w (omega arith) (goes 1 v w q2 (Acquire timed again acquire.GiveUp) _
            refl c (λ g. gives_up_rests again v _ q2 g))

    acquire_rests : (again : Bool) (at : AcquireAt) (v : ℕ) (w : State) (q : Queues)
        → act_of (Semaphore l (Acquire timed again at)) ≢ act.Sleep
        → Alone w (Acquire timed again at) v q → RestsIn 8 w
    acquire_rests again acquire.Load v w q up f = more 5 8 w (omega arith) (loads_rest again v w q f)
    acquire_rests again (acquire.Decide seen) v w q up f = decides_rests again seen v w q f
    acquire_rests again acquire.Check v w q up f = more 7 8 w (omega arith) (checks again v w q f)
    acquire_rests again (acquire.Leave parked) v w q up f =
        more 6 8 w (omega arith) (leaves again parked v w q f)
    acquire_rests again acquire.Asleep v w q up f = absurd (up refl)
    acquire_rests again (acquire.Taken by) v w q up f = absurd (up refl)
    acquire_rests again acquire.Remove v w q up f = more 3 8 w (omega arith) (remove_rests again v w q f)
    acquire_rests again acquire.Clear v w q up f = more 2 8 w (omega arith) (clear_rests again v w q f)
    acquire_rests again acquire.GiveUp v w q up f = more 1 8 w (omega arith) (gives_up_rests again v w q f)

  -- ---------------------------------------------------------------- a thread that only tries

  looks_rest : (v : ℕ) (w : State) (q : Queues)
      → Comes w t l (semaphore_goes l (in_try (looked v))) (outcome_of (semaphore_does l (in_try (looked v))))
      v q → RestsIn 2 w
  looks_rest v w q c = answer_rests 2 w (tried t l (is_free v)) (try_looks t l w q v (is_free v) refl c)

  try_rests : (at : TryAt) (v : ℕ) (w : State) (q : Queues) → Alone w (Try at) v q → RestsIn 2 w
  try_rests tries.Load v w q f = answer_rests 2 w (tried t l (is_free v)) (try_loads t l w q v (is_free v)
      refl f)
  try_rests (tries.Decide seen) v w q f = either (v == seen) (is_free seen) refl refl
    where
      -- the thread saw another value, or one by which none was free
      anew : (o : Op) → act_of (Semaphore l (Try (tries.Decide seen))) ≡ act.Word l o → apply o v ≡ v
          → ((v == seen) && is_free v) ≡ false → RestsIn 2 w
      anew o is same_word not_so = looks_rest v w q
          (subst (λ n. Comes w t l (semaphore_goes l n) (outcome_of (semaphore_does l n)) v q)
          (ap (λ (b : Bool). in_try (if b then next.End answer.Yes else looked v)) not_so)
          (subst (λ x. Comes w t l (semaphore_goes l (semaphore_next (Try (tries.Decide seen)) (Value v)))
          (outcome_of (semaphore_does l (semaphore_next (Try (tries.Decide seen)) (Value v)))) x q)
          same_word
          (word_comes w t l _ v q f o is)))

      either : (b c : Bool) → (v == seen) ≡ b → is_free seen ≡ c → RestsIn 2 w
      either true true e g = let s : v ≡ seen = eqb-true v seen e in
          more 1 2 w (omega arith) (answer_rests 1 w answer.Yes (try_decides t l w q v (ap is_free s ∙ g)
          (subst (λ x. Alone w (Try (tries.Decide x)) v q) (sym s) f)))
      either true false e g = anew op.Load (tries_so l seen false g) refl
          (ap (λ (b : Bool). b && is_free v) e ∙ ap is_free (eqb-true v seen e) ∙ g)
      either false true e g = anew (op.Exchange seen (seen - 2)) (tries_so l seen true g)
          (ap (λ b. if b then seen - 2 else v) e) (ap (λ (b : Bool). b && is_free v) e)
      either false false e g = anew op.Load (tries_so l seen false g) refl
          (ap (λ (b : Bool). b && is_free v) e)

  -- ---------------------------------------------------------------- a thread that gives a permit back

  release_rests : (at : ReleaseAt) (v : ℕ) (w : State) (q : Queues) → Alone w (Release at) v q → RestsIn 5 w
  release_rests release.Add v w q f = answer_rests 5 w answer.Ok (release_adds t l w q v f)
  release_rests release.Enter v w q f =
      more 4 5 w (omega arith) (answer_rests 4 w answer.Ok (release_enters t l w q v f))
  release_rests release.Take v w q f =
      more 3 5 w (omega arith) (answer_rests 3 w answer.Ok (release_takes t l w q v f))
  release_rests (release.Clear any) v w q f =
      more 2 5 w (omega arith) (answer_rests 2 w answer.Ok (release_clears t l any w q v f))
  release_rests (release.Leave any) v w q f =
      more 1 5 w (omega arith) (answer_rests 1 w answer.Ok (release_leaves t l any w q v f))

  -- from any place where it is awake
  pub semaphore_rests : (p : SemaphorePlace) (v : ℕ) (w : State) (q : Queues) → act_of (Semaphore l p)
      ≢ act.Sleep
      → Alone w p v q → RestsIn 8 w
  semaphore_rests (Acquire timed again at) v w q up f = acquire_rests timed again at v w q up f
  semaphore_rests (Try at) v w q up f = more 2 8 w (omega arith) (try_rests at v w q f)
  semaphore_rests (Release at) v w q up f = more 5 8 w (omega arith) (release_rests at v w q f)
