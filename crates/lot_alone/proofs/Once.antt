-- A call of a `Once` whose thread steps alone ends, sleeps or comes to its closure.
use Rattle.lot_laws.proofs.Imports
use Imports.{eqb-true, ℕ, Bool, true, false, if◌then◌else◌, ◌==◌, ◌≡◌, ◌≢◌, ◌+◌, ◌*◌, List, refl, sym, ◌∙◌, ap}
use Imports.{subst, arith, Op, Waiter, apply, OnceCall, WaitTimed, Outcome, Value, Nobody, Normal, holds}
use Imports.{outcome_of, wakes_taken, is_marked, is_poisoned, Phase, New, Poisoned, InProgress, Line, Main}
use Imports.{GiveUpAt, LookAt, Course, Ends, Marks, RunAt, OncePlace, Run, GiveUp, check_of, course_act}
use Imports.{course_of, ended, in_look, in_run, is_forced, is_run, marked, once_next, started, word_after}
use Imports.{in_give_up, Once, act_of, once_does, once_goes, State, after, go_of, runs_closure, step_outcome}
use Imports.{lock_state, site_of, EndsOrSleeps}
use Rattle.std.specs.Prelude.{◌&&◌, not}
use Rattle.core_base.specs.declared.ops.Op.TheVariants as op
use Rattle.spec_locks.specs.declared.calls.OnceCall.TheVariants.{CallOnce, Wait}
use Rattle.spec_locks.specs.declared.outcomes.Outcome.TheVariants as outcome
use Rattle.spec_locks.specs.declared.outcomes.Answer.TheVariants as answer
use Rattle.steps_base.specs.declared.acts.Act.TheVariants as act
use Rattle.steps_base.specs.declared.acts.Next.TheVariants as next
use Rattle.steps_base.specs.declared.acts.TakeWhich.TheVariants as whom
use Rattle.spec_locks.specs.Onces.{Done as IsDone}
use Rattle.steps_once.specs.declared.give_up.GiveUpAt.TheVariants as give_up
use Rattle.steps_once.specs.declared.places.TheConstants.{NOT_PARKED}
use Rattle.steps_once.specs.declared.look.LookAt.TheVariants as look
use Rattle.steps_once.specs.declared.look.Course.TheVariants.{Runs, Parks}
use Rattle.steps_once.specs.declared.run.RunAt.TheVariants as run
use Rattle.steps_once.specs.declared.places.OncePlace.TheVariants.{Look}
use Rattle.steps_once.specs.OnceSteps.{is_mark, looked, want_of}
use Rattle.lot_alone.proofs.TwoLines.{Comes, StepsAlone, leads_into, leave_comes, park_comes}
use Rattle.lot_alone.proofs.TwoLines.{remove_comes, take_comes, word_comes}
use Rattle.lot_alone.proofs.OnceEnds.{Ended, Looked, decides, loads, looks, told_by_word}
use Rattle.lot_alone.proofs.Leads.{Leads, leads_more, leads_rest, leads_so, leads_step}

module _ (t l : ℕ) where
  abbrev Queues : Type 0
  Queues = Line → List Waiter

  abbrev Alone : State → OncePlace → ℕ → Queues → Type 0
  Alone w p v q = StepsAlone w t l (Once l p) v q

  abbrev RestsIn : ℕ → State → Type 0
  RestsIn k w = Leads k w t (λ v o. EndsOrSleeps o)

  -- the thread goes on, and rests after
  goes : (k v : ℕ) (w : State) (q : Queues) (p : OncePlace) (told : Outcome) → told ≡ outcome.Step
      → Comes w t l (Once l p) told v q
      → (Alone (after w (go_of t)) p v q → RestsIn k (after w (go_of t))) → RestsIn (k + 1) w
  goes k v w q p told steps comes on = leads_step w t (λ v o. EndsOrSleeps o) k (comes.0 ∙ steps) (on comes.1)

  rests : (w : State) (o : Outcome) → step_outcome w (go_of t) ≡ o → EndsOrSleeps o → RestsIn 1 w
  rests w o told h = leads_rest w t (λ v o. EndsOrSleeps o) o told h h

  -- ---------------------------------------------------------------- runners

  run_leaves : (forced b any : Bool) (v : ℕ) (w : State) (q : Queues) → Alone w (Run forced (run.Leave b any))
      v q → RestsIn 1 w
  run_leaves forced b any v w q f = rests w (outcome.End (ended b)) (leave_comes w t l _ v q f Main
      (wakes_taken any Normal) refl).0 tt

  run_takes : (forced b : Bool) (v : ℕ) (w : State) (q : Queues) → Alone w (Run forced (run.Take b)) v q
      → RestsIn 2 w
  run_takes forced b v w q f = goes 1 v w _ (Run forced (run.Leave b _)) _ refl
      (take_comes w t l _ v q f (2 * l) whom.All refl refl) (λ g. run_leaves forced b _ v _ _ g)

  run_enters : (forced b : Bool) (v : ℕ) (w : State) (q : Queues) → Alone w (Run forced (run.Enter b)) v q
      → RestsIn 3 w
  run_enters forced b v w q f = leads_into w t l _ v q f (λ v o. EndsOrSleeps o) 2 Main refl refl refl
      (λ g. run_takes forced b v _ q g)

  run_closes : (forced b : Bool) (v : ℕ) (w : State) (q : Queues) → Alone w (Run forced (run.Close b)) v q
      → RestsIn 4 w
  run_closes forced b v w q f = either (is_marked v) (word_comes w t l _ v q f (op.Swap (word_after b)) refl)
    where
      either : (m : Bool)
          → Comes w t l (once_goes l (in_run forced (if m then next.At (run.Enter b) else next.End
          (ended b))))
          (outcome_of (once_does l (in_run forced (if m then next.At (run.Enter b) else next.End (ended b)))))
          (word_after b) q
          → RestsIn 4 w
      either true c = goes 3 (word_after b) w q (Run forced (run.Enter b)) _ refl c
          (λ g. run_enters forced b (word_after b) _ q g)
      either false c = leads_more 1 4 w t (λ v o. EndsOrSleeps o) (omega arith) (rests w (outcome.End (ended b)) c.0
          tt)

  run_rests : (forced : Bool) (at : RunAt) (v : ℕ) (w : State) (q : Queues)
      → runs_closure (act_of (Once l (Run forced at))) ≡ false → Alone w (Run forced at) v q → RestsIn 4 w
  run_rests forced (run.Closure poisoned) v w q outside f = absurd cc
  run_rests forced (run.Close b) v w q outside f = run_closes forced b v w q f
  run_rests forced (run.Enter b) v w q outside f = leads_more 3 4 w t (λ v o. EndsOrSleeps o) (omega arith)
      (run_enters forced b v w q f)
  run_rests forced (run.Take b) v w q outside f = leads_more 2 4 w t (λ v o. EndsOrSleeps o) (omega arith)
      (run_takes forced b v w q f)
  run_rests forced (run.Leave b any) v w q outside f = leads_more 1 4 w t (λ v o. EndsOrSleeps o) (omega arith)
      (run_leaves forced b any v w q f)

  -- ---------------------------------------------------------------- a thread that looks

  ended_is_rest : (q : Queues) (c : OnceCall) (phase : Phase) (v : State) (o : Outcome)
      → Ended t l q c phase v o → EndsOrSleeps o
  ended_is_rest q (CallOnce forced) New v o h = rw (h.0) tt
  ended_is_rest q (CallOnce true) Poisoned v o h = rw (h.0) tt
  ended_is_rest q (CallOnce false) Poisoned v o h = rw h tt
  ended_is_rest q (CallOnce forced) (InProgress u) v o h = rw (h.0) tt
  ended_is_rest q (CallOnce forced) IsDone v o h = rw h tt
  ended_is_rest q (Wait forced) New v o h = rw (h.0) tt
  ended_is_rest q (Wait true) Poisoned v o h = rw (h.0) tt
  ended_is_rest q (Wait false) Poisoned v o h = rw h tt
  ended_is_rest q (Wait forced) (InProgress u) v o h = rw (h.0) tt
  ended_is_rest q (Wait forced) IsDone v o h = rw h tt
  ended_is_rest q WaitTimed New v o h = rw (h.0) tt
  ended_is_rest q WaitTimed Poisoned v o h = rw h tt
  ended_is_rest q WaitTimed (InProgress u) v o h = rw (h.0) tt
  ended_is_rest q WaitTimed IsDone v o h = rw h tt

  module _ (c : OnceCall) where
    loads_rest : (again : Bool) (v : ℕ) (w : State) (q : Queues) → Alone w (Look c again look.Load) v q
        → RestsIn 5 w
    loads_rest again v w q f = leads_so 5 w t (Ended t l q c (lock_state w l).phase) (λ v o. EndsOrSleeps o)
        (ended_is_rest q c (lock_state w l).phase)
        (loads t l again w q c (site_of w l).parked (lock_state w l).phase
        (subst (λ x. Alone w (Look c again look.Load) x q) (told_by_word w t l _ v q f) f))

    leaves : (again parked : Bool) (v : ℕ) (w : State) (q : Queues)
        → Alone w (Look c again (look.Leave parked)) v q → RestsIn 6 w
    leaves again true v w q f = leads_more 1 6 w t (λ v o. EndsOrSleeps o) (omega arith)
        (rests w outcome.Sleep (leave_comes w t l _ v q f Main Nobody refl).0 tt)
    leaves again false v w q f = goes 5 v w q (Look c again look.Load) _ refl
        (leave_comes w t l _ v q f Main Nobody refl) (λ g. loads_rest again v _ q g)

    checks : (again : Bool) (v : ℕ) (w : State) (q : Queues) → Alone w (Look c again look.Check) v q
        → RestsIn 7 w
    checks again v w q f = either (holds (check_of c) v) refl
      where
        either : (b : Bool) → holds (check_of c) v ≡ b → RestsIn 7 w
        either true e = goes 6 v w _ (Look c (again && not true) (look.Leave true)) _ refl
            (park_comes w t l _ v q f (2 * l) (check_of c) (want_of c) true refl e)
            (λ g. leaves (again && not true) true v _ _ g)
        either false e = goes 6 v w _ (Look c (again && not false) (look.Leave false)) _ refl
            (park_comes w t l _ v q f (2 * l) (check_of c) (want_of c) false refl e)
            (λ g. leaves (again && not false) false v _ _ g)

    -- the thread has looked at the word, wherever it came from
    looked_rests : (again : Bool) (v : ℕ) (w : State) (q : Queues) (p : OncePlace) → Alone w p v q
        → Looked t l again w q c v
        → RestsIn 5 w
    looked_rests again v w q p f g = leads_so 5 w t (Ended t l q c (lock_state w l).phase) (λ v o. EndsOrSleeps o)
        (ended_is_rest q c (lock_state w l).phase)
        (looks t l again w q c (site_of w l).parked (lock_state w l).phase
        (subst (Looked t l again w q c) (told_by_word w t l p v q f) g))

    decides_now : (again : Bool) (v : ℕ) (w : State) (q : Queues) → Alone w (Look c again (look.Decide v)) v q
        → RestsIn 4 w
    decides_now again v w q f = leads_so 4 w t (Ended t l q c (lock_state w l).phase) (λ v o. EndsOrSleeps o)
        (ended_is_rest q c (lock_state w l).phase)
        (decides t l again w q c (site_of w l).parked (lock_state w l).phase
        (subst (λ x. Alone w (Look c again (look.Decide x)) x q) (told_by_word w t l _ v q f) f))

    -- the thread saw another value than the word has now
    module _ (again : Bool) (seen v : ℕ) (w : State) (q : Queues) (other : (v == seen) ≡ false)
        (f : Alone w (Look c again (look.Decide seen)) v q) where
      sees : once_next (Look c again (look.Decide seen)) (Value v) ≡ in_look c again (looked c v)
      sees = ap (λ b. if b && is_run (course_of c v) then next.At
          (Run (is_forced c) (run.Closure (is_poisoned v)))
          else in_look c again (if b && is_mark (course_of c v) then next.At (look.Decide (marked v))
          else looked c v)) other

      looks_anew : (o : Op) → act_of (Once l (Look c again (look.Decide seen))) ≡ act.Word l o → apply o v ≡ v
          → RestsIn 8 w
      looks_anew o is same_word = leads_more 5 8 w t (λ v o. EndsOrSleeps o) (omega arith)
          (looked_rests again v w q _ f
          (subst (λ n. Comes w t l (once_goes l n) (outcome_of (once_does l n)) v q) sees
          (subst (λ x. Comes w t l (once_goes l (once_next (Look c again (look.Decide seen)) (Value v)))
          (outcome_of (once_does l (once_next (Look c again (look.Decide seen)) (Value v)))) x q)
          same_word
          (word_comes w t l _ v q f o is))))

      unchanged : (m : ℕ) → apply (op.Exchange seen m) v ≡ v
      unchanged m = ap (λ b. if b then m else v) other

      by_course : (k : Course) → course_of c seen ≡ k → RestsIn 8 w
      by_course (Ends answer) e = looks_anew op.Load (ap (course_act l seen) e) refl
      by_course Runs e = looks_anew (op.Exchange seen (started seen)) (ap (course_act l seen) e)
          (unchanged (started seen))
      by_course Marks e = looks_anew (op.Exchange seen (marked seen)) (ap (course_act l seen) e)
          (unchanged (marked seen))
      by_course Parks e = leads_into w t l _ v q f (λ v o. EndsOrSleeps o) 7 Main (ap (course_act l seen) e) refl
          refl (λ g. checks again v _ q g)

    decides_rests : (again : Bool) (seen v : ℕ) (w : State) (q : Queues)
        → Alone w (Look c again (look.Decide seen)) v q
        → RestsIn 8 w
    decides_rests again seen v w q f = either (v == seen) refl
      where
        either : (b : Bool) → (v == seen) ≡ b → RestsIn 8 w
        either true e = leads_more 4 8 w t (λ v o. EndsOrSleeps o) (omega arith) (decides_now again v w q
            (subst (λ x. Alone w (Look c again (look.Decide x)) v q) (sym (eqb-true v seen e)) f))
        either false e = by_course again seen v w q e f (course_of c seen) refl

    look_rests : (again : Bool) (at : LookAt) (v : ℕ) (w : State) (q : Queues)
        → act_of (Once l (Look c again at)) ≢ act.Sleep
        → Alone w (Look c again at) v q → RestsIn 8 w
    look_rests again look.Load v w q up f = leads_more 5 8 w t (λ v o. EndsOrSleeps o) (omega arith)
        (loads_rest again v w q f)
    look_rests again (look.Decide seen) v w q up f = decides_rests again seen v w q f
    look_rests again look.Check v w q up f = leads_more 7 8 w t (λ v o. EndsOrSleeps o) (omega arith)
        (checks again v w q f)
    look_rests again (look.Leave parked) v w q up f = leads_more 6 8 w t (λ v o. EndsOrSleeps o) (omega arith)
        (leaves again parked v w q f)
    look_rests again look.Asleep v w q up f = absurd (up refl)
    look_rests again (look.Taken by) v w q up f = absurd (up refl)

  -- ---------------------------------------------------------------- giving up

  module _ (again : Bool) where
    gone_rests : (v : ℕ) (w : State) (q : Queues) → Alone w (GiveUp again give_up.Leave) v q → RestsIn 1 w
    gone_rests v w q f = rests w (outcome.End answer.No) (leave_comes w t l _ v q f Main Nobody refl).0 tt

    clear_rests : (v : ℕ) (w : State) (q : Queues) → Alone w (GiveUp again give_up.Clear) v q → RestsIn 2 w
    clear_rests v w q f = goes 1 _ w q (GiveUp again give_up.Leave) _ refl
        (word_comes w t l _ v q f (op.And NOT_PARKED) refl) (λ g. gone_rests _ _ q g)

    remove_rests : (v : ℕ) (w : State) (q : Queues) → Alone w (GiveUp again give_up.Remove) v q → RestsIn 3 w
    remove_rests v w q f = either _ (remove_comes w t l _ v q f (2 * l) refl)
      where
        either : (b : Bool) {q2 : Queues}
            → Comes w t l (once_goes l (in_give_up again (if b then next.At give_up.Clear else next.At
            give_up.Leave)))
            (outcome_of (once_does l (in_give_up again (if b then next.At give_up.Clear else next.At
            give_up.Leave)))) v q2
            → RestsIn 3 w
        either true {q2} c = goes 2 v w q2 (GiveUp again give_up.Clear) _ refl c (λ g. clear_rests v _ q2 g)
        either false {q2} c = leads_more 2 3 w t (λ v o. EndsOrSleeps o) (omega arith)
            (goes 1 v w q2 (GiveUp again give_up.Leave) _ refl c (λ g. gone_rests v _ q2 g))

    give_up_rests : (at : GiveUpAt) (v : ℕ) (w : State) (q : Queues) → Alone w (GiveUp again at) v q
        → RestsIn 3 w
    give_up_rests give_up.Remove v w q f = remove_rests v w q f
    give_up_rests give_up.Clear v w q f = leads_more 2 3 w t (λ v o. EndsOrSleeps o) (omega arith)
        (clear_rests v w q f)
    give_up_rests give_up.Leave v w q f = leads_more 1 3 w t (λ v o. EndsOrSleeps o) (omega arith)
        (gone_rests v w q f)

  -- from any place outside its closure, where it is awake
  pub once_rests : (p : OncePlace) (v : ℕ) (w : State) (q : Queues) → act_of (Once l p) ≢ act.Sleep
      → runs_closure (act_of (Once l p)) ≡ false → Alone w p v q → RestsIn 8 w
  once_rests (Look c again at) v w q up outside f = look_rests c again at v w q up f
  once_rests (Run forced at) v w q up outside f = leads_more 4 8 w t (λ v o. EndsOrSleeps o) (omega arith)
      (run_rests forced at v w q outside f)
  once_rests (GiveUp again at) v w q up outside f = leads_more 3 8 w t (λ v o. EndsOrSleeps o) (omega arith)
      (give_up_rests again at v w q f)
