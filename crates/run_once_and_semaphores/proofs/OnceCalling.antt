-- The calls of a `Once`: what they come to, by what a run of the driver came to.
use Rattle.std.proofs.Common.{ℕ, ◌≡◌, ◌∙◌, ◌<◌, ◌/◌, ◌%◌, Bool, true, false, List, ◌++◌, ◌⊎◌, Option, None, Some}
use Rattle.std.proofs.Common.{if◌then◌else◌, inl, inr, sym, refl, ap, subst, arith}
use Rattle.spec_locks.specs.Codes.{is_done, is_marked}
use Rattle.core_base.specs.declared.ops.Op.TheVariants.{Load, Swap}
use Rattle.spec_locks.specs.declared.calls.OnceCall.{OnceCall}
use Rattle.spec_locks.specs.declared.calls.OnceCall.TheVariants.{CallOnce, Wait, WaitTimed}
use Rattle.spec_locks.specs.declared.outcomes.Answer.{Answer}
use Rattle.spec_locks.specs.declared.outcomes.Answer.TheVariants as answers
use Rattle.spec_locks.specs.declared.outcomes.OnceState.{OnceState}
use Rattle.steps_base.specs.declared.acts.Act.TheVariants as act
use Rattle.steps_base.specs.declared.acts.Next.TheVariants as next
use Rattle.steps_base.specs.declared.acts.Reply.TheVariants.{Value}
use Rattle.steps_condvar.specs.declared.places.CondvarPlace.TheVariants as waiting
use Rattle.steps_once.specs.OnceSteps.{course_act, course_of, ended, give_up_act, in_look, in_run, look_act}
use Rattle.steps_once.specs.OnceSteps.{looked_by, state_before, when_done, word_after}
use Rattle.steps_once.specs.declared.look.Course.{Course}
use Rattle.steps_once.specs.declared.look.Course.TheVariants.{Ends, Runs, Marks, Parks}
use Rattle.steps_once.specs.declared.look.LookAt.{LookAt}
use Rattle.steps_once.specs.declared.look.LookAt.TheVariants as look
use Rattle.steps_once.specs.declared.run.RunAt.TheVariants as run
use Rattle.steps_once.specs.declared.give_up.GiveUpAt.{GiveUpAt}
use Rattle.steps_once.specs.declared.give_up.GiveUpAt.TheVariants as give_up
use Rattle.steps_once.specs.declared.places.OncePlace.TheVariants.{Look, Run, GiveUp}
use Rattle.lot_steps.specs.Steps.{next_act, next_place, once_does, once_goes}
use Rattle.lot_steps.specs.declared.places.Place.{Place}
use Rattle.lot_steps.specs.declared.places.Place.TheVariants.{Idle, Mutex, RwLock, Once, Condvar, Semaphore}
use Rattle.core_words.specs.Codes.{IsOnceWord, runner}
use Rattle.core_words.specs.Indices.{word_index}
use Rattle.core_words.specs.Steps.{CodesWith, has, owns_after_step, without}
use Rattle.core_words.specs.Views.{owned, owning}
use Rattle.core_words.specs.declared.owners.Owner.TheVariants.{Runner}
use Rattle.core_words.specs.declared.owners.Ownership.{Ownership}
use Rattle.core_words.specs.declared.views.WordStep.{WordStep}
use Rattle.core_words.specs.declared.views.View.{View}
use Rattle.parking_lot_core.specs.Tokens.{told_of, view_of}
use Rattle.parking_lot_core.specs.declared.tokens.Token.{Token}
use Rattle.core_words.specs.declared.words.Word.{Word}
use Rattle.core_words.specs.declared.words.WordKind as kinds
use Rattle.core_words.proofs.Trades.{owned_some}
use Rattle.run_base.specs.Fitting.{IsStopped, Reached, ReachedBy, answer_of, of_once, of_run}
use Rattle.run_base.specs.OnceFitting.{LooksAnswer, OwnsAfter, OwnsRun}
use Rattle.run_base.specs.Courses.{ComesBy, Course as Way, Courses, Trail, recorded_all, trail_of}
use Rattle.run_base.specs.Paths.{at_once, once_at, onces, step}
use Rattle.run_base.specs.Telling.{steps_of}
use Rattle.run_base.specs.Stages.{ThreadState, stage, stage_of}
use Rattle.run_base.specs.Words.{single_word, at_in, kind_in}
use Rattle.run_base.specs.declared.driver.Stop.TheVariants.{Paused}
use Rattle.core_words.proofs.OnceSteps.{each_once_code}
use Rattle.run_base.proofs.OnceLeading.{lands}
use Rattle.run_base.proofs.Unqueued.{after_once, unqueued_once}
use Rattle.run_base.proofs.Courses.{begins, comes_after, courses_after, goes_on, one, one_more, over_at_once}
use Rattle.run_base.proofs.Courses.{steps_first}
use Rattle.run_base.proofs.RwLockLeading.{rwlock_no_closure}
use Rattle.run_base.proofs.SemaphoreLeading.{semaphore_no_closure}
use Rattle.run_once_and_semaphores.specs.OnceCalls.{EndsRun, HasLookedFirst, StepsLeadTo, in_closure, once_begin, run_end}
use Rattle.run_once_and_semaphores.specs.Ran.{RanNothing}

-- a look runs no closure
no_course : (n seen : ℕ) (course : Course) (state : OnceState) → course_act n seen course
    ≡ act.Closure state → ⊥
no_course n seen (Ends answer) state e = cc
no_course n seen Runs state e = cc
no_course n seen Marks state e = cc
no_course n seen Parks state e = cc

no_look : (n : ℕ) (c : OnceCall) (at : LookAt) (state : OnceState) → look_act n c at ≡ act.Closure
    state → ⊥
no_look n c look.Load state e = cc
no_look n c (look.Decide seen) state e = no_course n seen (course_of c seen) state e
no_look n c look.Check state e = cc
no_look n c (look.Leave parked) state e = cc
no_look n c look.Asleep state e = cc
no_look n c (look.Taken by) state e = cc

-- nor does a thread that gives up
no_give_up : (n : ℕ) (at : GiveUpAt) (state : OnceState) → give_up_act n at ≡ act.Closure state
    → ⊥
no_give_up n give_up.Remove state e = cc
no_give_up n give_up.Clear state e = cc
no_give_up n give_up.Leave state e = cc

-- where a call of a `Once` has come to its closure
pub record InClosure (n : ℕ) (c : OnceCall) (base : List Ownership) (p : Place) (state : OnceState)
    (st : ThreadState) : Type 0 where
  pub forced : Bool
  pub poisoned : Bool
  pub call : c ≡ CallOnce forced
  pub told : state ≡ state_before poisoned
  pub there : p ≡ in_closure n forced poisoned
  pub owns : OwnsRun n base st.owns

pub paused : (up : Type 0) (n : ℕ) (c : OnceCall) (base : List Ownership) (p : Place) (state : OnceState)
    (st : ThreadState) → IsStopped up base (of_once n c) (Paused p state) st → InClosure n c base p state st
paused up n c base Idle state st s = absurd s.0
paused up n c base (Condvar l (waiting.Wait m timed at)) state st s = let e = s.1 in absurd cc
paused up n c base (Condvar l (waiting.Look all)) state st s = absurd s.0
paused up n c base (Condvar l (waiting.Notify all m at)) state st s = let e = s.1 in absurd cc
paused up n c base (Mutex l at) state st s = let e = s.1 in absurd cc
paused up n c base (Semaphore l at) state st s = absurd (semaphore_no_closure l state at s.2)
paused up n c base (RwLock l a at) state st s = absurd (rwlock_no_closure up l a base at st state s.0 s.2)
paused up n c base (Once l (Look c2 r at)) state st s = absurd (no_look l c2 at state s.2)
paused up n c base (Once l (Run forced (run.Closure poisoned))) state st s =
    let aim : of_once l (CallOnce forced) ≡ of_once n c = s.1 in
    let same : l ≡ n = cc in let call : CallOnce forced ≡ c = cc in let is : act.Closure
    (state_before poisoned) ≡ act.Closure state = s.2 in
    let told : state_before poisoned ≡ state = cc in record {
      forced = forced;
      poisoned = poisoned;
      call = sym call;
      told = sym told;
      there = ap (λ (k : ℕ). in_closure k forced poisoned) same;
      owns = subst (λ (k : ℕ). OwnsRun k base st.owns) same s.0.0;
    }
paused up n c base (Once l (Run forced (run.Close succeeded))) state st s = absurd s.0
paused up n c base (Once l (Run forced (run.Enter succeeded))) state st s = let e = s.1 in absurd cc
paused up n c base (Once l (Run forced (run.Take succeeded))) state st s = let e = s.1 in absurd cc
paused up n c base (Once l (Run forced (run.Leave succeeded any))) state st s = let e = s.1 in absurd cc
paused up n c base (Once l (GiveUp r at)) state st s = absurd (no_give_up l at state s.2)

-- a run that has ended comes to no closure
pub runs_out : (n : ℕ) (succeeded : Bool) (base : List Ownership) (p : Place) (state : OnceState)
    (st : ThreadState)
    → IsStopped ⊥ base (of_run n succeeded) (Paused p state) st → ⊥
runs_out n succeeded base Idle state st s = s.0
runs_out n succeeded base (Condvar l (waiting.Wait m timed at)) state st s = let e = s.1 in cc
runs_out n succeeded base (Condvar l (waiting.Look all)) state st s = s.0
runs_out n succeeded base (Condvar l (waiting.Notify all m at)) state st s = let e = s.1 in cc
runs_out n succeeded base (Mutex l at) state st s = let e = s.1 in cc
runs_out n succeeded base (Semaphore l at) state st s = semaphore_no_closure l state at s.2
runs_out n succeeded base (RwLock l a at) state st s = rwlock_no_closure ⊥ l a base at st state s.0 s.2
runs_out n succeeded base (Once l (Look c r at)) state st s = no_look l c at state s.2
runs_out n succeeded base (Once l (Run forced (run.Closure poisoned))) state st s = let e = s.1 in cc
runs_out n succeeded base (Once l (Run forced (run.Close s2))) state st s = s.0
runs_out n succeeded base (Once l (Run forced (run.Enter s2))) state st s = let e = s.2 in cc
runs_out n succeeded base (Once l (Run forced (run.Take s2))) state st s = let e = s.2 in cc
runs_out n succeeded base (Once l (Run forced (run.Leave s2 any))) state st s = let e = s.2 in cc
runs_out n succeeded base (Once l (GiveUp r at)) state st s = no_give_up l at state s.2

module _ (word : Word) (is : word.kind ≡ kinds.TheVariants.Once) where
  pub once_kinds : kind_in (single_word word) ≡ onces
  once_kinds = ap {B = ℕ → kinds.WordKind} (λ (kind : kinds.WordKind) (lock : ℕ). kind) is

  pub once_alone : at_in (single_word word) ≡ at_once word.number
  once_alone = ap {B = ℕ → ℕ} (λ (kind : kinds.WordKind) (lock : ℕ). word_index word.number kind) is

module _ (n : ℕ) where
  -- the first step of a call ends it, or leads on
  pub looks_ended : (c : OnceCall) (seen : ℕ) (old mid : Token) (answer : Answer) → steps_of mid
      ≡ steps_of old ++ step (once_at n) Load seen → told_of mid ≡ told_of old
      → next_act (once_begin n c) (Value seen) ≡ act.End answer → RanNothing n c answer old mid
  looks_ended c seen old mid answer e told ends = over_at_once (at_once n) old.number (once_begin n c) n Load
      seen (trail_of old None) (trail_of mid None) answer refl (after_once n c seen)
      (one_more _ _ _ _ _ e told) ends

  pub looks_on : (c : OnceCall) (seen : ℕ) (old mid : Token) (new : Trail) (answer : Answer)
      → steps_of mid ≡ steps_of old ++ step (once_at n) Load seen → told_of mid ≡ told_of old
      → Courses (at_once n) old.number (next_place (once_begin n c) (Value seen)) (trail_of mid None) new
      answer
      → Courses (at_once n) old.number (once_begin n c) (trail_of old None) new answer
  looks_on c seen old mid new answer e told rest = courses_after (at_once n) old.number (once_begin n c) n
      Load seen (trail_of old None) (trail_of mid None) new answer refl (after_once n c seen)
      (one_more _ _ _ _ _ e told) rest

  pub looks_to : (c : OnceCall) (seen : ℕ) (old mid : Token) (new : Trail) (q : Place) → steps_of mid
      ≡ steps_of old ++ step (once_at n) Load seen → told_of mid ≡ told_of old
      → StepsLeadTo n old.number (next_place (once_begin n c) (Value seen)) (trail_of mid None) new q
      → StepsLeadTo n old.number (once_begin n c) (trail_of old None) new q
  looks_to c seen old mid new q e told rest = comes_after (at_once n) old.number (once_begin n c)
      (next_place (once_begin n c) (Value seen)) q (trail_of old None) (trail_of mid None) new
      (goes_on (at_once n) old.number (once_begin n c) (once_begin n c) (next_place (once_begin n c)
      (Value seen)) (trail_of old None) (trail_of old None) (trail_of mid None) (Value seen)
      (one (once_at n) Load seen) (begins (at_once n) old.number (once_begin n c) (trail_of old None))
      (one_more _ _ _ _ _ e told) (steps_first (at_once n) old.number (once_begin n c) n Load seen refl
      (after_once n c seen)) refl) rest

  -- a thread that finds it done ends
  pub done_ends : (c : OnceCall) (seen : ℕ) → is_done seen ≡ true → next_act (once_begin n c) (Value seen)
      ≡ act.End (when_done c)
  done_ends (CallOnce forced) seen e = rw e refl
  done_ends (Wait forced) seen e = rw e refl
  done_ends WaitTimed seen e = rw e refl

  -- A call goes on by what its aim says of the word.
  pub on_aim : (up : Type 0) (c : OnceCall) (seen : ℕ) (base : List Ownership) (st : ThreadState)
      → answer_of (next_act (once_begin n c) (Value seen)) ≡ None → Reached ⊥ base (once_begin n c)
      (Value seen) st
      → ReachedBy up base (of_once n c) (next_place (once_begin n c) (Value seen)) None st
  on_aim up c seen base st none reached =
      by_course (course_of c seen) (subst (λ (o : Option Answer). ReachedBy ⊥ base (of_once n c)
      (next_place (once_begin n c) (Value seen)) o st) none reached)
    where
      by_course : (k : Course) → ReachedBy ⊥ base (of_once n c)
          (once_goes n (in_look c false (looked_by seen k))) None st
          → ReachedBy up base (of_once n c) (once_goes n (in_look c false (looked_by seen k))) None st
      by_course (Ends answer) h = absurd h.0
      by_course Runs h = h
      by_course Marks h = h
      by_course Parks h = h

  -- A call ends owning what its answer says.
  pub ends_by : (up : Type 0) (c : OnceCall) (seen : ℕ) (base : List Ownership) (st : ThreadState)
      (answer : Answer)
      → answer_of (next_act (once_begin n c) (Value seen)) ≡ Some answer → Reached ⊥ base (once_begin n c)
      (Value seen) st
      → LooksAnswer up n c base answer st.owns st.last
  ends_by up c seen base st answer some reached =
      by_answer answer (subst (λ (o : Option Answer). ReachedBy ⊥ base (of_once n c)
      (next_place (once_begin n c) (Value seen)) o st) some reached).1
    where
      by_answer : (answer : Answer) → LooksAnswer ⊥ n c base answer st.owns st.last
          → LooksAnswer up n c base answer st.owns st.last
      by_answer answers.Ok h = h
      by_answer answers.Yes h = h
      by_answer answers.No h = absurd h.1
      by_answer answers.Poisoned h = h
      by_answer answer h = absurd h

  -- tells what is owned after the step that ends a run
  abbrev Afterwards : Bool → List Ownership → ℕ → Type 0
  Afterwards s owns seen = seen / 4 % 2 ≡ 1 → OwnsAfter n s (without (owning (once_at n) Runner) owns)
      (owns_after_step kinds.TheVariants.Once (once_at n) (Swap (word_after s)) seen owns)

  pub swapped : (s : Bool) (owns : List Ownership) (seen : ℕ) → IsOnceWord seen → Afterwards s owns seen
  swapped true owns = each_once_code (Afterwards true owns) (λ h. absurd (omega arith))
      (λ h. absurd (omega arith)) (λ h. absurd (omega arith)) (λ h. (0, refl)) (λ h. absurd (omega arith))
      (λ h. absurd (omega arith)) (λ h. (0, refl))
  swapped false owns = each_once_code (Afterwards false owns) (λ h. absurd (omega arith))
      (λ h. absurd (omega arith)) (λ h. absurd (omega arith)) (λ h. (0, refl)) (λ h. absurd (omega arith))
      (λ h. absurd (omega arith)) (λ h. (0, refl))

  -- the step that ends a run, and the rest
  pub closes_at_once : (forced s : Bool) (seen me : ℕ) (old new : Trail) → is_marked seen ≡ false
      → new ≡ recorded_all old (one (once_at n) (Swap (word_after s)) seen) → EndsRun n me forced s old new
  closes_at_once forced s seen me old new unmarked e = over_at_once (at_once n) me (run_end n forced s) n
      (Swap (word_after s)) seen old new (ended s) refl (unqueued_once n (Run forced (run.Close s)) seen tt
      refl) e
      (ap (λ (b : Bool). once_does n (in_run forced (if b then next.At (run.Enter s)
      else next.End (ended s)))) unmarked)

  pub closes_on : (forced s : Bool) (seen me : ℕ) (old mid new : Trail) (answer : Answer) → is_marked seen
      ≡ true → mid ≡ recorded_all old (one (once_at n) (Swap (word_after s)) seen) → answer ≡ ended s
      → Courses (at_once n) me (Once n (Run forced (run.Enter s))) mid new answer
      → EndsRun n me forced s old new
  closes_on forced s seen me old mid new answer marked e is rest = courses_after (at_once n) me
      (run_end n forced s) n (Swap (word_after s)) seen old mid new (ended s) refl
      (unqueued_once n (Run forced (run.Close s)) seen tt refl) e
      (subst (λ (p : Place). Courses (at_once n) me p mid new (ended s))
      (sym (ap (λ (b : Bool). once_goes n (in_run forced (if b then next.At (run.Enter s)
      else next.End (ended s)))) marked))
      (subst (Courses (at_once n) me (Once n (Run forced (run.Enter s))) mid new) is rest))

  pub word_left : (s : Bool) → (word_after s ≡ 1) ⊎ (word_after s ≡ 2)
  word_left true = inl refl
  word_left false = inr refl

  -- each thread that runs it finds it running
  pub runs_found : (seen : ℕ) (owns : List Ownership) → CodesWith kinds.TheVariants.Once (once_at n) seen owns
      → has (owning (once_at n) Runner) owns ≡ true → seen / 4 % 2 ≡ 1
  runs_found seen owns code mine = let some : 0 < owned (once_at n) runner owns =
      owned_some (once_at n) Runner owns mine runner (omega arith) in omega (
        arith,
        code.1.1,
        code.2 runner,
        some,
      )

  -- the first look of a call
  pub begins_by : (c : OnceCall) (base : List Ownership) (steps : List WordStep) (seen : ℕ)
      (new : ThreadState)
      → IsOnceWord seen → new ≡ stage (owns_after_step kinds.TheVariants.Once (once_at n) Load seen base) None
      None steps → Reached ⊥ base (once_begin n c) (Value seen) new
  begins_by c base steps seen new code x = lands n base (stage base None None steps) ⊥ new ((0, refl), refl) c
      false seen code (steps, x)

-- a course of the driver, where the places and words are known
pub comes_by : (at : ℕ → ℕ) (n me : ℕ) (p p2 q q2 : Place) (old new : Trail) → at ≡ at_once n → p ≡ p2
    → q ≡ q2 → ComesBy at me p old new q → StepsLeadTo n me p2 old new q2
comes_by at n me p p2 q q2 old new is e f c = (
  c.0,
  c.1,
  subst (λ (r : Place). Way (at_once n) me p2 c.0 r) f
      (subst (λ (r : Place). Way (at_once n) me r c.0 q) e (subst (λ (w : ℕ → ℕ). Way w me p c.0 q) is c.2)),
)

-- a first look of a thread that has done nothing since is one since then
pub looked_since : (n seen : ℕ) (old mid new : Token) → mid.number ≡ old.number → view_of mid ≡ view_of old
    → told_of mid ≡ told_of old → HasLookedFirst n seen mid new → HasLookedFirst n seen old new
looked_since n seen old mid new number view told saw = (
  saw.0 ∙ number,
  saw.1 ∙ ap (λ (v : View). v.steps ++ step (once_at n) Load seen) view,
  (λ (call : OnceCall). subst (λ (v : View). Reached ⊥ v.owns (once_begin n call) (Value seen)
      (stage_of new None)) view (saw.2 call)),
  saw.3 ∙ told,
)
