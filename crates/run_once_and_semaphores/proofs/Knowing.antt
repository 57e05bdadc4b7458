-- A thread's knowledge and rights after a call of a `Once`.
use Rattle.std.specs.Prelude.{IfOk, MatchResult}
use Rattle.std.specs.declared.result.Result.{Result}
use Rattle.std.proofs.Common.{ℕ, zero, suc, ◌≡◌, Bool, true, false, List, ◌∷◌, Option, None, refl, sym, ap}
use Rattle.std.proofs.Common.{◌∙◌, subst, Ok, Err}
use Rattle.spec_locks.specs.Codes.{is_done}
use Rattle.steps_base.specs.declared.acts.Act.{Act}
use Rattle.steps_base.specs.declared.acts.Reply.TheVariants.{Value}
use Rattle.spec_locks.specs.declared.calls.OnceCall.{OnceCall}
use Rattle.spec_locks.specs.declared.outcomes.Answer.{Answer}
use Rattle.spec_locks.specs.declared.outcomes.Answer.TheVariants as answers
use Rattle.steps_once.specs.OnceSteps.{is_timed, when_done}
use Rattle.core_words.specs.Steps.{has, without}
use Rattle.core_words.specs.Views.{owning}
use Rattle.core_words.specs.declared.owners.Owner.TheVariants.{Runner, Witness}
use Rattle.core_words.specs.declared.owners.Ownership.{Ownership}
use Rattle.core_words.proofs.RwLockOwning.{first_goes, has_first}
use Rattle.parking_lot_core.specs.declared.tokens.SectionRecord.{SectionRecord}
use Rattle.parking_lot_core.specs.declared.tokens.Token.{Token}
use Rattle.parking_lot_core.specs.Tokens.{last_of}
use Rattle.spec_locks.specs.declared.calls.OnceCall.TheVariants.{CallOnce, Wait, WaitTimed}
use Rattle.spec_locks.specs.declared.outcomes.OnceState.{OnceState}
use Rattle.lot_steps.specs.Steps.{next_place}
use Rattle.run_base.specs.Fitting.{ReachedBy, call_purpose, answer_of}
use Rattle.run_base.specs.OnceFitting.{LooksAnswer, OwnsAfter, OwnsKnowing, OwnsRun, knowing}
use Rattle.run_base.specs.Paths.{once_at}
use Rattle.run_base.specs.Stages.{stage_of}
use Rattle.run_base.specs.Courses.{trail_of}
use Rattle.run_base.specs.Telling.{owns_of, steps_of}
use Rattle.run_once_and_semaphores.specs.OnceCalls.{EndedAndWoke, StepsLeadTo, EndsRun, HasLookedFirst, LookOwns, LooksBy}
use Rattle.run_once_and_semaphores.specs.OnceCalls.{in_closure, once_begin}
use Rattle.run_once_and_semaphores.specs.declared.once_calls.Look.TheVariants.{Ended}
use Rattle.run_once_and_semaphores.specs.Looks.{Began, CameTo, FoundDone, came_by}
use Rattle.run_once_and_semaphores.specs.Ran.{RanNothing, HasRun}
use Rattle.run_once_and_semaphores.proofs.OnceCalling.{done_ends, looks_ended}

untimed : (c : OnceCall) → is_timed c ≡ false → when_done c ≡ answers.Ok
untimed (CallOnce forced) e = refl
untimed (Wait forced) e = refl
untimed WaitTimed e = absurd cc

timed : (c : OnceCall) → is_timed c ≡ true → when_done c ≡ answers.Yes
timed (CallOnce forced) e = absurd cc
timed (Wait forced) e = absurd cc
timed WaitTimed e = refl

module _ (n : ℕ) where
  abbrev run : Ownership
  run = owning (once_at n) Runner

  -- found done so often, and then so often again
  again : (more times : ℕ) (base : List Ownership) → (sum : ℕ)
      × (knowing n more (knowing n times base) ≡ knowing n sum base)
  again zero times base = (times, refl)
  again (suc more) times base = let rest = again more times base
      in (suc rest.0, ap (λ (owns : List Ownership). owning (once_at n) Witness ∷ owns) rest.1)

  stays_of : (s : Bool) (base owns : List Ownership) → OwnsAfter n s base owns → OwnsKnowing n base owns
  stays_of true base owns k = (suc k.0, k.1)
  stays_of false base owns k = k

  on_base : (s : Bool) (base owns : List Ownership) (times : ℕ) → OwnsAfter n s (knowing n times base) owns
      → OwnsAfter n s base owns
  on_base true base owns times k = let rest = again k.0 times base
      in (rest.0, k.1 ∙ ap (λ (owns : List Ownership). owning (once_at n) Witness ∷ owns) rest.1)
  on_base false base owns times k = let rest = again k.0 times base in (rest.0, k.1 ∙ rest.1)

  -- a thread that runs has its run
  pub has_run : (base owns : List Ownership) → OwnsRun n base owns → has (owning (once_at n) Runner) owns
      ≡ true
  has_run base owns r = subst (λ (l : List Ownership). has (owning (once_at n) Runner) l ≡ true) (sym r.2)
      (has_first (once_at n) Runner r.0)

  pub after_run : (s : Bool) (base mid owns : List Ownership) → OwnsRun n base mid
      → OwnsAfter n s (without (owning (once_at n) Runner) mid) owns → OwnsAfter n s base owns
      × OwnsKnowing n base owns
  after_run s base mid owns r b = let rest : without (owning (once_at n) Runner) mid ≡ knowing n r.1.0 base =
      ap (without (owning (once_at n) Runner)) r.2 ∙ first_goes (once_at n) Runner r.0 ∙ r.1.1 in
      let afterwards = on_base s base owns r.1.0 (subst (λ (l : List Ownership). OwnsAfter n s l owns) rest b)
      in (afterwards, stays_of s base owns afterwards)

  answer_stays : (up : Type 0) (c : OnceCall) (base owns : List Ownership) (answer : Answer)
      (last : Option SectionRecord) → LooksAnswer up n c base answer owns last → OwnsKnowing n base owns
  answer_stays up c base owns answers.Ok last h = (suc h.1.0, h.1.1)
  answer_stays up c base owns answers.Yes last h = (suc h.1.0, h.1.1)
  answer_stays up c base owns answers.No last h = h.2
  answer_stays up c base owns answers.Poisoned last h = h.1
  answer_stays up c base owns answer last h = absurd h

  -- a call that ran nothing, by how it ended
  pub came : (up : Type 0) (c : OnceCall) (old new : Token) (answer : Answer) → new.number ≡ old.number
      → LooksBy n c (Ended answer) old new
      → LookOwns up n c (Ended answer) (owns_of old) (owns_of new) (last_of new)
      → CameTo up n c old new (came_by answer)
  came up c old new answers.Ok same by over = (
    (same, answer_stays up c (owns_of old) (owns_of new) answers.Ok (last_of new) over),
    subst (λ (a : Answer). RanNothing n c a old new) (sym (untimed c over.0)) by,
    over.1,
  )
  came up c old new answers.Yes same by over = (
    (same, answer_stays up c (owns_of old) (owns_of new) answers.Yes (last_of new) over),
    subst (λ (a : Answer). RanNothing n c a old new) (sym (timed c over.0)) by,
    over.1,
  )
  came up c old new answers.No same by over = ((same, over.2), by, over.0, over.1, over.3)
  came up c old new answers.Poisoned same by over = ((same, over.1), by, over.0)
  came up c old new answer same by over = absurd over

  -- a thread that finds it done knows it, and any call ends with that
  pub found_done : (seen : ℕ) (old new : Token) → is_done seen ≡ true → HasLookedFirst n seen old new
      → FoundDone n old new
  found_done seen old new done saw = let call = Wait true in let over =
      subst (λ (a : Act). ReachedBy ⊥ (owns_of old) (call_purpose (once_begin n call))
      (next_place (once_begin n call) (Value seen)) (answer_of a) (stage_of new None))
      (done_ends n call seen done) (saw.2 call) in (
        (saw.0, stays_of true (owns_of old) (owns_of new) over.1.1),
        over.1.1,
        λ (c : OnceCall). looks_ended n
            c seen old new (when_done c) saw.1 saw.3 (done_ends n c seen done),
      )

  -- a call that came to its closure, and ended its run
  pub has_run_by : (forced s : Bool) (state : OnceState) (old mid new : Token) → mid.number ≡ old.number
      → Began n (CallOnce forced) state old mid → EndsRun n mid.number forced s (trail_of mid None)
      (trail_of new None) → EndedAndWoke n s (steps_of mid) (steps_of new) (last_of new)
      → HasRun n forced s state old new
  has_run_by forced s state old mid new thread b ends closes = let call : CallOnce forced ≡ CallOnce b.0 = b.2
      in let same : b.0 ≡ forced = cc in (
        b.1,
        trail_of mid None,
        b.3,
        subst (λ (f : Bool). StepsLeadTo n old.number (once_begin n (CallOnce forced)) (trail_of old None)
            (trail_of mid None) (in_closure n f b.1)) same b.4,
        subst (λ (me : ℕ). EndsRun n me forced s (trail_of mid None) (trail_of new None)) thread ends,
        closes,
      )

-- a call that has a value knows that its `Once` is done, and one that failed tells its error
pub by_result : {A B : Type 0} (P : Type 0) (Q : A → Type 0) (E : B → Type 0) (r : Result A B)
    → IfOk r (λ _. P) → MatchResult r Q E → MatchResult r (λ _. P) E
by_result P Q E (Ok value) knows tells = knows
by_result P Q E (Err error) knows tells = tells
