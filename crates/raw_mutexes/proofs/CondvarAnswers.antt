-- The waits of a raw condition variable answer by what they give back.
use Rattle.std.proofs.Common.{ℕ, ◌≡◌, ◌≢◌, ◌*◌, ◌+◌, ◌++◌, ◌∙◌, ap, Bool, true, false, List, inl, inr, refl}
use Rattle.std.proofs.Common.{sym, subst}
use Rattle.core_base.specs.declared.ops.Op.TheVariants.{Load}
use Rattle.spec_locks.specs.declared.outcomes.Answer.{Answer}
use Rattle.spec_locks.specs.declared.outcomes.Answer.TheVariants.{No, Number, TimedOut, TwoMutexes, Yes}
use Rattle.steps_condvar.specs.CondvarSteps.{waited}
use Rattle.lock_raw.specs.Answers.{GivesBack, GivesBackTimed, LateByClock, timed_answer, waiting_answer}
use Rattle.core_words.specs.declared.owners.Ownership.{Ownership}
use Rattle.core_words.specs.declared.views.View.{View}
use Rattle.core_words.specs.declared.views.WordStep.{WordStep}
use Rattle.parking_lot_core.specs.Tokens.{told_of, view_of}
use Rattle.parking_lot_core.specs.declared.tokens.Token.{Token}
use Rattle.run_base.specs.CondvarFitting.{IsWaitOver, LateIf, move_did}
use Rattle.run_base.specs.Paths.{condvar_at, step}
use Rattle.run_base.specs.Stages.{ThreadState}
use Rattle.run_base.specs.Telling.{steps_of}
use Rattle.run_locks.specs.CondvarCalls.{AnswersWait, HasGoneOn, HasLooked, LookedElse, SawNoneToMove}
use Rattle.run_locks.specs.CondvarCalls.{TellsMoved, timed_given_back, given_back}
use Rattle.raw_mutexes.specs.Moved.{HasMoved, RecordsMoved}

module _ {G : Type 0} (guard : G) where
  pub waits_so : (answer : Answer) → AnswersWait false answer → waiting_answer (given_back answer guard)
      ≡ answer
  waits_so answer (inl other) = subst (λ (a : Answer). waiting_answer (given_back a guard) ≡ a) (sym other)
      refl
  waits_so answer (inr told) = subst (λ (a : Answer). waiting_answer (given_back a guard) ≡ a) (sym told.1)
      refl

  pub gives_back : (holds : G → Type 0) (answer : Answer) → AnswersWait false answer → holds guard
      → GivesBack (given_back answer guard) holds
  gives_back holds answer (inl other) h = subst (λ (a : Answer). GivesBack (given_back a guard) holds)
      (sym other) (refl, h)
  gives_back holds answer (inr told) h = subst (λ (a : Answer). GivesBack (given_back a guard) holds)
      (sym told.1) h

  pub ends_so : (answer : Answer) → AnswersWait true answer → timed_answer (timed_given_back answer guard)
      ≡ answer
  ends_so answer (inl other) = subst (λ (a : Answer). timed_answer (timed_given_back a guard) ≡ a) (sym other)
      refl
  ends_so answer (inr told) = by_time told.0 told.1
    where
      by_time : (late : Bool) → answer ≡ waited true late → timed_answer (timed_given_back answer guard)
          ≡ answer
      by_time true e = subst (λ (a : Answer). timed_answer (timed_given_back a guard) ≡ a) (sym e) refl
      by_time false e = subst (λ (a : Answer). timed_answer (timed_given_back a guard) ≡ a) (sym e) refl

  pub ends_with : (holds : G → Type 0) (answer : Answer) → AnswersWait true answer → holds guard
      → GivesBackTimed (timed_given_back answer guard) holds
  ends_with holds answer (inl other) h =
      subst (λ (a : Answer). GivesBackTimed (timed_given_back a guard) holds) (sym other) (refl, h)
  ends_with holds answer (inr told) h = by_time told.0 told.1
    where
      by_time : (late : Bool) → answer ≡ waited true late → GivesBackTimed (timed_given_back answer guard)
          holds
      by_time true e = subst (λ (a : Answer). GivesBackTimed (timed_given_back a guard) holds) (sym e) h
      by_time false e = subst (λ (a : Answer). GivesBackTimed (timed_given_back a guard) holds) (sym e) h

  pub ends_late : (passed : Type 0) (answer : Answer) → AnswersWait true answer → (answer ≡ TimedOut → passed)
      → LateByClock (timed_given_back answer guard) passed
  ends_late passed answer (inl other) late =
      subst (λ (a : Answer). LateByClock (timed_given_back a guard) passed) (sym other) tt
  ends_late passed answer (inr told) late = by_time told.0 told.1
    where
      by_time : (b : Bool) → answer ≡ waited true b → LateByClock (timed_given_back answer guard) passed
      by_time true e = subst (λ (a : Answer). LateByClock (timed_given_back a guard) passed) (sym e)
          (λ yes. late e)
      by_time false e = subst (λ (a : Answer). LateByClock (timed_given_back a guard) passed) (sym e)
          (λ yes. absurd (let no : false ≡ true = yes in cc))

-- a thread that tells that its time was up says so of its clock
pub late_of : (up : Type 0) (timed late : Bool) (answer : Answer) → answer ≡ waited timed late
    → LateIf up timed late → answer ≡ TimedOut → up
late_of up timed true answer told late e = late.1
late_of up true false answer told late e = absurd (let k : waited true false ≡ TimedOut = sym told ∙ e in cc)
late_of up false false answer told late e = absurd (let k : waited false false ≡ TimedOut = sym told ∙ e
    in cc)

module _ (up : Type 0) (m : ℕ) (timed : Bool) (base : List Ownership) (answer : Answer) (st : ThreadState)
    (over : IsWaitOver up m timed base answer st) where
  pub tells : AnswersWait timed answer
  tells = elim over [
    | inl other ↦ inl other.0
    | inr told ↦ inr (told.0, told.1)
  ]

  pub tells_late : answer ≡ TimedOut → up
  tells_late e = elim over [
    | inl other ↦ absurd (let k : TwoMutexes ≡ TimedOut = sym other.0 ∙ e in cc)
    | inr told ↦ late_of up timed told.0 answer told.1 told.2 e
  ]

-- tells what a notification moved, from its first look on
module _ (words c first : ℕ) (before old new : Token) (looked : HasLooked words c first before old) where
  saw_else : LookedElse c first (steps_of old) new → SawNoneToMove c before new
  saw_else other = inr (first, subst (λ (steps : List WordStep). LookedElse c first steps new) looked.0 other)

  went_on : (m : ℕ) → first ≡ m + 1 → HasGoneOn (steps_of old) new
      → HasGoneOn (steps_of before ++ step (condvar_at c) Load (m + 1)) new
  went_on m shown = subst (λ (steps : List WordStep). HasGoneOn steps new) (looked.0
      ∙ ap (λ (n : ℕ). steps_of before ++ step (condvar_at c) Load n) shown)

  pub moved_all : (answer : Answer) (number : ℕ) → answer ≡ Number number → TellsMoved c true first answer old
      new → HasMoved c true number before new
  moved_all answer number is (inl none) = let zero : number ≡ 0 = cc
      in (inl (zero, saw_else none.1), λ some. absurd (some zero))
  moved_all answer number is (inr moved) =
      let same : number ≡ moved.2 = cc in (
        inr (moved.0, moved.1, moved.2, same, moved.5, went_on moved.0 moved.3 moved.6),
        λ some. (
          record {
            key = 2 * c;
            did = move_did true moved.1 c moved.0;
            number = moved.2;
          },
          moved.5,
          sym same,
        ),
      )

  pub moved_one : (answer : Answer) → answer ≡ Yes → RecordsMoved 1 new → TellsMoved c false first answer old
      new → HasMoved c false 1 before new
  moved_one answer is told (inl none) = absurd (let no : Yes ≡ No = sym is ∙ none.0 in cc)
  moved_one answer is told (inr moved) =
      (inr (moved.0, moved.1, moved.2, refl, moved.5, went_on moved.0 moved.3 moved.6), λ some. told)

  pub moved_none : (answer : Answer) → answer ≢ Yes → TellsMoved c false first answer old new → (answer ≡ No)
      × HasMoved c false 0 before new
  moved_none answer other (inl none) = (none.0, (inl (refl, saw_else none.1), λ some. absurd (some refl)))
  moved_none answer other (inr moved) = absurd (other moved.4)

-- a look of a thread that has done nothing since is one since then
pub looked_since : (words n seen : ℕ) (old mid new : Token) → mid.number ≡ old.number
    → view_of mid ≡ view_of old → told_of mid ≡ told_of old → HasLooked words n seen mid new
    → HasLooked words n seen old new
looked_since words n seen old mid new number view told by = (
  by.0 ∙ ap (λ (v : View). v.steps ++ step (condvar_at n) Load seen) view,
  by.1 ∙ ap (λ (v : View). v.owns) view,
  by.2,
  by.3 ∙ told,
  by.4 ∙ number,
)
