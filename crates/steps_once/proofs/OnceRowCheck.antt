-- Each place of a `Once` says of its thread what is promised of it, by the test of its row.
use Rattle.std.proofs.Common.{ℕ, Bool, true, false, ◌&&◌, ◌≡◌, refl}
use Rattle.core_base.specs.declared.keys.Line.TheVariants.{Main}
use Rattle.spec_locks.specs.declared.calls.OnceCall.{OnceCall}
use Rattle.spec_locks.specs.declared.calls.OnceCall.TheVariants.{CallOnce, Wait, WaitTimed}
use Rattle.spec_locks.specs.Locks.{Once}
use Rattle.steps_once.specs.declared.look.LookAt.{LookAt}
use Rattle.steps_once.specs.declared.look.LookAt.TheVariants as look
use Rattle.steps_once.specs.declared.look.Course.{Course}
use Rattle.steps_once.specs.declared.look.Course.TheVariants as course
use Rattle.steps_once.specs.declared.run.RunAt.{RunAt}
use Rattle.steps_once.specs.declared.run.RunAt.TheVariants as run
use Rattle.steps_once.specs.declared.give_up.GiveUpAt.{GiveUpAt}
use Rattle.steps_once.specs.declared.give_up.GiveUpAt.TheVariants as give_up
use Rattle.steps_once.specs.declared.places.OncePlace.TheVariants.{Look, Run, GiveUp}
use Rattle.steps_once.specs.OnceSteps.{course_act, course_of, give_up_act, look_act, run_act}
use Rattle.steps_once.specs.OnceProfiles.{once_profile}
use Rattle.steps_base.proofs.RowCheck.{Going, Into, Asleep, Other, GoesAs, keeps_row, by_test, both}
use Rattle.steps_once.specs.OnceRows.{OnceRowsKeep}
use Rattle.spec_locks.specs.Purposes.{lock_for, once_purpose}

abbrev course_going : Course → Going
course_going course.Parks = Into Main
course_going k = Other

abbrev look_going : OnceCall → LookAt → Going
look_going c (look.Decide seen) = course_going (course_of c seen)
look_going c look.Asleep = Asleep
look_going c (look.Taken by) = Asleep
look_going c at = Other

abbrev run_going : RunAt → Going
run_going (run.Enter succeeded) = Into Main
run_going at = Other

course_goes : (l v : ℕ) (k : Course) → GoesAs l (course_act l v k) (course_going k)
course_goes l v course.Parks = refl
course_goes l v k = record { acts = refl; awake = λ e. cc; elsewhere = λ m e. cc }

look_goes : (l : ℕ) (c : OnceCall) (at : LookAt) → GoesAs l (look_act l c at) (look_going c at)
look_goes l c (look.Decide seen) = course_goes l seen (course_of c seen)
look_goes l c look.Asleep = refl
look_goes l c (look.Taken by) = refl
look_goes l c at = record { acts = refl; awake = λ e. cc; elsewhere = λ m e. cc }

run_goes : (l : ℕ) (at : RunAt) → GoesAs l (run_act l at) (run_going at)
run_goes l (run.Enter succeeded) = refl
run_goes l at = record { acts = refl; awake = λ e. cc; elsewhere = λ m e. cc }

give_up_goes : (l : ℕ) (at : GiveUpAt) → GoesAs l (give_up_act l at) Other
give_up_goes l give_up.Remove = record { acts = refl; awake = λ e. cc; elsewhere = λ m e. cc }
give_up_goes l give_up.Clear = record { acts = refl; awake = λ e. cc; elsewhere = λ m e. cc }
give_up_goes l give_up.Leave = record { acts = refl; awake = λ e. cc; elsewhere = λ m e. cc }

-- the test passes whatever the call, and whether it was woken
abbrev passes : ℕ → LookAt → Going → OnceCall → Bool → Bool
passes l at g c again = keeps_row Once (once_profile (Look c again at))
    ((once_profile (Look c again at)).purpose l) g

calls : (f : OnceCall → Bool → Bool)
    → ((forced : Bool) → (f (CallOnce forced) true && (f (CallOnce forced) false &&
    (f (Wait forced) true && f (Wait forced) false))) ≡ true)
    → (f WaitTimed true && f WaitTimed false) ≡ true
    → (c : OnceCall) (again : Bool) → f c again ≡ true
calls f h timed (CallOnce forced) true = (both _ _ (h forced)).0
calls f h timed (CallOnce forced) false = (both _ _ (both (f (CallOnce forced) true) _ (h forced)).1).0
calls f h timed (Wait forced) true =
    (both _ _ (both (f (CallOnce forced) false) _ (both (f (CallOnce forced) true) _ (h forced)).1).1).0
calls f h timed (Wait forced) false =
    (both _ _ (both (f (CallOnce forced) false) _ (both (f (CallOnce forced) true) _ (h forced)).1).1).1
calls f h timed WaitTimed true = (both _ _ timed).0
calls f h timed WaitTimed false = (both (f WaitTimed true) _ timed).1

look_keeps : (l : ℕ) (c : OnceCall) (again : Bool) (at : LookAt) → passes l at (look_going c at) c again
    ≡ true
look_keeps l c again (look.Decide seen) = decide (course_of c seen)
  where
    decide : (k : Course) → passes l (look.Decide seen) (course_going k) c again ≡ true
    decide course.Parks = calls (passes l (look.Decide seen) (Into Main)) (λ forced. refl) refl c again
    decide k = calls (passes l (look.Decide seen) Other) (λ forced. refl) refl c again
look_keeps l c again look.Load = calls (passes l look.Load Other) (λ forced. refl) refl c again
look_keeps l c again look.Check = calls (passes l look.Check Other) (λ forced. refl) refl c again
look_keeps l c again (look.Leave true) = calls (passes l (look.Leave true) Other) (λ forced. refl) refl c
    again
look_keeps l c again (look.Leave false) = calls (passes l (look.Leave false) Other) (λ forced. refl) refl c
    again
look_keeps l c again look.Asleep = calls (passes l look.Asleep Asleep) (λ forced. refl) refl c again
look_keeps l c again (look.Taken by) = calls (passes l (look.Taken by) Asleep) (λ forced. refl) refl c again

run_keeps : (l : ℕ) (forced : Bool) (at : RunAt)
    → keeps_row Once (once_profile (Run forced at)) ((once_profile (Run forced at)).purpose l) (run_going at)
    ≡ true
run_keeps l forced (run.Enter true) = refl
run_keeps l forced (run.Enter false) = refl
run_keeps l forced (run.Take true) = refl
run_keeps l forced (run.Take false) = refl
run_keeps l forced (run.Leave true true) = refl
run_keeps l forced (run.Leave true false) = refl
run_keeps l forced (run.Leave false true) = refl
run_keeps l forced (run.Leave false false) = refl
run_keeps l forced at = refl

give_up_keeps : (l : ℕ) (retries : Bool) (at : GiveUpAt) → keeps_row Once (once_profile (GiveUp retries at))
    ((once_profile (GiveUp retries at)).purpose l) Other ≡ true
give_up_keeps l true give_up.Remove = refl
give_up_keeps l false give_up.Remove = refl
give_up_keeps l true give_up.Clear = refl
give_up_keeps l false give_up.Clear = refl
give_up_keeps l true give_up.Leave = refl
give_up_keeps l false give_up.Leave = refl

own_of : (l : ℕ) (c : OnceCall) → lock_for (once_purpose l c) ≡ l
own_of l (CallOnce forced) = refl
own_of l (Wait forced) = refl
own_of l WaitTimed = refl

pub once_promises : OnceRowsKeep
once_promises l (Look c again at) = by_test Once l (once_profile (Look c again at)) (look_act l c at)
    (look_going c at) (own_of l c) (look_goes l c at) (look_keeps l c again at)
once_promises l (Run forced at) = by_test Once l (once_profile (Run forced at)) (run_act l at) (run_going at)
    refl (run_goes l at) (run_keeps l forced at)
once_promises l (GiveUp retries at) = by_test Once l (once_profile (GiveUp retries at)) (give_up_act l at)
    Other refl (give_up_goes l at) (give_up_keeps l retries at)
