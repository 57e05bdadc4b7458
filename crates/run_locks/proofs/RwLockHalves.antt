-- The halves of a reader-writer call make the whole.
use Rattle.std.proofs.Common.{ℕ, List, None, Some, ◌≡◌, ◌∙◌, ◌-◌, ◌^◌, ◌<◌, ap, refl, subst}
use Rattle.steps_base.specs.declared.acts.Next.TheVariants.{At}
use Rattle.steps_base.specs.declared.acts.Reply.TheVariants.{Value}
use Rattle.core_base.specs.declared.ops.Op.{Op}
use Rattle.core_base.specs.declared.ops.Op.TheVariants.{Exchange}
use Rattle.spec_locks.specs.declared.outcomes.Answer.{Answer}
use Rattle.run_base.specs.Fitting.{Fits, IsOver, Reached, answer_of, call_purpose, of_rwlock}
use Rattle.run_base.specs.Courses.{Courses, CoursesAfterReply, steps_in, trail_of}
use Rattle.run_base.proofs.Courses.{steps_since}
use Rattle.run_base.specs.Paths.{at_rwlock}
use Rattle.run_base.specs.RwLockCalls.{BeginsWith, first_op, rwlock_begin, rwlock_deciding}
use Rattle.run_base.specs.Stages.{stage_of}
use Rattle.steps_rwlock.specs.RwLockBegins.{rwlock_first}
use Rattle.steps_rwlock.specs.RwLockSteps.{rwlock_next, word_taken}
use Rattle.steps_rwlock.specs.declared.places.Admission.{Admission}
use Rattle.steps_rwlock.specs.declared.places.RwLockPlace.{RwLockPlace}
use Rattle.steps_rwlock.specs.declared.purposes.RwLockPurpose.{RwLockPurpose}
use Rattle.lot_steps.specs.Steps.{next_act, next_place}
use Rattle.core_words.specs.Indices.{word_index}
use Rattle.core_words.specs.Steps.{CodesWith, after_step}
use Rattle.core_words.specs.declared.owners.Ownership.{Ownership}
use Rattle.core_words.specs.declared.views.View.{View}
use Rattle.core_words.specs.declared.words.Word.{Word}
use Rattle.core_words.specs.declared.words.WordKind.TheVariants as kinds
use Rattle.parking_lot_core.specs.Tokens.{told_of, view_of}
use Rattle.parking_lot_core.specs.declared.tokens.Token.{Token}
use Rattle.run_locks.specs.Halves.{HasBegunRwLock, HasEndedRwLock, SteppedAndFound}
use Rattle.run_locks.specs.declared.rwlock_calls.SlowPart.TheVariants.{GoesOn, Missed}
use Rattle.run_locks.proofs.RwLockCalling.{ended_on, path_ended, rest_fits, rest_over, rest_path}
use Rattle.run_locks.proofs.RwLockCalling.{rest_record, saw, started, wakes_at_once}
use Rattle.run_locks.proofs.RwLockCourses.{takes_at, waits_at}
use Rattle.run_locks.proofs.RwLockTakes.{over_missed, path_missed, word_takes_on}

-- a step of a thread that has done nothing since is one since then
pub stepped_since : (word : Word) (op : Op) (found : ℕ) (old mid new : Token) → mid.number ≡ old.number
    → view_of mid ≡ view_of old → told_of mid ≡ told_of old → SteppedAndFound word op found mid new
    → SteppedAndFound word op found old new
stepped_since word op found old mid new number view told by = (
  by.0 ∙ number,
  by.1 ∙ ap (after_step word.kind (word_index word.number word.kind) op found) view,
  by.2,
  subst (λ (v : View). CodesWith word.kind (word_index word.number word.kind) found v.owns) view by.3,
  by.4 ∙ told,
)

module _ (up : Type 0) (word : Word) (is : word.kind ≡ kinds.RwLock) (a : Admission) (room : a.limit
    < 2 ^ 60 - 1) (c : RwLockPurpose) (seen : ℕ) where
  abbrev begins : Token → List Ownership → Type 0
  begins old base = BeginsWith word.number c base (view_of old).owns

  abbrev came : Type 0
  came = (p : RwLockPlace) × (rwlock_next a (rwlock_first c) (Value seen) ≡ At p)

  -- the course of the rest of a call, from where its first step has led it
  abbrev RestCourse : Token → Token → Answer → Type 0
  RestCourse mid new answer = Courses (at_rwlock word.number) mid.number
      (next_place (rwlock_begin word.number a c) (Value seen)) (trail_of mid None) (trail_of new None) answer

  -- tells what the rest of a call does from where its first step has led it
  module _ (old mid : Token) (stepped : SteppedAndFound word (first_op c) seen old mid) (goes : came) where
    pub fits_after : (base : List Ownership) → begins old base
        → Fits up base (next_place (rwlock_begin word.number a c) (Value seen)) (stage_of mid None)
    fits_after base b = (rest_fits up word is a room c (first_op c) seen old mid refl stepped.1 stepped.2
        stepped.3 goes base b).0

    pub ended_after : (answer : Answer) (new : Token) → new.number ≡ old.number → (base : List Ownership)
        → begins old base
        → RestCourse mid new answer
        → ((more : List Ownership) → Fits up more (next_place (rwlock_begin word.number a c) (Value seen))
        (stage_of mid None)
        → IsOver up more (call_purpose (next_place (rwlock_begin word.number a c) (Value seen))) answer
        (stage_of new None))
        → HasEndedRwLock up word a c answer old new
    ended_after answer new same base b walks over = (
      same,
      rest_path up word is a room c (first_op c) seen old mid refl stepped.1 stepped.2 stepped.3 goes answer
          new stepped.4 stepped.0 walks,
      (λ more begun. rest_over up word is a room c (first_op c) seen old mid refl stepped.1 stepped.2
          stepped.3 goes answer new more begun (over more)),
      rest_record up word is a room c (first_op c) seen old mid refl stepped.1 stepped.2 stepped.3 goes answer
          new base b (over base)
          (steps_in walks.0) (steps_since _ _ walks.0 walks.1),
    )

  -- a call that is over by its first step has ended
  pub ended_at_once : (old new : Token) → SteppedAndFound word (first_op c) seen old new → (answer : Answer)
      → answer_of (next_act (rwlock_begin word.number a c) (Value seen)) ≡ Some answer
      → (base : List Ownership) → begins old base → HasEndedRwLock up word a c answer old new
  ended_at_once old new stepped answer with base b = let first = saw word is c (first_op c) seen old new refl
      stepped.1 in
      let start = started word is c (first_op c) seen old new refl stepped.1 stepped.2 stepped.3 in
      let on = λ (base : List Ownership). ended_on up word.number a base c (stage_of old None)
      (stage_of new None) seen refl room answer in (
        stepped.0,
        path_ended word.number a c seen answer old new first stepped.4 with,
        (λ base begins. (on base begins start with).0),
        wakes_at_once word.number a c seen answer old new first stepped.2 (on base b start with).1,
      )

  pub fits_on : (old mid : Token) → HasBegunRwLock word a c (GoesOn seen) old mid → (base : List Ownership)
      → begins old base → Fits up base (next_place (rwlock_begin word.number a c) (Value seen))
      (stage_of mid None)
  fits_on old mid begun = fits_after old mid begun.0 (waits_at word.number a c seen begun.1)

  pub ended_on_going : (old mid new : Token) (answer : Answer) → HasBegunRwLock word a c (GoesOn seen) old mid
      → new.number ≡ mid.number → (base : List Ownership) → begins old base
      → RestCourse mid new answer
      → ((more : List Ownership) → Fits up more (next_place (rwlock_begin word.number a c) (Value seen))
      (stage_of mid None)
      → IsOver up more (call_purpose (next_place (rwlock_begin word.number a c) (Value seen))) answer
      (stage_of new None))
      → HasEndedRwLock up word a c answer old new
  ended_on_going old mid new answer begun same = ended_after old mid begun.0
      (waits_at word.number a c seen begun.1) answer new (subst (λ (n : ℕ). new.number ≡ n) begun.0.0 same)

  module _ (found : ℕ) (old last : Token) (begun : HasBegunRwLock word a c (Missed seen found) old last) where
    abbrev mid : Token
    mid = begun.0

    pub reached_missed : (base : List Ownership) → begins old base
        → Reached up base (rwlock_deciding word.number a c seen) (Value found) (stage_of last None)
    reached_missed base b = let step = begun.3 in
        word_takes_on word is a c seen begun.2 (Exchange seen (word_taken c seen)) refl found mid last step.1
        step.2 step.3 up base (fits_after old mid begun.1 (takes_at word.number a c seen begun.2) base b)

    pub ended_missed : (new : Token) (answer : Answer) → new.number ≡ last.number → (base : List Ownership)
        → begins old base
        → CoursesAfterReply (at_rwlock word.number) last.number (rwlock_deciding word.number a c seen)
        (Value found) (trail_of last None) (trail_of new None) answer
        → ((more : List Ownership) → Reached up more (rwlock_deciding word.number a c seen) (Value found)
        (stage_of last None)
        → IsOver up more (of_rwlock word.number a c) answer (stage_of new None))
        → HasEndedRwLock up word a c answer old new
    ended_missed new answer same base b rests over = let step = begun.3 in
        ended_after old mid begun.1 (takes_at word.number a c seen begun.2) answer new
        (subst (λ (n : ℕ). new.number ≡ n) begun.1.0 (subst (λ (n : ℕ). new.number ≡ n) step.0 same)) base b
        (path_missed word is a c seen begun.2 (Exchange seen (word_taken c seen)) refl found mid last step.1
        step.2 step.3 answer new step.4 step.0 rests)
        (λ more fits. over_missed word is a c seen begun.2 (Exchange seen (word_taken c seen)) refl found mid
        last step.1 step.2 step.3 answer new up more fits (over more))
