-- A call that takes its right after its first step.
use Rattle.std.proofs.Common.{ℕ, List, ◌++◌, Option, None, ◌≡◌, ap, ◌∙◌, sym, subst}
use Rattle.steps_base.specs.declared.acts.Reply.TheVariants.{Value}
use Rattle.core_base.specs.declared.ops.Op.{Op}
use Rattle.core_base.specs.declared.ops.Op.TheVariants.{Exchange}
use Rattle.spec_locks.specs.declared.outcomes.Answer.{Answer}
use Rattle.steps_rwlock.specs.RwLockSteps.{entered, patience_of, word_taken}
use Rattle.steps_rwlock.specs.declared.places.Admission.{Admission}
use Rattle.steps_rwlock.specs.declared.purposes.RwLockPurpose.{RwLockPurpose}
use Rattle.lot_steps.specs.Steps.{next_place}
use Rattle.lot_steps.specs.declared.places.Place.{Place}
use Rattle.core_words.specs.Indices.{word_index}
use Rattle.core_words.specs.Steps.{CodesWith, MayStep, after_step}
use Rattle.core_words.specs.declared.owners.Ownership.{Ownership}
use Rattle.core_words.specs.declared.views.View.{View}
use Rattle.core_words.specs.declared.words.Word.{Word}
use Rattle.core_words.specs.declared.words.WordKind.{WordKind}
use Rattle.core_words.specs.declared.words.WordKind.TheVariants as kinds
use Rattle.parking_lot_core.specs.Tokens.{view_of, last_of, told_of}
use Rattle.parking_lot_core.specs.declared.tokens.Token.{Token}
use Rattle.run_locks.specs.Courses.{course_of}
use Rattle.run_locks.specs.declared.rwlock_courses.Course.TheVariants.{Takes}
use Rattle.run_base.specs.Fitting.{Fits, IsOver, Reached, ReachedBy, call_purpose, answer_of, of_rwlock}
use Rattle.run_base.specs.Courses.{Courses, CoursesAfterReply, recorded_all, trail_of}
use Rattle.run_base.specs.Paths.{at_rwlock, rwlock_at, step}
use Rattle.run_base.specs.RwLockCalls.{rwlock_begin, rwlock_deciding}
use Rattle.run_base.specs.Stages.{Stepped, stage_of}
use Rattle.run_base.proofs.Courses.{courses_rest, one, one_more, over_at_once}
use Rattle.run_locks.proofs.RwLockCourses.{comes_to, may_take, takes_all, takes_by, takes_on}
use Rattle.run_base.proofs.Turning.{by_stage}
use Rattle.run_base.proofs.Unqueued.{after_decision}

module _ (word : Word) (is : word.kind ≡ kinds.RwLock) (a : Admission) (c : RwLockPurpose) (seen : ℕ)
    (takes : course_of a c seen ≡ Takes) (op : Op) (by : op ≡ Exchange seen (word_taken c seen)) where
  abbrev here : Place
  here = rwlock_deciding word.number a c seen

  abbrev came : Place
  came = next_place (rwlock_begin word.number a c) (Value seen)

  same : came ≡ here
  same = comes_to word.number a c seen takes

  module _ (up : Type 0) (base : List Ownership) (old : Token) (fits : Fits up base came (stage_of old None))
    where
      fits_here : Fits up base here (stage_of old None)
      fits_here = subst (λ (p : Place). Fits up base p (stage_of old None)) same fits

      -- the exchange may be taken
      pub word_may_take : MayStep word.kind (word_index word.number word.kind) op (view_of old).owns
      word_may_take = subst (λ (k : WordKind). MayStep k (word_index word.number k) op (view_of old).owns)
          (sym is)
          (subst (λ (o : Op). MayStep kinds.RwLock (rwlock_at word.number) o (view_of old).owns) (sym by)
          (may_take word.number a c seen takes up base (stage_of old None) fits_here))

  module _ (found : ℕ) (old new : Token) (stepped : view_of new ≡ after_step word.kind
      (word_index word.number word.kind) op found (view_of old)) (last : last_of new ≡ None)
      (code : CodesWith word.kind (word_index word.number word.kind) found (view_of old).owns) where
    saw : (view_of new).steps ≡ (view_of old).steps ++ step (rwlock_at word.number)
        (Exchange seen (word_taken c seen)) found
    saw = ap (λ (v : View). v.steps) stepped
        ∙ ap (λ (k : WordKind). (view_of old).steps ++ step (word_index word.number k) op found) is
        ∙ ap (λ (o : Op). (view_of old).steps ++ step (rwlock_at word.number) o found) by

    took_step : told_of new ≡ told_of old → trail_of new None
        ≡ recorded_all (trail_of old None)
        (one (rwlock_at word.number) (Exchange seen (word_taken c seen)) found)
    took_step untold =
        one_more old new (rwlock_at word.number) (Exchange seen (word_taken c seen)) found saw untold

    stepped_so : Stepped kinds.RwLock (rwlock_at word.number) (Exchange seen (word_taken c seen)) found
        (stage_of old None) (stage_of new None)
    stepped_so = subst (λ (k : WordKind). Stepped k (word_index word.number k)
        (Exchange seen (word_taken c seen)) found (stage_of old None) (stage_of new None)) is
        (subst (λ (o : Op). Stepped word.kind (word_index word.number word.kind) o found (stage_of old None)
        (stage_of new None)) by (by_stage word op found old None new stepped last code))

    -- which leads on
    pub word_takes_on : (up : Type 0) (base : List Ownership) → Fits up base came (stage_of old None)
        → Reached up base here (Value found) (stage_of new None)
    word_takes_on up base fits = takes_on word.number a c seen takes up base (stage_of old None)
        (fits_here up base old fits) found (stage_of new None) stepped_so

    -- A call is over where its exchange finds what was expected.
    pub path_taken : told_of new ≡ told_of old → found ≡ seen
        → Courses (at_rwlock word.number) old.number came (trail_of old None) (trail_of new None)
        (entered (patience_of c))
    path_taken untold e = subst (λ (p : Place). Courses (at_rwlock word.number) old.number p
        (trail_of old None) (trail_of new None) (entered (patience_of c))) (sym same)
        (over_at_once (at_rwlock word.number) old.number here word.number
        (Exchange seen (word_taken c seen)) found (trail_of old None) (trail_of new None)
        (entered (patience_of c)) (takes_by word.number a c seen takes)
        (after_decision word.number a c seen found) (took_step untold)
        (takes_all word.number a c seen takes found e))

    pub over_taken : found ≡ seen → (up : Type 0) (base : List Ownership) → Fits up base came
        (stage_of old None) → IsOver up base (call_purpose came) (entered (patience_of c)) (stage_of new None)
    over_taken e up base fits = subst (λ (p : Place). IsOver up base (call_purpose p)
        (entered (patience_of c)) (stage_of new None)) (sym same)
        (subst (λ (o : Option Answer). ReachedBy up base (of_rwlock word.number a c)
        (next_place here (Value found)) o (stage_of new None))
        (ap answer_of (takes_all word.number a c seen takes found e)) (word_takes_on up base fits))

    module _ (answer : Answer) (last_token : Token) where
      pub path_missed : told_of new ≡ told_of old → new.number ≡ old.number
          → CoursesAfterReply (at_rwlock word.number) new.number here (Value found) (trail_of new None)
          (trail_of last_token None) answer
          → Courses (at_rwlock word.number) old.number came (trail_of old None)
          (trail_of last_token None) answer
      path_missed untold one r = subst (λ (p : Place). Courses (at_rwlock word.number) old.number p
          (trail_of old None) (trail_of last_token None) answer) (sym same)
          (courses_rest (at_rwlock word.number) old.number here word.number
          (Exchange seen (word_taken c seen)) found (trail_of old None) (trail_of new None)
          (trail_of last_token None) answer (takes_by word.number a c seen takes)
          (after_decision word.number a c seen found) (took_step untold)
          (subst (λ (me : ℕ). CoursesAfterReply (at_rwlock word.number) me here (Value found)
          (trail_of new None) (trail_of last_token None) answer) one r))

      pub over_missed : (up : Type 0) (base : List Ownership) → Fits up base came (stage_of old None)
          → (Reached up base here (Value found) (stage_of new None)
          → IsOver up base (of_rwlock word.number a c) answer (stage_of last_token None))
          → IsOver up base (call_purpose came) answer (stage_of last_token None)
      over_missed up base fits over = subst (λ (p : Place). IsOver up base (call_purpose p) answer
          (stage_of last_token None)) (sym same) (over (word_takes_on up base fits))
