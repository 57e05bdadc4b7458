-- After its own exchange that set a bit a waiting thread looks at the word no more before it goes into the
-- section.
use Rattle.lot_laws.proofs.Imports
use Imports.{ℕ, Bool, true, false, Option, Some, None, if◌then◌else◌, ◌==◌, ◌&&◌, not, ◌≡◌, ◌≢◌, ◌<◌, ◌≤◌, ◌+◌}
use Imports.{◌*◌, ◌/◌, ◌%◌, ◌^◌, ◌⊎◌, get_or-set_same, is_some, inl, inr, length, refl, sym, ◌∙◌, ap, subst}
use Imports.{arith, cases_lt, eqb-true, lt-ltb, One, Op, OnceCall, Patience, Patient, Timed, Try, count_in}
use Imports.{has_aside, has_parked, is_done, is_marked, is_poisoned, is_running, Act, Next, Value, MutexPlace}
use Imports.{mutex_respin, mutex_next, Course, course_of, Decision, Admission, RwLockPurpose, decided_for}
use Imports.{decision_blocked, park_or_mark, plus, is_mark, Step, mutex_act, OncePlace, course_act, once_act}
use Imports.{once_respin, once_next, RwLockAt, RwLockPlace, act_at, after_count, count_next, decided}
use Imports.{decided_act, exchange, exchanged_next, next_at, gone_to, looking_at, RwLockCallPlace, call_respin}
use Imports.{in_call, bump_next, call_act, call_next, plain_next, condvar_next, in_lock, SemaphorePlace}
use Imports.{semaphore_act, semaphore_respin, semaphore_next, Place, Idle, Mutex, RwLock, Once, Condvar}
use Imports.{Semaphore, act_of, condvar_goes, in_condvar, in_mutex, in_once, in_rwlock, in_semaphore}
use Imports.{respins_from}
use Imports.{mutex_goes, next_place, once_goes, rwlock_goes, semaphore_goes, State, after, can_do, is_possible}
use Imports.{place_at, put, reply_to, state_after_act, state_after_go, state_after_turn, word_at, LooksNoMore}
use Rattle.core_base.specs.declared.ops.Op.TheVariants as op
use Rattle.spec_locks.specs.declared.outcomes.Answer.TheVariants as answer
use Rattle.steps_base.specs.declared.acts.Act.TheVariants as act
use Rattle.steps_base.specs.declared.acts.Next.TheVariants as next
use Rattle.steps_mutex.specs.declared.lock.LockAt.TheVariants as lock
use Rattle.steps_mutex.specs.declared.places.MutexPlace.TheVariants as mutex
use Rattle.steps_once.specs.declared.look.Course.TheVariants as course
use Rattle.steps_once.specs.OnceSteps as steps
use Rattle.steps_rwlock.specs.declared.enter.Decision.TheVariants as decisions
use Rattle.steps_rwlock.specs.declared.purposes.RwLockPurpose.TheVariants as purpose
use Rattle.spec_locks.specs.declared.calls.Turn.TheVariants as turn
use Rattle.steps_once.specs.declared.look.LookAt.TheVariants as look
use Rattle.steps_once.specs.declared.places.OncePlace.TheVariants as once
use Rattle.steps_rwlock.specs.declared.places.RwLockAt.TheVariants as at
use Rattle.steps_rwlock.specs.RwLockSteps.{looked}
use Rattle.steps_rwlock_fair.specs.declared.places.RwLockCallPlace.TheVariants as fair
use Rattle.steps_condvar.specs.declared.places.CondvarPlace.TheVariants as condvar
use Rattle.steps_condvar.specs.declared.wait.WaitAt.TheVariants as wait
use Rattle.steps_semaphore.specs.declared.acquire.AcquireAt.TheVariants as acquire
use Rattle.steps_semaphore.specs.declared.places.SemaphorePlace.TheVariants as semaphore
use Rattle.lot_laws.proofs.machine.Parts.{past_all, same as same_number}

-- ---------------------------------------------------------------- words

-- the bit stands in the word then
parked_then : (s : ℕ) → has_parked s ≡ false → has_parked (plus s 1) ≡ true
parked_then s none = is_one ((s + 1) % 2 ^ 64 % 2) (let even : s % 2 ≢ 1 = not_one (s % 2) none
    in omega arith)
  where
    is_one : (x : ℕ) → x ≡ 1 → (x == 1) ≡ true
    is_one x e = ap (λ y. y == 1) e

    not_one : (x : ℕ) → (x == 1) ≡ false → x ≢ 1
    not_one x e f = let g : true ≡ false = sym (is_one x f) ∙ e in cc

marked_then : (v : ℕ) → is_marked (steps.marked v) ≡ true
marked_then v = ap (λ y. y == 1) (let e : (v % 8 + 8) / 8 ≡ 1 = omega arith in e)

-- ---------------------------------------------------------------- decisions

-- A thread that marks saw the bit clear.
marks_clear : (a : Admission) (q : RwLockPurpose) (s : ℕ) → decided_for a q s ≡ decisions.Mark
    → has_parked s ≡ false
marks_clear a q s e = by_purpose q e
  where
    by_bit : (how : Patience) → decision_blocked how s ≡ decisions.Mark → has_parked s ≡ false
    by_bit Try f = absurd cc
    by_bit Patient f = by_parked (has_parked s) f
      where
        by_parked : (b : Bool) → park_or_mark b ≡ decisions.Mark → b ≡ false
        by_parked false g = refl
        by_parked true g = absurd cc
    by_bit Timed f = by_parked (has_parked s) f
      where
        by_parked : (b : Bool) → park_or_mark b ≡ decisions.Mark → b ≡ false
        by_parked false g = refl
        by_parked true g = absurd cc

    by_tests : (how : Patience) (b c : Bool)
        → (if b then decision_blocked how s else if c then decisions.Refuse answer.ReadersFull
        else decisions.Take) ≡ decisions.Mark → has_parked s ≡ false
    by_tests how true c f = by_bit how f
    by_tests how false true f = absurd cc
    by_tests how false false f = absurd cc

    upgrades : (b : Bool) → (if b then decisions.Take else decisions.Refuse answer.No) ≡ decisions.Mark
        → has_parked s ≡ false
    upgrades true f = absurd cc
    upgrades false f = absurd cc

    by_purpose : (q : RwLockPurpose) → decided_for a q s ≡ decisions.Mark → has_parked s ≡ false
    by_purpose (purpose.Upgrade how) f = upgrades (count_in s == 1) f
    by_purpose (purpose.Enter x how) f = by_tests how _ _ f
    by_purpose (purpose.Release x) f = by_tests Patient _ _ f
    by_purpose (purpose.Downgrade d) f = by_tests Patient _ _ f

-- A thread that sees the bit set doesn't mark.
set_marks : (a : Admission) (q : RwLockPurpose) (s : ℕ) → has_parked s ≡ true → is_mark (decided_for a q s)
    ≡ false
set_marks a q s set = by_decision (decided_for a q s) refl
  where
    by_decision : (d : Decision) → decided_for a q s ≡ d → is_mark d ≡ false
    by_decision decisions.Mark e = absurd (let f : true ≡ false = sym set ∙ marks_clear a q s e in cc)
    by_decision decisions.Take e = refl
    by_decision decisions.Park e = refl
    by_decision (decisions.Refuse x) e = refl

-- a marked word of a `Once` is marked no more
course_marks : (c : OnceCall) (v : ℕ) → is_marked v ≡ true → steps.is_mark (course_of c v) ≡ false
course_marks c v set = by_tests (is_done v) (is_poisoned v && not (steps.is_forced c))
    (steps.runs c && not (is_running v)) (is_marked v) set
  where
    by_tests : (a b n m : Bool) → m ≡ true → steps.is_mark (if a then course.Ends (steps.when_done c)
        else if b then course.Ends answer.Poisoned else if n then course.Runs else if m then course.Parks
        else course.Marks) ≡ false
    by_tests true b n m e = refl
    by_tests false true n m e = refl
    by_tests false false true m e = refl
    by_tests false false false true e = refl
    by_tests false false false false e = absurd cc

-- ---------------------------------------------------------------- a place

module _ (k l seen now : ℕ) where
  abbrev Found : Act → Type 0
  Found a = a ≡ act.Word l (op.Exchange seen now)

  mutex_quiet : (p : MutexPlace) → is_some (mutex_respin p) ≡ true → Found (mutex_act k p)
      → respins_from (mutex_goes k (mutex_next p (Value seen))) ≡ None
  mutex_quiet (mutex.Lock e again (lock.Decide s)) h is = by_one (s == 1) refl h
    where
      by_one : (b : Bool) → (s == 1) ≡ b → is_some (if b then Some (mutex.Lock e again lock.Load) else None)
          ≡ true → respins_from (mutex_goes k (mutex_next (mutex.Lock e again (lock.Decide s)) (Value seen)))
          ≡ None
      by_one true one g = let same : s ≡ 1 = eqb-true s 1 one in
          let found : 1 ≡ seen = (let f : Found (mutex_act k (mutex.Lock e again (lock.Decide 1))) =
          subst (λ x. Found (mutex_act k (mutex.Lock e again (lock.Decide x)))) same is in cc) in
          subst (λ x. respins_from (mutex_goes k
          (mutex_next (mutex.Lock e again (lock.Decide x)) (Value seen)))
          ≡ None) (sym same)
          (subst (λ x. respins_from (mutex_goes k (mutex_next (mutex.Lock e again (lock.Decide 1)) (Value x)))
          ≡ None) found refl)
      by_one false one g = absurd cc
  mutex_quiet (mutex.Lock e again to) h is = absurd cc
  mutex_quiet p h is = absurd cc

  -- A wait that locks its mutex again doesn't look once more either.
  relock_quiet : (m : ℕ) (timed late : Bool) (p : MutexPlace) → is_some (mutex_respin p) ≡ true
      → Found (mutex_act m p)
      → respins_from (condvar_goes k (condvar_next (condvar.Wait m timed (wait.Lock late p)) (Value seen)))
      ≡ None
  relock_quiet m timed late (mutex.Lock e again (lock.Decide s)) h is = by_one (s == 1) refl h
    where
      by_one : (b : Bool) → (s == 1) ≡ b → is_some (if b then Some (mutex.Lock e again lock.Load) else None)
          ≡ true
          → respins_from (condvar_goes k (condvar_next
          (condvar.Wait m timed (wait.Lock late (mutex.Lock e again (lock.Decide s)))) (Value seen)))
          ≡ None
      by_one true one g = let same : s ≡ 1 = eqb-true s 1 one in
          let found : 1 ≡ seen = (let f : Found (mutex_act m (mutex.Lock e again (lock.Decide 1))) =
          subst (λ x. Found (mutex_act m (mutex.Lock e again (lock.Decide x)))) same is in cc) in
          subst (λ x. respins_from (condvar_goes k
          (condvar_next (condvar.Wait m timed (wait.Lock late (mutex.Lock e again (lock.Decide x))))
          (Value seen))) ≡ None) (sym same)
          (subst (λ x. respins_from (condvar_goes k
          (condvar_next (condvar.Wait m timed (wait.Lock late (mutex.Lock e again (lock.Decide 1))))
          (Value x))) ≡ None) found refl)
      by_one false one g = absurd cc
  relock_quiet m timed late (mutex.Lock e again to) h is = absurd cc
  relock_quiet m timed late p h is = absurd cc

  semaphore_quiet : (p : SemaphorePlace) → is_some (semaphore_respin p) ≡ true → Found (semaphore_act k p)
      → respins_from (semaphore_goes k (semaphore_next p (Value seen))) ≡ None
  semaphore_quiet (semaphore.Acquire timed again (acquire.Decide s)) h is = by_none (s == 0) refl h
    where
      by_none : (b : Bool) → (s == 0) ≡ b
          → is_some (if b then Some (semaphore.Acquire timed again acquire.Load) else None) ≡ true
          → respins_from (semaphore_goes k (semaphore_next (semaphore.Acquire timed again (acquire.Decide s))
          (Value seen))) ≡ None
      by_none true none g = let same : s ≡ 0 = eqb-true s 0 none in
          let found : 0 ≡ seen = (let f : Found
          (semaphore_act k (semaphore.Acquire timed again (acquire.Decide 0))) =
          subst (λ x. Found (semaphore_act k (semaphore.Acquire timed again (acquire.Decide x)))) same is
          in cc) in
          subst (λ x. respins_from (semaphore_goes k
          (semaphore_next (semaphore.Acquire timed again (acquire.Decide x)) (Value seen))) ≡ None)
          (sym same)
          (subst (λ x. respins_from (semaphore_goes k
          (semaphore_next (semaphore.Acquire timed again (acquire.Decide 0)) (Value x))) ≡ None) found
          refl)
      by_none false none g = absurd cc
  semaphore_quiet (semaphore.Acquire timed again to) h is = absurd cc
  semaphore_quiet (semaphore.Try to) h is = absurd cc
  semaphore_quiet (semaphore.Release to) h is = absurd cc

  -- a `Once` that runs
  in_none : (r b : Bool) (q : OncePlace) → b ≡ false → in_once k (if r && b then Some q else None) ≡ None
  in_none true true q e = absurd cc
  in_none true false q e = refl
  in_none false b q e = refl

  once_quiet : (p : OncePlace) → is_some (once_respin p) ≡ true → Found (once_act k p)
      → respins_from (once_goes k (once_next p (Value seen))) ≡ None
  once_quiet (once.Look c again (look.Decide s)) h is = by_course (course_of c s) refl (is_running s) h is
    where
      then_at : (b : Bool) → b ≡ true → (x : Course) → x ≡ course.Marks
          → respins_from (once_goes k (if b && steps.is_run x
          then next.At (once.Run (steps.is_forced c) (steps.closure_begun (Value seen)))
          else steps.in_look c (steps.still_retries again (Value seen)) (if b && steps.is_mark x
          then next.At (look.Decide (steps.marked seen)) else steps.looked c seen))) ≡ None
      then_at true e course.Marks marks = in_none (is_running (steps.marked seen))
          (steps.is_mark (course_of c (steps.marked seen))) (once.Look c again look.Load)
          (course_marks c (steps.marked seen) (marked_then seen))
      then_at true e course.Runs marks = absurd cc
      then_at true e course.Parks marks = absurd cc
      then_at true e (course.Ends x) marks = absurd cc
      then_at false e x marks = absurd cc

      by_course : (x : Course) → course_of c s ≡ x → (r : Bool)
          → is_some (if r && steps.is_mark x then Some (once.Look c again look.Load) else None) ≡ true
          → Found (course_act k s x)
          → respins_from (once_goes k (once_next (once.Look c again (look.Decide s)) (Value seen))) ≡ None
      by_course course.Marks e r g f = let same : s ≡ seen = cc
          in then_at (seen == s) (ap (λ x. seen == x) same ∙ same_number seen) (course_of c seen)
          (ap (course_of c) (sym same) ∙ e)
      by_course course.Runs e true g f = absurd cc
      by_course course.Runs e false g f = absurd cc
      by_course course.Parks e true g f = absurd cc
      by_course course.Parks e false g f = absurd cc
      by_course (course.Ends x) e true g f = absurd cc
      by_course (course.Ends x) e false g f = absurd cc
  once_quiet (once.Look c again to) h is = absurd cc
  once_quiet p h is = absurd cc

  -- a lock that is shared
  module _ (a : Admission) where
    abbrev NoLook : Next RwLockPlace → Type 0
    NoLook (next.At q) = looking_at a q q.at ≡ None
    NoLook (next.End x) = ⊥

    none_looks : (b : Bool) (p : RwLockPlace) (o : Option RwLockAt) → o ≡ None
        → in_rwlock k a (in_call b (gone_to p o)) ≡ None
    none_looks b p None e = refl
    none_looks b p (Some x) e = absurd cc

    on_plain : (n : Next RwLockPlace) → NoLook n → respins_from (rwlock_goes k a (plain_next n)) ≡ None
    on_plain (next.At q) h = none_looks false q (looking_at a q q.at) h
    on_plain (next.End x) h = absurd h

    on_bump : (q : RwLockPurpose) (n : Next RwLockPlace) → NoLook n
        → respins_from (rwlock_goes k a (bump_next q n)) ≡ None
    on_bump q (next.At p) h = none_looks true p (looking_at a p p.at) h
    on_bump q (next.End x) h = absurd h

    no_mark : (b aside : Bool) → b ≡ false → ◌≡◌ {A = Option RwLockAt} (if b && not aside then Some at.Load
        else None) None
    no_mark true aside e = absurd cc
    no_mark false aside e = refl

    decide_quiet : (p : RwLockPlace) (s : ℕ) (d : Decision) → decided a p s ≡ d
        → is_some (if is_mark d && not (has_aside s) then Some at.Load else None) ≡ true
        → Found (decided_act k p.purpose s d)
        → NoLook (exchanged_next a p s seen d)
    decide_quiet p s decisions.Mark e h f = let same : s ≡ seen = cc
        in by_test (seen == s) (ap (λ x. seen == x) same ∙ same_number seen)
      where
        by_test : (b : Bool) → b ≡ true → NoLook (if b then next.At (record {
          purpose = p.purpose;
          retries = p.retries;
          at = at.Decide (plus s 1);
        }) else looked a p seen)
        by_test true g = no_mark (is_mark (decided_for a p.purpose (plus s 1))) (has_aside (plus s 1))
            (set_marks a p.purpose (plus s 1) (parked_then s (marks_clear a p.purpose s e)))
        by_test false g = absurd cc
    decide_quiet p s decisions.Take e h f = absurd cc
    decide_quiet p s decisions.Park e h f = absurd cc
    decide_quiet p s (decisions.Refuse x) e h f = absurd cc

    count_quiet : (p : RwLockPlace) (s : ℕ) (aside : Bool)
        → Found (if aside then act.Enter (One (2 * k + 1)) else exchange k s (plus s 2))
        → NoLook (count_next p s (Value seen))
    count_quiet p s true f = absurd cc
    count_quiet p s false f = let same : s ≡ seen = cc in by_test (seen == s) (ap (λ x. seen == x) same
        ∙ same_number seen)
      where
        by_test : (b : Bool) → b ≡ true → NoLook (if b then next.At (record {
          purpose = p.purpose;
          retries = p.retries;
          at = at.Marked;
        }) else after_count p seen)
        by_test true g = refl
        by_test false g = absurd cc

    rwlock_quiet : (p : RwLockPlace) (to : RwLockAt) → is_some (looking_at a p to) ≡ true
        → Found (act_at k a p to) → NoLook (next_at a p to (Value seen))
    rwlock_quiet p (at.Decide s) h f = decide_quiet p s (decided a p s) refl h f
    rwlock_quiet p (at.Count s) h f = count_quiet p s (has_aside s) f
    rwlock_quiet p to h f = absurd cc

    there : (b : Bool) (p : RwLockPlace) (o : Option RwLockAt)
        → is_some (in_rwlock k a (in_call b (gone_to p o))) ≡ true → is_some o ≡ true
    there b p (Some x) h = refl
    there b p None h = absurd cc

    call_quiet : (c : RwLockCallPlace) → is_some (in_rwlock k a (call_respin a c)) ≡ true
        → Found (call_act k a c) → respins_from (rwlock_goes k a (call_next a c (Value seen))) ≡ None
    call_quiet (fair.Plain p) h f = on_plain (next_at a p p.at (Value seen))
        (rwlock_quiet p p.at (there false p (looking_at a p p.at) h) f)
    call_quiet (fair.Bump p) h f = on_bump p.purpose (next_at a p p.at (Value seen))
        (rwlock_quiet p p.at (there true p (looking_at a p p.at) h) f)
    call_quiet c h f = absurd cc

  mutex_there : (o : Option MutexPlace) → is_some (in_mutex k o) ≡ true → is_some o ≡ true
  mutex_there (Some x) h = refl
  mutex_there None h = absurd cc

  once_there : (o : Option OncePlace) → is_some (in_once k o) ≡ true → is_some o ≡ true
  once_there (Some x) h = refl
  once_there None h = absurd cc

  semaphore_there : (o : Option SemaphorePlace) → is_some (in_semaphore k o) ≡ true → is_some o ≡ true
  semaphore_there (Some x) h = refl
  semaphore_there None h = absurd cc

  relock_there : (m : ℕ) (timed late : Bool) (o : Option MutexPlace)
      → is_some (in_condvar k (in_lock m timed late o)) ≡ true → is_some o ≡ true
  relock_there m timed late (Some x) h = refl
  relock_there m timed late None h = absurd cc

place_quiet : (p : Place) (l seen now : ℕ) → is_some (respins_from p) ≡ true → act_of p ≡ act.Word l
    (op.Exchange seen now) → respins_from (next_place p (Value seen)) ≡ None
place_quiet Idle l seen now h is = absurd cc
place_quiet (Mutex k at) l seen now h is =
    mutex_quiet k l seen now at (mutex_there k l seen now (mutex_respin at) h) is
place_quiet (RwLock k a c) l seen now h is = call_quiet k l seen now a c h is
place_quiet (Once k at) l seen now h is =
    once_quiet k l seen now at (once_there k l seen now (once_respin at) h) is
place_quiet (Semaphore k at) l seen now h is = semaphore_quiet k l seen now at
    (semaphore_there k l seen now (semaphore_respin at) h) is
place_quiet (Condvar k (condvar.Wait m timed (wait.Lock late at))) l seen now h is =
    relock_quiet k l seen now m timed late at (relock_there k l seen now m timed late (mutex_respin at) h) is
place_quiet (Condvar k (condvar.Wait m timed at)) l seen now h is = absurd cc
place_quiet (Condvar k at) l seen now h is = absurd cc

-- ---------------------------------------------------------------- a step

-- where an act works on a word, its thread goes on by the value that it saw
word_goes : (w : State) (t l : ℕ) (f : Op) → t < length w.places → act_of (place_at w t) ≡ act.Word l f
    → place_at (state_after_go w t) t ≡ next_place (place_at w t) (Value (word_at w l))
word_goes w t l f there is = ap (λ x. place_at (put (state_after_act w t (place_at w t) x) t
    (next_place (place_at (state_after_act w t (place_at w t) x) t) (reply_to w t x))) t) is
    ∙ get_or-set_same w.places t (next_place (place_at w t) (Value (word_at w l))) Idle there

pub looks_no_more : (w : State) (s : Step) → s.turn ≡ turn.Go → LooksNoMore w s.thread (after w s)
looks_no_more w s goes l seen now may is was = by_there (cases_lt s.thread (length w.places))
  where
    t : ℕ
    t = s.thread

    by_there : (t < length w.places) ⊎ (length w.places ≤ t) → is_some (respins_from (place_at (after w s) t))
        ≡ false
    by_there (inr past) = absurd (let idle : place_at w t ≡ Idle = past_all w.places t Idle past
        in let f : false ≡ true = sym (ap (λ p. is_some (respins_from p)) idle) ∙ may in cc)
    by_there (inl there) = by_possible (is_possible w s) refl
      where
        possible : is_possible w s ≡ true
        possible = rw (goes, lt-ltb t (length w.places) there) (ap (can_do w) is)

        then_none : is_some (respins_from (place_at (state_after_go w t) t)) ≡ false
        then_none = ap (λ p. is_some (respins_from p)) (word_goes w t l (op.Exchange seen now) there is
            ∙ ap (λ v. next_place (place_at w t) (Value v)) was)
            ∙ ap is_some (place_quiet (place_at w t) l seen now may is)

        by_possible : (b : Bool) → is_possible w s ≡ b
            → is_some (respins_from (place_at (if b then state_after_turn w t s.turn else w) t)) ≡ false
        by_possible true e = subst (λ x. is_some (respins_from (place_at (state_after_turn w t x) t)) ≡ false)
            (sym goes) then_none
        by_possible false e = absurd (let f : true ≡ false = sym possible ∙ e in cc)
