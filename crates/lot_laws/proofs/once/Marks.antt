-- Nobody marks the word of a `Once` that is done.
use Rattle.lot_laws.proofs.Imports
use Imports.{ℕ, Bool, true, false, Option, Some, None, if◌then◌else◌, ◌==◌, ◌≡◌, ◌≢◌, ◌<◌, List, []}
use Imports.{◌∷◌, length, get_or, map, nat_lt, refl, sym, ◌∙◌, ap, subst, eqb-true, ltb-true}
use Imports.{One, Two, first_of, apply, OnceCall, Step, Turn, Kind, Sort, Phase, New, Poisoned, InProgress}
use Imports.{rules_of, has_readers, Act, holds, takes_effect, CondvarPlace, Wait, Look as PeekQueue, Notify}
use Imports.{mutex_act, Course, Ends, Marks, OncePlace, Run, GiveUp, course_act, course_of, is_forced, marked}
use Imports.{once_act, started, MayGo, coded, marked_is, may_go, started_is, unmarked_is, word, call_act}
use Imports.{semaphore_act, Place, Idle, Mutex, RwLock, Once, Condvar, Semaphore, act_of, late_key}
use Imports.{respins_from}
use Imports.{IsWellFormed, State, after, can_turn, is_possible, kind_at, opening, first_word, place_at, put}
use Imports.{queue_at, queues_with_last, queues_without_first, state_after_act, state_after_close}
use Imports.{state_after_go, state_after_hand_over_by, state_after_late_on, state_after_look}
use Imports.{state_after_taking, state_after_turn, unlocked, word_at, IsOwn, call_own, mutex_own, semaphore_own}
use Imports.{set_all, both, lock_state, AreUnmarked, FitsItsLock, IsInductive, is_mutex, rules_in, site_of}
use Rattle.core_base.specs.declared.ops.Op.TheVariants as op
use Rattle.spec_locks.specs.declared.calls.Turn.TheVariants as turn
use Rattle.spec_locks.specs.declared.kinds.Kind.TheVariants as kinds
use Rattle.spec_locks.specs.Locks as locks
use Rattle.spec_locks.specs.Onces.{Done}
use Rattle.steps_base.specs.declared.acts.Act.TheVariants as act
use Rattle.steps_base.specs.declared.acts.Wakes.TheVariants as wakes
use Rattle.steps_base.specs.declared.acts.TakeWhich.TheVariants as whom
use Rattle.steps_condvar.specs.declared.wait.WaitAt.TheVariants as wait
use Rattle.steps_condvar.specs.declared.notify.NotifyAt.TheVariants as notify
use Rattle.steps_once.specs.declared.give_up.GiveUpAt.TheVariants as give_up
use Rattle.steps_once.specs.declared.look.Course.TheVariants.{Runs, Parks}
use Rattle.steps_once.specs.declared.look.LookAt.TheVariants as look
use Rattle.steps_once.specs.declared.places.OncePlace.TheVariants.{Look}
use Rattle.steps_once.specs.declared.places.TheConstants.{NOT_PARKED}
use Rattle.steps_once.specs.declared.run.RunAt.TheVariants as run
use Rattle.steps_once.specs.OnceSteps.{want_of}
use Rattle.lot_machine.specs.declared.locks.Lock.{Lock}
use Rattle.lot_laws.proofs.calls.Closings.{closing}
use Rattle.lot_laws.proofs.calls.Closures.{closes_one}
use Rattle.lot_laws.proofs.calls.Looking.{closing_inductive, looking_inductive}

-- ---------------------------------------------------------------- a word and its phase

pub once_kind : (k : Kind) → (rules_of k).sort ≡ locks.Once → k ≡ kinds.Once
once_kind kinds.Once e = refl
once_kind kinds.Mutex e = absurd cc
once_kind kinds.Fair e = absurd cc
once_kind (kinds.RwLock limit) e = absurd cc
once_kind (kinds.Recursive limit) e = absurd cc
once_kind kinds.Condvar e = absurd cc
once_kind (kinds.Semaphore permits) e = absurd cc

once_sort : (k : Kind) → k ≡ kinds.Once → (rules_of k).sort ≡ locks.Once
once_sort k e = ap (λ x. (rules_of x).sort) e

module _ (w : State) (inductive : IsInductive w) (l : ℕ) (sort : (rules_in w l).sort ≡ locks.Once) where
  word_is : word_at w l ≡ word (site_of w l).parked (lock_state w l).phase
  word_is = inductive.sites.word l ∙ coded (rules_in w l) (site_of w l) sort

  -- a done one that is marked has this word
  pub marked_done : (lock_state w l).phase ≡ Done → (site_of w l).parked ≡ true → word_at w l ≡ 9
  marked_done done set = word_is ∙ (λ i. word (set i) (done i))

-- ---------------------------------------------------------------- the operations of a place

unmarked_9 : (phase : Phase) → word false phase ≢ 9
unmarked_9 New = λ e. cc
unmarked_9 Poisoned = λ e. cc
unmarked_9 (InProgress t) = λ e. cc
unmarked_9 Done = λ e. cc

running_9 : (parked : Bool) → word parked (InProgress 0) ≢ 9
running_9 true = λ e. cc
running_9 false = λ e. cc

rests_9 : (c : OnceCall) (phase : Phase) → Rattle.spec_locks.specs.Onces.MayRest (want_of c) (is_forced c)
    phase → word true phase ≢ 9
rests_9 c New may = λ e. cc
rests_9 c Poisoned may = λ e. cc
rests_9 c (InProgress t) may = λ e. cc
rests_9 c Done may = λ e. absurd (done (want_of c) (is_forced c) may)
  where
    done : (x : Rattle.core_base.specs.declared.wants.Want.Want) (forced : Bool)
        → Rattle.spec_locks.specs.Onces.MayRest x forced Done → ⊥
    done Rattle.core_base.specs.declared.wants.Want.TheVariants.CallOnce forced h = h
    done Rattle.core_base.specs.declared.wants.Want.TheVariants.Wait true h = h
    done Rattle.core_base.specs.declared.wants.Want.TheVariants.Wait false h = h
    done x forced h = h

module _ (parked : Bool) (phase : Phase) (fine : word parked phase ≢ 9) where
  abbrev now : ℕ
  now = word parked phase

  exchanges : (seen new : ℕ) → (now ≡ seen → new ≢ 9) → apply (op.Exchange seen new) now ≢ 9
  exchanges seen new goes = either (now == seen) refl
    where
      either : (b : Bool) → (now == seen) ≡ b → (if b then new else now) ≢ 9
      either true e = goes (eqb-true now seen e)
      either false e = fine

  course_fine : (l : ℕ) (c : OnceCall) (seen : ℕ) (k : Course) → course_of c seen ≡ k → (j : ℕ) (f : _)
      → course_act l seen k ≡ act.Word j f → apply f now ≢ 9
  course_fine l c seen (Ends a) e j f is = let g : op.Load ≡ f = cc in subst (λ x. apply x now ≢ 9) g fine
  course_fine l c seen Runs e j f is = let g : op.Exchange seen (started seen) ≡ f = cc in
      subst (λ x. apply x now ≢ 9) g (exchanges seen (started seen) (λ same. subst (λ v. started v ≢ 9) same
      (subst (λ v. v ≢ 9) (sym (started_is parked phase 0)) (running_9 parked))))
  course_fine l c seen Marks e j f is = let g : op.Exchange seen (marked seen) ≡ f = cc in
      subst (λ x. apply x now ≢ 9) g (exchanges seen (marked seen) (λ same. subst (λ v. marked v ≢ 9) same
      (subst (λ v. v ≢ 9) (sym (marked_is parked phase))
      (rests_9 c phase (let may : MayGo c parked phase (course_of c now) = may_go c parked phase
      in let k : course_of c now ≡ Marks = ap (course_of c) same ∙ e in subst (MayGo c parked phase) k
      may)))))
  course_fine l c seen Parks e j f is = absurd cc

  place_fine : (l : ℕ) (p : OncePlace) (j : ℕ) (f : _) → once_act l p ≡ act.Word j f → apply f now ≢ 9
  place_fine l (Look c retries (look.Decide seen)) j f is = course_fine l c seen (course_of c seen) refl j f
      is
  place_fine l (Look c retries look.Load) j f is = let g : op.Load ≡ f = cc
      in subst (λ x. apply x now ≢ 9) g fine
  place_fine l (Look c retries look.Check) j f is = absurd cc
  place_fine l (Look c retries (look.Leave b)) j f is = absurd cc
  place_fine l (Look c retries look.Asleep) j f is = absurd cc
  place_fine l (Look c retries (look.Taken by)) j f is = absurd cc
  place_fine l (Run forced (run.Closure b)) j f is = absurd cc
  place_fine l (Run forced (run.Close true)) j f is = let g : op.Swap 1 ≡ f = cc
      in subst (λ x. apply x now ≢ 9) g (λ e. cc)
  place_fine l (Run forced (run.Close false)) j f is = let g : op.Swap 2 ≡ f = cc
      in subst (λ x. apply x now ≢ 9) g (λ e. cc)
  place_fine l (Run forced (run.Enter b)) j f is = absurd cc
  place_fine l (Run forced (run.Take b)) j f is = absurd cc
  place_fine l (Run forced (run.Leave b any)) j f is = absurd cc
  place_fine l (GiveUp retries give_up.Remove) j f is = absurd cc
  place_fine l (GiveUp retries give_up.Clear) j f is = let g : op.And NOT_PARKED ≡ f = cc
      in subst (λ x. apply x now ≢ 9) g (subst (λ v. v ≢ 9) (sym (unmarked_is parked phase))
      (unmarked_9 phase))
  place_fine l (GiveUp retries give_up.Leave) j f is = absurd cc

-- ---------------------------------------------------------------- an act

-- the act leaves the word of a `Once` unmarked where that is done
abbrev Leaves : State → Act → Type 0
Leaves w (act.Word l f) = kind_at w l ≡ kinds.Once → apply f (word_at w l) ≢ 9
Leaves w (act.HandOver l f) = kind_at w l ≡ kinds.Once → apply f (word_at w l) ≢ 9
Leaves w a = Unit {0}

abbrev Unmarked : Lock → Type 0
Unmarked x = x.kind ≡ kinds.Once → x.word ≢ 9

performed : (w : State) (t : ℕ) (p : Place) (a : Act) → AreUnmarked w → Leaves w a
    → AreUnmarked (state_after_act w t p a)
performed w t p (act.Word k f) fine leaves l = set_all Unmarked w.locks k _ (unlocked kinds.Mutex) leaves fine
    l
performed w t p (act.HandOver k f) fine leaves l = either (takes_effect f (word_at w k))
  where
    either : (b : Bool) → Unmarked (get_or (state_after_hand_over_by b w t p k f).locks l
        (unlocked kinds.Mutex))
    either true = set_all Unmarked w.locks k _ (unlocked kinds.Mutex) leaves fine l
    either false = set_all Unmarked w.locks k _ (unlocked kinds.Mutex) leaves fine l
performed w t p (act.Enter (One key)) fine leaves l = fine l
performed w t p (act.Enter (Two first second)) fine leaves l = fine l
performed w t p (act.Park k key check x) fine leaves l = either (holds check (word_at w k))
  where
    either : (b : Bool) → Unmarked (get_or (if b then record w { queues = queues_with_last w.queues key t x }
        else w).locks l (unlocked kinds.Mutex))
    either true = fine l
    either false = fine l
performed w t p (act.Take key whom.First) fine leaves l = by_first (first_of (queue_at w key))
  where
    by_first : (o : Option ℕ) → Unmarked
        (get_or (state_after_taking (record w { queues = queues_without_first w.queues key }) t o).locks l
        (unlocked kinds.Mutex))
    by_first None = fine l
    by_first (Some u) = fine l
performed w t p (act.Take key (whom.Picked start recursive)) fine leaves l = fine l
performed w t p (act.Take key whom.All) fine leaves l = fine l
performed w t p (act.Leave (One key) wakes.Nobody) fine leaves l = fine l
performed w t p (act.Leave (One key) (wakes.All n)) fine leaves l = fine l
performed w t p (act.Leave (Two first second) wakes.Nobody) fine leaves l = fine l
performed w t p (act.Leave (Two first second) (wakes.All n)) fine leaves l = fine l
performed w t p a fine leaves l = fine l

-- ---------------------------------------------------------------- each place

-- on another lock
elsewhere : (w : State) (l : ℕ) (a : Act) → IsOwn l a → (kind_at w l ≡ kinds.Once → ⊥) → Leaves w a
elsewhere w l (act.Word k f) own other = λ of. absurd (other (subst (λ j. kind_at w j ≡ kinds.Once) own of))
elsewhere w l (act.HandOver k f) own other = λ of. absurd
    (other (subst (λ j. kind_at w j ≡ kinds.Once) own of))
elsewhere w l a own other = tt

no_mutex : (k : Kind) → is_mutex k ≡ true → k ≡ kinds.Once → ⊥
no_mutex k h e = let f : false ≡ true = sym (ap is_mutex e) ∙ h in cc

module _ (w : State) (inductive : IsInductive w) (fine : AreUnmarked w) where
  once_leaves : (l : ℕ) (p : OncePlace) → (rules_in w l).sort ≡ locks.Once → Leaves w (once_act l p)
  once_leaves l p sort = by_act (once_act l p) refl
    where
      here : ℕ
      here = word_at w l

      at_once : (f : _) (j : ℕ) → once_act l p ≡ act.Word j f → apply f here ≢ 9
      at_once f j is = subst (λ v. apply f v ≢ 9) (sym (word_is w inductive l sort))
          (place_fine (site_of w l).parked (lock_state w l).phase
          (subst (λ v. v ≢ 9) (word_is w inductive l sort) (fine l (once_kind (kind_at w l) sort))) l p j f
          is)

      own_word : (p : OncePlace) (j : ℕ) (f : _) → once_act l p ≡ act.Word j f → l ≡ j
      own_word (Look c retries (look.Decide seen)) j f is = by_course (course_of c seen) is
        where
          by_course : (k : Course) → course_act l seen k ≡ act.Word j f → l ≡ j
          by_course (Ends a) e = cc
          by_course Runs e = cc
          by_course Marks e = cc
          by_course Parks e = absurd cc
      own_word (Look c retries look.Load) j f is = cc
      own_word (Look c retries look.Check) j f is = absurd cc
      own_word (Look c retries (look.Leave b)) j f is = absurd cc
      own_word (Look c retries look.Asleep) j f is = absurd cc
      own_word (Look c retries (look.Taken by)) j f is = absurd cc
      own_word (Run forced (run.Closure b)) j f is = absurd cc
      own_word (Run forced (run.Close b)) j f is = cc
      own_word (Run forced (run.Enter b)) j f is = absurd cc
      own_word (Run forced (run.Take b)) j f is = absurd cc
      own_word (Run forced (run.Leave b any)) j f is = absurd cc
      own_word (GiveUp retries give_up.Remove) j f is = absurd cc
      own_word (GiveUp retries give_up.Clear) j f is = cc
      own_word (GiveUp retries give_up.Leave) j f is = absurd cc

      no_hand_over : (p : OncePlace) (j : ℕ) (f : _) → once_act l p ≡ act.HandOver j f → ⊥
      no_hand_over (Look c retries (look.Decide seen)) j f is = by_course (course_of c seen) is
        where
          by_course : (k : Course) → course_act l seen k ≡ act.HandOver j f → ⊥
          by_course (Ends a) e = cc
          by_course Runs e = cc
          by_course Marks e = cc
          by_course Parks e = cc
      no_hand_over (Look c retries look.Load) j f is = cc
      no_hand_over (Look c retries look.Check) j f is = cc
      no_hand_over (Look c retries (look.Leave b)) j f is = cc
      no_hand_over (Look c retries look.Asleep) j f is = cc
      no_hand_over (Look c retries (look.Taken by)) j f is = cc
      no_hand_over (Run forced (run.Closure b)) j f is = cc
      no_hand_over (Run forced (run.Close b)) j f is = cc
      no_hand_over (Run forced (run.Enter b)) j f is = cc
      no_hand_over (Run forced (run.Take b)) j f is = cc
      no_hand_over (Run forced (run.Leave b any)) j f is = cc
      no_hand_over (GiveUp retries give_up.Remove) j f is = cc
      no_hand_over (GiveUp retries give_up.Clear) j f is = cc
      no_hand_over (GiveUp retries give_up.Leave) j f is = cc

      by_act : (a : Act) → once_act l p ≡ a → Leaves w a
      by_act (act.Word j f) e = λ of. subst (λ k. apply f (word_at w k) ≢ 9) (own_word p j f e)
          (at_once f j e)
      by_act (act.HandOver j f) e = absurd (no_hand_over p j f e)
      by_act a e = tt

  condvar_leaves : (c : ℕ) (at : CondvarPlace) → (kind_at w c ≡ kinds.Once → ⊥)
      → ((m : ℕ) → Rattle.steps_condvar.specs.CondvarSteps.mutex_beside at ≡ Some m → kind_at w m ≡ kinds.Once
      → ⊥)
      → Leaves w (act_of (Condvar c at))
  condvar_leaves c (Wait m timed wait.Show) other beside = λ of. absurd (other of)
  condvar_leaves c (Wait m timed wait.Hide) other beside = λ of. absurd (other of)
  condvar_leaves c (Wait m timed (wait.Release st at)) other beside = elsewhere w m (mutex_act m at)
      (mutex_own m at) (beside m refl)
  condvar_leaves c (Wait m timed (wait.Lock timed_out at)) other beside = elsewhere w m (mutex_act m at)
      (mutex_own m at) (beside m refl)
  condvar_leaves c (Wait m timed at) other beside = tt
  condvar_leaves c (PeekQueue all) other beside = λ of. absurd (other of)
  condvar_leaves c (Notify all m notify.Again) other beside = λ of. absurd (other of)
  condvar_leaves c (Notify all m notify.Hide) other beside = λ of. absurd (other of)
  condvar_leaves c (Notify all m notify.Mark) other beside = λ of. absurd (beside m refl of)
  condvar_leaves c (Notify all m (notify.Set seen)) other beside = λ of. absurd (beside m refl of)
  condvar_leaves c (Notify true m (notify.Move locked)) other beside = tt
  condvar_leaves c (Notify false m (notify.Move true)) other beside = tt
  condvar_leaves c (Notify false m (notify.Move false)) other beside = tt
  condvar_leaves c (Notify all m (notify.Clear any)) other beside = λ of. absurd (other of)
  condvar_leaves c (Notify all m (notify.MarkMoved number)) other beside = λ of. absurd (beside m refl of)
  condvar_leaves c (Notify all m at) other beside = tt

  no_plain : (k : Kind) → Rattle.spec_locks.specs.Kinds.is_plain_mutex k ≡ true → k ≡ kinds.Once → ⊥
  no_plain k h e = let f : false ≡ true = sym (ap Rattle.spec_locks.specs.Kinds.is_plain_mutex e) ∙ h in cc

  other_sort : (l : ℕ) (x : Sort) → (rules_in w l).sort ≡ x → x ≢ locks.Once → kind_at w l ≡ kinds.Once → ⊥
  other_sort l x e ne of = ne (sym e ∙ once_sort (kind_at w l) of)

  no_readers : (l : ℕ) → has_readers (rules_in w l).sort ≡ true → kind_at w l ≡ kinds.Once → ⊥
  no_readers l h of = let f : false ≡ true = sym (ap has_readers (once_sort (kind_at w l) of)) ∙ h in cc

  place_leaves : (p : Place) → FitsItsLock w p → Leaves w (act_of p)
  place_leaves Idle fits = tt
  place_leaves (Mutex l at) fits = elsewhere w l (mutex_act l at) (mutex_own l at)
      (no_mutex (kind_at w l) fits)
  place_leaves (RwLock l a at) fits = elsewhere w l (call_act l a at) (call_own l a at)
      (no_readers l fits.0.0)
  place_leaves (Once l at) fits = once_leaves l at fits
  place_leaves (Semaphore l at) fits = elsewhere w l (semaphore_act l at) (semaphore_own l at)
      (other_sort l locks.Semaphore fits.0 (λ e. cc))
  place_leaves (Condvar l at) fits = condvar_leaves l at (other_sort l locks.Condvar fits.sort (λ e. cc))
      (λ m names. no_plain (kind_at w m) (fits.mutex m names))

  -- ---------------------------------------------------------------- each turn

  pub gone_unmarked : (t : ℕ) → AreUnmarked (state_after_go w t)
  gone_unmarked t l = performed w t (place_at w t) (act_of (place_at w t)) fine
      (place_leaves (place_at w t) (inductive.stands.calls t)) l

module _ (w : State) (t : ℕ) (inductive : IsInductive w) (there : t < length w.places) (fine : AreUnmarked w)
  where
    looked : (o : Option Place) → respins_from (place_at w t) ≡ o → AreUnmarked (state_after_look w t o)
    looked None e = fine
    looked (Some q) e = gone_unmarked (put w t q) (looking_inductive w t there q e inductive) fine t

    late : (o : Option ℕ) → AreUnmarked (state_after_late_on w t o)
    late None = fine
    late (Some key) = fine

    closed : (succeeded : Bool) → can_turn w t (if succeeded then turn.Ok
        else turn.Err)
        ≡ true → AreUnmarked (state_after_close w t succeeded)
    closed true can = let one = closes_one w t true can in gone_unmarked (closing w t there true one)
        (closing_inductive w t there true one inductive) fine t
    closed false can = let one = closes_one w t false can in gone_unmarked (closing w t there false one)
        (closing_inductive w t there false one inductive) fine t

    turned : (x : Turn) → can_turn w t x ≡ true → AreUnmarked (state_after_turn w t x)
    turned (turn.Begin c) can = fine
    turned turn.Go can = gone_unmarked w inductive fine t
    turned turn.Spin can = looked (respins_from (place_at w t)) refl
    turned turn.Late can = late (late_key (place_at w t))
    turned turn.Ok can = closed true can
    turned turn.Err can = closed false can

pub unmarked_after : (w : State) (s : Step) → IsWellFormed w → IsInductive w → AreUnmarked w
    → AreUnmarked (after w s)
unmarked_after w s shape inductive fine = either (is_possible w s) refl
  where
    either : (b : Bool) → is_possible w s ≡ b → AreUnmarked (if b then state_after_turn w s.thread s.turn
        else w)
    either true can = let parts = both (nat_lt s.thread (length w.places)) (can_turn w s.thread s.turn) can in
        turned w s.thread inductive (ltb-true s.thread (length w.places) parts.0) fine s.turn parts.1
    either false can = fine

-- ---------------------------------------------------------------- the opening state

new_fine : (k : Kind) → k ≡ kinds.Once → first_word k ≢ 9
new_fine kinds.Once e = λ f. cc
new_fine k e = absurd cc

first_fine : (ks : List Kind) (l : ℕ) → Unmarked (get_or (map unlocked ks) l (unlocked kinds.Mutex))
first_fine [] l = λ e. absurd cc
first_fine (k ∷ ks) Rattle.std.proofs.Common.zero = new_fine k
first_fine (k ∷ ks) (Rattle.std.proofs.Common.suc l) = first_fine ks l

pub opening_unmarked : (ks : List Kind) (threads : ℕ) → AreUnmarked (opening ks threads)
opening_unmarked ks threads l = first_fine ks l
