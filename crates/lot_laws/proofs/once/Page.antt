-- The pages of the places of a `Once`: what its laws say of each, as any sort of lock says it.
use Rattle.lot_laws.proofs.Imports
use Imports.{rules, ℕ, Bool, true, false, Option, Some, None, ◌==◌, ◌≡◌, ◌≢◌, List, inl, inr, refl}
use Imports.{sym, ◌∙◌, ap, subst, Op, OnceCall, WaitTimed, Act, Next, Reply, Done, Value, Parked, Took, Removed}
use Imports.{Late, IsNotLate, row_of, OfOnce, Rules, is_recursive, Deed, Runs as Running, Site, aside_in, code}
use Imports.{is_marked, parked_in, Course, Ends, Marks, OncePlace, Run, GiveUp, OnceSectionsFollow, closes}
use Imports.{run_ending, exchanged_deeds, looked_deeds, once_deeds, OnceMoves, once_hears, once_move}
use Imports.{once_profile, course_of, once_act, once_next, once_acts_move, once_late_move, once_sleepers_move}
use Imports.{once_owners_follow, once_steps_code, once_steps_follow, once_promises, once_sections_tell}
use Imports.{once_steps_tell, Once, once_does, once_goes, owners_after, shares_after, State, can_do, reply_to}
use Imports.{word_at, FitsItsLock, rules_in, OnceState, Outcome, holds, outcome_of, case_of, event_by, Phase}
use Imports.{New, Poisoned, InProgress, MayStart, AtLock, Begins, LocksState, Nothing, state_told, lock_state}
use Imports.{locks_of, IsInductive, site_of, is_poisoned, check_of, closure_begun, course_act, ended, in_look}
use Imports.{in_run, is_forced, is_run, marked, state_before}
use Rattle.spec_locks.specs.declared.calls.OnceCall.TheVariants.{CallOnce, Wait}
use Rattle.steps_base.specs.declared.acts.Act.TheVariants as act
use Rattle.steps_base.specs.declared.acts.Next.TheVariants as next
use Rattle.steps_base.specs.declared.acts.TakeWhich.TheVariants as whom
use Rattle.spec_locks.specs.Locks as locks
use Rattle.spec_locks.specs.Deeds as laws
use Rattle.steps_once.specs.declared.give_up.GiveUpAt.TheVariants as give_up
use Rattle.steps_once.specs.declared.look.LookAt.TheVariants as look
use Rattle.steps_once.specs.declared.look.Course.TheVariants.{Runs, Parks}
use Rattle.steps_once.specs.declared.run.RunAt.TheVariants as run
use Rattle.steps_once.specs.declared.places.OncePlace.TheVariants.{Look}
use Rattle.steps_once.specs.OnceCalls.{next_row}
use Rattle.steps_once.specs.OnceDeeds.{IsAt, MayReply, role_next}
use Rattle.steps_once.proofs.OnceWords as words
use Rattle.spec_locks.specs.declared.outcomes.Outcome.TheVariants as outcome
use Rattle.spec_locks.specs.Onces.{Done as IsDone}
use Rattle.steps_once.specs.OnceSteps.{is_mark, looked_by}
use Rattle.std.specs.Prelude.{◌&&◌, if◌then◌else◌}
use Rattle.lot_laws.proofs.book.Page.{Follows, IsThere, Leaves, MovesBy, Page, Says, never_given}
use Rattle.lot_laws.proofs.book.Page.{plainly_waits}
use Rattle.lot_laws.proofs.book.LockStaysASite.{ComesBy, Tied}

-- ---------------------------------------------------------------- rows

role_is : (n : Next OncePlace) → role_next n ≡ (row_of (next_row n)).role
role_is (next.At p) = refl
role_is (next.End answer) = refl

-- ---------------------------------------------------------------- the word

-- a `Once` has no second line
module _ (r : Rules) (s : Site) (t : ℕ) where
  abbrev StaysAside : List Deed → Type 0
  StaysAside ds = (laws.after_all r ds s t).aside_parked ≡ s.aside_parked

  looked_aside : (k : Course) → StaysAside (looked_deeds k)
  looked_aside (Ends answer) = refl
  looked_aside Runs = refl
  looked_aside Marks = refl
  looked_aside Parks = refl

  exchanged_aside : (c : OnceCall) (won : Bool) (k : Course) → StaysAside (exchanged_deeds c won k)
  exchanged_aside c true Runs = refl
  exchanged_aside c true Marks = refl
  exchanged_aside c true (Ends answer) = refl
  exchanged_aside c true Parks = refl
  exchanged_aside c false k = looked_aside k

  closed_aside : (succeeded marked : Bool) → StaysAside (closes succeeded marked)
  closed_aside succeeded true = refl
  closed_aside succeeded false = refl

  stays_aside : (p : OncePlace) (v : ℕ) → StaysAside (once_deeds p (Value v))
  stays_aside (Look c again look.Load) v = looked_aside (course_of c v)
  stays_aside (Look c again (look.Decide expected)) v = exchanged_aside c (v == expected) (course_of c v)
  stays_aside (Look c again look.Check) v = refl
  stays_aside (Look c again (look.Leave parked)) v = refl
  stays_aside (Look c again look.Asleep) v = refl
  stays_aside (Look c again (look.Taken by)) v = refl
  stays_aside (Run forced (run.Closure poisoned)) v = refl
  stays_aside (Run forced (run.Close succeeded)) v = closed_aside succeeded (is_marked v)
  stays_aside (Run forced (run.Enter succeeded)) v = refl
  stays_aside (Run forced (run.Take succeeded)) v = refl
  stays_aside (Run forced (run.Leave succeeded any)) v = refl
  stays_aside (GiveUp again give_up.Remove) v = refl
  stays_aside (GiveUp again give_up.Clear) v = refl
  stays_aside (GiveUp again give_up.Leave) v = refl

once_sections_follow : OnceSectionsFollow
once_sections_follow r s t (Look c again (look.Decide seen)) Done a h = search rules
once_sections_follow r s t (Look (CallOnce forced) again look.Check) (Parked true) a h = search rules
once_sections_follow r s t (Look (Wait forced) again look.Check) (Parked true) a h = search rules
once_sections_follow r s t (Look WaitTimed again look.Check) (Parked true) a h = search rules
once_sections_follow r s t (Look c again look.Check) (Parked false) a h = search rules
once_sections_follow r s t (Look c again (look.Leave parked)) Done a h = search rules
once_sections_follow r s t (Run forced (run.Enter succeeded)) Done a h = search rules
once_sections_follow r s t (Run forced (run.Take succeeded)) (Took any none_left) a h = search rules
once_sections_follow r s t (Run forced (run.Leave succeeded any)) Done a h = search rules
once_sections_follow r s t (Look WaitTimed again look.Asleep) Late a h = search rules
once_sections_follow r s t (Look (CallOnce forced) again look.Asleep) Late a h =
    absurd (let f : false ≡ true = h.0 in cc)
once_sections_follow r s t (Look (Wait forced) again look.Asleep) Late a h =
    absurd (let f : false ≡ true = h.0 in cc)
once_sections_follow r s t (GiveUp again give_up.Remove) (Removed true) a h = search rules
once_sections_follow r s t (GiveUp again give_up.Remove) (Removed false) a h = search rules
once_sections_follow r s t (GiveUp again give_up.Leave) Done a h = search rules
once_sections_follow r s t p told a h = absurd h

-- ---------------------------------------------------------------- a page

abbrev pub once_says : OncePlace → Says
once_says p = record {
  row = once_profile p;
  comes = λ told. next_row (once_next p told);
  deeds = λ who told. once_deeds p told;
  hears = once_hears p;
}

not_late : (told : Reply) → told ≢ Late → IsNotLate told
not_late Late h = absurd (h refl)
not_late told h = tt

moves_so : (r : Rules) (l : ℕ) (p : OncePlace) (y : Act) → r.sort ≡ locks.Once
    → OnceMoves l (once_move p) (once_hears p) y → MovesBy r l (once_move p) (once_hears p) y
moves_so r l p (act.Take key whom.First) sort g = inr g
moves_so r l p (act.Take key whom.All) sort g = g
moves_so r l p (act.Take key (whom.Picked start b)) sort g = (g.0, g.1 ∙ sym (ap is_recursive sort), g.2)
moves_so r l p (act.Park k key check want) sort g = inr g
moves_so r l p (act.Leave keys wakes) sort g = inl g
moves_so r l p act.Accept sort g = absurd g
moves_so r l p (act.HandOver k op) sort g = absurd g
moves_so r l p y sort g = g

-- a thread runs its closure inside its run
course_runs : (l v : ℕ) (k : Course) (state : OnceState) → course_act l v k ≡ act.Closure state → ⊥
course_runs l v (Ends answer) state e = cc
course_runs l v Runs state e = cc
course_runs l v Marks state e = cc
course_runs l v Parks state e = cc

runs_so : (l : ℕ) (p : OncePlace) (state : OnceState) → once_act l p ≡ act.Closure state
    → (once_profile p).role.claims ≡ Some Running
runs_so l (Run forced (run.Closure poisoned)) state e = refl
runs_so l (Look c again (look.Decide seen)) state e = absurd (course_runs l seen (course_of c seen) state e)
runs_so l (Look c again at) state e = absurd cc
runs_so l (Run forced at) state e = absurd cc
runs_so l (GiveUp again give_up.Remove) state e = absurd cc
runs_so l (GiveUp again give_up.Clear) state e = absurd cc
runs_so l (GiveUp again give_up.Leave) state e = absurd cc

module _ (r : Rules) (l : ℕ) (p : OncePlace) (sort : r.sort ≡ locks.Once) where
  is_at : (s : Site) (t : ℕ) → IsThere r s t (once_profile p) → IsAt r s t p
  is_at s t h = record { sort = sort; site = h.site; role = h.role }

  follows : (s : Site) (t : ℕ) (who : Option ℕ) (told : Reply) → IsThere r s t (once_profile p)
      → MayReply r s t p told → Follows r s t (once_move p) who told
  follows s t who told h hears = let f = once_sections_follow r s t p told (is_at s t h) hears in record {
    needed = f.needed;
    role = f.role ∙ role_is (once_next p told);
  }

  works : (s : Site) (t : ℕ) (op : Op) → IsThere r s t (once_profile p) → once_act l p ≡ act.Word l op
      → Follows r s t (once_move p) None (Value (code r s))
  works s t op h e = let f = once_steps_follow r s t l p op (is_at s t h) e in record {
    needed = f.needed;
    role = f.role ∙ role_is (once_next p (Value (code r s)));
  }

  leaves : (s : Site) (t : ℕ) (op : Op) → IsThere r s t (once_profile p) → once_act l p ≡ act.Word l op
      → Leaves r s t (once_move p) op (owners_after (Once l p)) (shares_after (Once l p))
  leaves s t op h e = record {
    word = once_steps_code r s t l p op (is_at s t h) e;
    lock = λ o main second taken same. once_owners_follow r s t l p op s.lock.shared o main second taken
        (is_at s t h) e same;
    parked = ap (λ x. parked_in x (code r then_s)) sort ∙ ap is_marked (words.coded r then_s sort)
        ∙ words.marks_tell then_s.parked then_s.lock.phase;
    aside = ap (λ x. aside_in x (code r then_s)) sort ∙ sym (ap (λ x. aside_in x (code r s)) sort) ∙ h.aside
        ∙ sym (stays_aside r s t p (code r s));
  }
    where
      then_s : Site
      then_s = laws.after_all r (once_deeds p (Value (code r s))) s t

  pub once_page : Page r l (once_says p) (once_act l p) (owners_after (Once l p)) (shares_after (Once l p))
  once_page = record {
    many = λ one. let both : locks.Mutex ≡ locks.Once = sym one ∙ sort in cc;
    plain = λ one. let both : locks.Condvar ≡ locks.Once = sym one ∙ sort in cc;
    word = λ s t op h out e. (
      works s t op h e,
      leaves s t op h e,
      once_steps_tell r s t l p op (is_at s t h)
          e,
    );
    follows = follows;
    tells = λ s t who told h hears now. once_sections_tell r s t l p told (is_at s t h) hears
        (not_late told now);
    moves = moves_so r l p (once_act l p) sort (once_acts_move l p);
    waits = plainly_waits (once_move p) (once_sleepers_move p);
    given = never_given (once_move p) (once_sleepers_move p);
    late = once_late_move p;
    runs = runs_so l p;
    promises = rw sort (once_promises l p);
  }

-- ---------------------------------------------------------------- the closure of its call

course_steps : (l v : ℕ) (k : Course) → outcome_of (course_act l v k) ≡ outcome.Step
course_steps l v (Ends answer) = refl
course_steps l v Runs = refl
course_steps l v Marks = refl
course_steps l v Parks = refl

-- the thread's closure is told how far the `Once` has come
told_so : (r : Rules) (s : Site) (c : OnceCall) → r.sort ≡ locks.Once → course_of c (code r s) ≡ Runs
    → state_before (is_poisoned (code r s)) ≡ state_told s.lock.phase
told_so r s c sort runs = ap (λ v. state_before (is_poisoned v)) (words.coded r s sort)
    ∙ by_phase s.parked s.lock.phase (subst (λ k. words.MayGo c s.parked s.lock.phase k)
    (ap (course_of c) (sym (words.coded r s sort)) ∙ runs) (words.may_go c s.parked s.lock.phase)).0
  where
    by_phase : (parked : Bool) (phase : Phase) → MayStart phase (is_forced c)
        → state_before (is_poisoned (words.word parked phase)) ≡ state_told phase
    by_phase true New h = refl
    by_phase false New h = refl
    by_phase true Poisoned h = refl
    by_phase false Poisoned h = refl
    by_phase parked (InProgress u) h = absurd h
    by_phase parked IsDone h = absurd h

module _ (w : LocksState) (l v : ℕ) where
  -- the thread is told of a step
  steps_on : (o : Outcome) → o ≡ outcome.Step → Begins w Nothing o
  steps_on o e = subst (Begins w Nothing) (sym e) tt

  looks_on : (c : OnceCall) (again : Bool) (k : Course)
      → Begins w (event_by l (case_of None (looked_deeds k)))
      (outcome_of (once_does l (in_look c again (looked_by v k))))
  looks_on c again (Ends answer) = tt
  looks_on c again Runs = steps_on _ (course_steps l v (course_of c v))
  looks_on c again Marks = steps_on _ (course_steps l v (course_of c v))
  looks_on c again Parks = steps_on _ (course_steps l v (course_of c v))

  exchanges_on : (c : OnceCall) (again won : Bool) (k : Course)
      → (k ≡ Runs → state_before (is_poisoned v) ≡ state_told (w.locks l).phase)
      → Begins w (event_by l (case_of None (exchanged_deeds c won k))) (outcome_of (once_does l
      (if won && is_run k then next.At (Run (is_forced c) (closure_begun (Value v))) else in_look c again
      (if won && is_mark k then next.At (look.Decide (marked v)) else looked_by v k))))
  exchanges_on c again true Runs told = ap outcome.Closure (told refl)
  exchanges_on c again true Marks told = steps_on _ (course_steps l (marked v) (course_of c (marked v)))
  exchanges_on c again true Parks told = looks_on c again Parks
  exchanges_on c again true (Ends answer) told = looks_on c again (Ends answer)
  exchanges_on c again false Runs told = looks_on c again Runs
  exchanges_on c again false Marks told = looks_on c again Marks
  exchanges_on c again false Parks told = looks_on c again Parks
  exchanges_on c again false (Ends answer) told = looks_on c again (Ends answer)

  closes_on : (forced succeeded b : Bool)
      → Begins w (event_by l (case_of None (closes succeeded b)))
      (outcome_of (once_does l (in_run forced (if b then next.At (run.Enter succeeded) else next.End
      (ended succeeded)))))
  closes_on forced true true = tt
  closes_on forced true false = tt
  closes_on forced false true = tt
  closes_on forced false false = tt

module _ (w : State) (t l : ℕ) (at : OncePlace) (inductive : IsInductive w) (sort : (rules_in w l).sort
    ≡ locks.Once) where
  found_so : (c : OnceCall) → course_of c (word_at w l) ≡ Runs
      → state_before (is_poisoned (word_at w l)) ≡ state_told (lock_state w l).phase
  found_so c = subst (λ v. course_of c v ≡ Runs → state_before (is_poisoned v)
      ≡ state_told (lock_state w l).phase) (sym (inductive.sites.word l)) (told_so (rules_in w l)
      (site_of w l) c
      sort)

  by_course : (c : OnceCall) (again : Bool) (seen : ℕ) (k : Course)
      → Begins (locks_of w)
      (event_by l (case_of None (once_deeds (Look c again (look.Decide seen))
      (reply_to w t (course_act l seen k)))))
      (outcome_of (once_does l (once_next (Look c again (look.Decide seen))
      (reply_to w t (course_act l seen k)))))
  by_course c again seen Parks = tt
  by_course c again seen Runs = exchanges_on (locks_of w) l (word_at w l) c again (word_at w l == seen)
      (course_of c (word_at w l)) (found_so c)
  by_course c again seen Marks = exchanges_on (locks_of w) l (word_at w l) c again (word_at w l == seen)
      (course_of c (word_at w l)) (found_so c)
  by_course c again seen (Ends answer) = exchanges_on (locks_of w) l (word_at w l) c again
      (word_at w l == seen) (course_of c (word_at w l)) (found_so c)

  by_parked : (c : OnceCall) (again b : Bool)
      → Begins (locks_of w) (event_by l (case_of None (once_deeds (Look c again look.Check) (Parked b))))
      (outcome_of (once_does l (once_next (Look c again look.Check) (Parked b))))
  by_parked c again true = tt
  by_parked c again false = tt

  by_removed : (again b : Bool)
      → Begins (locks_of w) (event_by l (case_of None (once_deeds (GiveUp again give_up.Remove) (Removed b))))
      (outcome_of (once_does l (once_next (GiveUp again give_up.Remove) (Removed b))))
  by_removed again true = tt
  by_removed again false = tt

  by_place : (p : OncePlace) → can_do w (once_act l p) ≡ true
      → Begins (locks_of w) (event_by l
      (case_of (once_profile p).has_taken (once_deeds p (reply_to w t (once_act l p)))))
      (outcome_of (once_does l (once_next p (reply_to w t (once_act l p)))))
  by_place (Look c again look.Load) h = looks_on (locks_of w) l (word_at w l) c again
      (course_of c (word_at w l))
  by_place (Look c again (look.Decide seen)) h = by_course c again seen (course_of c seen)
  by_place (Look c again look.Check) h = by_parked c again (holds (check_of c) (word_at w l))
  by_place (Look c again (look.Leave true)) h = tt
  by_place (Look c again (look.Leave false)) h = tt
  by_place (Look c again look.Asleep) h = absurd cc
  by_place (Look c again (look.Taken by)) h = absurd cc
  by_place (Run forced (run.Closure poisoned)) h = absurd cc
  by_place (Run forced (run.Close succeeded)) h = closes_on (locks_of w) l (word_at w l) forced succeeded
      (is_marked (word_at w l))
  by_place (Run forced (run.Enter succeeded)) h = tt
  by_place (Run forced (run.Take succeeded)) h = tt
  by_place (Run forced (run.Leave succeeded true)) h = tt
  by_place (Run forced (run.Leave succeeded false)) h = tt
  by_place (GiveUp again give_up.Remove) h = by_removed again _
  by_place (GiveUp again give_up.Clear) h = tt
  by_place (GiveUp again give_up.Leave) h = tt

  -- the thread is told of its closure exactly where its run begins
  begins_so : can_do w (once_act l at) ≡ true
      → Begins (locks_of w) (event_by l (case_of (once_profile at).has_taken
      (once_deeds at (reply_to w t (once_act l at)))))
      (outcome_of (once_does l (once_next at (reply_to w t (once_act l at)))))
  begins_so can = by_place at can

comes_by : (l : ℕ) (n : Next OncePlace) → ComesBy l (next_row n) (once_goes l n) (once_does l n)
comes_by l (next.At q) = (refl, refl, refl, tt)
comes_by l (next.End answer) = (refl, refl)

-- a call of a `Once` hands nothing over
pub keeps_all : (l : ℕ) (p : OncePlace) (j : ℕ) (op : Op) → once_act l p ≢ act.HandOver j op
keeps_all l p j op e = subst (OnceMoves l (once_move p) (once_hears p)) e (once_acts_move l p)

pub once_tied : (w : State) (l : ℕ) (p : OncePlace) → FitsItsLock w (Once l p)
    → Tied w l (Once l p) (once_says p)
once_tied w l p sort = record {
  page = once_page (rules_in w l) l p sort;
  of = refl;
  called = refl;
  row = refl;
  comes = λ told. comes_by l (once_next p told);
  fits = λ told may. by_next (once_next p told);
  begins = λ t inductive can may. begins_so w t l p inductive sort can;
}
  where
    by_next : (n : Next OncePlace) → FitsItsLock w (once_goes l n)
    by_next (next.At q) = sort
    by_next (next.End answer) = tt

-- a run that ends is told of as such
pub closes_event : (l : ℕ) (succeeded b : Bool)
    → event_by l (case_of None (closes succeeded b)) ≡ AtLock l (OfOnce (run_ending succeeded))
closes_event l succeeded true = refl
closes_event l succeeded false = refl
