-- Each step on the word of a `Once` may do to it what its deeds say, and leaves the word and the phase after
-- them.
use Rattle.std.proofs.Common.{ℕ, Bool, true, false, Option, Some, None, if◌then◌else◌, ◌==◌, ◌≡◌, List, []}
use Rattle.std.proofs.Common.{◌∷◌, refl, sym, ap, ◌∙◌, subst, arith}
use Rattle.std.proofs.lemmas.Bool.{eqb-true}
use Rattle.std.proofs.lemmas.Bool.Decides.{nat_tests}
use Rattle.std.specs.Prelude.{◌&&◌}
use Rattle.core_base.specs.declared.ops.Op.{Op}
use Rattle.core_base.specs.declared.ops.Op.TheVariants as op
use Rattle.core_base.specs.declared.wants.Waiter.{Waiter}
use Rattle.core_base.specs.Words.{apply}
use Rattle.spec_locks.specs.declared.calls.OnceCall.{OnceCall}
use Rattle.steps_base.specs.declared.acts.Act.TheVariants as act
use Rattle.steps_base.specs.declared.acts.Next.{Next}
use Rattle.steps_base.specs.declared.acts.Next.TheVariants.{At, End as Over}
use Rattle.steps_base.specs.declared.acts.Reply.TheVariants.{Value}
use Rattle.steps_base.specs.declared.owners.Owners.{Owners}
use Rattle.steps_base.specs.declared.owners.Phase.TheVariants as phases
use Rattle.steps_base.specs.Owners.{lock_seen}
use Rattle.spec_locks.specs.Onces.{Poisoned, InProgress, Done, MayStart, Finish, Fail}
use Rattle.spec_locks.specs.Locks.{Rules, Once, OfOnce, Taken, LockState}
use Rattle.spec_locks.specs.Sites.{Role, Site, IsSite, Deed, End, Case, Runs as Running, idle, counts_some}
use Rattle.spec_locks.specs.Sites.{after_deed, seen_main}
use Rattle.spec_locks.specs.Deeds.{after_all, AllNeeded}
use Rattle.spec_locks.specs.Codes.{code, is_marked}
use Rattle.steps_once.specs.declared.look.LookAt.TheVariants as look
use Rattle.steps_once.specs.declared.look.Course.{Course}
use Rattle.steps_once.specs.declared.look.Course.TheVariants.{Ends, Runs, Marks, Parks}
use Rattle.steps_once.specs.declared.run.RunAt.TheVariants as run
use Rattle.steps_once.specs.declared.give_up.GiveUpAt.TheVariants as give_up
use Rattle.steps_once.specs.declared.places.OncePlace.{OncePlace}
use Rattle.steps_once.specs.declared.places.TheConstants.{NOT_PARKED}
use Rattle.steps_once.specs.declared.places.OncePlace.TheVariants.{Look, Run, GiveUp}
use Rattle.steps_once.specs.OnceSteps.{is_forced, course_of, course_act, is_run, is_mark, started, marked}
use Rattle.steps_once.specs.OnceSteps.{closure_begun, looked_by, in_look, in_run, ended, once_act}
use Rattle.steps_once.specs.OnceSteps.{once_owners, phase_afterwards, word_after}
use Rattle.steps_once.specs.OnceProfiles.{with_retry, retried_want, running_role, taking_role}
use Rattle.steps_once.specs.OnceDeeds.{once_deeds, looked_deeds, exchanged_deeds, run_ending, closes}
use Rattle.steps_once.specs.OnceDeeds.{role_next, IsAt, Follows, OnceStepsFollow, OnceStepsCode}
use Rattle.steps_once.specs.OnceDeeds.{OnceOwnersFollow}
use Rattle.steps_base.proofs.Deeds.{put_same}
use Rattle.steps_once.proofs.OnceWords.{word_of, coded, MayGo, may_go, marks_tell, started_is, marked_is}
use Rattle.steps_once.proofs.OnceWords.{unmarked_is}

-- some deeds may be done, and the thread stands so after them
record Does (r : Rules) (s : Site) (t : ℕ) (ds : List Deed) (n : Next OncePlace) : Type 0 where
  pub needed : AllNeeded r ds s t
  pub role : (after_all r ds s t).role t ≡ role_next n

module _ (r : Rules) (s : Site) (t : ℕ) (sort : r.sort ≡ Once) (h : IsSite r s) where
  -- a call ends, of a thread outside the section
  ends : (wanted : Option _) → s.role t ≡ with_retry wanted idle → AllNeeded r (End ∷ []) s t
  ends wanted is = (
    (
      ap (λ (d : Role). d.inside) is,
      ap (λ (d : Role). d.wakes) is,
      ap (λ (d : Role). d.has_taken) is,
      λ some. absurd (nobody (s.role t).retries some),
    ),
    tt,
  )
    where
      nobody : (o : Option _) → counts_some r.sort o ≡ true → ⊥
      nobody o some = grind (arith, sort)

  module _ (c : OnceCall) (retries : Bool) (v : ℕ) (is : s.role t ≡ with_retry (retried_want c retries) idle)
    where
      looks : (k : Course) → Does r s t (looked_deeds k) (in_look c retries (looked_by v k))
      looks (Ends answer) = record {
        needed = ends (retried_want c retries) is;
        role = put_same s.role t idle;
      }
      looks Runs = record { needed = tt; role = is }
      looks Marks = record { needed = tt; role = is }
      looks Parks = record { needed = tt; role = is }

      -- after its exchange
      exchanges : (b : Bool) (k : Course) → (k ≡ Runs → MayStart s.lock.phase (is_forced c))
          → Does r s t (exchanged_deeds c b k) (if b && is_run k
          then At (Run (is_forced c) (closure_begun (Value v))) else in_look c retries (if b && is_mark k
          then At (look.Decide (marked v)) else looked_by v k))
      exchanges true Runs may = record {
        needed = (((sort, may refl), tt), tt);
        role = put_same s.role t _ ∙ ap (λ (d : Role). record d { retries = None; claims = Some Running }) is;
      }
      exchanges true Marks may = record { needed = (tt, tt); role = is }
      exchanges true (Ends answer) may = looks (Ends answer)
      exchanges true Parks may = looks Parks
      exchanges false Runs may = looks Runs
      exchanges false Marks may = looks Marks
      exchanges false Parks may = looks Parks
      exchanges false (Ends answer) may = looks (Ends answer)

  -- a run ends
  module _ (forced succeeded : Bool) (is : s.role t ≡ running_role) where
    runs : s.lock.phase ≡ InProgress t
    runs = h.held t Running (ap (λ (d : Role). d.claims) is)

    quiet : ((s.role t).wakes ≡ None) × ((s.role t).bit_pending ≡ false)
    quiet = (ap (λ (d : Role). d.wakes) is, ap (λ (d : Role). d.bit_pending) is)

    ends_run : (b : Bool) → s.parked ≡ b → Does r s t (closes succeeded b)
        (in_run forced (if b then At (run.Enter succeeded) else Over (ended succeeded)))
    ends_run true e = by_end succeeded
      where
        by_end : (ok : Bool) → Does r s t (closes ok true) (At (Run forced (run.Enter ok)))
        by_end true = record {
          needed = (((sort, runs), quiet), tt);
          role = put_same s.role t _ ∙ (λ i. record (is i) {
            wakes = seen_main (e i);
            bit_pending = e i;
            claims = (taking_role true).claims;
          });
        }
        by_end false = record {
          needed = (((sort, runs), quiet), tt);
          role = put_same s.role t _ ∙ (λ i. record (is i) {
            wakes = seen_main (e i);
            bit_pending = e i;
            claims = None;
          });
        }
    ends_run false e = by_end succeeded
      where
        out : (ok : Bool) → (after_deed r (Case (OfOnce (run_ending ok))) s t).role t ≡ record running_role
            { claims = (taking_role ok).claims }
        out true = put_same s.role t _ ∙ (λ i. record (is i) {
          wakes = seen_main (e i);
          bit_pending = e i;
          claims = (taking_role true).claims;
        })
        out false = put_same s.role t _ ∙ (λ i. record (is i) {
          wakes = seen_main (e i);
          bit_pending = e i;
          claims = None;
        })

        may_end : (ok : Bool) → AllNeeded r (End ∷ []) (after_deed r (Case (OfOnce (run_ending ok))) s t) t
        may_end ok = (
          (
            ap (λ (d : Role). d.inside) (out ok),
            ap (λ (d : Role). d.wakes) (out ok),
            ap (λ (d : Role). d.has_taken) (out ok),
            λ some. absurd (let f : false ≡ true =
                sym (ap (λ (d : Role). counts_some r.sort d.retries) (out ok)) ∙ some in cc),
          ),
          tt,
        )

        by_end : (ok : Bool) → Does r s t (closes ok false) (Over (ended ok))
        by_end true = record {
          needed = (((sort, runs), quiet), may_end true);
          role = put_same (after_deed r (Case (OfOnce Finish)) s t).role t idle;
        }
        by_end false = record {
          needed = (((sort, runs), quiet), may_end false);
          role = put_same (after_deed r (Case (OfOnce Fail)) s t).role t idle;
        }

-- ---------------------------------------------------------------- each place

module _ (r : Rules) (s : Site) (t l : ℕ) where
  may_start : (c : OnceCall) (k : Course) → course_of c (word_of s) ≡ k → k ≡ Runs
      → MayStart s.lock.phase (is_forced c)
  may_start c k e f = let may : MayGo c s.parked s.lock.phase Runs = subst (MayGo c s.parked s.lock.phase) (e
      ∙ f) (may_go c s.parked s.lock.phase) in may.0

  follows : (p : OncePlace) (f : Op) → IsAt r s t p → once_act l p ≡ act.Word l f
      → Follows r s t p (Value (word_of s))
  follows (Look c retries look.Load) f a is =
      let d = looks r s t a.sort a.site c retries (word_of s) a.role (course_of c (word_of s)) in record {
        needed = d.needed;
        role = d.role;
      }
  follows (Look c retries (look.Decide expected)) f a is =
      let k = course_of c (word_of s) in
      let d = exchanges r s t a.sort a.site c retries (word_of s) a.role (word_of s == expected) k
      (may_start c k refl) in
      record { needed = d.needed; role = d.role }
  follows (Look c retries look.Check) f a is = absurd cc
  follows (Look c retries (look.Leave parked)) f a is = absurd cc
  follows (Look c retries look.Asleep) f a is = absurd cc
  follows (Look c retries (look.Taken by)) f a is = absurd cc
  follows (Run forced (run.Close succeeded)) f a is =
      let d = ends_run r s t a.sort a.site forced succeeded a.role (is_marked (word_of s))
      (sym (marks_tell s.parked s.lock.phase)) in
      record { needed = d.needed; role = d.role }
  follows (Run forced (run.Closure poisoned)) f a is = absurd cc
  follows (Run forced (run.Enter succeeded)) f a is = absurd cc
  follows (Run forced (run.Take succeeded)) f a is = absurd cc
  follows (Run forced (run.Leave succeeded any)) f a is = absurd cc
  follows (GiveUp retries give_up.Clear) f a is = record {
    needed = (ap (λ (d : Role). d.empty) a.role, tt);
    role = put_same s.role t _ ∙ ap (λ (d : Role). record d { empty = None; will_bring = false }) a.role;
  }
  follows (GiveUp retries give_up.Remove) f a is = absurd cc
  follows (GiveUp retries give_up.Leave) f a is = absurd cc

pub once_steps_follow : OnceStepsFollow
once_steps_follow r s t l p f a is = subst (λ v. Follows r s t p (Value v)) (sym (coded r s a.sort))
    (follows r s t l p f a is)

-- ---------------------------------------------------------------- the word

module _ (r : Rules) (s : Site) (t l : ℕ) (a : r.sort ≡ Once) where
  abbrev v : ℕ
  v = word_of s

  looked_word : (k : Course) → word_of (after_all r (looked_deeds k) s t) ≡ v
  looked_word (Ends answer) = refl
  looked_word Runs = refl
  looked_word Marks = refl
  looked_word Parks = refl

  -- an exchange that it won
  won : (c : OnceCall) (f : Op) (k : Course) → course_act l v k ≡ act.Word l f
      → apply f v ≡ word_of (after_all r (exchanged_deeds c true k) s t)
  won c f (Ends answer) is = let e : op.Load ≡ f = cc in rw (← e) refl
  won c f Runs is = let e : op.Exchange v (started v) ≡ f = cc
      in rw (← e) (ap (λ b. if b then started v else v) (same v) ∙ started_is s.parked s.lock.phase t)
    where
      same : (n : ℕ) → (n == n) ≡ true
      same n = grind (arith, nat_tests)
  won c f Marks is = let e : op.Exchange v (marked v) ≡ f = cc
      in rw (← e) (ap (λ b. if b then marked v else v) (same v) ∙ marked_is s.parked s.lock.phase)
    where
      same : (n : ℕ) → (n == n) ≡ true
      same n = grind (arith, nat_tests)
  won c f Parks is = absurd cc

  -- An exchange that missed leaves the word.
  lost : (expected : ℕ) (f : Op) (k : Course) → (v == expected) ≡ false → course_act l expected k
      ≡ act.Word l f → apply f v ≡ v
  lost expected f (Ends answer) other is = let e : op.Load ≡ f = cc in rw (← e) refl
  lost expected f Runs other is = let e : op.Exchange expected (started expected) ≡ f = cc
      in rw (← e) (ap (λ b. if b then started expected else v) other)
  lost expected f Marks other is = let e : op.Exchange expected (marked expected) ≡ f = cc
      in rw (← e) (ap (λ b. if b then marked expected else v) other)
  lost expected f Parks other is = absurd cc

  lost_word : (c : OnceCall) (k : Course) → word_of (after_all r (exchanged_deeds c false k) s t) ≡ v
  lost_word c (Ends answer) = refl
  lost_word c Runs = refl
  lost_word c Marks = refl
  lost_word c Parks = refl

  exchanged_word : (c : OnceCall) (expected : ℕ) (f : Op) (b : Bool) → (v == expected) ≡ b
      → course_act l expected (course_of c expected) ≡ act.Word l f
      → apply f v ≡ word_of (after_all r (exchanged_deeds c b (course_of c v)) s t)
  exchanged_word c expected f true e is = won c f (course_of c v) (let same : v ≡ expected =
      eqb-true v expected e in subst (λ n. course_act l n (course_of c n) ≡ act.Word l f) (sym same) is)
  exchanged_word c expected f false e is = lost expected f (course_of c expected) e is
      ∙ sym (lost_word c (course_of c v))

  closed_word : (succeeded b : Bool) → word_after succeeded ≡ word_of (after_all r (closes succeeded b) s t)
  closed_word true true = refl
  closed_word true false = refl
  closed_word false true = refl
  closed_word false false = refl

  leaves_word : (p : OncePlace) (f : Op) → once_act l p ≡ act.Word l f → apply f v ≡ word_of
      (after_all r (once_deeds p (Value v)) s t)
  leaves_word (Look c retries look.Load) f is = let e : op.Load ≡ f = cc
      in rw (← e) (sym (looked_word (course_of c v)))
  leaves_word (Look c retries (look.Decide expected)) f is = exchanged_word c expected f (v == expected) refl
      is
  leaves_word (Look c retries look.Check) f is = absurd cc
  leaves_word (Look c retries (look.Leave parked)) f is = absurd cc
  leaves_word (Look c retries look.Asleep) f is = absurd cc
  leaves_word (Look c retries (look.Taken by)) f is = absurd cc
  leaves_word (Run forced (run.Close succeeded)) f is = let e : op.Swap (word_after succeeded) ≡ f = cc
      in rw (← e) (closed_word succeeded (is_marked v))
  leaves_word (Run forced (run.Closure poisoned)) f is = absurd cc
  leaves_word (Run forced (run.Enter succeeded)) f is = absurd cc
  leaves_word (Run forced (run.Take succeeded)) f is = absurd cc
  leaves_word (Run forced (run.Leave succeeded any)) f is = absurd cc
  leaves_word (GiveUp retries give_up.Clear) f is = let e : op.And NOT_PARKED ≡ f = cc
      in rw (← e) (unmarked_is s.parked s.lock.phase)
  leaves_word (GiveUp retries give_up.Remove) f is = absurd cc
  leaves_word (GiveUp retries give_up.Leave) f is = absurd cc

pub once_steps_code : OnceStepsCode
once_steps_code r s t l p f a is =
    subst (λ v. apply f v ≡ code r (after_all r (once_deeds p (Value v)) s t)) (sym (coded r s a.sort))
    (leaves_word r s t l a.sort p f is
    ∙ sym (coded r (after_all r (once_deeds p (Value (word_of s))) s t) a.sort))

-- ---------------------------------------------------------------- how far it has come

module _ (r : Rules) (s : Site) (t l v : ℕ) (shared : List ℕ) (o : Owners) (main second : List Waiter)
    (taken : ℕ → Option Taken) (e : s.lock ≡ lock_seen shared o main second taken) where
  abbrev seen : Owners → LockState
  seen owners = lock_seen shared owners main second taken

  exchanged_lock : (c : OnceCall) (b : Bool) (k : Course)
      → seen (if b && is_run k then record o { phase = phases.InProgress t } else o)
      ≡ (after_all r (exchanged_deeds c b k) s t).lock
  exchanged_lock c true Runs = ap (λ (x : LockState). record x { phase = InProgress t }) (sym e)
  exchanged_lock c true Marks = sym e
  exchanged_lock c true Parks = sym e
  exchanged_lock c true (Ends answer) = sym e
  exchanged_lock c false Runs = sym e
  exchanged_lock c false Marks = sym e
  exchanged_lock c false Parks = sym e
  exchanged_lock c false (Ends answer) = sym e

  looked_lock : (k : Course) → seen o ≡ (after_all r (looked_deeds k) s t).lock
  looked_lock (Ends answer) = sym e
  looked_lock Runs = sym e
  looked_lock Marks = sym e
  looked_lock Parks = sym e

  closed_lock : (succeeded b : Bool) → seen (record o { phase = phase_afterwards succeeded })
      ≡ (after_all r (closes succeeded b) s t).lock
  closed_lock true true = ap (λ (x : LockState). record x { phase = Done }) (sym e)
  closed_lock true false = ap (λ (x : LockState). record x { phase = Done }) (sym e)
  closed_lock false true = ap (λ (x : LockState). record x { phase = Poisoned }) (sym e)
  closed_lock false false = ap (λ (x : LockState). record x { phase = Poisoned }) (sym e)

  leaves_lock : (p : OncePlace) (f : Op) → once_act l p ≡ act.Word l f → seen (once_owners p t v o)
      ≡ (after_all r (once_deeds p (Value v)) s t).lock
  leaves_lock (Look c retries look.Load) f is = looked_lock (course_of c v)
  leaves_lock (Look c retries (look.Decide expected)) f is = exchanged_lock c (v == expected) (course_of c v)
  leaves_lock (Look c retries look.Check) f is = absurd cc
  leaves_lock (Look c retries (look.Leave parked)) f is = absurd cc
  leaves_lock (Look c retries look.Asleep) f is = absurd cc
  leaves_lock (Look c retries (look.Taken by)) f is = absurd cc
  leaves_lock (Run forced (run.Close succeeded)) f is = closed_lock succeeded (is_marked v)
  leaves_lock (Run forced (run.Closure poisoned)) f is = absurd cc
  leaves_lock (Run forced (run.Enter succeeded)) f is = absurd cc
  leaves_lock (Run forced (run.Take succeeded)) f is = absurd cc
  leaves_lock (Run forced (run.Leave succeeded any)) f is = absurd cc
  leaves_lock (GiveUp retries give_up.Clear) f is = sym e
  leaves_lock (GiveUp retries give_up.Remove) f is = absurd cc
  leaves_lock (GiveUp retries give_up.Leave) f is = absurd cc

pub once_owners_follow : OnceOwnersFollow
once_owners_follow r s t l p f shared o main second taken a is e = leaves_lock r s t l (code r s) shared o
    main second taken e p f is
