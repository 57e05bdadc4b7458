-- Each step of a `Once` makes of its call what its row says, and its answer is true.
use Rattle.std.proofs.Common.{ℕ, Bool, true, false, Some, None, if◌then◌else◌, ◌==◌, ◌≡◌, List, [], refl, sym}
use Rattle.std.proofs.Common.{ap, ◌∙◌, subst}
use Rattle.std.specs.Prelude.{◌&&◌}
use Rattle.core_base.specs.declared.ops.Op.{Op}
use Rattle.spec_locks.specs.declared.calls.OnceCall.{OnceCall}
use Rattle.spec_locks.specs.declared.calls.OnceCall.TheVariants.{CallOnce, Wait, WaitTimed}
use Rattle.spec_locks.specs.declared.outcomes.Answer.TheVariants as answer
use Rattle.steps_base.specs.declared.acts.Act.TheVariants as act
use Rattle.steps_base.specs.declared.acts.Next.{Next}
use Rattle.steps_base.specs.declared.acts.Next.TheVariants.{At, End as Over}
use Rattle.steps_base.specs.declared.acts.Reply.{Reply}
use Rattle.steps_base.specs.declared.acts.Reply.TheVariants as reply
use Rattle.steps_base.specs.Calls.{CallFollows, IsNotLate, call_by, rights_where}
use Rattle.spec_locks.specs.Onces.{Done, Poisoned}
use Rattle.spec_locks.specs.Locks.{Late, Rules, Rights, LockState, after_case, rights_of}
use Rattle.spec_locks.specs.Runs.{LocksState, CallState, Keeps, AnswerHolds}
use Rattle.spec_locks.specs.Purposes.{once_purpose}
use Rattle.spec_locks.specs.Sites.{Site, Deed, Role, Ran}
use Rattle.spec_locks.specs.Codes.{is_marked, is_poisoned}
use Rattle.spec_locks.proofs.Rights.{unchanged}
use Rattle.steps_once.specs.declared.look.LookAt.TheVariants as look
use Rattle.steps_once.specs.declared.look.Course.{Course}
use Rattle.steps_once.specs.declared.look.Course.TheVariants.{Ends, Runs, Marks, Parks}
use Rattle.steps_once.specs.declared.run.RunAt.TheVariants as run
use Rattle.steps_once.specs.declared.give_up.GiveUpAt.TheVariants as give_up
use Rattle.steps_once.specs.declared.places.OncePlace.{OncePlace}
use Rattle.steps_once.specs.declared.places.OncePlace.TheVariants.{Look, Run, GiveUp}
use Rattle.steps_once.specs.OnceSteps.{is_forced, is_timed, runs, course_of, is_run, is_mark, marked}
use Rattle.steps_once.specs.OnceSteps.{closure_begun, looked_by, in_look, in_run, ended, once_act, once_next}
use Rattle.steps_once.specs.OnceProfiles.{once_profile}
use Rattle.steps_once.specs.OnceDeeds.{IsAt, MayReply, once_deeds, looked_deeds, exchanged_deeds, closes}
use Rattle.steps_once.specs.OnceCalls.{next_row, CallFollowsBy, OnceStepsTell, OnceSectionsTell}
use Rattle.steps_once.proofs.OnceWords.{word_of, coded, MayGo, may_go}

recalls : (c : CallState) (f : ℕ → Rights) → ((k : ℕ) → f k ≡ c.former k) → record c { former = f } ≡ c
recalls c f e = λ i. record c { former = λ k. e k i }

module _ (r : Rules) (s : Site) (t l : ℕ) where
  abbrev Tells : OncePlace → List Deed → Next OncePlace → Type 0
  Tells p ds n = CallFollows r s.lock t l (once_profile p) ds (next_row n)

  -- nobody's rights change
  same : (s2 : LockState) → rights_of s2 t ≡ rights_of s.lock t → (rights : ℕ → Rights) → rights l
      ≡ rights_of s.lock t → (k : ℕ) → rights_where l s2 t rights k ≡ rights k
  same s2 e rights is k = sym (unchanged rights l (rights_of s2 t) (is ∙ sym e) k)

  -- ---------------------------------------------------------------- a thread that looks

  module _ (c : OnceCall) (retries : Bool) where
    -- a call that ends has what it found
    ends_ok : s.lock.phase ≡ Done → is_timed c ≡ false → (v : LocksState) (call : CallState)
        → call.failed ≡ false → v.locks l ≡ s.lock → Keeps v t call
        → AnswerHolds (Some (once_purpose l c)) v t call answer.Ok
    ends_ok e untimed v call fresh now keeps = by_call c untimed
      where
        by_call : (c : OnceCall) → is_timed c ≡ false → AnswerHolds (Some (once_purpose l c)) v t call
            answer.Ok
        by_call (CallOnce forced) f = (fresh, ap (λ (x : LockState). x.phase) now ∙ e, keeps)
        by_call (Wait forced) f = (ap (λ (x : LockState). x.phase) now ∙ e, keeps)
        by_call WaitTimed f = absurd cc

    ends_yes : s.lock.phase ≡ Done → is_timed c ≡ true → (v : LocksState) (call : CallState)
        → v.locks l ≡ s.lock → Keeps v t call → AnswerHolds (Some (once_purpose l c)) v t call answer.Yes
    ends_yes e timed v call now keeps = by_call c timed
      where
        by_call : (c : OnceCall) → is_timed c ≡ true → AnswerHolds (Some (once_purpose l c)) v t call
            answer.Yes
        by_call (CallOnce forced) f = absurd cc
        by_call (Wait forced) f = absurd cc
        by_call WaitTimed f = (ap (λ (x : LockState). x.phase) now ∙ e, keeps)

    ends_poisoned : s.lock.phase ≡ Poisoned → is_forced c ≡ false → (v : LocksState) (call : CallState)
        → call.failed ≡ false → v.locks l ≡ s.lock → Keeps v t call
        → AnswerHolds (Some (once_purpose l c)) v t call answer.Poisoned
    ends_poisoned e unforced v call fresh now keeps = by_call c unforced
      where
        by_call : (c : OnceCall) → is_forced c ≡ false → AnswerHolds (Some (once_purpose l c)) v t call
            answer.Poisoned
        by_call (CallOnce forced) f = (fresh, ap (λ (x : LockState). x.phase) now ∙ e, f, keeps)
        by_call (Wait forced) f = (ap (λ (x : LockState). x.phase) now ∙ e, f, keeps)
        by_call WaitTimed f = (ap (λ (x : LockState). x.phase) now ∙ e, refl, keeps)

    -- the thread looks on, at a place of the same row
    looks_on : (seen : ℕ) → Tells (Look c retries look.Load) [] (At (Look c retries (look.Decide seen)))
    looks_on seen = record {
      one = tt;
      may = tt;
      comes = λ rights is. recalls _ _ (same s.lock refl rights is);
    }

    looks : (v : ℕ) (k : Course) → MayGo c s.parked s.lock.phase k → Tells (Look c retries look.Load)
        (looked_deeds k) (in_look c retries (looked_by v k))
    looks v (Ends answer.Ok) may = record {
      one = tt;
      may = tt;
      comes = λ w rights ruled now is has. ends_ok may.0 may.1 w
          (call_by l (once_profile (Look c retries look.Load)) rights) refl now (λ k. has k
          ∙ same s.lock refl rights is k);
    }
    looks v (Ends answer.Yes) may = record {
      one = tt;
      may = tt;
      comes = λ w rights ruled now is has. ends_yes may.0 may.1 w
          (call_by l (once_profile (Look c retries look.Load)) rights) now (λ k. has k
          ∙ same s.lock refl rights is k);
    }
    looks v (Ends answer.Poisoned) may = record {
      one = tt;
      may = tt;
      comes = λ w rights ruled now is has. ends_poisoned may.0 may.1 w
          (call_by l (once_profile (Look c retries look.Load)) rights) refl now (λ k. has k
          ∙ same s.lock refl rights is k);
    }
    looks v (Ends other) may = absurd may
    looks v Runs may = looks_on v
    looks v Marks may = looks_on v
    looks v Parks may = looks_on v

  -- after an exchange
  starts : (c : OnceCall) (retries poisoned : Bool) → runs c ≡ true → Tells (Look c retries look.Load)
      (exchanged_deeds c true Runs) (At (Run (is_forced c) (run.Closure poisoned)))
  starts (CallOnce forced) retries poisoned is_run = record {
    one = tt;
    may = ((refl, refl), tt);
    comes = λ rights is. recalls _ _ (same s.lock refl rights is);
  }
  starts (Wait forced) retries poisoned is_run = absurd cc
  starts WaitTimed retries poisoned is_run = absurd cc

  exchanges : (c : OnceCall) (retries : Bool) (v : ℕ) (b : Bool) (k : Course)
      → MayGo c s.parked s.lock.phase k
      → Tells (Look c retries look.Load) (exchanged_deeds c b k) (if b && is_run k
      then At (Run (is_forced c) (closure_begun (reply.Value v))) else in_look c retries
      (if b && is_mark k then At (look.Decide (marked v)) else looked_by v k))
  exchanges c retries v true Runs may = starts c retries (is_poisoned v) may.1
  exchanges c retries v true Marks may = looks_marked
    where
      looks_marked : Tells (Look c retries look.Load) (exchanged_deeds c true Marks)
          (At (Look c retries (look.Decide (marked v))))
      looks_marked = record {
        one = tt;
        may = tt;
        comes = λ rights is. recalls _ _ (same s.lock refl rights is);
      }
  exchanges c retries v true (Ends a) may = looks c retries v (Ends a) may
  exchanges c retries v true Parks may = looks c retries v Parks may
  exchanges c retries v false Runs may = looks c retries v Runs may
  exchanges c retries v false Marks may = looks c retries v Marks may
  exchanges c retries v false Parks may = looks c retries v Parks may
  exchanges c retries v false (Ends a) may = looks c retries v (Ends a) may

  -- ---------------------------------------------------------------- runners

  closes_tell : (forced ok b : Bool) → Tells (Run forced (run.Close ok)) (closes ok b)
      (in_run forced (if b then At (run.Enter ok) else Over (ended ok)))
  closes_tell forced true true = record {
    one = tt;
    may = ((refl, tt), tt);
    comes = λ rights is. recalls _ _ (same s.lock refl rights is);
  }
  closes_tell forced false true = record {
    one = tt;
    may = ((refl, tt), tt);
    comes = λ rights is. recalls _ _ (same s.lock refl rights is);
  }
  closes_tell forced true false = record {
    one = tt;
    may = ((refl, tt), tt);
    comes = λ w rights ruled now is has. (
      refl,
      ap (λ (x : LockState). x.phase) now,
      λ k. has k
          ∙ same s.lock refl rights is k,
    );
  }
  closes_tell forced false false = record {
    one = tt;
    may = ((refl, tt), tt);
    comes = λ w rights ruled now is has. (refl, λ k. has k ∙ same s.lock refl rights is k);
  }

  leaves_tell : (forced ok any : Bool) → (ok ≡ true → s.lock.phase ≡ Done)
      → Tells (Run forced (run.Leave ok any)) (once_deeds (Run forced (run.Leave ok any)) reply.Done)
      (Over (ended ok))
  leaves_tell forced true true done = record {
    one = tt;
    may = ((refl, tt), tt);
    comes = λ w rights ruled now is has. (
      refl,
      ap (λ (x : LockState). x.phase) now ∙ done refl,
      λ k. has k
          ∙ same s.lock refl rights is k,
    );
  }
  leaves_tell forced true false done = record {
    one = tt;
    may = tt;
    comes = λ w rights ruled now is has. (
      refl,
      ap (λ (x : LockState). x.phase) now ∙ done refl,
      λ k. has k
          ∙ same s.lock refl rights is k,
    );
  }
  leaves_tell forced false true done = record {
    one = tt;
    may = ((refl, tt), tt);
    comes = λ w rights ruled now is has. (refl, λ k. has k ∙ same s.lock refl rights is k);
  }
  leaves_tell forced false false done = record {
    one = tt;
    may = tt;
    comes = λ w rights ruled now is has. (refl, λ k. has k ∙ same s.lock refl rights is k);
  }

  -- ---------------------------------------------------------------- each place

  words : (p : OncePlace) (f : Op) → IsAt r s t p → once_act l p ≡ act.Word l f
      → CallFollowsBy r s t l p (reply.Value (word_of s))
  words (Look c retries look.Load) f a is = looks c retries (word_of s) (course_of c (word_of s))
      (may_go c s.parked s.lock.phase)
  words (Look c retries (look.Decide expected)) f a is =
      exchanges c retries (word_of s) (word_of s == expected) (course_of c (word_of s))
      (may_go c s.parked s.lock.phase)
  words (Look c retries look.Check) f a is = absurd cc
  words (Look c retries (look.Leave parked)) f a is = absurd cc
  words (Look c retries look.Asleep) f a is = absurd cc
  words (Look c retries (look.Taken by)) f a is = absurd cc
  words (Run forced (run.Close ok)) f a is = closes_tell forced ok (is_marked (word_of s))
  words (Run forced (run.Closure poisoned)) f a is = absurd cc
  words (Run forced (run.Enter ok)) f a is = absurd cc
  words (Run forced (run.Take ok)) f a is = absurd cc
  words (Run forced (run.Leave ok any)) f a is = absurd cc
  words (GiveUp retries give_up.Clear) f a is = record {
    one = tt;
    may = tt;
    comes = λ rights is. recalls _ _ (same s.lock refl rights is);
  }
  words (GiveUp retries give_up.Remove) f a is = absurd cc
  words (GiveUp retries give_up.Leave) f a is = absurd cc

  rests : (c : OnceCall) (retries : Bool) → Tells (Look c retries look.Check)
      (once_deeds (Look c retries look.Check) (reply.Parked true)) (once_next (Look c retries look.Check)
      (reply.Parked true))
  rests (CallOnce forced) true = record {
    one = tt;
    may = ((refl, (refl, refl)), tt);
    comes = λ rights is. recalls _ _ (same s.lock refl rights is);
  }
  rests (CallOnce forced) false = record {
    one = tt;
    may = ((refl, (refl, refl)), tt);
    comes = λ rights is. recalls _ _ (same s.lock refl rights is);
  }
  rests (Wait forced) true = record {
    one = tt;
    may = ((refl, (refl, refl)), tt);
    comes = λ rights is. recalls _ _ (same s.lock refl rights is);
  }
  rests (Wait forced) false = record {
    one = tt;
    may = ((refl, (refl, refl)), tt);
    comes = λ rights is. recalls _ _ (same s.lock refl rights is);
  }
  rests WaitTimed true = record {
    one = tt;
    may = ((refl, (refl, refl)), tt);
    comes = λ rights is. recalls _ _ (same s.lock refl rights is);
  }
  rests WaitTimed false = record {
    one = tt;
    may = ((refl, (refl, refl)), tt);
    comes = λ rights is. recalls _ _ (same s.lock refl rights is);
  }

  turns : (c : OnceCall) (retries : Bool) → Tells (Look c retries look.Check) []
      (once_next (Look c retries look.Check) (reply.Parked false))
  turns c true = record { one = tt; may = tt; comes = λ rights is. recalls _ _ (same s.lock refl rights is) }
  turns c false = record { one = tt; may = tt; comes = λ rights is. recalls _ _ (same s.lock refl rights is) }

  -- the thread leaves the queue
  removes : (retries none_left : Bool) → Tells (GiveUp retries give_up.Remove)
      (once_deeds (GiveUp retries give_up.Remove) (reply.Removed none_left))
      (once_next (GiveUp retries give_up.Remove) (reply.Removed none_left))
  removes retries true = record {
    one = tt;
    may = ((refl, (refl, refl)), refl);
    comes = λ rights is. recalls _ _ (same (after_case r Late s.lock t) refl rights is);
  }
  removes retries false = record {
    one = tt;
    may = ((refl, (refl, refl)), refl);
    comes = λ rights is. recalls _ _ (same (after_case r Late s.lock t) refl rights is);
  }

  sections : (p : OncePlace) (told : Reply) → IsAt r s t p → MayReply r s t p told → IsNotLate told
      → CallFollowsBy r s t l p told
  sections (Look c retries (look.Decide seen)) reply.Done a h now = record {
    one = tt;
    may = tt;
    comes = λ rights is. recalls _ _ (same s.lock refl rights is);
  }
  sections (Look c retries look.Check) (reply.Parked true) a h now = rests c retries
  sections (Look c retries look.Check) (reply.Parked false) a h now = turns c retries
  sections (Look c retries (look.Leave true)) reply.Done a h now = record {
    one = tt;
    may = tt;
    comes = λ rights is. recalls _ _ (same s.lock refl rights is);
  }
  sections (Look c retries (look.Leave false)) reply.Done a h now = record {
    one = tt;
    may = tt;
    comes = λ rights is. recalls _ _ (same s.lock refl rights is);
  }
  sections (Run forced (run.Enter ok)) reply.Done a h now = record {
    one = tt;
    may = tt;
    comes = λ rights is. recalls _ _ (same s.lock refl rights is);
  }
  sections (Run forced (run.Take ok)) (reply.Took any none_left) a h now = record {
    one = tt;
    may = ((refl, tt), tt);
    comes = λ rights is. recalls _ _ (same s.lock refl rights is);
  }
  sections (Run forced (run.Leave ok any)) reply.Done a h now =
      leaves_tell forced ok any (λ e. a.site.held t Ran (ap (λ (d : Role). d.claims) a.role
      ∙ ap (λ b. if b then Some Ran else None) e))
  sections (GiveUp retries give_up.Remove) (reply.Removed none_left) a h now = removes retries none_left
  sections (GiveUp retries give_up.Leave) reply.Done a h now = record {
    one = tt;
    may = tt;
    comes = λ w rights ruled now is has. (refl, λ k. has k ∙ same s.lock refl rights is k);
  }
  sections (Look c retries look.Asleep) reply.Late a h now = absurd now
  sections p told a h now = absurd h

pub once_steps_tell : OnceStepsTell
once_steps_tell r s t l p f a is = subst (λ v. CallFollowsBy r s t l p (reply.Value v))
    (sym (coded r s a.sort)) (words r s t l p f a is)

pub once_sections_tell : OnceSectionsTell
once_sections_tell r s t l p told a h now = sections r s t l p told a h now
