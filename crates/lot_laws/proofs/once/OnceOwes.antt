-- A thread in a call of a `Once` owes a wake from the end of its run on, where that saw waiters, or from
-- entering the section, until it leaves it.
use Rattle.lot_laws.proofs.Imports
use Imports.{ℕ, Bool, true, false, Option, Some, None, if◌then◌else◌, ◌≡◌, inl, inr, refl, sym, ◌∙◌, ap, subst}
use Imports.{OnceCall, WaitTimed, Next, Reply, outcome_of, Line, Main, is_marked, GiveUpAt, LookAt, RunAt}
use Imports.{OncePlace, Run, GiveUp, begins_run, ended, closure_begun, in_look, in_run, is_forced, next_look}
use Imports.{once_act, once_next, run_act, is_late_asleep, give_up_act, in_give_up, is_timed, next_give_up}
use Imports.{retried_want, once_profile, run_row, act_of, once_does, once_goes, profile, State, reply_to}
use Imports.{word_at, tells_by, tells_of}
use Rattle.spec_locks.specs.declared.calls.OnceCall.TheVariants.{CallOnce, Wait}
use Rattle.steps_base.specs.declared.acts.Next.TheVariants as next
use Rattle.steps_base.specs.declared.acts.Reply.TheVariants as reply
use Rattle.spec_locks.specs.Locks as locks
use Rattle.steps_once.specs.declared.give_up.GiveUpAt.TheVariants as give_up
use Rattle.steps_once.specs.declared.run.RunAt.TheVariants as run
use Rattle.steps_once.specs.declared.places.OncePlace.TheVariants.{Look}
use Rattle.steps_once.specs.OnceSteps.{still_retries}
use Rattle.lot_laws.proofs.once.OnceRows.{gives_up_quietly, lets_nobody, look_owes}
use Rattle.lot_laws.proofs.promises.RowPromises.{RowOwesNext, RowOwesThen, owes_then}

-- a call of a `Once` looks nowhere first
tells_so : (l : ℕ) (at : OncePlace) (m : Line) (v : ℕ)
    → tells_by locks.Once (Some ((once_profile at).purpose l)) m v ≡ tells_of locks.Once m v
tells_so l (Look (CallOnce forced) again at) m v = refl
tells_so l (Look (Wait forced) again at) m v = refl
tells_so l (Look WaitTimed again at) m v = refl
tells_so l (Run forced at) m v = refl
tells_so l (GiveUp again at) m v = refl

-- ---------------------------------------------------------------- a thread that looks, or waits

found_owes : (r : Reply) → (run_row (closure_begun r)).owes ≡ None
found_owes (reply.Value seen) = refl
found_owes r = refl

-- after its look: a run has begun, it gives up, or it looks on
abbrev LooksOn : OnceCall → Bool → Bool → Reply → (b late : Bool) → Next LookAt → Next OncePlace
LooksOn c again still r b late n =
    if b then next.At (Run (is_forced c) (closure_begun r)) else if late then next.At
    (GiveUp again give_up.Remove) else in_look c still n

look_since : (l : ℕ) (c : OnceCall) (again still : Bool) (r : Reply) (b late : Bool) (n : Next LookAt)
    (m : Line)
    → (profile (once_goes l (LooksOn c again still r b late n))).owes ≡ Some m
    → (profile (once_goes l (LooksOn c again still r b late n))).role.inside ≡ Some m
look_since l c again still r true late n m h = absurd (let f : ◌≡◌ {A = Option Line} None (Some m) =
    sym (found_owes r) ∙ h in cc)
look_since l c again still r false true n m h = h
look_since l c again still r false false (next.At at) m h = look_owes (is_timed c) (retried_want c still) at m
    h
look_since l c again still r false false (next.End answer) m h = absurd cc

-- ---------------------------------------------------------------- a thread that runs its closure

abbrev RunOwes : ℕ → ℕ → Bool → RunAt → Next RunAt → Type 0
RunOwes l word forced at n =
    RowOwesNext locks.Once l word (once_profile (Run forced at)) (outcome_of (once_does l (in_run forced n)))
    (profile (once_goes l (in_run forced n)))

-- the thread has swapped its word in, and saw whether somebody may wait
closes_owing : (l word : ℕ) (forced succeeded b : Bool) → is_marked word ≡ b
    → RunOwes l word forced (run.Close succeeded) (if b then next.At (run.Enter succeeded) else next.End
    (ended succeeded))
closes_owing l word forced succeeded true marked = record {
  since = λ m h. let e : Main ≡ m = cc
      in inr ((inl (refl, refl), e, subst (λ n. tells_of locks.Once n word ≡ true) e marked), refl);
  sees = λ m s step. ap Some s.1;
}
closes_owing l word forced succeeded false marked = record {
  since = λ m h. absurd cc;
  sees = λ m s step. absurd cc;
}

-- inside the section it owes
inside_owing : (l word : ℕ) (forced : Bool) (at to : RunAt) → (run_row to).owes ≡ Some Main
    → (run_row to).role.inside ≡ Some Main → RunOwes l word forced at (next.At to)
inside_owing l word forced at to owes within = record {
  since = λ m h. inl (within ∙ sym owes ∙ h);
  sees = λ m s step. owes ∙ ap Some s.1;
}

run_owing : (w : State) (t l : ℕ) (forced : Bool) (at : RunAt)
    → RowOwesNext locks.Once l (word_at w l) (once_profile (Run forced at))
    (outcome_of (once_does l (once_next (Run forced at) (reply_to w t (run_act l at)))))
    (profile (once_goes l (once_next (Run forced at) (reply_to w t (run_act l at)))))
run_owing w t l forced (run.Closure poisoned) = record {
  since = λ m h. absurd cc;
  sees = λ m s step. absurd cc;
}
run_owing w t l forced (run.Close succeeded) = closes_owing l (word_at w l) forced succeeded
    (is_marked (word_at w l)) refl
run_owing w t l forced (run.Enter succeeded) = inside_owing l (word_at w l) forced (run.Enter succeeded)
    (run.Take succeeded) refl refl
run_owing w t l forced (run.Take succeeded) = inside_owing l (word_at w l) forced (run.Take succeeded)
    (run.Leave succeeded _) refl refl
run_owing w t l forced (run.Leave succeeded any) = record {
  since = λ m h. absurd cc;
  sees = λ m s step. absurd cc;
}

-- ---------------------------------------------------------------- giving up

-- a thread inside the section owes, until it leaves it
give_up_since : (l : ℕ) (again : Bool) (n : Next GiveUpAt) (m : Line)
    → (profile (once_goes l (in_give_up again n))).owes ≡ Some m
    → (profile (once_goes l (in_give_up again n))).role.inside ≡ Some m
give_up_since l again (next.At give_up.Remove) m h = h
give_up_since l again (next.At give_up.Clear) m h = h
give_up_since l again (next.At give_up.Leave) m h = h
give_up_since l again (next.End answer) m h = absurd cc

-- ---------------------------------------------------------------- every place

-- the reply to its act leads a thread on
pub once_owes_next : (w : State) (t l : ℕ) (at : OncePlace) →
    RowOwesThen locks.Once l (word_at w l) (once_profile at)
    (outcome_of (once_does l (once_next at (reply_to w t (once_act l at)))))
    (profile (once_goes l (once_next at (reply_to w t (once_act l at)))))
    (act_of (once_goes l (once_next at (reply_to w t (once_act l at)))))
once_owes_next w t l (Run forced at) = owes_then (λ m. tells_so l (Run forced at) m (word_at w l))
    (run_owing w t l forced at)
once_owes_next w t l (GiveUp again at) = owes_then (λ m. tells_so l (GiveUp again at) m (word_at w l))
    (record {
      since = λ m h. inl (give_up_since l again (next_give_up at (reply_to w t (give_up_act l at))) m h);
      sees = λ m s step. absurd (gives_up_quietly l again at s.0);
    })
once_owes_next w t l (Look c again at) = owes_then (λ m. tells_so l (Look c again at) m (word_at w l))
    (record {
      since = λ m h. inl (look_since l c again (still_retries again r) r (begins_run c at r)
          (is_late_asleep c at r) (next_look c at r) m h);
      sees = λ m s step. absurd (lets_nobody l c again at s.0);
    })
  where
    r : Reply
    r = reply_to w t (once_act l (Look c again at))
