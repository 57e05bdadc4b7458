-- The answer of a call that has stepped alone to its end is true.
use Rattle.lot_laws.proofs.Imports
use Imports.{ℕ, zero, suc, Bool, Option, if◌then◌else◌, ◌≡◌, ◌≢◌, inl, inr, List, [], ◌∷◌, length, replicate, sym}
use Imports.{◌∙◌, ap, subst, Answer, Outcome, Rights, Purpose, LocksState, CallState, IsStep, IsRun, GoesOn}
use Imports.{AnswerHolds, going_on, woken, go_of, GoesOnUntil, last_told}
use Rattle.spec_locks.specs.declared.outcomes.Outcome.TheVariants as outcome
use Rattle.lot_laws.proofs.machine.Parts.{same}
use Rattle.lot_laws.proofs.calls.Purposes.{former_stays, purpose_stays, woken_former, woken_purpose}

-- a call for this has ended with this answer, of a thread that owned so much as it began
pub record HasAnswered (t : ℕ) (purpose : Option Purpose) (former : ℕ → Rights) (a : Answer)
    (v : LocksState) : Type 0 where
  pub call : CallState
  pub purpose_is : call.purpose ≡ purpose
  pub former_is : call.former ≡ former
  pub holds : AnswerHolds purpose v t call a

-- a step of the thread that was possible
pub gone : (w v : LocksState) (t : ℕ) (o : Outcome) → o ≢ outcome.NotNow → IsStep w (go_of t) o v
    → GoesOn w t o v
gone w v t o possible step = elim step.1 [
  | inl does ↦ does.1
  | inr refused ↦ absurd (possible refused.1.0)
]

call_then : (w v : LocksState) (t : ℕ) (g : GoesOn w t outcome.Step v)
    → v.calls t ≡ woken w t g.event t (going_on g.event (w.calls t))
call_then w v t g = g.calls t ∙ ap (λ (b : Bool). if b then woken w t g.event t (going_on g.event (w.calls t))
    else woken w t g.event t (w.calls t)) (same t)

purpose_then : (w v : LocksState) (t : ℕ) → GoesOn w t outcome.Step v → (v.calls t).purpose
    ≡ (w.calls t).purpose
purpose_then w v t g = ap (λ (x : CallState). x.purpose) (call_then w v t g)
    ∙ woken_purpose w t g.event (going_on g.event (w.calls t)) ∙ purpose_stays g.event (w.calls t)

former_then : (w v : LocksState) (t : ℕ) → GoesOn w t outcome.Step v → (v.calls t).former ≡ (w.calls t).former
former_then w v t g = ap (λ (x : CallState). x.former) (call_then w v t g)
    ∙ woken_former w t g.event (going_on g.event (w.calls t)) ∙ former_stays g.event (w.calls t)

pub answered : (told : List Outcome) (w v : LocksState) (t : ℕ) (a : Answer)
    → IsRun w (replicate (length told) (go_of t)) told v
    → GoesOnUntil told → last_told told ≡ outcome.End a → HasAnswered t (w.calls t).purpose (w.calls t).former
    a v
answered [] w v t a run goes is = absurd cc
answered (o ∷ []) w v t a run goes is =
    let g : GoesOn w t o run.0 = gone w run.0 t o goes run.1 in
    ended (subst (λ x. GoesOn w t x run.0) is g)
  where
    ended : GoesOn w t (outcome.End a) run.0 → HasAnswered t (w.calls t).purpose (w.calls t).former a v
    ended g = record {
      call = going_on g.event (w.calls t);
      purpose_is = purpose_stays g.event (w.calls t);
      former_is = former_stays g.event (w.calls t);
      holds = subst (λ (x : LocksState). AnswerHolds (w.calls t).purpose x t (going_on g.event (w.calls t)) a)
          (sym run.2) (subst (λ p. AnswerHolds p run.0 t (going_on g.event (w.calls t)) a)
          (purpose_stays g.event (w.calls t)) g.agrees.0);
    }
answered (o ∷ o2 ∷ os) w v t a run goes is =
    let g : GoesOn w t outcome.Step run.0 = subst (λ x. GoesOn w t x run.0) goes.0
    (gone w run.0 t o (λ e. let f : outcome.NotNow ≡ outcome.Step = sym e ∙ goes.0 in cc) run.1) in
    let ih = answered (o2 ∷ os) run.0 v t a run.2 goes.1 is in
    let p : (run.0.calls t).purpose ≡ (w.calls t).purpose = purpose_then w run.0 t g in
    let f : (run.0.calls t).former ≡ (w.calls t).former = former_then w run.0 t g in
    record {
      call = ih.call;
      purpose_is = ih.purpose_is ∙ p;
      former_is = ih.former_is ∙ f;
      holds = subst (λ x. AnswerHolds x v t ih.call a) p ih.holds;
    }

-- as long as it goes on, its thread owned as it began what it owned then
pub former_kept : (n : ℕ) (w v : LocksState) (t : ℕ) → IsRun w (replicate n (go_of t))
    (replicate n outcome.Step) v
    → (v.calls t).former ≡ (w.calls t).former
former_kept zero w v t run = ap (λ (x : LocksState). (x.calls t).former) run
former_kept (suc n) w v t run =
    let g : GoesOn w t outcome.Step run.0 = gone w run.0 t outcome.Step (λ e. cc) run.1 in
    former_kept n run.0 v t run.2 ∙ former_then w run.0 t g
