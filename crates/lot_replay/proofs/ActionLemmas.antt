-- A thread that begins a call, and goes on alone.
use Rattle.std.proofs.Common.{◌≡◌, ℕ, Bool, true, false, cond, refl, sym, ap, ◌∙◌}
use Rattle.spec_locks.specs.declared.calls.Call.{Call}
use Rattle.spec_locks.specs.declared.calls.Turn.TheVariants.{Begin}
use Rattle.spec_locks.specs.declared.calls.Step.{Step}
use Rattle.spec_locks.specs.declared.outcomes.Outcome.{Outcome}
use Rattle.spec_locks.specs.declared.outcomes.Outcome.TheVariants.{NotNow}
use Rattle.lot_machine.specs.Machine.{State, is_possible, after, step_outcome, turn_outcome}
use Rattle.lot_replay.specs.Stages.{went_alone, did}

abbrev pub begin_of : ℕ → Call → Step
begin_of t call = record { thread = t; turn = Begin call }

begun_by : (b : Bool) (w : State) (t : ℕ) (call : Call) (o : Outcome) → is_possible w (begin_of t call) ≡ b
    → o ≡ step_outcome w (begin_of t call) → (o ≡ NotNow → ⊥) → did w t call
    ≡ went_alone (after w (begin_of t call)) t
begun_by true w t call o p e ne = ap (λ b. cond b (went_alone (after w (begin_of t call)) t) (w, NotNow)) p
begun_by false w t call o p e ne = absurd (ne (e ∙ ap (λ b. cond b (turn_outcome w t (Begin call)) NotNow) p))

pub did_begin : (w : State) (t : ℕ) (call : Call) (o : Outcome) → o ≡ step_outcome w (begin_of t call)
    → (o ≡ NotNow → ⊥) → did w t call ≡ went_alone (after w (begin_of t call)) t
did_begin w t call o = begun_by (is_possible w (begin_of t call)) w t call o refl

begun_not : (b : Bool) (w : State) (t : ℕ) (call : Call) → is_possible w (begin_of t call) ≡ b
    → step_outcome w (begin_of t call) ≡ NotNow → did w t call ≡ (w, NotNow)
begun_not true w t call p e = let g : turn_outcome w t (Begin call) ≡ NotNow =
    ap (λ b. cond b (turn_outcome w t (Begin call)) NotNow) (sym p) ∙ e in absurd cc
begun_not false w t call p e = ap (λ b. cond b (went_alone (after w (begin_of t call)) t) (w, NotNow)) p

pub did_nothing : (w : State) (t : ℕ) (call : Call) → step_outcome w (begin_of t call) ≡ NotNow
    → did w t call ≡ (w, NotNow)
did_nothing w t call = begun_not (is_possible w (begin_of t call)) w t call refl
