-- A schedule so far: its steps lead to its state, each was possible, and they are few.
use Rattle.std.proofs.Common.{ℕ, zero, suc, true, if◌then◌else◌, ◌≡◌, ◌≢◌, ◌+◌, ◌≤◌, List, [], ◌∷◌, ◌++◌}
use Rattle.std.proofs.Common.{length, refl, sym, ◌∙◌, ap, subst, arith}
use Rattle.steps_base.specs.declared.acts.Act.{Act}
use Rattle.steps_base.specs.declared.acts.Act.TheVariants.{Sleep, Closure, End}
use Rattle.steps_base.specs.Acts.{outcome_of}
use Rattle.spec_locks.specs.declared.calls.Call.{Call}
use Rattle.spec_locks.specs.declared.calls.Step.{Step}
use Rattle.spec_locks.specs.declared.outcomes.Outcome.{Outcome}
use Rattle.spec_locks.specs.declared.outcomes.Outcome.TheVariants as outcome
use Rattle.lot_steps.specs.Steps.{act_of, next_act}
use Rattle.lot_machine.specs.Machine.{State, after, after_steps, alone_after, go_of, go_outcome, is_possible}
use Rattle.lot_machine.specs.Machine.{place_at, reply_to, solo, state_after_act, step_outcome}
use Rattle.lot_world.specs.Ordered.{begin_of}
use Rattle.lot_world.specs.Drains.{AllPossible}
use Rattle.lot_world.specs.Schedules.{Progress, run_alone, alone_by, call_alone, one_more}

-- ---------------------------------------------------------------- possible steps

-- an act that is done is no refusal
outcome_possible : (a : Act) → outcome_of a ≢ outcome.NotNow
outcome_possible (End answer) h = cc
outcome_possible Sleep h = cc
outcome_possible (Closure state) h = cc
outcome_possible a h = cc

pub go_possible : (w : State) (t : ℕ) → is_possible w (go_of t) ≡ true → step_outcome w (go_of t)
    ≢ outcome.NotNow
go_possible w t can refused =
    outcome_possible (next_act (place_at (state_after_act w t (place_at w t) (act_of (place_at w t))) t)
    (reply_to w t (act_of (place_at w t))))
    (sym (ap (λ b. if b then go_outcome w t else outcome.NotNow) can) ∙ refused)

pub begin_goes_on : (w : State) (t : ℕ) (c : Call) → is_possible w (begin_of t c) ≡ true
    → step_outcome w (begin_of t c) ≢ outcome.NotNow
begin_goes_on w t c can refused = let told : outcome.Step ≡ outcome.NotNow =
    sym (ap (λ b. if b then outcome.Step else outcome.NotNow) can) ∙ refused in cc

-- ---------------------------------------------------------------- one step more

after_more : (w : State) (ss : List Step) (s : Step) → after_steps w (ss ++ s ∷ []) ≡ after (after_steps w ss)
    s
after_more w [] s = refl
after_more w (x ∷ ss) s = after_more (after w x) ss s

possible_more : (w : State) (ss : List Step) (s : Step) → AllPossible w ss → step_outcome (after_steps w ss) s
    ≢ outcome.NotNow
    → AllPossible w (ss ++ s ∷ [])
possible_more w [] s h can = (can, tt)
possible_more w (x ∷ ss) s h can = (h.0, possible_more (after w x) ss s h.1 can)

pub length_more : (ss : List Step) (s : Step) → length (ss ++ s ∷ []) ≡ length ss + 1
length_more [] s = refl
length_more (x ∷ ss) s = let ih : length (ss ++ s ∷ []) ≡ length ss + 1 = length_more ss s in omega arith

-- the steps lead to the state from the first one on, and each was possible
pub record HasCome (w : State) (d : Progress) : Type 0 where
  pub leads : after_steps w d.steps ≡ d.state
  pub possible : AllPossible w d.steps

pub one_more_comes : (w : State) (d : Progress) (s : Step) → HasCome w d → step_outcome d.state s
    ≢ outcome.NotNow → HasCome w (one_more d s)
one_more_comes w d s h can = record {
  leads = after_more w d.steps s ∙ ap (λ v. after v s) h.leads;
  possible = possible_more w d.steps s h.possible (subst (λ v. step_outcome v s ≢ outcome.NotNow)
      (sym h.leads) can);
}

-- a drain has come from an earlier schedule, by n more steps at most
pub record HasGone (w : State) (n : ℕ) (d e : Progress) : Type 0 where
  pub come : HasCome w e
  pub few : length e.steps ≤ length d.steps + n

pub stays : (w : State) (n : ℕ) (d : Progress) → HasCome w d → HasGone w n d d
stays w n d h = record { come = h; few = omega arith }

pub goes_one : (w : State) (d : Progress) (s : Step) → HasCome w d → step_outcome d.state s ≢ outcome.NotNow
    → HasGone w 1 d (one_more d s)
goes_one w d s h can = record {
  come = one_more_comes w d s h can;
  few = let more : length (d.steps ++ s ∷ []) ≡ length d.steps + 1 = length_more d.steps s in omega arith;
}

pub goes_then : (w : State) (n m : ℕ) (d e f : Progress) → HasGone w n d e → HasGone w m e f
    → HasGone w (n + m) d f
goes_then w n m d e f h k = record { come = k.come; few = let a = h.few in let b = k.few in omega arith }

pub goes_within : (w : State) (n m : ℕ) (d e : Progress) → n ≤ m → HasGone w n d e → HasGone w m d e
goes_within w n m d e le h = record { come = h.come; few = let a = h.few in omega arith }

-- ---------------------------------------------------------------- a thread alone

-- a thread alone comes to where the machine's own run of it does
pub alone_state : (n : ℕ) (d : Progress) (t : ℕ) (last : Outcome) → (run_alone n d t).state
    ≡ (solo n d.state t last).state
unfolding run_alone solo
alone_state zero d t last = refl
alone_state (suc n) d t last = by_outcome (step_outcome d.state (go_of t))
    (alone_state n (one_more d (go_of t)) t outcome.Step)
  where
    by_outcome : (o : Outcome) → (run_alone n (one_more d (go_of t)) t).state
        ≡ (solo n (after d.state (go_of t)) t outcome.Step).state
        → (alone_by o d (one_more d (go_of t)) (run_alone n (one_more d (go_of t)) t)).state
        ≡ (alone_after o d.state (after d.state (go_of t)) last (solo n (after d.state (go_of t)) t
        outcome.Step)).state
    by_outcome outcome.NotNow more = refl
    by_outcome outcome.Step more = more
    by_outcome o more = refl

pub alone_goes : (w : State) (n : ℕ) (d : Progress) (t : ℕ) → HasCome w d → HasGone w n d (run_alone n d t)
unfolding run_alone
alone_goes w zero d t h = stays w zero d h
alone_goes w (suc n) d t h = by_outcome (step_outcome d.state (go_of t)) refl
    (alone_goes w n (one_more d (go_of t)) t)
  where
    by_outcome : (o : Outcome) → step_outcome d.state (go_of t) ≡ o
        → (HasCome w (one_more d (go_of t)) → HasGone w n (one_more d (go_of t))
        (run_alone n (one_more d (go_of t)) t))
        → HasGone w (suc n) d (alone_by o d (one_more d (go_of t)) (run_alone n (one_more d (go_of t)) t))
    by_outcome outcome.NotNow e more = stays w (suc n) d h
    by_outcome outcome.Step e more =
        let one = goes_one w d (go_of t) h (λ f. let g : outcome.Step ≡ outcome.NotNow = sym e ∙ f in cc) in
        goes_within w (1 + n) (suc n) d (run_alone n (one_more d (go_of t)) t) (omega arith)
        (goes_then w 1 n d (one_more d (go_of t)) (run_alone n (one_more d (go_of t)) t) one
        (more one.come))
    by_outcome outcome.Sleep e more = goes_within w 1 (suc n) d (one_more d (go_of t)) (omega arith)
        (goes_one w d (go_of t) h (λ f. let g : outcome.Sleep ≡ outcome.NotNow = sym e ∙ f in cc))
    by_outcome (outcome.Closure state) e more = goes_within w 1 (suc n) d (one_more d (go_of t)) (omega arith)
        (goes_one w d (go_of t) h (λ f. let g : outcome.Closure state ≡ outcome.NotNow = sym e ∙ f in cc))
    by_outcome (outcome.End answer) e more = goes_within w 1 (suc n) d (one_more d (go_of t)) (omega arith)
        (goes_one w d (go_of t) h (λ f. let g : outcome.End answer ≡ outcome.NotNow = sym e ∙ f in cc))

-- a call that may begin
pub call_goes : (w : State) (d : Progress) (t : ℕ) (c : Call) → is_possible d.state (begin_of t c) ≡ true
    → HasCome w d
    → HasGone w 65 d (call_alone d t c)
call_goes w d t c can h =
    let one = goes_one w d (begin_of t c) h (begin_goes_on d.state t c can) in
    goes_then w 1 64 d (one_more d (begin_of t c)) (call_alone d t c) one
    (alone_goes w 64 (one_more d (begin_of t c)) t one.come)
