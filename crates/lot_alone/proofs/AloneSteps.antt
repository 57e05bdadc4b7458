-- Steps of a thread alone, one after another.
use Rattle.lot_laws.proofs.Imports
use Imports.{◌≡◌, ◌≢◌, ℕ, zero, suc, ◌+◌, ◌-◌, ◌<◌, Bool, true, false, Option, Some, None, is_some, nat_lt}
use Imports.{length, if◌then◌else◌, refl, ap, sym, ◌∙◌, arith, Act, Sleep, Closure, Step, Turn, Outcome}
use Imports.{outcome_of, act_of, next_act, respins_from, State, SoloEnd, alone_after, solo, after, step_outcome}
use Imports.{is_possible, state_after_turn, turn_outcome, go_of, reply_to, closed_place, place_at, put}
use Imports.{can_turn, going_outcome, look_outcome, state_after_act, Place, both}
use Rattle.lot_laws.proofs.machine.Stuck.{after_stuck}
use Rattle.steps_base.specs.declared.acts.Act.TheVariants.{End}
use Rattle.spec_locks.specs.declared.calls.Turn as turn
use Rattle.spec_locks.specs.declared.outcomes.Outcome.TheVariants as outcome

pub solo_end : (n : ℕ) (w : State) (t : ℕ) (last : Outcome) → n ≡ 0 → solo n w t last ≡ record {
  state = w;
  outcome = last;
}
unfolding solo
solo_end zero w t last e = refl
solo_end (suc n) w t last e = cc

solo_more : (n : ℕ) (w : State) (t : ℕ) (last : Outcome)
    → solo (suc n) w t last
    ≡ alone_after (step_outcome w (go_of t)) w (after w (go_of t)) last
    (solo n (after w (go_of t)) t outcome.Step)
unfolding solo
solo_more n w t last = refl

solo_next : (counter : ℕ) (w : State) (t : ℕ) (last : Outcome) → counter < 64
    → solo (64 - counter) w t last
    ≡ alone_after (step_outcome w (go_of t)) w (after w (go_of t)) last
    (solo (64 - (counter + 1)) (after w (go_of t)) t outcome.Step)
solo_next counter w t last h = let e : 64 - counter ≡ suc (64 - (counter + 1)) = omega arith
    in ap (λ n. solo n w t last) e ∙ solo_more (64 - (counter + 1)) w t last

pub rests_after : (o : Outcome) (w v : State) (last : Outcome) (more : SoloEnd)
    → o ≢ outcome.NotNow → o ≢ outcome.Step → alone_after o w v last more
    ≡ record { state = v; outcome = o }
rests_after outcome.NotNow w v last more h k = absurd (h refl)
rests_after outcome.Step w v last more h k = absurd (k refl)
rests_after o w v last more h k = refl

module _ (counter : ℕ) (w v : State) (t : ℕ) (last o : Outcome) (below : counter < 64) (led : v
    ≡ after w (go_of t))
    (told : o ≡ step_outcome w (go_of t)) where
  -- no step was possible
  pub alone_stuck : o ≡ outcome.NotNow → solo (64 - counter) w t last ≡ record {
    state = v;
    outcome = last;
  }
  alone_stuck h =
      let stuck : step_outcome w (go_of t) ≡ outcome.NotNow = sym told ∙ h in
      let same : v ≡ w = led ∙ after_stuck w (go_of t) stuck in
      solo_next counter w t last below
      ∙ ap (λ x. alone_after x w (after w (go_of t)) last (solo (64 - (counter + 1)) (after w (go_of t)) t
      outcome.Step)) stuck ∙ ap (λ (s : State). record { state = s; outcome = last })
      (sym same)

  -- the thread goes on
  pub alone_goes : o ≡ outcome.Step
      → solo (64 - counter) w t last ≡ solo (64 - (counter + 1)) v t outcome.Step
  alone_goes h =
      solo_next counter w t last below
      ∙ ap (λ x. alone_after x w (after w (go_of t)) last (solo (64 - (counter + 1)) (after w (go_of t)) t
      outcome.Step)) (sym told ∙ h)
      ∙ ap (λ (s : State). solo (64 - (counter + 1)) s t outcome.Step) (sym led)

  -- the thread rests
  pub alone_rests : o ≢ outcome.NotNow → o ≢ outcome.Step
      → solo (64 - counter) w t last ≡ record { state = v; outcome = o }
  alone_rests h k =
      solo_next counter w t last below
      ∙ ap (λ x. alone_after x w (after w (go_of t)) last (solo (64 - (counter + 1)) (after w (go_of t)) t
      outcome.Step)) (sym told)
      ∙ rests_after o w (after w (go_of t)) last (solo (64 - (counter + 1)) (after w (go_of t)) t
      outcome.Step) h k
      ∙ ap (λ (s : State). record { state = s; outcome = o }) (sym led)
