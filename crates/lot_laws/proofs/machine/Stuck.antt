-- A step that is not possible changes nothing.
use Rattle.lot_laws.proofs.Imports
use Imports.{◌≡◌, ◌≢◌, ℕ, ◌<◌, Bool, true, false, Option, Some, None, is_some, nat_lt, length}
use Imports.{if◌then◌else◌, refl, Act, Sleep, Closure, Step, Turn, Outcome, outcome_of, act_of, next_act}
use Imports.{respins_from, State, after, step_outcome, is_possible, state_after_turn, turn_outcome, go_of}
use Imports.{reply_to, closed_place, place_at, put, can_turn, going_outcome, look_outcome, state_after_act, Place}
use Imports.{both}
use Rattle.steps_base.specs.declared.acts.Act.TheVariants.{End}
use Rattle.spec_locks.specs.declared.calls.Turn.TheVariants as turn
use Rattle.spec_locks.specs.declared.outcomes.Outcome.TheVariants as outcome

-- a step that was possible doesn't answer that it wasn't
outcome_possible : (act : Act) → outcome_of act ≢ outcome.NotNow
outcome_possible (End answer) h = cc
outcome_possible Sleep h = cc
outcome_possible (Closure state) h = cc
outcome_possible act h = cc

going_possible : (w : State) (t : ℕ) (p : Place) → going_outcome w t p ≢ outcome.NotNow
going_possible w t p h = outcome_possible (next_act (place_at (state_after_act w t p (act_of p)) t)
    (reply_to w t (act_of p))) h

turn_possible : (w : State) (t : ℕ) (x : Turn) → can_turn w t x ≡ true → turn_outcome w t x
    ≢ outcome.NotNow
turn_possible w t turn.Go can h = going_possible w t (place_at w t) h
turn_possible w t turn.Spin can h = by_look (respins_from (place_at w t)) can h
  where
    by_look : (o : Option Place) → is_some o ≡ true → look_outcome w t o ≢ outcome.NotNow
    by_look None can h = absurd cc
    by_look (Some q) can h = going_possible (put w t q) t (place_at (put w t q) t) h
turn_possible w t turn.Ok can h = going_possible (put w t (closed_place w t true)) t
    (place_at (put w t (closed_place w t true)) t) h
turn_possible w t turn.Err can h = going_possible (put w t (closed_place w t false)) t
    (place_at (put w t (closed_place w t false)) t) h
turn_possible w t x can h = cc

-- a step that wasn't possible has changed nothing
pub after_stuck : (w : State) (s : Step) → step_outcome w s ≡ outcome.NotNow → after w s ≡ w
after_stuck w s h = either (is_possible w s) refl h
  where
    either : (b : Bool) → is_possible w s ≡ b
        → (if b then turn_outcome w s.thread s.turn else outcome.NotNow)
        ≡ outcome.NotNow
        → (if b then state_after_turn w s.thread s.turn else w) ≡ w
    either false can e = refl
    either true can e = absurd (turn_possible w s.thread s.turn (both (nat_lt s.thread (length w.places))
        (can_turn w s.thread s.turn) can).1 e)
