-- In a call of one lock a thread that tells others something hears nothing of it: its act leaves it where it
-- stands.
use Rattle.lot_laws.proofs.Imports
use Imports.{ℕ, true, ◌≡◌, ◌<◌, length, get_or-set_same, refl, ap, ◌∙◌, outcome_of, Reply, Place, Idle, Mutex}
use Imports.{RwLock, Once, Condvar, Semaphore, act_of, next_act, next_place, State, go_outcome, go_reply}
use Imports.{going_outcome, place_at, put, reply_to, state_after_act, state_after_go, state_after_going}
use Imports.{Befalls, acted_keeps, tells, performed_counts}
use Rattle.lot_laws.proofs.machine.Hearing.{call_hears, mutex_hears, once_hears, semaphore_hears}
use Rattle.lot_laws.proofs.machine.Parts.{IsSingle}

deaf : (p : Place) → IsSingle p → tells (act_of p) ≡ true → (r : Reply) → Befalls r → next_place p r ≡ p
deaf Idle single loud r h = refl
deaf (Mutex l at) single loud r h = (mutex_hears l at).deaf loud r h
deaf (RwLock l a c) single loud r h = (call_hears l a c).deaf loud r h
deaf (Once l at) single loud r h = (once_hears l at).deaf loud r h
deaf (Semaphore l at) single loud r h = (semaphore_hears l at).deaf loud r h
deaf (Condvar l at) single loud r h = absurd single

module _ (w : State) (t : ℕ) (p : Place) (is : place_at w t ≡ p) (single : IsSingle p) where
  -- a thread that acts stands where it stood
  pub stays_there : place_at (state_after_act w t p (act_of p)) t ≡ p
  stays_there = acted_keeps (λ q. q ≡ p) w t t p (act_of p) (λ loud r b q e. ap (λ x. next_place x r) e
      ∙ deaf p single loud r b) is

  -- A thread goes on from the place that its reply leads to.
  pub goes_from_there : state_after_going w t p
      ≡ put (state_after_act w t p (act_of p)) t (next_place p (reply_to w t (act_of p)))
  goes_from_there = ap (λ q. put (state_after_act w t p (act_of p)) t
      (next_place q (reply_to w t (act_of p)))) stays_there

  pub told_from_there : going_outcome w t p ≡ outcome_of (next_act p (reply_to w t (act_of p)))
  told_from_there = ap (λ q. outcome_of (next_act q (reply_to w t (act_of p)))) stays_there

module _ (w : State) (t : ℕ) (single : IsSingle (place_at w t)) where
  pub gone : state_after_go w t
      ≡ put (state_after_act w t (place_at w t) (act_of (place_at w t))) t
      (next_place (place_at w t) (go_reply w t))
  gone = goes_from_there w t (place_at w t) refl single

  pub gone_told : go_outcome w t ≡ outcome_of (next_act (place_at w t) (go_reply w t))
  gone_told = told_from_there w t (place_at w t) refl single

  -- where it goes
  pub gone_place : t < length w.places → place_at (state_after_go w t) t ≡ next_place (place_at w t)
      (go_reply w t)
  gone_place there = ap (λ (v : State). place_at v t) gone
      ∙ get_or-set_same (state_after_act w t (place_at w t) (act_of (place_at w t))).places t _ Idle
      (rw ((performed_counts w t (place_at w t) (act_of (place_at w t))).0) there)
