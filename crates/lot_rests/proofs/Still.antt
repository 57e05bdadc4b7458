-- An act that is still changes no word, and leaves each thread where it stands.
use Rattle.std.proofs.Common.{ℕ, Bool, true, false, Option, Some, None, if◌then◌else◌, ◌==◌, not, ◌≡◌, ◌≢◌}
use Rattle.std.proofs.Common.{◌≤◌, ◌<◌, length, refl, ap, sym, ◌∙◌, arith, get_or-set_same, get_or-set_other}
use Rattle.std.proofs.lemmas.Bool.{eqb-true}
use Rattle.core_base.specs.declared.keys.Keys.{Keys}
use Rattle.core_base.specs.declared.keys.Keys.TheVariants.{One, Two}
use Rattle.core_base.specs.declared.ops.Op.{Op}
use Rattle.core_base.specs.Words.{apply}
use Rattle.core_base.specs.declared.wants.Want.{Want}
use Rattle.spec_locks.specs.declared.kinds.Kind.TheVariants as kind
use Rattle.steps_base.specs.Acts.{holds, takes_effect}
use Rattle.steps_base.specs.declared.acts.Act.{Act}
use Rattle.steps_base.specs.declared.acts.Act.TheVariants.{Word, HandOver, Enter, Park, Take, Requeue, Leave}
use Rattle.steps_base.specs.declared.acts.Wakes.TheVariants as wakes
use Rattle.lot_steps.specs.declared.places.Place.{Place}
use Rattle.lot_machine.specs.Machine.{State, place_at, queues_with_last, state_after_act}
use Rattle.lot_machine.specs.Machine.{state_after_hand_over_by, state_after_operation, state_with_sections}
use Rattle.lot_machine.specs.Machine.{unlocked, word_at}
use Rattle.lot_machine.proofs.Acted.{acted_keeps, tells}
use Rattle.lot_machine.proofs.KindsStay.{set_field}
use Rattle.lot_machine.proofs.Shape.{both}
use Rattle.lot_rests.proofs.Befallen.{kept}
use Rattle.lot_rests.proofs.Rows.{is_still}
use Rattle.lot_rests.proofs.Work.{work}

module _ (w : State) (t : ℕ) (p : Place) where
  -- whatever the act, no thread has more to do
  pub acted_work : (a : Act) (u : ℕ) → work (place_at (state_after_act w t p a) u) ≤ work (place_at w u)
  acted_work a u = acted_keeps (λ q. work q ≤ work (place_at w u)) w u t p a (λ loud r b q le. let more =
      kept q r b in omega arith) (omega arith)

  -- ---------------------------------------------------------------- places

  quiet_places : (a : Act) (u : ℕ) → tells a ≡ false → place_at (state_after_act w t p a) u ≡ place_at w u
  quiet_places a u quiet = acted_keeps (λ q. q ≡ place_at w u) w u t p a
      (λ loud. absurd (let e : false ≡ true = sym quiet ∙ loud in cc)) refl

  failed_places : (l : ℕ) (f : Op) (u : ℕ) (b : Bool) → not b ≡ true
      → place_at (state_after_hand_over_by b w t p l f) u ≡ place_at w u
  failed_places l f u false e = refl
  failed_places l f u true e = absurd cc

  pub still_places : (a : Act) (u : ℕ) → is_still w a ≡ true → place_at (state_after_act w t p a) u
      ≡ place_at w u
  still_places (HandOver l f) u still = failed_places l f u (takes_effect f (word_at w l))
      (both (not (takes_effect f (word_at w l))) _ still).0
  still_places (Take key whom) u still = absurd cc
  still_places (Requeue from to how) u still = absurd cc
  still_places (Leave keys (wakes.All n)) u still = absurd cc
  still_places (Leave keys wakes.Nobody) u still = quiet_places (Leave keys wakes.Nobody) u refl
  still_places a u still = quiet_places a u refl

  -- ---------------------------------------------------------------- words

  operated_words : (l : ℕ) (f : Op) (k : ℕ) → (apply f (word_at w l) == word_at w l) ≡ true
      → word_at (state_after_operation w t p l f) k ≡ word_at w k
  operated_words l f k is = set_field (λ x. x.word) w.locks l _ (unlocked kind.Mutex)
      (eqb-true (apply f (word_at w l)) (word_at w l) is) k

  failed_words : (l : ℕ) (f : Op) (k : ℕ) (b : Bool) → not b ≡ true → (apply f (word_at w l) == word_at w l)
      ≡ true
      → word_at (state_after_hand_over_by b w t p l f) k ≡ word_at w k
  failed_words l f k false e is = operated_words l f k is
  failed_words l f k true e is = absurd cc

  filled_words : (keys : Keys) (who : Option ℕ) (k : ℕ) → word_at (state_with_sections w keys who) k
      ≡ word_at w k
  filled_words (One key) who k = refl
  filled_words (Two first second) who k = refl

  parked_words : (b : Bool) (key : ℕ) (x : Want) (k : ℕ)
      → word_at (if b then record w { queues = queues_with_last w.queues key t x } else w) k ≡ word_at w k
  parked_words true key x k = refl
  parked_words false key x k = refl

  pub still_words : (a : Act) (k : ℕ) → is_still w a ≡ true → word_at (state_after_act w t p a) k
      ≡ word_at w k
  still_words (Word l f) k still = operated_words l f k still
  still_words (HandOver l f) k still = let parts = both (not (takes_effect f (word_at w l)))
      (apply f (word_at w l) == word_at w l) still in
      failed_words l f k (takes_effect f (word_at w l)) parts.0 parts.1
  still_words (Enter keys) k still = filled_words keys (Some t) k
  still_words (Park l key check x) k still = parked_words (holds check (word_at w l)) key x k
  still_words (Take key whom) k still = absurd cc
  still_words (Requeue from to how) k still = absurd cc
  still_words (Leave keys (wakes.All n)) k still = absurd cc
  still_words (Leave keys wakes.Nobody) k still = filled_words keys None k
  still_words a k still = refl

  -- an operation changes its own word alone
  pub word_then : (l : ℕ) (f : Op) → l < length w.locks → word_at (state_after_operation w t p l f) l
      ≡ apply f (word_at w l)
  word_then l f there = ap (λ x. x.word) (get_or-set_same w.locks l _ (unlocked kind.Mutex) there)

  pub other_words : (l : ℕ) (f : Op) (k : ℕ) → k ≢ l → word_at (state_after_operation w t p l f) k
      ≡ word_at w k
  other_words l f k ne = ap (λ x. x.word) (get_or-set_other w.locks l k _ (unlocked kind.Mutex)
      ne)
