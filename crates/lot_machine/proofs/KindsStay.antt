-- Locks stay of their kinds, whatever act is done.
use Rattle.std.proofs.Common.{ℕ, zero, suc, Bool, true, false, Option, Some, None, if◌then◌else◌, ◌≡◌, List}
use Rattle.std.proofs.Common.{[], ◌∷◌, get_or, set, refl, ◌∙◌}
use Rattle.core_base.specs.declared.keys.Keys.{Keys}
use Rattle.core_base.specs.declared.keys.Keys.TheVariants.{One, Two}
use Rattle.core_base.specs.declared.ops.Op.{Op}
use Rattle.core_base.specs.declared.wants.Want.{Want}
use Rattle.core_base.specs.Lines.{first_of}
use Rattle.spec_locks.specs.declared.kinds.Kind.TheVariants as kind
use Rattle.steps_base.specs.declared.acts.Act.{Act}
use Rattle.steps_base.specs.declared.acts.Act.TheVariants.{Word, HandOver, Enter, Park, Take, Remove, Leave}
use Rattle.steps_base.specs.declared.acts.Check.{Check}
use Rattle.steps_base.specs.declared.acts.Wakes.{Wakes}
use Rattle.steps_base.specs.declared.acts.Wakes.TheVariants as wakes
use Rattle.steps_base.specs.declared.acts.TakeWhich.TheVariants as whom
use Rattle.steps_base.specs.Acts.{takes_effect, holds}
use Rattle.lot_steps.specs.declared.places.Place.{Place}
use Rattle.lot_machine.specs.Machine.{state_after_hand_over_by, State, unlocked, word_at, kind_at, queue_at}
use Rattle.lot_machine.specs.Machine.{state_after_operation, state_after_hand_over, state_with_sections}
use Rattle.lot_machine.specs.Machine.{queues_with_last, queues_without_first, state_after_park}
use Rattle.lot_machine.specs.Machine.{state_after_taking, state_after_wake, state_after_act}

-- a fact of all elements holds after one is set
pub set_all : {A : Type 0} (P : A → Type 0) (xs : List A) (i : ℕ) (y d : A) → P y
    → ((j : ℕ) → P (get_or xs j d)) → (j : ℕ) → P (get_or (set xs i y) j d)
set_all P [] i y d p h j = h j
set_all P (x ∷ xs) zero y d p h zero = p
set_all P (x ∷ xs) zero y d p h (suc j) = h (suc j)
set_all P (x ∷ xs) (suc i) y d p h zero = h zero
set_all P (x ∷ xs) (suc i) y d p h (suc j) = set_all P xs i y d p (λ k. h (suc k)) j

-- the value read of each lock, where that of one is set
pub set_field : {A B : Type 0} (f : A → B) (xs : List A) (i : ℕ) (y d : A) → f y ≡ f (get_or xs i d) → (j : ℕ)
    → f (get_or (set xs i y) j d) ≡ f (get_or xs j d)
set_field f [] i y d e j = refl
set_field f (x ∷ xs) zero y d e zero = e
set_field f (x ∷ xs) zero y d e (suc j) = refl
set_field f (x ∷ xs) (suc i) y d e zero = refl
set_field f (x ∷ xs) (suc i) y d e (suc j) = set_field f xs i y d e j

pub operated_kinds : (w : State) (t : ℕ) (p : Place) (l : ℕ) (f : Op) (k : ℕ)
    → kind_at (state_after_operation w t p l f) k ≡ kind_at w k
operated_kinds w t p l f k = set_field (λ x. x.kind) w.locks l _ (unlocked kind.Mutex) refl k

pub given_kinds : (w : State) (t : ℕ) (p : Place) (l : ℕ) (f : Op) (k : ℕ)
    → kind_at (state_after_hand_over w t p l f) k ≡ kind_at w k
given_kinds w t p l f k = set_field (λ x. x.kind) w.locks l _ (unlocked kind.Mutex) refl k

filled_kinds : (w : State) (keys : Keys) (who : Option ℕ) (k : ℕ) → kind_at (state_with_sections w keys who) k
    ≡ kind_at w k
filled_kinds w (One key) who k = refl
filled_kinds w (Two first second) who k = refl

taken_kinds : (w : State) (t : ℕ) (o : Option ℕ) (k : ℕ) → kind_at (state_after_taking w t o) k ≡ kind_at w k
taken_kinds w t None k = refl
taken_kinds w t (Some u) k = refl

awakened_kinds : (w : State) (t : ℕ) (x : Wakes) (k : ℕ) → kind_at (state_after_wake w t x) k ≡ kind_at w k
awakened_kinds w t wakes.Nobody k = refl
awakened_kinds w t (wakes.All note) k = refl

parked_kinds : (w : State) (t l key : ℕ) (check : Check) (wanted : Want) (k : ℕ)
    → kind_at (state_after_park w t l key check wanted) k ≡ kind_at w k
parked_kinds w t l key check wanted k = either (holds check (word_at w l))
  where
    either : (b : Bool) → kind_at (if b then record w { queues = queues_with_last w.queues key t wanted }
        else w) k ≡ kind_at w k
    either true = refl
    either false = refl

pub performed_kinds : (w : State) (t : ℕ) (p : Place) (act : Act) (k : ℕ)
    → kind_at (state_after_act w t p act) k ≡ kind_at w k
performed_kinds w t p (Word l f) k = operated_kinds w t p l f k
performed_kinds w t p (HandOver l f) k = either (takes_effect f (word_at w l))
  where
    either : (b : Bool) → kind_at (state_after_hand_over_by b w t p l f) k ≡ kind_at w k
    either true = given_kinds w t p l f k
    either false = operated_kinds w t p l f k
performed_kinds w t p (Enter keys) k = filled_kinds w keys (Some t) k
performed_kinds w t p (Park l key check wanted) k = parked_kinds w t l key check wanted k
performed_kinds w t p (Take key whom.First) k =
    taken_kinds (record w { queues = queues_without_first w.queues key }) t (first_of (queue_at w key)) k
performed_kinds w t p (Remove key) k = refl
performed_kinds w t p (Leave keys x) k = awakened_kinds (state_with_sections w keys None) t x k
    ∙ filled_kinds w keys None k
performed_kinds w t p act k = refl
