-- How many threads are in a call, or own between their calls.
use Rattle.std.proofs.Common.{ℕ, Bool, true, false, if◌then◌else◌, ◌==◌, ◌&&◌, ◌≡◌, ◌+◌, ◌≤◌, ◌<◌, ◌⊎◌}
use Rattle.std.proofs.Common.{nat_lt, length, inl, inr, refl, sym, ◌∙◌, ap, subst, arith}
use Rattle.std.proofs.lemmas.Bool.{cases_eq, eqb-true}
use Rattle.spec_locks.specs.Locks.{rights_of}
use Rattle.spec_locks.specs.Runs.{no_rights}
use Rattle.lot_steps.specs.declared.places.Place.TheVariants.{Idle}
use Rattle.lot_steps.specs.Steps.{act_of, is_idle}
use Rattle.lot_machine.specs.Machine.{State, after, can_do, can_go, go_of, is_possible, place_at}
use Rattle.lot_machine.specs.Machine.{state_after_go}
use Rattle.lot_laws.specs.Refinement.{lock_state}
use Rattle.lot_rests.proofs.Sums.{sum_below, sum_less, sum_most}
use Rattle.lot_world.specs.Few.{number}
use Rattle.lot_world.specs.Ordered.{IsOrdered}
use Rattle.lot_world.proofs.Few.{rights_are}
use Rattle.lot_world.proofs.Ordered.{idle_is, others_idle, others_own}

-- a thread is in no call, and owns nothing
abbrev pub IsSpent : State → ℕ → Type 0
IsSpent w t = (place_at w t ≡ Idle) × (rights_of (lock_state w 0) t ≡ no_rights)

abbrev pub owes : State → ℕ → ℕ
owes w t = if is_idle (place_at w t) && (number (rights_of (lock_state w 0) t) == 0) then 0 else 1

abbrev pub owed : State → ℕ
owed w = sum_below (length w.places) (owes w)

spent_or : (w : State) (t : ℕ) → IsSpent w t ⊎ (owes w t ≡ 1)
spent_or w t = by_bits (is_idle (place_at w t)) (number (rights_of (lock_state w 0) t) == 0) refl refl
  where
    by_bits : (a b : Bool) → is_idle (place_at w t) ≡ a → (number (rights_of (lock_state w 0) t) == 0) ≡ b
        → IsSpent w t ⊎ (◌≡◌ {A = ℕ} (if a && b then 0 else 1) 1)
    by_bits true true e f = let n : number (rights_of (lock_state w 0) t) ≡ 0 =
        eqb-true (number (rights_of (lock_state w 0) t)) 0 f in inl (
          idle_is (place_at w t) e,
          rights_are (rights_of (lock_state w 0) t) no_rights (omega arith) (omega arith) (omega arith)
              (omega arith),
        )
    by_bits true false e f = inr refl
    by_bits false b e f = inr refl

spent_owes : (w : State) (t : ℕ) → IsSpent w t → owes w t ≡ 0
spent_owes w t h =
    let idle : is_idle (place_at w t) ≡ true = ap is_idle h.0 in
    let none : (number (rights_of (lock_state w 0) t) == 0) ≡ true = ap (λ r. number r == 0) h.1 in
    rw (idle, none) refl

one_most : (b : Bool) → (if b then 0 else 1) ≤ 1
one_most true = omega arith
one_most false = omega arith

owes_most : (w : State) (t : ℕ) → owes w t ≤ 1
owes_most w t = one_most (is_idle (place_at w t) && (number (rights_of (lock_state w 0) t) == 0))

pub owed_most : (w : State) → owed w ≤ length w.places
owed_most w = let most = sum_most (length w.places) 1 (owes w) (owes_most w) in omega arith

-- one thread has spent its right, and none has got another
pub owed_less : (w v : State) (t : ℕ) → length v.places ≡ length w.places → t < length w.places
    → ((u : ℕ) → IsSpent w u → IsSpent v u) → (IsSpent w t → ⊥) → IsSpent v t → owed v + 1 ≤ owed w
owed_less w v t size there kept unspent spent = subst (λ n. sum_below n (owes v) + 1 ≤ owed w) (sym size)
    (sum_less (length w.places) t (owes w) (owes v) there less own)
  where
    less : (u : ℕ) → owes v u ≤ owes w u
    less u = elim (spent_or w u) [
      | inl h ↦ let none = spent_owes v u (kept u h) in omega arith
      | inr one ↦ let most = owes_most v u in omega arith
    ]

    own : owes v t + 1 ≤ owes w t
    own = elim (spent_or w t) [
      | inl h ↦ absurd (unspent h)
      | inr one ↦ let none = spent_owes v t spent in omega arith
    ]

-- a thread in no call can't go on
never : (b : Bool) → (b && false) ≡ false
never true = refl
never false = refl

pub idle_stuck : (w : State) (t : ℕ) → place_at w t ≡ Idle → is_possible w (go_of t) ≡ false
idle_stuck w t idle =
    let cannot : can_go w t ≡ false = ap (λ p. can_do w (act_of p)) idle in
    ap (λ b. nat_lt t (length w.places) && b) cannot ∙ never (nat_lt t (length w.places))

idle_stays : (w : State) (t : ℕ) → place_at w t ≡ Idle → after w (go_of t) ≡ w
idle_stays w t idle = ap (λ b. if b then state_after_go w t else w) (idle_stuck w t idle)

-- a thread that has spent its right gets none, whatever thread goes on
pub spent_goes : (w : State) (t u : ℕ) → IsOrdered w → IsSpent w u → IsSpent (after w (go_of t)) u
spent_goes w t u h spent = elim (cases_eq u t) [
  | inl e ↦ subst (λ v. IsSpent v u) (sym (idle_stays w t (subst (λ j. place_at w j ≡ Idle) e spent.0))) spent
  | inr ne ↦ (
    idle_is (place_at (after w (go_of t)) u) (others_idle w t h u ne ∙ ap is_idle spent.0),
    others_own w t h u ne (ap is_idle spent.0) ∙ spent.1,
  )
]
