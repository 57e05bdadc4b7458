-- The kinds of step on a mutex's word, each an instance of one law.
use Rattle.std.proofs.Common.{◌≡◌, ◌⊎◌, inl, inr, ℕ, ◌+◌, ◌%◌, ◌<◌, ◌≤◌, List, [], ◌∷◌, true, cond, eqb, sym}
use Rattle.std.proofs.Common.{subst, arith, eq-eqb, ne_eqb}
use mathlib.Core.Logic.{dite}
use native.Mathlib.Decide.{ℕ_discrete}
use Rattle.core_base.specs.Words.{apply}
use Rattle.core_base.specs.declared.ops.Op.{Op}
use Rattle.core_base.specs.declared.ops.Op.TheVariants.{Load, Store, Sub, Or, And, Exchange}
use Rattle.core_words.specs.Views.{total, owned, owning}
use Rattle.core_words.specs.Codes.{Owners, IsMutexCode, everyone, exclusive}
use Rattle.core_words.specs.Steps.{Trade, trading, has, HasAll, MayStep}
use Rattle.core_words.specs.Laws.{MutexMaySteps}
use Rattle.core_words.specs.declared.owners.Owner.{Owner}
use Rattle.core_words.specs.declared.owners.Owner.TheVariants.{Exclusive}
use Rattle.core_words.specs.declared.owners.Ownership.{Ownership}
use Rattle.core_words.specs.declared.words.WordKind.TheVariants.{Mutex}
use Rattle.core_words.proofs.Trades.{owned_some}

-- the law of steps on a mutex's word: each code that may be found becomes a code, and a thread that unlocks
-- owns the mutex
pub mutex_step : (at : ℕ) (op : Op) (owns : List Ownership)
    → ((n : ℕ) → n < 4 → owned at exclusive owns ≤ n % 2 → (apply op n < 4)
    × (n % 2 ≡ 1 → apply op n % 2 ≡ 0 → has (owning at Exclusive) owns ≡ true)) → MayStep Mutex at op owns
mutex_step at op owns ok n owners fits code mine agrees =
    let m : ℕ = apply op n in let small : n < 4 = code.0 in let all = code.1 in let one = code.2 in let step =
    ok n small (omega (arith, mine exclusive)) in let near : m < 4 = step.0 in
    let Goal : Trade → Type 0 = λ t. HasAll at t.gives owns
    × ((after : Owners) → ((weight : Owner → ℕ) → after weight + total weight t.gives ≡ owners weight
    + total weight t.gets) → IsMutexCode m after) × Unit {0} in
    dite (ℕ_discrete (n % 2) (m % 2))
    (λ e. subst (λ b. Goal (cond b (trading [] []) (cond (eqb (n % 2) 0) (trading [] (Exclusive ∷ []))
    (trading (Exclusive ∷ []) [])))) (sym (eq-eqb (n % 2) (m % 2) e))
    (tt, (λ after same. (near, omega (arith, same everyone), omega (arith, same exclusive))), tt))
    (λ ne. subst (λ b. Goal (cond b (trading [] []) (cond (eqb (n % 2) 0) (trading [] (Exclusive ∷ []))
    (trading (Exclusive ∷ []) [])))) (sym (ne_eqb (n % 2) (m % 2) ne)) (dite (ℕ_discrete (n % 2) 0)
    (λ z. subst (λ b. Goal (cond b (trading [] (Exclusive ∷ [])) (trading (Exclusive ∷ []) [])))
    (sym (eq-eqb (n % 2) 0 z))
    (tt, (λ after same. (near, omega (arith, same everyone), omega (arith, same exclusive))), tt))
    (λ nz. subst (λ b. Goal (cond b (trading [] (Exclusive ∷ [])) (trading (Exclusive ∷ []) [])))
    (sym (ne_eqb (n % 2) 0 nz)) (
      (step.1 (omega arith) (omega arith), tt),
      (λ after same. (near, omega (arith, same everyone), omega (arith, same exclusive))),
      tt,
    ))))

-- each of the four codes
pub each_code : (P : ℕ → Type 0) → P 0 → P 1 → P 2 → P 3 → (n : ℕ) → n < 4 → P n
each_code P p₀ p₁ p₂ p₃ n h = dite (ℕ_discrete n 0) (λ e. subst P (sym e) p₀)
    (λ n₀. dite (ℕ_discrete n 1) (λ e. subst P (sym e) p₁)
    (λ n₁. dite (ℕ_discrete n 2) (λ e. subst P (sym e) p₂)
    (λ n₂. let e : n ≡ 3 = omega arith in subst P (sym e) p₃)))

module _ (at : ℕ) (owns : List Ownership) where
  abbrev Fits : Op → ℕ → Type 0
  Fits op n = (apply op n < 4) × (n % 2 ≡ 1 → apply op n % 2 ≡ 0 → has (owning at Exclusive) owns ≡ true)

  -- a step that unlocks no code, by its four results
  locks : (op : Op) → Fits op 0 → Fits op 1 → Fits op 2 → Fits op 3 → MayStep Mutex at op owns
  locks op f₀ f₁ f₂ f₃ = mutex_step at op owns (λ n h counted. each_code (Fits op) f₀ f₁ f₂ f₃ n h)

  pub may_load : MayStep Mutex at Load owns
  may_load = mutex_step at Load owns (λ n h counted. (h, λ odd even. absurd (omega arith)))

  -- the exchange that enters
  pub may_enter : (from : ℕ) → from < 4 → from % 2 ≡ 0 → MayStep Mutex at (Exchange from (from + 1)) owns
  may_enter from small even = mutex_step at (Exchange from (from + 1)) owns
      (λ n h counted. dite (ℕ_discrete n from)
      (λ e. subst (λ b. (cond b (from + 1) n < 4) × (n % 2 ≡ 1 → cond b (from + 1) n % 2 ≡ 0
      → has (owning at Exclusive) owns ≡ true)) (sym (eq-eqb n from e))
      (omega arith, λ odd now. absurd (omega arith)))
      (λ ne. subst (λ b. (cond b (from + 1) n < 4) × (n % 2 ≡ 1 → cond b (from + 1) n % 2 ≡ 0
      → has (owning at Exclusive) owns ≡ true)) (sym (ne_eqb n from ne))
      (h, λ odd now. absurd (omega arith))))

  -- A step that sets bit 1 may be taken.
  pub may_try : MayStep Mutex at (Or 1) owns
  may_try = locks (Or 1) (omega arith, λ a b. absurd (omega arith)) (omega arith, λ a b. absurd (omega arith))
      (omega arith, λ a b. absurd (omega arith)) (omega arith, λ a b. absurd (omega arith))

  -- the exchange that sets the parked bit
  pub may_mark : MayStep Mutex at (Exchange 1 3) owns
  may_mark = locks (Exchange 1 3) (omega arith, λ a b. absurd (omega arith))
      (omega arith, λ a b. absurd (omega arith)) (omega arith, λ a b. absurd (omega arith)) (
        omega arith,
        λ a b. absurd (omega arith),
      )

  -- the exchange that marks a locked mutex, whether it is marked or not
  pub may_mark_locked : (s : ℕ) → (s ≡ 1) ⊎ (s ≡ 3) → MayStep Mutex at (Exchange s 3) owns
  may_mark_locked s which = elim which [
    | inl e ↦ subst (λ (k : ℕ). MayStep Mutex at (Exchange k 3) owns) (sym e) may_mark
    | inr e ↦ subst (λ (k : ℕ). MayStep Mutex at (Exchange k 3) owns) (sym e)
        (locks (Exchange 3 3) (omega arith, λ a b. absurd (omega arith)) (
          omega arith,
          λ a b. absurd
              (omega arith),
        ) (omega arith, λ a b. absurd (omega arith)) (omega arith, λ a b. absurd (omega arith)))
  ]

  -- A step that sets bit 2 may be taken.
  pub may_mark_any : MayStep Mutex at (Or 2) owns
  may_mark_any = locks (Or 2) (omega arith, λ a b. absurd (omega arith)) (
    omega arith,
    λ a b. absurd
        (omega arith),
  ) (omega arith, λ a b. absurd (omega arith)) (omega arith, λ a b. absurd (omega arith))

  -- A step that clears bit 2 may be taken.
  pub may_clear : MayStep Mutex at (And 18446744073709551613) owns
  may_clear = locks (And 18446744073709551613) (omega arith, λ a b. absurd (omega arith)) (
    omega arith,
    λ a b. absurd (omega arith),
  ) (omega arith, λ a b. absurd (omega arith))
      (omega arith, λ a b. absurd (omega arith))

  -- subtract 1: a thread that owns the mutex finds it locked
  pub may_leave : has (owning at Exclusive) owns ≡ true → MayStep Mutex at (Sub 1) owns
  may_leave there = let mine : 0 < owned at exclusive owns = owned_some at Exclusive owns there exclusive
      (omega arith) in
      mutex_step at (Sub 1) owns (λ n h counted. dite (ℕ_discrete n 1) (λ e. subst (Fits (Sub 1)) (sym e)
      (omega arith, λ odd even. there)) (λ ne. let e : n ≡ 3 = omega arith
      in subst (Fits (Sub 1)) (sym e) (omega arith, λ odd even. there)))

  -- the exchange of a thread that owns a mutex on which nobody waits
  pub may_leave_alone : has (owning at Exclusive) owns ≡ true → MayStep Mutex at (Exchange 1 0) owns
  may_leave_alone there = locks (Exchange 1 0) (omega arith, λ a b. absurd (omega arith)) (
    omega arith,
    λ a b. there,
  ) (omega arith, λ a b. absurd (omega arith)) (omega arith, λ a b. absurd (omega arith))

  -- the store of a thread that owns the mutex
  pub may_hand_over : (m : ℕ) → m < 4 → has (owning at Exclusive) owns ≡ true
      → MayStep Mutex at (Store m) owns
  may_hand_over m small there = mutex_step at (Store m) owns (λ n h counted. (small, λ odd even. there))

-- all of them
pub mutex_steps : MutexMaySteps
mutex_steps at owns = record {
  load = may_load at owns;
  enter = may_enter at owns;
  set_locked = may_try at owns;
  set_parked = may_mark at owns;
  clear_parked = may_clear at owns;
  mark = may_mark_locked at owns;
  mark_any = may_mark_any at owns;
  leave = may_leave at owns;
  leave_alone = may_leave_alone at owns;
  hand_over = may_hand_over at owns;
}
