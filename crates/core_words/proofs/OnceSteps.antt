-- The kinds of step on a `Once`'s word, each an instance of one law.
use Rattle.std.proofs.Common.{◌≡◌, ◌≢◌, inl, inr, ℕ, ◌+◌, ◌*◌, ◌/◌, ◌%◌, ◌<◌, ◌≤◌, List, true, cond, sym}
use Rattle.std.proofs.Common.{refl, ap, subst, arith, eq-eqb, ne_eqb}
use mathlib.Core.Logic.{dite}
use native.Mathlib.Decide.{ℕ_discrete}
use Rattle.core_base.specs.Words.{apply}
use Rattle.core_base.specs.declared.ops.Op.{Op}
use Rattle.core_base.specs.declared.ops.Op.TheVariants.{Load, Swap, And, Exchange}
use Rattle.core_words.specs.Views.{total, owned, owning}
use Rattle.core_words.specs.Codes.{Owners, IsOnceWord, IsOnceCode, runner, witness}
use Rattle.core_words.specs.Steps.{Trade, has, HasAll, MayStep, once_trade}
use Rattle.core_words.specs.Laws.{OnceSteps, OnceMaySteps}
use Rattle.core_words.specs.declared.owners.Owner.{Owner}
use Rattle.core_words.specs.declared.owners.Owner.TheVariants.{Runner}
use Rattle.core_words.specs.declared.owners.Ownership.{Ownership}
use Rattle.core_words.specs.declared.words.WordKind.TheVariants.{Once}
use Rattle.core_words.proofs.Trades.{owned_some}

-- each of the seven values
pub each_once_code : (P : ℕ → Type 0) → P 0 → P 1 → P 2 → P 4 → P 8 → P 10 → P 12 → (n : ℕ) → IsOnceWord n
    → P n
each_once_code P p₀ p₁ p₂ p₄ p₈ p₁₀ p₁₂ n (inl e) = subst P (sym e) p₁
each_once_code P p₀ p₁ p₂ p₄ p₈ p₁₀ p₁₂ n (inr h) = let small = h.0 in elim h.1 [
  | inl z ↦ dite (ℕ_discrete n 0) (λ e. subst P (sym e) p₀) (λ ne. let e : n ≡ 8 = omega arith
      in subst P (sym e) p₈)
  | inr (inl z) ↦ dite (ℕ_discrete n 2) (λ e. subst P (sym e) p₂) (λ ne. let e : n ≡ 10 = omega arith
      in subst P (sym e) p₁₀)
  | inr (inr z) ↦ dite (ℕ_discrete n 4) (λ e. subst P (sym e) p₄) (λ ne. let e : n ≡ 12 = omega arith
      in subst P (sym e) p₁₂)
]

module _ (at : ℕ) (owns : List Ownership) where
  -- the condition of a step at a value: it leaves a value, what is done stays done, and a step that clears
  -- LOCKED runs it
  abbrev Fits : ℕ → ℕ → Type 0
  Fits n m = IsOnceWord m × (n ≡ 1 → m ≡ 1) × (n / 4 % 2 ≡ 1 → m / 4 % 2 ≡ 0 → has (owning at Runner) owns
      ≡ true)

  keeps : (n m : ℕ) (owners : Owners) → IsOnceCode n owners → Fits n m → (t : Trade) → t ≡ once_trade n m
      → HasAll at t.gives owns × ((after : Owners) → ((weight : Owner → ℕ)
      → after weight + total weight t.gives ≡ owners weight + total weight t.gets) → IsOnceCode m after)
      × Unit {0}
  keeps n m owners code fits t is =
      let runs = code.1 in let done = code.2 in
      let Goal : Trade → Type 0 = λ t. HasAll at t.gives owns
      × ((after : Owners) → ((weight : Owner → ℕ) → after weight + total weight t.gives ≡ owners weight
      + total weight t.gets) → IsOnceCode m after) × Unit {0} in
      let unseen : m ≢ 1 → (k : ℕ) → k ≡ owners witness → 0 < k → m ≡ 1 = λ nm k e some. fits.1
      (done (omega arith)) in
      subst Goal (sym is) (dite (ℕ_discrete m 1)
      (λ m₁. rw (eq-eqb m 1 m₁) (dite (ℕ_discrete (n / 4 % 2) 1)
      (λ l. let z : m / 4 % 2 ≡ 0 = omega arith in rw (eq-eqb (n / 4 % 2) 1 l, eq-eqb (m / 4 % 2) 0 z)
      ((fits.2 l z, tt), (λ after same. (fits.0, omega (arith, same runner), λ some. m₁)), tt))
      (λ nl. rw (ne_eqb (n / 4 % 2) 1 nl) (
        tt,
        (λ after same. (fits.0, omega (arith, same runner), λ some. m₁)),
        tt,
      ))))
      (λ nm. rw (ne_eqb m 1 nm) (dite (ℕ_discrete (n / 4 % 2) 1)
      (λ l. rw (eq-eqb (n / 4 % 2) 1 l, ne_eqb (n / 4 % 2) 0 (λ z. omega arith))
      (dite (ℕ_discrete (m / 4 % 2) 0)
      (λ z. rw (eq-eqb (m / 4 % 2) 0 z) (
        (fits.2 l z, tt),
        (λ after same. (
          fits.0,
          omega (arith, same runner),
          λ some. unseen nm (after witness)
              (omega (arith, same witness)) some,
        )),
        tt,
      ))
      (λ nz. rw (ne_eqb (m / 4 % 2) 0 nz) (
        tt,
        (λ after same. (
          fits.0,
          omega (arith, same runner),
          λ some. unseen nm (after witness)
              (omega (arith, same witness)) some,
        )),
        tt,
      ))))
      (λ nl. let z₀ : n / 4 % 2 ≡ 0 = omega arith in rw (ne_eqb (n / 4 % 2) 1 nl, eq-eqb (n / 4 % 2) 0 z₀)
      (dite (ℕ_discrete (m / 4 % 2) 1)
      (λ z. rw (eq-eqb (m / 4 % 2) 1 z) (
        tt,
        (λ after same. (
          fits.0,
          omega (arith, same runner),
          λ some. unseen nm (after witness)
              (omega (arith, same witness)) some,
        )),
        tt,
      ))
      (λ nz. rw (ne_eqb (m / 4 % 2) 1 nz) (
        tt,
        (λ after same. (
          fits.0,
          omega (arith, same runner),
          λ some. unseen nm (after witness)
              (omega (arith, same witness)) some,
        )),
        tt,
      )))))))

  -- the law of steps on a `Once`'s word
  once_step : (op : Op) → ((n : ℕ) → IsOnceWord n → owned at runner owns ≤ n / 4 % 2 → Fits n (apply op n))
      → MayStep Once at op owns
  once_step op ok n owners fits code mine agrees = let runs = code.1 in keeps n (apply op n) owners code
      (ok n code.0 (omega (arith, mine runner))) (once_trade n (apply op n)) refl

  -- a value that stays fits
  same : (n : ℕ) → IsOnceWord n → Fits n n
  same n word = (word, (λ e. e), λ l z. absurd (omega arith))

  -- a failed exchange is a load
  exchange : (from to : ℕ) → (IsOnceWord from → owned at runner owns ≤ from / 4 % 2 → Fits from to)
      → MayStep Once at (Exchange from to) owns
  exchange from to ok = once_step (Exchange from to) (λ n word mine. dite (ℕ_discrete n from)
      (λ e. subst (λ (m : ℕ). Fits n m) (sym (ap (λ b. cond b to n) (eq-eqb n from e)))
      (subst (λ (k : ℕ). Fits k to) (sym e) (ok (subst IsOnceWord e word)
      (subst (λ (k : ℕ). owned at runner owns ≤ k / 4 % 2) e mine))))
      (λ ne. subst (λ (m : ℕ). Fits n m) (sym (ap (λ b. cond b to n) (ne_eqb n from ne))) (same n word)))

  -- the bit is cleared, and all else stays
  clears : (n : ℕ) → IsOnceWord n → Fits n (apply (And 18446744073709551607) n)
  clears = each_once_code (λ n. Fits n (apply (And 18446744073709551607) n))
      (same 0 (inr (omega arith, inl (omega arith)))) (same 1 (inl refl))
      (same 2 (inr (omega arith, inr (inl (omega arith)))))
      (same 4 (inr (omega arith, inr (inr (omega arith)))))
      (inr (omega arith, inl (omega arith)), (λ e. absurd (omega arith)), λ l u. absurd (omega arith))
      (inr (omega arith, inr (inl (omega arith))), (λ e. absurd (omega arith)), λ l u. absurd (omega arith))
      (inr (omega arith, inr (inr (omega arith))), (λ e. absurd (omega arith)), λ l u. absurd (omega arith))

  pub once_steps_at : OnceSteps at owns
  once_steps_at = record {
    load = once_step Load (λ n word mine. same n word);
    start = λ s small free. exchange s (s / 8 * 8 + 4)
        (λ word mine. (
          inr (omega arith, inr (inr (omega arith))),
          (λ e. elim free [ inl z ↦ absurd (omega arith) | inr z ↦ absurd (omega arith) ]),
          λ l z. absurd
              (omega arith),
        ));
    set_parked = λ s which. exchange s (s + 8) (λ word mine. elim which [
      | inl z ↦ (
        inr (omega arith, inl (omega arith)),
        (λ e. absurd (omega arith)),
        λ l u. absurd
            (omega arith),
      )
      | inr (inl z) ↦ (
        inr (omega arith, inr (inl (omega arith))),
        (λ e. absurd (omega arith)),
        λ l u. absurd (omega arith),
      )
      | inr (inr z) ↦ (
        inr (omega arith, inr (inr (omega arith))),
        (λ e. absurd (omega arith)),
        λ l u. absurd (omega arith),
      )
    ]);
    clear_parked = once_step (And 18446744073709551607) (λ n word mine. clears n word);
    finish = λ m which there. let some : 0 < owned at runner owns = owned_some at Runner owns there runner
        (omega arith) in once_step (Swap m)
        (λ n word mine. (
          elim which [ inl z ↦ inl z | inr z ↦ inr (omega arith, inr (inl (omega arith))) ],
          (λ e. absurd (omega arith)),
          λ l z. there,
        ));
  }

-- all of them
pub once_steps : OnceMaySteps
once_steps at owns = once_steps_at at owns
