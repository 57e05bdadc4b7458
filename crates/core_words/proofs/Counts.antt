-- The facts that views tell about a count word.
use Rattle.std.proofs.Common.{◌≡◌, ℕ, ◌≤◌, List, [], ◌∷◌, set, true, cond, eqb, refl, arith}
use mathlib.Core.Logic.{dite}
use mathlib.Core.Option.{some}
use native.Mathlib.Decide.{ℕ_discrete}
use lib.ListN.{get_elem?}
use Rattle.core_words.specs.Views.{blank, total, owned, owning_with, named, counted}
use Rattle.core_words.specs.Codes.{everyone}
use Rattle.core_words.specs.Steps.{has, without}
use Rattle.core_words.specs.declared.owners.Ownership.{Ownership}
use Rattle.core_words.specs.declared.views.View.{View}
use Rattle.core_words.proofs.Totals.{total-set, term_le, cond_same, cond_other}
use Rattle.core_words.proofs.Trades.{total-without}

-- a thread that isn't there says nothing
pub no_count : (at : ℕ) (owns : List Ownership) → owned at everyone owns ≡ 0 → counted at owns ≡ 0
no_count at [] none = refl
no_count at (x ∷ xs) none = dite (ℕ_discrete x.at at)
    (λ e. absurd (omega (arith, cond_same x.at at 1 e)))
    (λ ne. omega (
      arith,
      cond_other x.at at 1 ne,
      cond_other x.at at x.count ne,
      no_count at xs (omega (arith, cond_other x.at at 1 ne)),
    ))

pub no_counts : (at : ℕ) (views : List View) → named at everyone views ≡ 0
    → total (λ (v : View). counted at v.owns) views ≡ 0
no_counts at [] none = refl
no_counts at (v ∷ vs) none = omega (arith, no_count at v.owns (omega arith), no_counts at vs (omega arith))

-- an only owner says all that is said
pub counted-where : (views : List View) (id : ℕ) (v : View) → get_elem? views id ≡ some v → (at count : ℕ)
    → has (owning_with at count) v.owns ≡ true → named at everyone views ≤ 1
    → count ≡ total (λ (u : View). counted at u.owns) views
counted-where views id v me at count there one =
    let x = owning_with at count in let rest = without x v.owns in
    let here = total-without (λ (y : Ownership). cond (eqb y.at at) (everyone y.owner) 0) x v.owns there in
    let said = total-without (λ (y : Ownership). cond (eqb y.at at) y.count 0) x v.owns there in
    let self = cond_same at at 1 refl in let says = cond_same at at count refl in
    let up = term_le (λ (u : View). owned at everyone u.owns) views id v me in
    let others = total-set (λ (u : View). owned at everyone u.owns) views id v blank me in
    let theirs = no_counts at (set views id blank) (omega arith) in
    omega (
      arith,
      no_count at rest (omega arith),
      total-set (λ (u : View). counted at u.owns) views id v blank
          me,
    )
