-- The kinds of step on a semaphore's word, each an instance of one law.
use Rattle.std.proofs.Common.{◌≡◌, ℕ, zero, suc, ◌+◌, ◌-◌, ◌*◌, ◌/◌, ◌%◌, ◌^◌, ◌<◌, ◌≤◌, List}
use Rattle.std.proofs.Common.{◌++◌, ◌∙◌, cond, eqb, sym, refl, ap, subst, arith, eq-eqb, ne_eqb}
use Rattle.std.proofs.Common.{bit_and}
use Rattle.std.proofs.lemmas.Nat.{and-not, and_comm}
use Rattle.std.proofs.lemmas.Nat.Bits.{and_pow}
use mathlib.Core.Logic.{dite}
use native.Mathlib.Decide.{ℕ_discrete}
use Rattle.core_base.specs.Words.{apply}
use Rattle.core_base.specs.declared.ops.Op.{Op}
use Rattle.core_base.specs.declared.ops.Op.TheVariants.{Load, Add, And, Exchange}
use Rattle.core_words.specs.Views.{total, owned, owning}
use Rattle.core_words.specs.Codes.{everyone, shared}
use Rattle.core_words.specs.Steps.{has, HasAll, MayStep, holding, owns_after}
use Rattle.core_words.specs.Steps.{so_many_shared, trading, without, without_all}
use Rattle.core_words.specs.Laws.{SemaphoreSteps, SemaphoreMaySteps, SemaphoreTrading}
use Rattle.core_words.specs.declared.owners.Owner.{Owner}
use Rattle.core_words.specs.declared.owners.Owner.TheVariants.{Shared}
use Rattle.core_words.specs.declared.owners.Ownership.{Ownership}
use Rattle.core_words.specs.declared.words.WordKind.TheVariants.{Semaphore}
use Rattle.core_words.proofs.Totals.{cond_same}
use Rattle.core_words.proofs.Trades.{has_first, total-without, without_first}

pub many_of : (weight : Owner → ℕ) → weight Shared ≡ 1 → (n : ℕ) → total weight (so_many_shared n) ≡ n
many_of weight one zero = refl
many_of weight one (suc n) = omega (arith, many_of weight one n)

-- a thread that has so many has no fewer
pub has_many : (at many : ℕ) (owns : List Ownership) → HasAll at (so_many_shared many) owns → many
    ≤ owned at shared owns
has_many at zero owns h = omega arith
has_many at (suc n) owns h = omega (
  arith,
  has_many at n (without (owning at Shared) owns) h.1,
  total-without (λ (x : Ownership). cond (eqb x.at at) (shared x.owner) 0) (owning at Shared) owns h.0,
  cond_same at at 1 refl,
)

-- a permit that a seat has
one_of : (at k : ℕ) (owns : List Ownership) → k ≡ 0 → HasAll at (so_many_shared k) owns
one_of at k owns e = subst (λ n. HasAll at (so_many_shared n) owns) (sym e) tt

module _ (permits at : ℕ) (owns : List Ownership) where
  -- the condition of a step where it finds a code: it gives up what the seat has
  by_law : (op : Op) → ((n : ℕ) → n < 2 ^ 64 → n / 2 + owned at shared owns ≤ 2 ^ 62
      → HasAll at (so_many_shared (apply op n / 2 - n / 2)) owns) → MayStep (Semaphore permits) at op owns
  by_law op ok n owners fits code mine agrees = let a : ℕ = n / 2 in let b : ℕ = apply op n / 2 in let few =
      code.0 in let all = code.1 in (
        ok n fits (omega (arith, mine shared)),
        (λ after same. (
          omega (arith, same shared, many_of shared refl (a - b), many_of shared refl (b - a)),
          omega (
            arith,
            same shared,
            many_of shared refl (a - b),
            many_of shared refl (b - a),
            same everyone,
            many_of everyone refl (a - b),
            many_of everyone refl (b - a),
          ),
        )),
        tt,
      )

  -- a failed exchange is a load
  exchange : (from to : ℕ) → to / 2 ≤ from / 2 → MayStep (Semaphore permits) at (Exchange from to) owns
  exchange from to less = by_law (Exchange from to) (λ n fits few. one_of at
      (apply (Exchange from to) n / 2 - n / 2) owns (dite (ℕ_discrete n from)
      (λ e. let is : apply (Exchange from to) n ≡ to = ap (λ b. cond b to n) (eq-eqb n from e) in omega arith)
      (λ ne. let is : apply (Exchange from to) n ≡ n = ap (λ b. cond b to n) (ne_eqb n from ne)
      in omega arith)))

  -- permits that are given back
  adds : (many : ℕ) → HasAll at (so_many_shared many) owns → MayStep (Semaphore permits) at (Add (2 * many))
      owns
  adds many h = by_law (Add (2 * many)) (λ n fits few. let mine = has_many at many owns h in
      let is : (n + 2 * many) % 2 ^ 64 / 2 - n / 2 ≡ many = omega arith
      in subst (λ k. HasAll at (so_many_shared k) owns) (sym is) h)

  pub semaphore_steps_at : SemaphoreSteps permits at owns
  semaphore_steps_at = record {
    load = by_law Load (λ n fits few. one_of at (n / 2 - n / 2) owns (omega arith));
    take = λ s some. exchange s (s - 2) (omega arith);
    set_parked = exchange 0 1 (omega arith);
    clear_parked = by_law (And 18446744073709551614) (λ n fits few. one_of at
        (bit_and n 18446744073709551614 / 2 - n / 2) owns
        (omega (
          arith,
          and-not 64 (2 ^ 0) n (omega arith) fits,
          and_comm n (2 ^ 64 - 1 - 2 ^ 0),
          and_comm n (2 ^ 0),
          and_pow n 0,
        )));
    give = λ h. adds 1 (h, tt);
    fill = adds;
  }

-- all of them
pub semaphore_steps : SemaphoreMaySteps
semaphore_steps permits at owns = semaphore_steps_at permits at owns

-- ---------------------------------------------------------------- the trades

holds_all : (at many : ℕ) (owns : List Ownership) → HasAll at (so_many_shared many) (holding at many ++ owns)
holds_all at zero owns = tt
holds_all at (suc n) owns = (
  has_first (owning at Shared) (holding at n ++ owns),
  subst (λ (xs : List Ownership). HasAll at (so_many_shared n) xs)
      (sym (without_first (owning at Shared) (holding at n ++ owns))) (holds_all at n owns),
)

gives_all : (at many : ℕ) (owns : List Ownership) → without_all at (so_many_shared many) (holding at many
    ++ owns) ≡ owns
gives_all at zero owns = refl
gives_all at (suc n) owns = ap (without_all at (so_many_shared n)) (without_first (owning at Shared)
    (holding at n ++ owns)) ∙ gives_all at n owns

-- by how many permits are given up and got
traded : (at a b : ℕ) (owns : List Ownership) → (g k : ℕ) → b - a ≡ g → a - b ≡ k
    → owns_after at (trading (so_many_shared (b - a)) (so_many_shared (a - b))) owns ≡ owns_after at
    (trading (so_many_shared g) (so_many_shared k)) owns
traded at a b owns g k e f = λ i. owns_after at (trading (so_many_shared (e i)) (so_many_shared (f i))) owns

pub semaphore_trades : SemaphoreTrading
semaphore_trades permits at owns = record {
  takes = λ s some. let left : ℕ = apply (Exchange s (s - 2)) s in
      let is : left ≡ s - 2 = ap (λ b. cond b (s - 2) s) (eq-eqb s s refl) in
      traded at (s / 2) (left / 2) owns 0 1 (omega arith) (omega arith);
  gives = λ n small. traded at (n / 2) ((n + 2) % 2 ^ 64 / 2) owns 1 0 (omega arith) (omega arith);
  has_all = λ many. holds_all at many owns;
  fills = λ many n small. traded at (n / 2) ((n + 2 * many) % 2 ^ 64 / 2) (holding at many ++ owns) many 0
      (omega arith) (omega arith) ∙ gives_all at many owns;
  few = λ n code. let c = code.1 in let all = c.0 in omega (arith, code.2 shared);
}
