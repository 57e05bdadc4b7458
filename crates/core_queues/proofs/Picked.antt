-- There is room for the wants of the waiters that a picker picks, and everybody's wants are those of the
-- line.
use Rattle.std.proofs.Common.{◌≡◌, ℕ, ◌<◌, ◌≤◌, List, [], ◌∷◌, ◌++◌, length, length-append, sym, refl, ap}
use Rattle.std.proofs.Common.{◌∙◌, arith}
use Rattle.std.proofs.lemmas.List.{length-map}
use Rattle.core_base.specs.Picks.{picked}
use Rattle.core_base.specs.declared.picks.Pick.{Pick}
use Rattle.core_base.specs.declared.picks.Pick.TheVariants.{Unpark, Skip, Stop}
use Rattle.core_base.specs.declared.wants.Waiter.{Waiter}
use Rattle.core_base.specs.declared.wants.Want.{Want}
use Rattle.core_queues.specs.Wants.{wants_of}

module _ {P : Type 0} (answer : P → Want → Pick) (next : P → Want → P) where
  -- tells what comes of the first of a line, by what is answered to its want
  abbrev by_answer : P → Waiter → List Waiter → Pick → List Waiter
  by_answer picker x xs pick = elim pick [
    | Unpark ↦ x ∷ picked answer next (next picker x.want) xs
    | Skip ↦ picked answer next (next picker x.want) xs
    | Stop ↦ []
  ]

  fewer_picked : (picker : P) (line : List Waiter) → length (picked answer next picker line) ≤ length line
  fewer_picked picker [] = omega arith
  fewer_picked picker (x ∷ xs) = let later = fewer_picked (next picker x.want) xs in
      elim (answer picker x.want) as (λ (pick : Pick). length (by_answer picker x xs pick) ≤ length (x ∷ xs))
      [ Unpark ↦ omega arith | Skip ↦ omega arith | Stop ↦ omega arith ]

  pub room_for_want : (first picker : P) (wants : List Want) (line rest more : List Waiter) (x : Waiter)
      (capacity : ℕ) → wants ++ wants_of (picked answer next picker rest) ≡ wants_of
      (picked answer next first line)
      → rest ≡ x ∷ more → Unpark ≡ answer picker x.want → length line ≤ capacity → length wants < capacity
  room_for_want first picker wants line rest more x capacity noted is unparks few =
      let one : picked answer next picker rest ≡ x ∷ picked answer next (next picker x.want) more =
      ap (picked answer next picker) is ∙ ap (by_answer picker x more) (sym unparks) in
      omega (
        arith,
        ap length noted,
        length-append wants (wants_of (picked answer next picker rest)),
        length-map (picked answer next picker rest) (λ (x : Waiter). x.want),
        ap length one,
        length-map (picked answer next first line) (λ (x : Waiter). x.want),
        fewer_picked first line,
      )

pub picked-everybody : {P : Type 0} (picker : P) (line : List Waiter) → picked (λ _ _. Unpark) (λ p _. p)
    picker line ≡ line
picked-everybody picker [] = refl
picked-everybody picker (x ∷ xs) = ap (λ ys. x ∷ ys) (picked-everybody picker xs)
