-- The parts that a thread reads in a word are those of the lock.
use Rattle.std.proofs.Common.{ℕ, ◌≡◌, ◌+◌, ◌*◌, ◌/◌, ◌%◌, ◌≤◌, ◌<◌, ◌^◌, refl, ap, sym, ◌∙◌, bit_and, arith}
use Rattle.std.proofs.lemmas.Nat.{and_block, and_mask, and_comm, and_le_l, and-not}
use Rattle.std.proofs.lemmas.Grind.{and_high_numeral}
use Rattle.spec_locks.specs.Codes.{packed}

pub packed_count : (c w u a p : ℕ) → w ≤ 1 → u ≤ 1 → a ≤ 1 → p ≤ 1 → packed c w u a p / 16 ≡ c
packed_count c w u a p hw hu ha hp = omega arith

pub packed_writer : (c w u a p : ℕ) → w ≤ 1 → u ≤ 1 → a ≤ 1 → p ≤ 1 → packed c w u a p / 8 % 2 ≡ w
packed_writer c w u a p hw hu ha hp = omega arith

pub packed_upgradable : (c w u a p : ℕ) → w ≤ 1 → u ≤ 1 → a ≤ 1 → p ≤ 1 → packed c w u a p / 4 % 2 ≡ u
packed_upgradable c w u a p hw hu ha hp = omega arith

pub packed_aside : (c w u a p : ℕ) → w ≤ 1 → u ≤ 1 → a ≤ 1 → p ≤ 1 → packed c w u a p / 2 % 2 ≡ a
packed_aside c w u a p hw hu ha hp = omega arith

pub packed_parked : (c w u a p : ℕ) → w ≤ 1 → u ≤ 1 → a ≤ 1 → p ≤ 1 → packed c w u a p % 2 ≡ p
packed_parked c w u a p hw hu ha hp = omega arith

-- ---------------------------------------------------------------- a bit is cleared

pub clears_low : (v : ℕ) → v < 2 ^ 64 → bit_and v 18446744073709551614 + v % 2 ≡ v
clears_low v lt = and_high_numeral v 18446744073709551613 refl lt

second_bit : (v : ℕ) → bit_and 2 v ≡ 2 * (v / 2 % 2)
second_bit v =
    let e : v / 2 * 2 + v % 2 ≡ v = omega arith in
    let b : bit_and (1 * 2 ^ 1 + 0) (v / 2 * 2 ^ 1 + v % 2) ≡ bit_and 1 (v / 2) * 2 ^ 1 + bit_and 0 (v % 2) =
    and_block 1 1 (v / 2) 0 (v % 2) (omega arith) (omega arith) in
    let c : bit_and 1 (v / 2) ≡ v / 2 % 2 = and_comm 1 (v / 2) ∙ and_mask (v / 2) 1 in
    let z : bit_and 0 (v % 2) ≤ 0 = and_le_l 0 (v % 2) in
    let f : bit_and 2 v ≡ bit_and 1 (v / 2) * 2 + bit_and 0 (v % 2) = ap (λ n. bit_and 2 n) (sym e) ∙ b in
    omega arith

pub clears_second : (v : ℕ) → v < 2 ^ 64 → bit_and v 18446744073709551613 + 2 * (v / 2 % 2) ≡ v
clears_second v lt =
    let a : bit_and 18446744073709551613 v + bit_and 2 v ≡ v = and-not 64 2 v (omega arith) lt in
    let b = and_comm v 18446744073709551613 in
    let c = second_bit v in
    omega arith
