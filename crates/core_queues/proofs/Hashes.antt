-- Each key has a bucket.
use Rattle.std.proofs.Common.{ℕ, zero, suc, ◌≡◌, ◌≢◌, ◌+◌, ◌-◌, ◌*◌, ◌/◌, ◌%◌, ◌<◌, ◌^◌, refl, ap, subst, ◌∙◌}
use Rattle.std.proofs.Common.{arith}
use Rattle.std.proofs.Math.Nat.{div-lt_iff_lt-mul, mod-lt}
use Rattle.std.proofs.lemmas.Nat.{pow-add, pow_pos}
use Rattle.core_queues.specs.Chains.{bucket_of}

pub first_bucket : (key : ℕ) → bucket_of 0 key ≡ 0
unfolding bucket_of
first_bucket key = refl

pub bucket_is : (bits key : ℕ) → bits ≢ 0 → ((key * 11400714819323198485) % 2 ^ 64) / 2 ^ (64 - bits)
    ≡ bucket_of bits key
unfolding bucket_of
bucket_is zero key some = absurd (some refl)
bucket_is (suc bits) key some = refl

-- a number of 64 bits, shifted so that some of its bits are left
few_left : (n bits : ℕ) → bits < 64 → n < 2 ^ 64 → n / 2 ^ (64 - bits) < 2 ^ bits
few_left n bits h below =
    let parts : 2 ^ 64 ≡ 2 ^ bits * 2 ^ (64 - bits) = ap (λ (k : ℕ). 2 ^ k) (sum bits h)
    ∙ pow-add 2 bits (64 - bits) in
    (div-lt_iff_lt-mul (pow_pos (64 - bits))).1 (subst (λ (m : ℕ). n < m) parts below) where
      sum : (bits : ℕ) → bits < 64 → 64 ≡ bits + (64 - bits)
      sum bits h = omega arith

pub bucket_below : (bits key : ℕ) → bits < 64 → bucket_of bits key < 2 ^ bits
unfolding bucket_of
bucket_below zero key h = omega arith
bucket_below (suc bits) key h = few_left ((key * 11400714819323198485) % 2 ^ 64) (suc bits) h
    (mod-lt (key * 11400714819323198485) (pow_pos 64))
