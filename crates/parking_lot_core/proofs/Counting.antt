-- The counts that a thread stores.
use Rattle.std.proofs.Common.{◌≡◌, ◌⊎◌, inr, ℕ, ◌+◌, ◌-◌, ◌/◌, ◌%◌, ◌<◌, arith}
use Rattle.core_words.specs.Codes.{IsCountCode}
use Rattle.parking_lot_core.specs.Counts.{Names, first_said}

-- once more
pub more_next : (thread said next : ℕ) → Names thread said → next ≡ said + 1
    → said % 4294967296 < 4294967295
    → IsCountCode next × (next / 4294967296 ≡ thread + 1)
    × (next % 4294967296 ≡ said % 4294967296 + 1)
more_next thread said next names more few = (
  inr (thread, said % 4294967296 + 1, omega (arith, names, more), omega arith, omega (arith, few)),
  omega (arith, names, more, few),
  omega (arith, names, more, few),
)

-- once less, and not for the last time
pub less_next : (thread said : ℕ) → Names thread said → 1 < said % 4294967296
    → IsCountCode (said - 1) × ((said - 1 ≡ 0) ⊎ ((said - 1) / 4294967296 ≡ thread + 1))
    × (said % 4294967296 ≡ (said - 1) % 4294967296 + 1)
less_next thread said names several = (
  inr (
    thread,
    said % 4294967296 - 1,
    omega (arith, names, several),
    omega (arith, several),
    omega (arith, several),
  ),
  inr (omega (arith, names, several)),
  omega (arith, names, several),
)

-- for the first time
pub first_next : (thread first : ℕ) → first ≡ first_said thread
    → IsCountCode first × (first / 4294967296 ≡ thread + 1)
    × (first % 4294967296 ≡ 0 % 4294967296 + 1)
first_next thread first is = (
  inr (thread, 1, is, omega arith, omega arith),
  omega (arith, is),
  omega (arith, is),
)
