-- The value of a word after one operation.
use Rattle.std.specs.Prelude.{ℕ, if◌then◌else◌, ◌==◌, ◌+◌, ◌-◌, ◌%◌, ◌^◌, bit_and, bit_or}
use Rattle.core_base.specs.declared.ops.Op.{Op}
use Rattle.core_base.specs.declared.ops.Op.TheVariants.{Load, Store, Swap, Add, Sub, Or, And, Exchange}

-- sums and differences wrap at 64 bits
abbrev pub apply : Op → ℕ → ℕ
apply Load seen = seen
apply (Store value) seen = value
apply (Swap value) seen = value
apply (Add by) seen = (seen + by) % 2 ^ 64
apply (Sub by) seen = (seen + (2 ^ 64 - by)) % 2 ^ 64
apply (Or bits) seen = bit_or seen bits
apply (And bits) seen = bit_and seen bits
apply (Exchange from to) seen = if seen == from then to else seen
