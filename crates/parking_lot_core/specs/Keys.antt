-- The keys of a section.
use Rattle.std.specs.Prelude.{ℕ, ◌≡◌, ◌≢◌, ◌⊎◌}
use Rattle.core_base.specs.declared.keys.Keys.{Keys}
use Rattle.core_base.specs.declared.keys.Keys.TheVariants.{One, Two}

-- two keys differ
abbrev pub AreKeys : Keys → Type 0
AreKeys (One key) = Unit {0}
AreKeys (Two from to) = from ≢ to

abbrev pub IsKeyOf : Keys → ℕ → Type 0
IsKeyOf (One one) key = key ≡ one
IsKeyOf (Two from to) key = (key ≡ from) ⊎ (key ≡ to)

abbrev pub first_key : Keys → ℕ
first_key (One key) = key
first_key (Two from to) = from
