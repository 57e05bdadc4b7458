-- The keys of a word's queues.
use Rattle.std.specs.Prelude.{ℕ, ◌+◌, ◌*◌}
use Rattle.core_base.specs.declared.keys.Line.{Line}
use Rattle.core_base.specs.declared.keys.Line.TheVariants.{Main, Second}

abbrev pub key_of : ℕ → Line → ℕ
key_of word Main = 2 * word
key_of word Second = 2 * word + 1
