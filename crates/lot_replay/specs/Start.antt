-- The program's work for its arguments.
use Rattle.std.specs.Prelude.{◌≡◌, ◌⊎◌, ℕ, List, map, codes, Option}
use Rattle.std.specs.Io.KnownBytes.{Appends}
use Rattle.lot_text.specs.Sent.{SendsFront}
use denote.Ref.{Bor}

abbrev pub texts_of : List (Bor (List ℕ)) → List (List ℕ)
texts_of args = map (λ (arg : Bor (List ℕ)). arg.now) args

abbrev pub usage_line : List ℕ
usage_line = codes "usage: lotsim replay | lotsim live\n"

-- the usage went out, or a write failed and not all of it went out
abbrev pub TellsUsage : Option (List ℕ) → Option (List ℕ) → ℕ → Type 0
TellsUsage before after status = ((status ≡ 2) × Appends before after usage_line)
    ⊎ ((status ≡ 4) × SendsFront before after usage_line)
