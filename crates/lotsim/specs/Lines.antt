-- The text that the program writes of its threads, and how it ends.
use Rattle.std.specs.Prelude.{ℕ, ◌≡◌, ◌⊎◌, ◌++◌, Bool, if◌then◌else◌, List, [], Option, codes, decimal}
use Rattle.lot_text.specs.Sent.{Sends, SendsFront}
use Rattle.lotsim.specs.declared.live.lines.Told.{Told}

abbrev pub met_line : Bool → List ℕ
met_line met = if met then codes "readers met\n" else codes "readers did not meet\n"

abbrev pub told_lines : Told → List ℕ
told_lines told =
    met_line told.met ++
    (codes "read " ++
    (decimal told.read ++ (codes "\ncount " ++ (decimal told.count ++ codes "\n"))))

abbrev pub refused_line : List ℕ
refused_line = codes "no memory\n"

abbrev pub status_for : Told → ℕ
status_for told = if told.met then 0 else 1

-- the text went out, or a write failed and not all of it went out
abbrev pub Writes : Option (List ℕ) → Option (List ℕ) → List ℕ → ℕ → ℕ → Type 0
Writes before after text ending status =
    ((status ≡ ending) × Sends before after text []) ⊎ ((status ≡ 4) × SendsFront before after text)

-- the lines of what came of the threads, or that there was no memory
abbrev pub Lives : Option (List ℕ) → Option (List ℕ) → ℕ → Type 0
Lives before after status =
    ((told : Told) × Writes before after (told_lines told) (status_for told) status)
    ⊎ Writes before after refused_line 3 status
