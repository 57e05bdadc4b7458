-- The lines of `drain`.
use Rattle.std.specs.Prelude.{ℕ, List, [], ◌∷◌, ◌++◌}
use Rattle.spec_locks.specs.declared.calls.Step.{Step}
use Rattle.lot_text.specs.Steps.{drain_line}

-- a line for each step, of locks with these names
abbrev pub drain_lines : List (List ℕ) → List Step → List ℕ
drain_lines names [] = []
drain_lines names (s ∷ steps) = drain_line names s ++ drain_lines names steps
