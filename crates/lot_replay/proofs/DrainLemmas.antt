-- The steps of a drain, one after another.
use Rattle.std.proofs.Common.{ℕ, ◌≡◌, ◌+◌, ◌<◌, List, ◌++◌, length, drop, ap}
use Rattle.std.specs.Prelude.{slice_index_or}
use Rattle.std.proofs.lemmas.List.{drop_more}
use Rattle.spec_locks.specs.declared.calls.Step.{Step}
use Rattle.lot_text.specs.Steps.{drain_line}
use Rattle.lot_replay.specs.Drains.{drain_lines}

pub drain_step : (names : List (List ℕ)) (steps : List Step) (i : ℕ) (d : Step) → i < length steps
    → drain_lines names (drop i steps) ≡ drain_line names (slice_index_or steps i d) ++ drain_lines names
    (drop (i + 1) steps)
drain_step names steps i d h = ap (drain_lines names) (drop_more steps i d h)
