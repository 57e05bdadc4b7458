-- What comes of lines: what a replay of them writes.
use Rattle.std.specs.Prelude.{◌≡◌, ◌⊎◌, ℕ, List, ◌++◌, ⊤, Option, None, Some}
use Rattle.std.specs.Io.KnownBytes.{IsAtEnd}
use Rattle.lot_text.specs.Text.{malformed_line}
use Rattle.lot_text.specs.Reads.{TakesLine, StartsTooLong}
use Rattle.lot_replay.specs.Stages.{ReplayStage}
use Rattle.lot_replay.specs.Replay.{LineMayLead, IsMalformed, IsText}
use Rattle.lot_explain.specs.declared.lines.Told.{Told}
use Rattle.lot_explain.specs.declared.lines.Told.TheVariants.{Answered, Refused, End}

-- the text that a replay writes of known bytes, and its status
abbrev pub IsTextOf : Option (List ℕ) → List ℕ → ℕ → Type 0
IsTextOf None text status = ⊤
IsTextOf (Some input) text status = IsText input text status

-- a line with a number leads from a stage to another with its answer, or is malformed
abbrev pub TellsLine : List ℕ → ℕ → ReplayStage → ReplayStage → Told → Type 0
TellsLine line number old new (Answered answer note) = LineMayLead old line new answer.items
TellsLine line number old new (Refused answer note) =
    IsMalformed old line × (answer.items ≡ malformed_line number)
TellsLine line number old new End = ⊥

-- a line that is too long is malformed
abbrev pub TellsLong : ℕ → Told → Type 0
TellsLong number (Answered answer note) = ⊥
TellsLong number (Refused answer note) = answer.items ≡ malformed_line number
TellsLong number End = ⊥

-- the answer to the next line of a reader's bytes, or there is none
abbrev pub ComesTo : Option (List ℕ) → Option (List ℕ) → ℕ → ReplayStage → ReplayStage → Told
    → Type 0
ComesTo before after number old new (Answered answer note) =
    (line : List ℕ) × TakesLine before after line × LineMayLead old line new answer.items
ComesTo before after number old new (Refused answer note) =
    (StartsTooLong before ⊎ ((line : List ℕ) × TakesLine before after line × IsMalformed old line))
    × (answer.items ≡ malformed_line number)
ComesTo before after number old new End = IsAtEnd before

-- the answers grow by that of a line, and end with it in a status or go on
abbrev pub Adds : Told → List ℕ → List ℕ → Option ℕ → Type 0
Adds (Answered answer note) old new ending = (ending ≡ None) × (new ≡ old ++ answer.items)
Adds (Refused answer note) old new ending = (ending ≡ Some 2) × (new ≡ old ++ answer.items)
Adds End old new ending = (ending ≡ Some 0) × (new ≡ old)
