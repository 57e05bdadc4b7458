-- The bytes that reading a line takes from a reader.
use Rattle.std.specs.Prelude.{◌≡◌, ◌≢◌, ℕ, ◌<◌, ◌≤◌, List, [], ◌∷◌, ◌++◌, length, ⊤, Option, None, Some, All}
use Rattle.std.specs.Io.KnownBytes.{Consumes, Keeps, IsAtEnd}
use Rattle.lot_text.specs.Lines.{line_len, lines_of}
use Rattle.lot_text.specs.declared.input.Reading.{Reading}
use Rattle.lot_text.specs.declared.input.Reading.TheVariants.{Line, TooLong, End, Failed}
use Rattle.lot_text.specs.declared.input.Piece.{Piece}
use Rattle.lot_text.specs.declared.input.Piece.TheVariants.{More, LineFeed, NoRoom, NoMore, Refused}

-- bytes of one line
abbrev pub IsOneLine : List ℕ → Type 0
IsOneLine part = All (λ b. b ≢ 10) part

-- known bytes lose their first line
abbrev pub TakesLine : Option (List ℕ) → Option (List ℕ) → List ℕ → Type 0
TakesLine None new line = ⊤
TakesLine (Some xs) None line = ⊥
TakesLine (Some xs) (Some ys) line = lines_of xs ≡ line ∷ lines_of ys

-- the first line of known bytes is too long
abbrev pub StartsTooLong : Option (List ℕ) → Type 0
StartsTooLong None = ⊤
StartsTooLong (Some xs) = (line : List ℕ) × (lines : List (List ℕ)) × (line_len < length line)
    × (lines_of xs ≡ line ∷ lines)

-- known bytes lose a part of their first line
abbrev pub TakesPart : Option (List ℕ) → Option (List ℕ) → Type 0
TakesPart old new = (part : List ℕ) × IsOneLine part × Consumes old new part

-- the effect of `read_line` on the known bytes, where `line` is what it read
abbrev pub ReadsLine : Option (List ℕ) → Option (List ℕ) → Reading → List ℕ → Type 0
ReadsLine old new Line line = TakesLine old new line × (length line ≤ line_len)
ReadsLine old new TooLong line = StartsTooLong old
ReadsLine old new End line = IsAtEnd old
ReadsLine old new Failed line = TakesPart old new

-- the effect of one look at the reader's bytes, where the line read so far grows from `before` to `after`
abbrev pub TakesPiece : Option (List ℕ) → Option (List ℕ) → Piece → List ℕ → List ℕ → Type 0
TakesPiece old new More before after = (part : List ℕ) × IsOneLine part × Consumes old new part
    × (after ≡ before ++ part) × (length after ≤ line_len)
TakesPiece old new LineFeed before after = (part : List ℕ) × IsOneLine part
    × Consumes old new (part ++ 10 ∷ [])
    × (after ≡ before ++ part) × (length after ≤ line_len)
TakesPiece old new NoRoom before after = (part : List ℕ) × (then : Option (List ℕ)) × IsOneLine part
    × Consumes old then part × (line_len < length (before ++ part))
TakesPiece old new NoMore before after = IsAtEnd old × Keeps old new × (after ≡ before)
TakesPiece old new Refused before after = Keeps old new × (after ≡ before)
