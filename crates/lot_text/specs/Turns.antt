-- The plain turns of a schedule, and the line with which a text begins.
use Rattle.std.specs.Prelude.{◌≡◌, ℕ, ◌+◌, ◌≤◌, List, ◌∷◌, ◌++◌, length, ⊤, Some, codes}
use Rattle.lot_text.specs.Lines.{line_len}
use Rattle.lot_text.specs.Reads.{IsOneLine}
use Rattle.lot_text.specs.Grammar.{meaning}
use Rattle.lot_text.specs.declared.grammar.Command.TheVariants as command
use Rattle.lot_text.specs.declared.grammar.NamedTurn.{NamedTurn}
use Rattle.lot_text.specs.declared.grammar.NamedTurn.TheVariants as named
use Rattle.lot_text.specs.declared.turns.PlainTurn.{PlainTurn}
use Rattle.lot_text.specs.declared.turns.PlainTurn.TheVariants as plain
use Rattle.lot_text.specs.declared.turns.Line.{Line}
use Rattle.lot_text.specs.declared.turns.Line.TheVariants as lines

abbrev pub named_turn : PlainTurn → NamedTurn
named_turn plain.Go = named.Go
named_turn plain.Spin = named.Spin
named_turn plain.Late = named.Late

abbrev pub word_of_turn : PlainTurn → List ℕ
word_of_turn plain.Go = codes "go"
word_of_turn plain.Spin = codes "spin"
word_of_turn plain.Late = codes "late"

-- a line is a turn of a thread
abbrev pub IsTurn : List ℕ → ℕ → PlainTurn → Type 0
IsTurn line thread turn = (length line ≤ line_len)
    × (meaning line ≡ Some (command.Turn thread (named_turn turn)))

-- a text begins with a space, the word of a turn and a line feed, which are so many bytes
abbrev pub BeginsWithWord : List ℕ → PlainTurn → ℕ → Type 0
BeginsWithWord text turn len = (rest : List ℕ) × (text ≡ 32 ∷ (word_of_turn turn ++ 10 ∷ rest))
    × (len ≡ length (word_of_turn turn) + 2)

-- a text begins with the line of a turn and its line feed, which are so many bytes
abbrev pub BeginsWithTurn : List ℕ → ℕ → PlainTurn → ℕ → Type 0
BeginsWithTurn text thread turn len = (line : List ℕ) × (rest : List ℕ) × (text ≡ line ++ 10 ∷ rest)
    × (len ≡ length line + 1)
    × IsOneLine line × IsTurn line thread turn

-- the meaning of a line
abbrev pub Says : Line → List ℕ → Type 0
Says (lines.Turn thread turn) line = IsTurn line thread turn
Says lines.Text line = ⊤

-- a text begins with a line that says this and with its line feed, which are so many bytes
abbrev pub BeginsWithLine : List ℕ → Line → ℕ → Type 0
BeginsWithLine text said len = (line : List ℕ) × (rest : List ℕ) × (text ≡ line ++ 10 ∷ rest)
    × (len ≡ length line + 1)
    × IsOneLine line × Says said line
