-- The text of a schedule, and what `replay` may leave after.
use Rattle.std.specs.Prelude.{◌≡◌, ◌≤◌, ℕ, ◌+◌, Bool, true, false, List, [], ◌∷◌, ◌++◌, length, ⊤, Option}
use Rattle.std.specs.Prelude.{None, Some, ◌⊎◌, All}
use Rattle.std.specs.Io.KnownBytes.{Appends}
use Rattle.lot_text.specs.Sent.{SendsFront}
use Rattle.lot_text.specs.Lines.{lines_of}
use Rattle.lot_text.specs.Reads.{IsOneLine}
use Rattle.lot_text.specs.Grammar.{meaning}
use Rattle.lot_text.specs.declared.grammar.Command.{Command}
use Rattle.lot_text.specs.declared.grammar.Command.TheVariants as command
use Rattle.lot_text.specs.Text.{malformed_line, no_memory_line}
use Rattle.lot_replay.specs.Stages.{ReplayStage, nothing, after_line}
use Rattle.lot_replay.specs.Answers.{is_drain}

-- ---------------------------------------------------------------- the text of a schedule

-- a line may lead from a stage to another with this text
abbrev pub LineMayLead : ReplayStage → List ℕ → ReplayStage → List ℕ → Type 0
LineMayLead stage line next text = after_line stage line ≡ Some (next, text)

abbrev pub IsMalformed : ReplayStage → List ℕ → Type 0
IsMalformed stage line = after_line stage line ≡ None

-- the lines from a number on have this text and end in this status: the first of another form is
-- the last that is answered
abbrev pub IsReplay : ℕ → ReplayStage → List (List ℕ) → List ℕ → ℕ → Type 0
IsReplay number stage [] text status = (text ≡ []) × (status ≡ 0)
IsReplay number stage (line ∷ lines) text status =
    (IsMalformed stage line × (text ≡ malformed_line number) × (status ≡ 2))
    ⊎ ((next : ReplayStage) × (first : List ℕ) × (others : List ℕ) × LineMayLead stage line next first
    × (text ≡ first ++ others) × IsReplay (number + 1) next lines others status)

-- all lines of a schedule
abbrev pub LinesWrite : List (List ℕ) → List ℕ → ℕ → Type 0
LinesWrite lines text status = IsReplay 1 nothing lines text status

-- the text of an input, and its status
abbrev pub IsText : List ℕ → List ℕ → ℕ → Type 0
IsText input text status = LinesWrite (lines_of input) text status

-- ---------------------------------------------------------------- where memory or a device fails

-- a line says how many threads there are, or declares a lock
abbrev pub is_declaration : Option Command → Bool
is_declaration (Some (command.Threads threads)) = true
is_declaration (Some (command.Lock name kind)) = true
is_declaration _ = false

abbrev pub Declares : List ℕ → Type 0
Declares line = is_declaration (meaning line) ≡ true

-- memory may be refused at a `drain`, and where no line before is a turn, a `show` or a `drain`
abbrev pub MayLackMemory : List (List ℕ) → List ℕ → Type 0
MayLackMemory done line = All Declares done ⊎ (is_drain (meaning line) ≡ true)

-- memory was refused at a line that has a text, which isn't the first: the text of the lines before
-- it, and the last line
pub record StopsForMemory (input text : List ℕ) : Type 0 where
  pub done : List (List ℕ)
  pub line : List ℕ
  pub rest : List (List ℕ)
  pub lines : lines_of input ≡ done ++ line ∷ rest
  pub lacked : MayLackMemory done line
  pub some_line : 1 ≤ length done
  pub before : List ℕ
  pub wrote : LinesWrite done before 0
  pub whole : List ℕ
  pub would : LinesWrite (done ++ line ∷ []) whole 0
  pub written : text ≡ before ++ no_memory_line (length done + 1)

-- a read or a write failed: the text of the lines read, where `left` is what the reader still has
-- and `part` what it gave of a line
pub record StopsEarly (input left text : List ℕ) : Type 0 where
  pub done : List (List ℕ)
  pub part : List ℕ
  pub one : IsOneLine part
  pub lines : lines_of input ≡ done ++ lines_of (part ++ left)
  pub wrote : LinesWrite done text 0

-- the text that is right, and its status; `old` and `new` are the reader's bytes
abbrev pub MayWrite : Option (List ℕ) → Option (List ℕ) → List ℕ → ℕ → Type 0
MayWrite None new text status = ⊤
MayWrite (Some input) None text status = IsText input text status
    ⊎ ((status ≡ 3) × StopsForMemory input text)
MayWrite (Some input) (Some left) text status = IsText input text status
    ⊎ (((status ≡ 3) × StopsForMemory input text) ⊎ ((status ≡ 4) × StopsEarly input left text))

-- all of such a text went out, or a write failed and not all of it went out
abbrev pub Replays : Option (List ℕ) → Option (List ℕ) → Option (List ℕ) → Option (List ℕ) → ℕ
    → Type 0
Replays old new before after status = (text : List ℕ) × (ending : ℕ) × MayWrite old new text ending
    × (((status ≡ ending) × Appends before after text)
    ⊎ ((status ≡ 4) × SendsFront before after text))

-- ---------------------------------------------------------------- laws

-- the first list begins the second
abbrev pub IsBeginning : List ℕ → List ℕ → Type 0
IsBeginning front text = (back : List ℕ) × (front ++ back ≡ text)

-- a schedule that begins another, at the end of a line, has a text that begins the other's
abbrev pub BeginningsBegin : Type 0
BeginningsBegin = (front back text longer : List ℕ) (status ending : ℕ)
    → IsText (front ++ 10 ∷ []) text status
    → IsText (front ++ 10 ∷ back) longer ending → IsBeginning text longer

-- the answers given before memory or a device failed begin the text of the whole input
abbrev pub EarlyTextsBegin : Type 0
EarlyTextsBegin = (input whole : List ℕ) (status : ℕ) → IsText input whole status
    → ((left text : List ℕ) → StopsEarly input left text → IsBeginning text whole)
    × ((text : List ℕ) (stop : StopsForMemory input text) → IsBeginning stop.before whole)

-- each input has one text
abbrev pub HasOneText : Type 0
HasOneText = (input : List ℕ) → (text : List ℕ) × (status : ℕ) × IsText input text status
    × ((other : List ℕ) (ending : ℕ) → IsText input other ending
    → (other ≡ text) × (ending ≡ status))
