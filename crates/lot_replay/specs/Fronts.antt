-- Lines that are answered where a reader shows them.
use Rattle.std.specs.Prelude.{◌≡◌, ℕ, List, [], ◌∷◌, ◌++◌, length, ⊤, Option, None, Some, Err}
use Rattle.lot_text.specs.Lines.{lines_of}
use Rattle.lot_text.specs.Grammar.{meaning}
use Rattle.lot_text.specs.Reads.{IsOneLine, TakesLine}
use Rattle.lot_replay.specs.declared.state.Refusal.{Refusal}
use Rattle.lot_replay.specs.Stages.{ReplayStage, after_line}
use Rattle.lot_replay.specs.Answers.{AnswersTo}
use Rattle.lot_replay.specs.Replay.{LineMayLead}

-- lines lead one after another from a stage to another, with this text
abbrev pub MayAnswerAll : ReplayStage → List (List ℕ) → ReplayStage → List ℕ → Type 0
MayAnswerAll stage [] next text = (next ≡ stage) × (text ≡ [])
MayAnswerAll stage (line ∷ lines) next text = (between : ReplayStage) × (first : List ℕ) × (others : List ℕ)
    × LineMayLead stage line between first × MayAnswerAll between lines next others
    × (text ≡ first ++ others)

-- a text begins with these lines, whatever comes after it
abbrev pub BeginsWithLines : List ℕ → List (List ℕ) → List ℕ → Type 0
BeginsWithLines text lines left =
    (more : List ℕ) → lines_of (text ++ more) ≡ lines ++ lines_of (left ++ more)

-- known bytes lose these lines
abbrev pub TakesLines : Option (List ℕ) → Option (List ℕ) → List (List ℕ) → Type 0
TakesLines None new lines = ⊤
TakesLines (Some xs) None lines = ⊥
TakesLines (Some xs) (Some ys) lines = lines_of xs ≡ lines ++ lines_of ys

-- a number of lines at the front of a text were answered
abbrev pub AnswersFront : List ℕ → List ℕ → ℕ → ReplayStage → ReplayStage → (List ℕ → Type 0) → Type 0
AnswersFront text left number old new Wrote = (lines : List (List ℕ)) × (told : List ℕ)
    × BeginsWithLines text lines left × (number ≡ length lines)
    × MayAnswerAll old lines new told × Wrote told

-- a number of lines were taken from known bytes, and answered
abbrev pub AnswersRead : Option (List ℕ) → Option (List ℕ) → ℕ → ReplayStage → ReplayStage
    → (List ℕ → Type 0) → Type 0
AnswersRead before after number old new Wrote = (lines : List (List ℕ)) × (told : List ℕ)
    × TakesLines before after lines × (number ≡ length lines)
    × MayAnswerAll old lines new told × Wrote told

-- a line isn't answered for this reason, where there is one
abbrev pub Refuses : Refusal → ReplayStage → List ℕ → Type 0
Refuses refusal stage line =
    AnswersTo (meaning line) (after_line stage line) (Err refusal) stage stage (λ told. told ≡ [])

-- nor is the first line of a text
abbrev pub RefusesFirst : Option Refusal → ReplayStage → List ℕ → Type 0
RefusesFirst None stage text = ⊤
RefusesFirst (Some refusal) stage text = (line : List ℕ) × (rest : List ℕ)
    × (text ≡ line ++ 10 ∷ rest) × IsOneLine line × Refuses refusal stage line

-- nor the first that is left of known bytes
abbrev pub RefusesRead : Option Refusal → ReplayStage → Option (List ℕ) → Option (List ℕ) → Type 0
RefusesRead None stage before after = ⊤
RefusesRead (Some refusal) stage None after = ⊤
RefusesRead (Some refusal) stage (Some xs) after = (line : List ℕ) × (rest : Option (List ℕ))
    × TakesLine after rest line × Refuses refusal stage line
