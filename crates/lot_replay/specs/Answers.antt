-- How the program answers a line.
use Rattle.std.specs.Prelude.{◌≡◌, ℕ, Bool, true, false, List, [], ⊤, Option, None, Some, Result, Ok, Err}
use Rattle.lot_text.specs.declared.grammar.Command.{Command}
use Rattle.lot_text.specs.declared.grammar.Command.TheVariants.{Drain}
use Rattle.lot_text.specs.Text.{malformed_line, no_memory_line}
use Rattle.lot_replay.specs.declared.state.Refusal.{Refusal}
use Rattle.lot_replay.specs.declared.state.Refusal.TheVariants.{Malformed, NoMemory}
use Rattle.lot_replay.specs.Stages.{ReplayStage, nothing, declaring, running}

abbrev pub is_drain : Option Command → Bool
is_drain (Some Drain) = true
is_drain _ = false

-- memory is taken for a lock, for the world at the first turn, `show` or `drain`, and at each
-- `drain`
abbrev pub MayTakeMemory : Option Command → ReplayStage → Type 0
MayTakeMemory said nothing = ⊥
MayTakeMemory said (declaring threads names kinds) = ⊤
MayTakeMemory said (running names w) = is_drain said ≡ true

-- `said` is what a line means, `wanted` is the stage and the text that are right, and `Wrote` says
-- which text was written; of a line that is refused nothing is written, and the stage stays
abbrev pub AnswersTo : Option Command → Option (ReplayStage × List ℕ) → Result (Unit {0}) Refusal
    → ReplayStage → ReplayStage → (List ℕ → Type 0) → Type 0
AnswersTo said None (Ok _) old new Wrote = ⊥
AnswersTo said None (Err Malformed) old new Wrote = (new ≡ old) × Wrote []
AnswersTo said None (Err NoMemory) old new Wrote = ⊥
AnswersTo said (Some a) (Ok _) old new Wrote = (new ≡ a.0) × Wrote a.1
AnswersTo said (Some a) (Err Malformed) old new Wrote = ⊥
AnswersTo said (Some a) (Err NoMemory) old new Wrote =
    (new ≡ old) × Wrote [] × MayTakeMemory said old

-- the last line of a replay that stops
abbrev pub last_line : Refusal → ℕ → List ℕ
last_line Malformed k = malformed_line k
last_line NoMemory k = no_memory_line k

abbrev pub last_status : Refusal → ℕ
last_status Malformed = 2
last_status NoMemory = 3
