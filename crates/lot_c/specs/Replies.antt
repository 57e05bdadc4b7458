-- What a call leaves in the buffers of its caller.
use Rattle.std.specs.Prelude.{◌≡◌, ◌≤◌, ◌<◌, ◌⊎◌, ℕ, List, ◌++◌, length, drop, ⊤, Option, None, Some}
use Rattle.lot_replay.specs.Replay.{IsText, StopsForMemory}

-- A text that fits is at the front of the buffer, and the other bytes are as they were. Where it doesn't fit,
-- all bytes are.
abbrev pub Delivers : List ℕ → List ℕ → ℕ → List ℕ → ℕ → ℕ → Type 0
Delivers old new written text ending status =
    ((status ≡ ending) × (length text ≤ length old) × (new ≡ text ++ drop (length text) old)
    × (written ≡ length text))
    ⊎ ((status ≡ 5) × (length old < length text) × (new ≡ old) × (written ≡ length text))

-- there is no memory for a text, and the buffer is as it was
abbrev pub DeliversNothing : List ℕ → List ℕ → ℕ → ℕ → Type 0
DeliversNothing old new written status = (status ≡ 4) × (new ≡ old) × (written ≡ 0)

-- the text of an input, and its status, or what a replay wrote up to a line at which memory was refused
abbrev pub MayTell : List ℕ → List ℕ → ℕ → Type 0
MayTell input text ending = IsText input text ending ⊎ ((ending ≡ 3) × StopsForMemory input text)

-- the text of an input from a byte on
abbrev pub Replies : List ℕ → ℕ → List ℕ → List ℕ → ℕ → ℕ → Type 0
Replies input told old new written status =
    ((text : List ℕ) × (ending : ℕ) × MayTell input text ending
    × Delivers old new written (drop told text) ending status)
    ⊎ DeliversNothing old new written status

-- the reply to a reader's bytes, where they are known
abbrev pub RepliesTo : Option (List ℕ) → ℕ → List ℕ → List ℕ → ℕ → ℕ → Type 0
RepliesTo None told old new written status = ⊤
RepliesTo (Some input) told old new written status = Replies input told old new written status

-- some text, and the buffer is as it was after it
abbrev pub LeavesRest : List ℕ → List ℕ → ℕ → ℕ → Type 0
LeavesRest old new written status =
    ((text : List ℕ) × (ending : ℕ) × Delivers old new written text ending status)
    ⊎ DeliversNothing old new written status
