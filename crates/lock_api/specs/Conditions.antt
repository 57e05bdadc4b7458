-- How waits end that go by a condition. Its last call says so, in some state of it, and left the
-- value that the guard shows; the state is the one that was passed where calls leave it as it was.
use Rattle.std.specs.Prelude.{◌≡◌, ◌⊎◌, Bool, IfOk}
use Rattle.std.specs.declared.result.Result.{Result}
use Rattle.std.specs.Sync.Condvar.{AnsweredAt, StoppedAt}
use denote.Ref.{MutBor}
use Rattle.lock_api.specs.Guards.{value_of}
use Rattle.lock_api.specs.declared.guarded.Guarded.{Guarded}
use Rattle.lock_api.specs.declared.shows.Keeps as keeps
use Rattle.lock_api.specs.declared.shows.Shows as shows

-- by an answer of false
abbrev pub LastRefused : {F K V X E : Type 0} {k : keeps.Ghosts K} {v : shows.Ghosts V X}
    → (F → MutBor X → Bool → MutBor X → F → Type 0) → Type 0 → F → Result (Guarded K V X k v) E
    → Type 0
LastRefused step keeps_rights condition result =
    IfOk result (λ guard. StoppedAt step keeps_rights condition (value_of guard))

-- by an answer that tells whether the wait timed out
abbrev pub LastAnswered : {F K V X E : Type 0} {k : keeps.Ghosts K} {v : shows.Ghosts V X}
    → (F → MutBor X → Bool → MutBor X → F → Type 0) → Type 0 → F
    → Result (Guarded K V X k v × Bool) E → Type 0
LastAnswered step keeps_rights condition result =
    IfOk result (λ ended. AnsweredAt step keeps_rights condition ended.1 (value_of ended.0))

-- a thread is as it was where no wait was needed, and else the same one after the waits, and owns
-- what it did
abbrev pub WaitedOrNot : {Token : Type 0} → (Token → Token → Type 0) → Token → Token → Type 0
WaitedOrNot keeps_rights old new = (new ≡ old) ⊎ keeps_rights old new
