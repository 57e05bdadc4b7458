-- What threads do, as a user says it.
use Rattle.std.specs.Prelude.{ℕ, zero, suc, Bool, true, false, Option, List, [], ◌∷◌, ◌++◌, length}
use Rattle.spec_locks.specs.declared.kinds.Kind.{Kind}
use Rattle.spec_locks.specs.declared.outcomes.Answer.{Answer}
use Rattle.lot_scene.specs.Stages.{MayOpen}
use Rattle.lot_behaviour.specs.declared.locals.Local.{Local}
use Rattle.lot_behaviour.specs.declared.behaviour.Act.{Act}

-- The locks, the number of threads and the first variables. Then the state in which a thread begins, its next
-- act with its state after that, its state after an answer, and which states break a promise.
pub record Conduct (S : Type 0) : Type 0 where
  pub kinds : List Kind
  pub threads : ℕ
  pub variables : List ℕ
  pub first : ℕ → S
  pub next : ℕ → S → List ℕ → Option (Act × S)
  pub told : ℕ → S → Answer → S
  pub is_bad : List (Local S) → List ℕ → Bool

abbrev pub fresh : {S : Type 0} → S → Local S
fresh x = record { state = x; is_refused = false }

abbrev pub refused : {S : Type 0} → S → Local S
refused x = record { state = x; is_refused = true }

-- what is the own of the first threads
abbrev pub firsts : {S : Type 0} → (ℕ → S) → ℕ → List (Local S)
firsts first zero = []
firsts first (suc n) = firsts first n ++ fresh (first n) ∷ []

-- there are some threads, few enough for a search, and locks that a world may have
abbrev pub IsFit : {S : Type 0} → Conduct S → Type 0
IsFit c = MayOpen c.kinds c.threads (length c.variables)
