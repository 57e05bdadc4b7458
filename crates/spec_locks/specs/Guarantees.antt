-- The first page, from the theorem down. Every world's steps, and what they tell, are guaranteed as
-- IsGuaranteed says, of the states that the world itself is in. EachState has what holds in each state,
-- EachStep what holds of each step, and CallTable the goal of each call and what each answer says. There is
-- no word here, no place of a call, and no queue of the machine. The page knows no case of a lock and no
-- thread that owes a wake, which are on the second page, Headline.
use Rattle.std.specs.Prelude.{ℕ, suc, Bool, false, List, [], ◌∷◌}
use Rattle.spec_locks.specs.declared.calls.Step.{Step}
use Rattle.spec_locks.specs.declared.kinds.Kind.{Kind}
use Rattle.spec_locks.specs.declared.outcomes.Outcome.{Outcome}
use Rattle.spec_locks.specs.Runs.{LocksState}
use Rattle.spec_locks.specs.EachState.{Opens, StateHolds, full_by}
use Rattle.spec_locks.specs.EachStep.{StepHolds}

-- the steps, of which this is told, lead through these states; each state and each step holds what is
-- promised
abbrev pub AllHold : (ℕ → Bool) → (ℕ → LocksState) → List Step → List Outcome → Type 0
AllHold full states [] [] = StateHolds (states 0) full
AllHold full states (step ∷ steps) (o ∷ told) = StateHolds (states 0) full
    × StepHolds (states 0) step o (states 1)
    × AllHold (full_by full (states 1)) (λ n. states (suc n)) steps told
AllHold full states [] (o ∷ told) = ⊥
AllHold full states (step ∷ steps) [] = ⊥

-- From their opening state this many threads, over locks of these kinds, were told this of these steps. The
-- n-th of the states is that of the world after n steps.
pub record IsGuaranteed (kinds : List Kind) (threads : ℕ) (states : ℕ → LocksState) (steps : List Step)
    (told : List Outcome) : Type 0 where
  pub opens : Opens kinds threads (states 0)
  pub holds : AllHold (λ l. false) states steps told
