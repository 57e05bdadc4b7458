-- A run of a behaviour as a run of the world: the steps that its moves take.
use Rattle.std.specs.Prelude.{ℕ, zero, suc, Option, Some, None, if◌then◌else◌, ◌≡◌, ◌/◌, ◌%◌, List, [], ◌∷◌}
use Rattle.spec_locks.specs.declared.calls.Turn.TheVariants as turn
use Rattle.spec_locks.specs.declared.calls.Step.{Step}
use Rattle.lot_machine.specs.Machine.{opening, after_steps}
use Rattle.state_search.specs.Rules.{Leads}
use Rattle.lot_scene.specs.Following.{Follows}
use Rattle.lot_scene.specs.Stages.{step_of, is_own}
use Rattle.lot_behaviour.specs.declared.behaviour.Act.{Act}
use Rattle.lot_behaviour.specs.declared.behaviour.Act.TheVariants as act
use Rattle.lot_behaviour.specs.Conducts.{Conduct}
use Rattle.lot_behaviour.specs.Moves.{SceneState, closing, next_at, scene_start, rules_of_conduct}

-- an act that calls takes a step of the world, and any other takes none
abbrev pub step_by : Act → ℕ → Option Step
step_by (act.Call call) t = Some (step_of t (turn.Begin call))
step_by (act.Close succeeded) t = Some (step_of t (closing succeeded))
step_by (act.Write v n) t = None
step_by act.Step t = None

abbrev pub own_step : {S : Type 0} → Option (Act × S) → ℕ → Option Step
own_step None t = None
own_step (Some next) t = step_by next.0 t

abbrev pub thread_step : {S : Type 0} → Conduct S → SceneState S → ℕ → ℕ → Option Step
thread_step c s t zero =
    if is_own s.world t then own_step (next_at c s t) t else Some (step_of t turn.Go)
thread_step c s t (suc zero) = Some (step_of t turn.Spin)
thread_step c s t (suc (suc n)) = Some (step_of t turn.Late)

-- the step of a move, if it takes one
abbrev pub step_taken : {S : Type 0} → Conduct S → SceneState S → ℕ → Option Step
step_taken c s k = thread_step c s (k / 3) (k % 3)

abbrev pub listed : Option Step → List Step
listed None = []
listed (Some step) = step ∷ []

-- the steps of a move: one, or none
abbrev pub steps_taken : {S : Type 0} → Conduct S → SceneState S → ℕ → List Step
steps_taken c s k = listed (step_taken c s k)

-- The moves are possible one after another and lead to this state. These are their steps, in order, which lead a
-- new world to its world.
abbrev pub Replays : {S : Type 0} → Conduct S → List ℕ → SceneState S → List Step → Type 0
Replays {S} c moves end steps = Follows (rules_of_conduct c) (steps_taken c) (scene_start c) moves end steps
    × (after_steps (opening c.kinds c.threads) steps ≡ end.world)

-- one of the moves is not possible
abbrev pub LeadsNowhere : {S : Type 0} → Conduct S → List ℕ → Type 0
LeadsNowhere {S} c moves = (t : SceneState S) → Leads (rules_of_conduct c) (scene_start c) moves t → ⊥
