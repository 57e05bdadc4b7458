-- The stage that the program keeps.
use Rattle.std.specs.Prelude.{ℕ, List, Option, None, Some}
use Rattle.spec_locks.specs.declared.kinds.Kind.{Kind}
use Rattle.lot_machine.specs.Machine.{State, opening}
use Rattle.core_base.specs.declared.queues.Queues.{Ghosts}
use Rattle.lot_replay.specs.declared.session.Session.{Session}
use Rattle.lot_replay.specs.declared.state.SessionStage.{SessionStage}
use Rattle.lot_replay.specs.declared.state.SessionStage.TheVariants.{Nothing, Declaring, Running}
use Rattle.lot_replay.specs.Stages.{ReplayStage, nothing, declaring, running}

abbrev pub stage_with : ℕ → List (List ℕ) → List Kind → Option State → ReplayStage
stage_with threads names kinds None = declaring threads names kinds
stage_with threads names kinds (Some w) = running names w

abbrev pub session_stage : {Q : Type 0} {queues : Ghosts Q} → Session Q queues → ReplayStage
session_stage s = stage_with s.threads s.names s.kinds.items s.world

abbrev pub replay_stage_of : {Q : Type 0} {queues : Ghosts Q} → Option (Session Q queues) → ReplayStage
replay_stage_of None = nothing
replay_stage_of (Some s) = session_stage s

abbrev pub world_with : ℕ → List Kind → Option State → State
world_with threads kinds None = opening kinds threads
world_with threads kinds (Some w) = w

-- the world that there is, or is to be made
abbrev pub session_world : {Q : Type 0} {queues : Ghosts Q} → Session Q queues → State
session_world s = world_with s.threads s.kinds.items s.world

-- the stage that is looked at
abbrev pub stage_shown : {Q : Type 0} → SessionStage Q → ReplayStage
stage_shown Nothing = nothing
stage_shown (Declaring threads names kinds) = declaring threads names.now kinds.now
stage_shown (Running names world) = running names.now world.now
