-- Where each move of a behaviour leads, by single steps.
use Rattle.std.specs.Prelude.{ℕ, zero, suc, Bool, true, false, Option, Some, None, if◌then◌else◌, ◌≡◌, ◌<◌}
use Rattle.std.specs.Prelude.{◌/◌, ◌%◌, ◌&&◌, ◌||◌, nat_lt, slice_index_or, slice_set, is_none}
use Rattle.spec_locks.specs.declared.calls.Turn.{Turn}
use Rattle.spec_locks.specs.declared.calls.Turn.TheVariants as turn
use Rattle.spec_locks.specs.declared.calls.Step.{Step}
use Rattle.spec_locks.specs.declared.outcomes.Outcome.{Outcome}
use Rattle.spec_locks.specs.declared.outcomes.Outcome.TheVariants as outcome
use Rattle.lot_steps.specs.Steps.{is_idle}
use Rattle.lot_machine.specs.Machine.{opening, place_at, after, step_outcome}
use Rattle.state_search.specs.Rules.{Rules}
use Rattle.lot_scene.specs.Stages.{StageState, staged, step_of, with_local, with_variable, is_own}
use Rattle.lot_behaviour.specs.declared.locals.Local.{Local}
use Rattle.lot_behaviour.specs.declared.behaviour.Act.{Act}
use Rattle.lot_behaviour.specs.declared.behaviour.Act.TheVariants as act
use Rattle.lot_behaviour.specs.Conducts.{Conduct, fresh, refused, firsts}

-- a world, what is each thread's own, and the variables
abbrev pub SceneState : Type 0 → Type 0
SceneState S = StageState (Local S)

abbrev pub scene_start : {S : Type 0} → Conduct S → SceneState S
scene_start c = staged (opening c.kinds c.threads) (firsts c.first c.threads) c.variables

-- what is a thread's own; one that isn't there has what it would begin with
abbrev pub local_at : {S : Type 0} → Conduct S → SceneState S → ℕ → Local S
local_at c s t = slice_index_or s.locals t (fresh (c.first t))

-- ---------------------------------------------------------------- a step of the world

-- a thread hears what its call answers
abbrev pub heard : {S : Type 0} → Conduct S → ℕ → Outcome → S → S
heard c t (outcome.End a) x = c.told t x a
heard c t outcome.NotNow x = x
heard c t outcome.Step x = x
heard c t outcome.Sleep x = x
heard c t (outcome.Closure y) x = x

abbrev pub with_step : {S : Type 0} → Conduct S → Outcome → SceneState S → Step → S → SceneState S
with_step c o s step x =
    staged (after s.world step) (slice_set s.locals step.thread (fresh (heard c step.thread o x))) s.variables

-- a step of the world, if it is possible, by a thread whose state is this as the step is taken
abbrev pub stepped_by : {S : Type 0} → Conduct S → Outcome → SceneState S → Step → S → Option (SceneState S)
stepped_by c outcome.NotNow s step x = None
stepped_by c outcome.Step s step x = Some (with_step c outcome.Step s step x)
stepped_by c outcome.Sleep s step x = Some (with_step c outcome.Sleep s step x)
stepped_by c (outcome.Closure y) s step x = Some (with_step c (outcome.Closure y) s step x)
stepped_by c (outcome.End a) s step x = Some (with_step c (outcome.End a) s step x)

abbrev pub world_move : {S : Type 0} → Conduct S → SceneState S → ℕ → Turn → S → Option (SceneState S)
world_move c s t x y = stepped_by c (step_outcome s.world (step_of t x)) s (step_of t x) y

-- ---------------------------------------------------------------- acts

-- a call that the world doesn't allow is refused
abbrev pub or_refused : {S : Type 0} → Conduct S → SceneState S → ℕ → Option (SceneState S) → SceneState S
or_refused c s t None = with_local s t (refused (local_at c s t).state)
or_refused c s t (Some u) = u

abbrev pub closing : Bool → Turn
closing true = turn.Ok
closing false = turn.Err

-- after its act a thread has this state
abbrev pub acted : {S : Type 0} → Act → Conduct S → SceneState S → ℕ → S → SceneState S
acted (act.Call call) c s t x = or_refused c s t (world_move c s t (turn.Begin call) x)
acted (act.Close succeeded) c s t x = or_refused c s t (world_move c s t (closing succeeded) x)
acted (act.Write v n) c s t x = with_variable (with_local s t (fresh x)) v n
acted act.Step c s t x = with_local s t (fresh x)

-- ---------------------------------------------------------------- moves

abbrev pub own_move : {S : Type 0} → Conduct S → SceneState S → ℕ → Option (Act × S) → Option (SceneState S)
own_move c s t None = None
own_move c s t (Some next) = Some (acted next.0 c s t next.1)

-- what a thread does next, if it is in no call, or in the closure of one
abbrev pub next_at : {S : Type 0} → Conduct S → SceneState S → ℕ → Option (Act × S)
next_at c s t = c.next t (local_at c s t).state s.variables

-- a thread goes on, looks once more, or gives up a timed sleep
abbrev pub thread_move : {S : Type 0} → Conduct S → SceneState S → ℕ → ℕ → Option (SceneState S)
thread_move c s t zero =
    if is_own s.world t then own_move c s t (next_at c s t)
    else world_move c s t turn.Go (local_at c s t).state
thread_move c s t (suc zero) = world_move c s t turn.Spin (local_at c s t).state
thread_move c s t (suc (suc n)) = world_move c s t turn.Late (local_at c s t).state

abbrev pub scene_next : {S : Type 0} → Conduct S → SceneState S → ℕ → Option (SceneState S)
scene_next c s k = if nat_lt (k / 3) c.threads then thread_move c s (k / 3) (k % 3) else None

-- ---------------------------------------------------------------- verdicts

-- a call of some thread was refused
abbrev pub HasRefused : {S : Type 0} → Conduct S → SceneState S → ℕ → Type 0
HasRefused c s threads = (t : ℕ) × (t < threads) × ((local_at c s t).is_refused ≡ true)

-- a test of it, thread by thread
abbrev pub any_refused : {S : Type 0} → Conduct S → SceneState S → ℕ → Bool
any_refused c s zero = false
any_refused c s (suc t) = (local_at c s t).is_refused || any_refused c s t

-- a thread is in no call, and does nothing next
abbrev pub is_through : {S : Type 0} → Conduct S → SceneState S → ℕ → Bool
is_through c s t = is_idle (place_at s.world t) && is_none (next_at c s t)

-- every thread is
abbrev pub AllThrough : {S : Type 0} → Conduct S → SceneState S → ℕ → Type 0
AllThrough c s threads = (t : ℕ) → t < threads → is_through c s t ≡ true

-- a test of it, thread by thread
abbrev pub are_through : {S : Type 0} → Conduct S → SceneState S → ℕ → Bool
are_through c s zero = true
are_through c s (suc t) = is_through c s t && are_through c s t

-- a call was refused, or a promise is broken
abbrev pub goes_wrong : {S : Type 0} → Conduct S → SceneState S → Bool
goes_wrong c s = any_refused c s c.threads || c.is_bad s.locals s.variables

abbrev pub rules_of_conduct : {S : Type 0} → Conduct S → Rules (SceneState S)
rules_of_conduct c = record {
  start = scene_start c;
  next = scene_next c;
  is_bad = λ s. goes_wrong c s;
  has_ended = λ s. are_through c s c.threads;
}
