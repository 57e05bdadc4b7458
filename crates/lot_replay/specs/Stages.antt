-- The lines of a schedule, one after another, and the stages to which they lead.
use Rattle.std.specs.Prelude.{ℕ, Bool, true, false, ◌&&◌, nat_le, nat_lt, is_none, List, [], ◌∷◌, ◌++◌}
use Rattle.std.specs.Prelude.{length, if◌then◌else◌, Option, None, Some, option_map, option_and_then}
use Rattle.spec_locks.specs.declared.kinds.Kind.{Kind}
use Rattle.lot_text.specs.declared.grammar.NamedCall.{NamedCall}
use Rattle.lot_text.specs.declared.grammar.NamedCall.TheVariants as calling
use Rattle.spec_locks.specs.declared.calls.Call.{Call}
use Rattle.spec_locks.specs.declared.calls.Call.TheVariants as calls
use Rattle.spec_locks.specs.declared.calls.Turn.{Turn}
use Rattle.spec_locks.specs.declared.calls.Turn.TheVariants as turns
use Rattle.spec_locks.specs.declared.calls.Step.{Step}
use Rattle.spec_locks.specs.declared.outcomes.Outcome.{Outcome}
use Rattle.spec_locks.specs.declared.outcomes.Outcome.TheVariants as outcome
use Rattle.spec_locks.specs.declared.calls.CondvarCall.TheVariants as condvar
use Rattle.spec_locks.specs.declared.calls.OnceCall.{OnceCall}
use Rattle.spec_locks.specs.declared.calls.OnceCall.TheVariants.{CallOnce, Wait, WaitTimed}
use Rattle.spec_locks.specs.Kinds.{fits, is_condvar}
use Rattle.lot_machine.specs.Machine.{State, kind_at, opening, is_possible, after, after_steps, step_outcome}
use Rattle.lot_machine.specs.Machine.{solo}
use Rattle.lot_world.specs.Drainable.{is_drainable}
use Rattle.lot_world.specs.Schedules.{schedule_of}
use Rattle.lot_text.specs.declared.grammar.Command.{Command}
use Rattle.lot_text.specs.declared.grammar.Command.TheVariants as command
use Rattle.lot_text.specs.declared.grammar.NamedTurn.{NamedTurn}
use Rattle.lot_text.specs.declared.grammar.NamedTurn.TheVariants as named
use Rattle.lot_text.specs.Lines.{line_len}
use Rattle.lot_text.specs.LockNames.{lock_named}
use Rattle.lot_text.specs.Grammar.{meaning}
use Rattle.lot_replay.specs.Shows.{show_lines}
use Rattle.lot_replay.specs.Drains.{drain_lines}
use Rattle.lot_text.specs.Steps.{drain_refused_line}
use Rattle.lot_text.specs.Text.{turn_line}
use Rattle.lot_replay.specs.declared.actions.Action.{Action}
use Rattle.lot_replay.specs.declared.actions.Action.TheVariants as actions

-- nothing yet; so many threads, and locks of these names and kinds; or a world of locks of these
-- names
pub data ReplayStage : Type 0 where
  nothing : ReplayStage
  declaring : ℕ → List (List ℕ) → List Kind → ReplayStage
  running : List (List ℕ) → State → ReplayStage

-- ---------------------------------------------------------------- turns

-- a wait that names no mutex
abbrev pub is_bare_wait : OnceCall → Bool
is_bare_wait (Wait false) = true
is_bare_wait WaitTimed = true
is_bare_wait (Wait true) = false
is_bare_wait (CallOnce forced) = false

abbrev pub wait_with : ℕ → Bool → ℕ → Call
wait_with lock timed mutex = calls.Condvar lock (condvar.Wait mutex timed)

-- the call of a lock of this kind: a wait names a mutex exactly where the lock is a condition
-- variable
abbrev pub call_of_kind : List (List ℕ) → Kind → NamedCall → ℕ → Option Call
call_of_kind names kind (calling.Mutex call) lock = Some (calls.Mutex lock call)
call_of_kind names kind (calling.RwLock call) lock = Some (calls.RwLock lock call)
call_of_kind names kind (calling.Once call) lock =
    if is_condvar kind && is_bare_wait call then None else Some (calls.Once lock call)
call_of_kind names kind (calling.Semaphore call) lock = Some (calls.Semaphore lock call)
call_of_kind names kind (calling.Notify all) lock =
    Some (calls.Condvar lock (condvar.Notify all))
call_of_kind names kind (calling.Wait mutex timed) lock =
    if is_condvar kind then option_map (wait_with lock timed) (lock_named names mutex) else None

-- the call of the lock that has the name
abbrev pub call_named : List (List ℕ) → State → NamedCall → List ℕ → Option Call
call_named names w call name =
    option_and_then (λ lock. call_of_kind names (kind_at w lock) call lock) (lock_named names name)

abbrev pub action_of : List (List ℕ) → State → NamedTurn → Option Action
action_of names w (named.Begin call name) =
    option_map (λ called. actions.Turn (turns.Begin called))
    (call_named names w call name)
action_of names w named.Go = Some (actions.Turn turns.Go)
action_of names w named.Spin = Some (actions.Turn turns.Spin)
action_of names w named.Late = Some (actions.Turn turns.Late)
action_of names w named.Ok = Some (actions.Turn turns.Ok)
action_of names w named.Err = Some (actions.Turn turns.Err)
action_of names w named.Solo = Some actions.Solo
action_of names w (named.Do call name) =
    option_map actions.Do (call_named names w call name)

-- the action of a turn at a stage
abbrev pub action_at : ReplayStage → NamedTurn → Option Action
action_at nothing turn = None
action_at (declaring threads names kinds) turn = action_of names (opening kinds threads) turn
action_at (running names w) turn = action_of names w turn

-- where a step leads, and its outcome
abbrev pub step_told : State → ℕ → Turn → State × Outcome
step_told w t turn =
    let s : Step = record { thread = t; turn = turn } in (after w s, step_outcome w s)

-- at most 64 steps of a thread alone
abbrev pub went_alone : State → ℕ → State × Outcome
went_alone w t = let a = solo 64 w t outcome.NotNow in (a.state, a.outcome)

-- a thread begins a call, and where that was possible goes on alone
abbrev pub did : State → ℕ → Call → State × Outcome
did w t call =
    let s : Step = record { thread = t; turn = turns.Begin call } in
    if is_possible w s then went_alone (after w s) t else (w, outcome.NotNow)

abbrev pub done_by : State → ℕ → Action → State × Outcome
done_by w t (actions.Turn turn) = step_told w t turn
done_by w t actions.Solo = went_alone w t
done_by w t (actions.Do call) = did w t call

-- ---------------------------------------------------------------- lines

-- the stage and the text after a thread's action
abbrev pub acted : List (List ℕ) → State → ℕ → Action → ReplayStage × List ℕ
acted names w t action = (running names (done_by w t action).0, turn_line t (done_by w t action).1)

-- What a `drain` leads to: its schedule is written and its steps are taken, or the world isn't one that may
-- be drained.
abbrev pub drained : List (List ℕ) → State → ReplayStage × List ℕ
drained names w =
    if is_drainable w
    then (running names (after_steps w (schedule_of w)), drain_lines names (schedule_of w))
    else (running names w, drain_refused_line)

-- the effect of a turn, a `show` or a `drain` in a world, or none where it names no lock or is none of these
abbrev pub played : List (List ℕ) → State → Command → Option (ReplayStage × List ℕ)
played names w (command.Turn t turn) =
    option_map (acted names w t) (action_of names w turn)
played names w command.Show = Some (running names w, show_lines w 0 names)
played names w command.Drain = Some (drained names w)
played names w _ = None

-- the locks are fewer than 256, the kind fits the threads, and the name is new
abbrev pub may_declare : ℕ → List (List ℕ) → Kind → List ℕ → Bool
may_declare threads names kind name =
    nat_lt (length names) 256 && (fits kind threads && is_none (lock_named names name))

-- the stage and the text after a line with a meaning, or none where the line may not stand there
abbrev pub obeyed : ReplayStage → Command → Option (ReplayStage × List ℕ)
obeyed nothing (command.Threads threads) =
    if nat_le 1 threads && nat_le threads 1024 then Some (declaring threads [] [], []) else None
obeyed nothing _ = None
obeyed (declaring threads names kinds) (command.Lock name kind) =
    if may_declare threads names kind name
    then Some (declaring threads (names ++ name ∷ []) (kinds ++ kind ∷ []), []) else None
obeyed (declaring threads names kinds) command = played names (opening kinds threads) command
obeyed (running names w) command = played names w command

-- the stage and the text after a line, or none where it is malformed
abbrev pub after_line : ReplayStage → List ℕ → Option (ReplayStage × List ℕ)
after_line stage line =
    if nat_le (length line) line_len then option_and_then (obeyed stage) (meaning line) else None
