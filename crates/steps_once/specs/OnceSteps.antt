-- The steps of a `Once`: what a thread does at each place, and where each reply leads it.
use Rattle.std.specs.Prelude.{ℕ, Bool, true, false, Option, Some, None, if◌then◌else◌, ◌==◌, not, ◌&&◌, ◌+◌}
use Rattle.std.specs.Prelude.{◌*◌, ◌/◌, ◌%◌}
use Rattle.core_base.specs.declared.keys.Keys.TheVariants.{One}
use Rattle.core_base.specs.declared.notes.Note.TheVariants.{Normal}
use Rattle.core_base.specs.declared.wants.Want.{Want}
use Rattle.core_base.specs.declared.wants.Want.TheVariants as wants
use Rattle.core_base.specs.declared.ops.Op.TheVariants as op
use Rattle.spec_locks.specs.declared.calls.OnceCall.{OnceCall}
use Rattle.spec_locks.specs.declared.calls.OnceCall.TheVariants.{CallOnce, Wait, WaitTimed}
use Rattle.spec_locks.specs.declared.outcomes.Answer.{Answer}
use Rattle.spec_locks.specs.declared.outcomes.Answer.TheVariants as answer
use Rattle.spec_locks.specs.declared.outcomes.OnceState.{OnceState}
use Rattle.spec_locks.specs.declared.outcomes.OnceState.TheVariants as state
use Rattle.steps_base.specs.declared.acts.Act.{Act}
use Rattle.steps_base.specs.declared.acts.Act.TheVariants as act
use Rattle.steps_base.specs.declared.acts.Check.{Check}
use Rattle.steps_base.specs.declared.acts.Check.TheVariants.{WordIs, Unfinished}
use Rattle.steps_base.specs.declared.acts.Wakes.TheVariants.{Nobody}
use Rattle.steps_base.specs.declared.acts.TakeWhich.TheVariants.{All}
use Rattle.steps_base.specs.declared.acts.Reply.{Reply}
use Rattle.steps_base.specs.declared.acts.Reply.TheVariants.{Done, Value, Parked, Took, Removed, TakenBy}
use Rattle.steps_base.specs.declared.acts.Reply.TheVariants.{Late, Woken, Closed}
use Rattle.steps_base.specs.declared.acts.Next.{Next}
use Rattle.steps_base.specs.declared.acts.Next.TheVariants.{At, End}
use Rattle.steps_base.specs.declared.owners.Owners.{Owners}
use Rattle.steps_base.specs.declared.owners.Phase.{Phase}
use Rattle.steps_base.specs.declared.owners.Phase.TheVariants as phase
use Rattle.steps_base.specs.Acts.{wakes_taken}
use Rattle.spec_locks.specs.Codes.{is_done, is_poisoned, is_running, is_marked}
use Rattle.steps_once.specs.declared.look.LookAt.{LookAt}
use Rattle.steps_once.specs.declared.look.LookAt.TheVariants as look
use Rattle.steps_once.specs.declared.look.Course.{Course}
use Rattle.steps_once.specs.declared.look.Course.TheVariants.{Ends, Runs, Marks, Parks}
use Rattle.steps_once.specs.declared.run.RunAt.{RunAt}
use Rattle.steps_once.specs.declared.run.RunAt.TheVariants as run
use Rattle.steps_once.specs.declared.give_up.GiveUpAt.{GiveUpAt}
use Rattle.steps_once.specs.declared.give_up.GiveUpAt.TheVariants as give_up
use Rattle.steps_once.specs.declared.places.TheConstants.{NOT_PARKED}
use Rattle.steps_once.specs.declared.places.OncePlace.{OncePlace}
use Rattle.steps_once.specs.declared.places.OncePlace.TheVariants.{Look, Run, GiveUp}

-- ---------------------------------------------------------------- calls

abbrev pub is_forced : OnceCall → Bool
is_forced (CallOnce forced) = forced
is_forced (Wait forced) = forced
is_forced WaitTimed = false

abbrev pub is_timed : OnceCall → Bool
is_timed (CallOnce forced) = false
is_timed (Wait forced) = false
is_timed WaitTimed = true

abbrev pub runs : OnceCall → Bool
runs (CallOnce forced) = true
runs (Wait forced) = false
runs WaitTimed = false

abbrev pub want_of : OnceCall → Want
want_of (CallOnce forced) = wants.CallOnce
want_of (Wait forced) = wants.Wait
want_of WaitTimed = wants.Wait

-- the answer of a call that sees the `Once` done
abbrev pub when_done : OnceCall → Answer
when_done (CallOnce forced) = answer.Ok
when_done (Wait forced) = answer.Ok
when_done WaitTimed = answer.Yes

abbrev pub once_first : OnceCall → OncePlace
once_first c = Look c false look.Load

-- ---------------------------------------------------------------- the step that follows a value

abbrev pub course_of : OnceCall → ℕ → Course
course_of c v =
    if is_done v then Ends (when_done c)
    else if is_poisoned v && not (is_forced c) then Ends answer.Poisoned
    else if runs c && not (is_running v) then Runs
    else if is_marked v then Parks
    else Marks

abbrev pub is_run : Course → Bool
is_run Runs = true
is_run course = false

abbrev pub is_mark : Course → Bool
is_mark Marks = true
is_mark course = false

-- the word of a run that begins, beside those that wait, and the word that says that somebody waits
abbrev pub started : ℕ → ℕ
started v = v / 8 * 8 + 4

abbrev pub marked : ℕ → ℕ
marked v = v % 8 + 8

-- ---------------------------------------------------------------- the acts of a thread

-- a thread that is to run still waits while another runs and the bit is set; one that waits for a run does so
-- until it has ended well
abbrev pub check_of : OnceCall → Check
check_of (CallOnce forced) = WordIs 12
check_of (Wait forced) = Unfinished forced
check_of WaitTimed = Unfinished false

abbrev pub course_act : ℕ → ℕ → Course → Act
course_act l v (Ends answer) = act.Word l op.Load
course_act l v Runs = act.Word l (op.Exchange v (started v))
course_act l v Marks = act.Word l (op.Exchange v (marked v))
course_act l v Parks = act.Enter (One (2 * l))

abbrev pub decided : ℕ → OnceCall → ℕ → Act
decided l c v = course_act l v (course_of c v)

abbrev pub look_act : ℕ → OnceCall → LookAt → Act
look_act l c look.Load = act.Word l op.Load
look_act l c (look.Decide seen) = decided l c seen
look_act l c look.Check = act.Park l (2 * l) (check_of c) (want_of c)
look_act l c (look.Leave parked) = act.Leave (One (2 * l)) Nobody
look_act l c look.Asleep = act.Sleep
look_act l c (look.Taken by) = act.Sleep

-- the news of a closure that begins
abbrev pub state_before : Bool → OnceState
state_before poisoned = if poisoned then state.Poisoned else state.New

abbrev pub word_after : Bool → ℕ
word_after succeeded = if succeeded then 1 else 2

abbrev pub run_act : ℕ → RunAt → Act
run_act l (run.Closure poisoned) = act.Closure (state_before poisoned)
run_act l (run.Close succeeded) = act.Word l (op.Swap (word_after succeeded))
run_act l (run.Enter succeeded) = act.Enter (One (2 * l))
run_act l (run.Take succeeded) = act.Take (2 * l) All
run_act l (run.Leave succeeded any) = act.Leave (One (2 * l)) (wakes_taken any Normal)

abbrev pub give_up_act : ℕ → GiveUpAt → Act
give_up_act l give_up.Remove = act.Remove (2 * l)
give_up_act l give_up.Clear = act.Word l (op.And NOT_PARKED)
give_up_act l give_up.Leave = act.Leave (One (2 * l)) Nobody

abbrev pub once_act : ℕ → OncePlace → Act
once_act l (Look c retries at) = look_act l c at
once_act l (Run forced at) = run_act l at
once_act l (GiveUp retries at) = give_up_act l at

-- ---------------------------------------------------------------- where a reply leads

-- the thread has won the exchange by which its run begins
abbrev pub begins_run : OnceCall → LookAt → Reply → Bool
begins_run c (look.Decide expected) (Value seen) = (seen == expected) && is_run (course_of c seen)
begins_run c at reply = false

-- a thread sleeps in a call that has a deadline, and its time is up
abbrev pub is_late_asleep : OnceCall → LookAt → Reply → Bool
is_late_asleep c look.Asleep Late = is_timed c
is_late_asleep c at reply = false

abbrev pub looked_by : ℕ → Course → Next LookAt
looked_by v (Ends answer) = End answer
looked_by v course = At (look.Decide v)

abbrev pub looked : OnceCall → ℕ → Next LookAt
looked c v = looked_by v (course_of c v)

abbrev pub next_look : OnceCall → LookAt → Reply → Next LookAt
next_look c look.Load (Value seen) = looked c seen
next_look c (look.Decide expected) (Value seen) =
    if (seen == expected) && is_mark (course_of c seen) then At (look.Decide (marked seen))
    else looked c seen
next_look c (look.Decide expected) Done = At look.Check
next_look c look.Check (Parked parked) = At (look.Leave parked)
next_look c (look.Leave parked) Done = if parked then At look.Asleep else At look.Load
next_look c look.Asleep (TakenBy by) = At (look.Taken by)
next_look c look.Asleep (Woken Normal) = At look.Load
next_look c (look.Taken by) (Woken Normal) = At look.Load
next_look c at reply = At at

-- from a wake note until it stands in the queue again, or its run begins
abbrev pub still_retries : Bool → Reply → Bool
still_retries retries (Woken Normal) = true
still_retries retries (Parked parked) = retries && not parked
still_retries retries reply = retries

-- a run begins by what its exchange found
abbrev pub closure_begun : Reply → RunAt
closure_begun (Value seen) = run.Closure (is_poisoned seen)
closure_begun reply = run.Closure false

abbrev pub ended : Bool → Answer
ended succeeded = if succeeded then answer.Ok else answer.Failed

abbrev pub next_run : RunAt → Reply → Next RunAt
next_run (run.Closure poisoned) (Closed succeeded) = At (run.Close succeeded)
next_run (run.Close succeeded) (Value seen) =
    if is_marked seen then At (run.Enter succeeded) else End (ended succeeded)
next_run (run.Enter succeeded) Done = At (run.Take succeeded)
next_run (run.Take succeeded) (Took any none_left) = At (run.Leave succeeded any)
next_run (run.Leave succeeded any) Done = End (ended succeeded)
next_run at reply = At at

abbrev pub next_give_up : GiveUpAt → Reply → Next GiveUpAt
next_give_up give_up.Remove (Removed none_left) =
    if none_left then At give_up.Clear else At give_up.Leave
next_give_up give_up.Clear (Value seen) = At give_up.Leave
next_give_up give_up.Leave Done = End answer.No
next_give_up at reply = At at

abbrev pub in_look : OnceCall → Bool → Next LookAt → Next OncePlace
in_look c retries (At at) = At (Look c retries at)
in_look c retries (End answer) = End answer

abbrev pub in_run : Bool → Next RunAt → Next OncePlace
in_run forced (At at) = At (Run forced at)
in_run forced (End answer) = End answer

abbrev pub in_give_up : Bool → Next GiveUpAt → Next OncePlace
in_give_up retries (At at) = At (GiveUp retries at)
in_give_up retries (End answer) = End answer

abbrev pub once_next : OncePlace → Reply → Next OncePlace
once_next (Look c retries at) reply =
    if begins_run c at reply then At (Run (is_forced c) (closure_begun reply))
    else if is_late_asleep c at reply then At (GiveUp retries give_up.Remove)
    else in_look c (still_retries retries reply) (next_look c at reply)
once_next (Run forced at) reply = in_run forced (next_run at reply)
once_next (GiveUp retries at) reply = in_give_up retries (next_give_up at reply)

-- from where a thread looks at the word once more, in place of the act that would set the bit:
-- while another runs
abbrev pub once_respin : OncePlace → Option OncePlace
once_respin (Look c retries (look.Decide seen)) =
    if is_running seen && is_mark (course_of c seen) then Some (Look c retries look.Load) else None
once_respin at = None

-- ---------------------------------------------------------------- how far it has come

abbrev pub phase_afterwards : Bool → Phase
phase_afterwards succeeded = if succeeded then phase.Done else phase.Poisoned

-- the state after an operation on the word that saw this value
abbrev pub once_owners : OncePlace → ℕ → ℕ → Owners → Owners
once_owners (Look c retries at) t seen owners =
    if begins_run c at (Value seen) then record owners { phase = phase.InProgress t } else owners
once_owners (Run forced (run.Close succeeded)) t seen owners =
    record owners { phase = phase_afterwards succeeded }
once_owners (Run forced at) t seen owners = owners
once_owners (GiveUp retries at) t seen owners = owners
