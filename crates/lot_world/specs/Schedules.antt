-- The schedule that drains a world of one lock. Threads go on, round and round, until none can. Then the
-- first between its calls that may release the lock does so, and threads go on again, as long as there is
-- one.
use Rattle.std.specs.Prelude.{ℕ, zero, suc, if◌then◌else◌, Option, Some, None, ◌==◌, ◌+◌, ◌^◌, List, [], ◌∷◌}
use Rattle.std.specs.Prelude.{◌++◌, length}
use Rattle.spec_locks.specs.declared.calls.Access.TheVariants as access
use Rattle.spec_locks.specs.declared.calls.Call.{Call}
use Rattle.spec_locks.specs.declared.calls.Call.TheVariants as call
use Rattle.spec_locks.specs.declared.calls.MutexCall.TheVariants as mutex_call
use Rattle.spec_locks.specs.declared.calls.Patience.TheVariants as patience
use Rattle.spec_locks.specs.declared.calls.RwLockCall.TheVariants as rwlock_call
use Rattle.spec_locks.specs.declared.calls.Step.{Step}
use Rattle.spec_locks.specs.declared.kinds.Kind.{Kind}
use Rattle.spec_locks.specs.declared.outcomes.Outcome.{Outcome}
use Rattle.spec_locks.specs.declared.outcomes.Outcome.TheVariants as outcome
use Rattle.lot_machine.specs.Machine.{State, after, can_begin, go_of, kind_at, step_outcome, word_at}
use Rattle.lot_machine.specs.Fits.{is_rwlock}
pub use Rattle.lot_world.specs.Owners.{releases}
use Rattle.lot_rests.specs.Rests.{most_steps}
pub use Rattle.lot_world.specs.Ordered.{begin_of}

-- a schedule so far: its steps, and where they have led
pub record Progress : Type 0 where
  pub state : State
  pub steps : List Step

abbrev pub one_more : Progress → Step → Progress
one_more d s = record { state = after d.state s; steps = d.steps ++ s ∷ [] }

-- ---------------------------------------------------------------- one thread

-- one more step of a thread: none was possible, the thread goes on, or it rests
abbrev pub alone_by : Outcome → Progress → Progress → Progress → Progress
alone_by outcome.NotNow d next more = d
alone_by outcome.Step d next more = more
alone_by rests d next more = next

-- at most n steps of a thread alone, until it rests or none is possible
unfoldable pub run_alone : ℕ → Progress → ℕ → Progress
run_alone zero d t = d
run_alone (suc n) d t = alone_by (step_outcome d.state (go_of t)) d (one_more d (go_of t))
    (run_alone n (one_more d (go_of t)) t)

-- a thread goes on until it rests
abbrev pub go_alone : Progress → ℕ → Progress
go_alone d t = run_alone 64 d t

-- a thread begins a call, and goes on until it rests
abbrev pub call_alone : Progress → ℕ → Call → Progress
call_alone d t c = go_alone (one_more d (begin_of t c)) t

-- ---------------------------------------------------------------- all threads

-- each of n threads from t on goes on until it rests
abbrev pub round : Progress → ℕ → ℕ → Progress
round d t zero = d
round d t (suc n) = round (go_alone d t) (suc t) n

-- a round in which nobody has gone on is the last
abbrev pub unless_still : Progress → Progress → Progress → Progress
unless_still d next more = if length next.steps == length d.steps then next else more

-- at most n rounds, until nobody can go on
unfoldable pub rounds : ℕ → Progress → Progress
rounds zero d = d
rounds (suc n) d = unless_still d (round d 0 (length d.state.places))
    (rounds n (round d 0 (length d.state.places)))

-- more than there are, and than a list has room for
abbrev pub most_rounds : State → ℕ
most_rounds w = 2 ^ 64 + most_steps (length w.places) (length w.locks)

abbrev pub settled : Progress → Progress
settled d = rounds (most_rounds d.state) d

-- ---------------------------------------------------------------- releases

-- the first of some calls that a thread may begin
abbrev pub first_begin : State → ℕ → List Call → Option Step
first_begin w t [] = None
first_begin w t (c ∷ cs) =
    if can_begin w t c then Some (begin_of t c) else first_begin w t cs

abbrev pub or_else : Option Step → Option Step → Option Step
or_else None later = later
or_else (Some step) later = Some step

-- the first of n threads from t on that may begin to release
abbrev pub first_release : State → ℕ → ℕ → Option Step
first_release w t zero = None
first_release w t (suc n) =
    or_else (first_begin w t (releases (kind_at w 0))) (first_release w (suc t) n)

abbrev pub where_some : Option Step → Progress → (Step → Progress) → Progress
where_some None d go = d
where_some (Some step) d go = go step

-- an owner begins to release, and threads go on until nobody can
abbrev pub release_taken : Progress → Step → Progress
release_taken d s = settled (one_more d s)

-- at most n releases, until nobody may begin one
unfoldable pub released : ℕ → Progress → Progress
released zero d = d
released (suc n) d = where_some (first_release d.state 0 (length d.state.places)) d
    (λ s. released n (release_taken d s))

abbrev pub all_released : Progress → Progress
all_released d = released (length d.state.places) d

-- ---------------------------------------------------------------- the word

abbrev pub entry_call : Kind → Call
entry_call kind =
    if is_rwlock kind
    then call.RwLock 0 (rwlock_call.Enter access.Exclusive patience.Patient)
    else call.Mutex 0 mutex_call.Lock

abbrev pub fair_release_of : Kind → Call
fair_release_of kind =
    if is_rwlock kind then call.RwLock 0 (rwlock_call.ReleaseFair access.Exclusive)
    else call.Mutex 0 mutex_call.UnlockFair

-- where a bit is left in the word of a lock that nobody owns, the first thread takes the lock and
-- hands it to nobody
abbrev pub passed_through : Progress → Kind → Progress
passed_through d kind = call_alone (call_alone d 0 (entry_call kind)) 0 (fair_release_of kind)

abbrev pub clear : Progress → Progress
clear d = if word_at d.state 0 == 0 then d else passed_through d (kind_at d.state 0)

-- ---------------------------------------------------------------- all of it

abbrev pub drain_from : Progress → Progress
drain_from d = clear (all_released (settled d))

abbrev pub drain_of : State → Progress
drain_of w = drain_from (record { state = w; steps = [] })

abbrev pub schedule_of : State → List Step
schedule_of w = (drain_of w).steps
