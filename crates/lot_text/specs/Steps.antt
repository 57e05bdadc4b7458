-- Steps as a schedule has them, and the lines of a drain.
use Rattle.std.specs.Prelude.{ℕ, true, false, List, [], ◌++◌, ◌≡◌, ◌<◌, ◌^◌, codes, decimal, Option, None}
use Rattle.std.specs.Prelude.{Some, slice_index_or, IfSome}
use Rattle.spec_locks.specs.declared.calls.Access.{Access}
use Rattle.spec_locks.specs.declared.calls.Access.TheVariants as access
use Rattle.spec_locks.specs.declared.calls.Call.{Call}
use Rattle.spec_locks.specs.declared.calls.Call.TheVariants as call
use Rattle.spec_locks.specs.declared.calls.CondvarCall.{CondvarCall}
use Rattle.spec_locks.specs.declared.calls.CondvarCall.TheVariants as condvar
use Rattle.spec_locks.specs.declared.calls.Downgrade.{Downgrade}
use Rattle.spec_locks.specs.declared.calls.Downgrade.TheVariants.{ToShared, ToUpgradable, UpgradableToShared}
use Rattle.spec_locks.specs.declared.calls.MutexCall.{MutexCall}
use Rattle.spec_locks.specs.declared.calls.MutexCall.TheVariants as mutex
use Rattle.spec_locks.specs.declared.calls.OnceCall.{OnceCall}
use Rattle.spec_locks.specs.declared.calls.OnceCall.TheVariants as once
use Rattle.spec_locks.specs.declared.calls.Patience.{Patience}
use Rattle.spec_locks.specs.declared.calls.Patience.TheVariants.{Patient, Timed, Try}
use Rattle.spec_locks.specs.declared.calls.RwLockCall.{RwLockCall}
use Rattle.spec_locks.specs.declared.calls.RwLockCall.TheVariants as rwlock
use Rattle.spec_locks.specs.declared.calls.SemaphoreCall.{SemaphoreCall}
use Rattle.spec_locks.specs.declared.calls.SemaphoreCall.TheVariants as semaphore
use Rattle.spec_locks.specs.declared.calls.Step.{Step}
use Rattle.spec_locks.specs.declared.calls.Turn.{Turn}
use Rattle.spec_locks.specs.declared.calls.Turn.TheVariants as turn
use Rattle.spec_locks.specs.Calls.{lock_in, mutex_in}
use Rattle.lot_text.specs.declared.grammar.Command.TheVariants as command
use Rattle.lot_text.specs.declared.grammar.NamedCall.{NamedCall}
use Rattle.lot_text.specs.declared.grammar.NamedCall.TheVariants as named
use Rattle.lot_text.specs.declared.grammar.NamedTurn.{NamedTurn}
use Rattle.lot_text.specs.declared.grammar.NamedTurn.TheVariants as turns
use Rattle.lot_text.specs.Grammar.{meaning}
use Rattle.lot_text.specs.LockNames.{is_name}

-- ---------------------------------------------------------------- the words of calls

abbrev pub mutex_word : MutexCall → List ℕ
mutex_word mutex.Lock = codes "lock"
mutex_word mutex.LockTimed = codes "lock_timed"
mutex_word mutex.TryLock = codes "try_lock"
mutex_word mutex.Unlock = codes "unlock"
mutex_word mutex.UnlockFair = codes "unlock_fair"
mutex_word mutex.Bump = codes "bump"

abbrev pub read_word : Patience → List ℕ
read_word Patient = codes "read"
read_word Timed = codes "read_timed"
read_word Try = codes "try_read"

abbrev pub upgradable_word : Patience → List ℕ
upgradable_word Patient = codes "upgradable"
upgradable_word Timed = codes "upgradable_timed"
upgradable_word Try = codes "try_upgradable"

abbrev pub write_word : Patience → List ℕ
write_word Patient = codes "write"
write_word Timed = codes "write_timed"
write_word Try = codes "try_write"

abbrev pub enter_word : Access → Patience → List ℕ
enter_word access.Shared how = read_word how
enter_word access.Upgradable how = upgradable_word how
enter_word access.Exclusive how = write_word how

abbrev pub release_word : Access → List ℕ
release_word access.Shared = codes "unlock_shared"
release_word access.Upgradable = codes "unlock_upgradable"
release_word access.Exclusive = codes "unlock_exclusive"

abbrev pub fair_release_word : Access → List ℕ
fair_release_word access.Shared = codes "unlock_shared_fair"
fair_release_word access.Upgradable = codes "unlock_upgradable_fair"
fair_release_word access.Exclusive = codes "unlock_exclusive_fair"

abbrev pub bump_word : Access → List ℕ
bump_word access.Shared = codes "bump_shared"
bump_word access.Upgradable = codes "bump_upgradable"
bump_word access.Exclusive = codes "bump_exclusive"

abbrev pub downgrade_word : Downgrade → List ℕ
downgrade_word ToShared = codes "downgrade"
downgrade_word ToUpgradable = codes "downgrade_to_upgradable"
downgrade_word UpgradableToShared = codes "downgrade_upgradable"

abbrev pub upgrade_word : Patience → List ℕ
upgrade_word Patient = codes "upgrade"
upgrade_word Timed = codes "upgrade_timed"
upgrade_word Try = codes "try_upgrade"

abbrev pub rwlock_word : RwLockCall → List ℕ
rwlock_word (rwlock.Enter x how) = enter_word x how
rwlock_word (rwlock.Release x) = release_word x
rwlock_word (rwlock.ReleaseFair x) = fair_release_word x
rwlock_word (rwlock.Downgrade d) = downgrade_word d
rwlock_word (rwlock.Upgrade how) = upgrade_word how
rwlock_word (rwlock.Bump x) = bump_word x

abbrev pub once_word : OnceCall → List ℕ
once_word (once.CallOnce false) = codes "call_once"
once_word (once.CallOnce true) = codes "call_once_force"
once_word (once.Wait false) = codes "wait"
once_word (once.Wait true) = codes "wait_force"
once_word once.WaitTimed = codes "wait_timed"

abbrev pub semaphore_word : SemaphoreCall → List ℕ
semaphore_word (semaphore.Acquire Patient) = codes "acquire"
semaphore_word (semaphore.Acquire Timed) = codes "acquire_timed"
semaphore_word (semaphore.Acquire Try) = codes "try_acquire"
semaphore_word semaphore.Release = codes "release"

abbrev pub condvar_word : CondvarCall → List ℕ
condvar_word (condvar.Wait m false) = codes "wait"
condvar_word (condvar.Wait m true) = codes "wait_timed"
condvar_word (condvar.Notify false) = codes "notify_one"
condvar_word (condvar.Notify true) = codes "notify_all"

abbrev pub call_word : Call → List ℕ
call_word (call.Mutex l c) = mutex_word c
call_word (call.RwLock l c) = rwlock_word c
call_word (call.Once l c) = once_word c
call_word (call.Condvar l c) = condvar_word c
call_word (call.Semaphore l c) = semaphore_word c

-- ---------------------------------------------------------------- steps

-- the name of a lock; one that isn't there has none
abbrev pub name_at : List (List ℕ) → ℕ → List ℕ
name_at names l = slice_index_or names l []

-- the mutex that a wait names
abbrev pub beside_text : List (List ℕ) → Option ℕ → List ℕ
beside_text names None = []
beside_text names (Some m) = codes " " ++ name_at names m

abbrev pub call_text : List (List ℕ) → Call → List ℕ
call_text names c =
    call_word c ++ (codes " " ++ (name_at names (lock_in c) ++ beside_text names (mutex_in c)))

abbrev pub turn_text : List (List ℕ) → Turn → List ℕ
turn_text names (turn.Begin c) = codes " begin " ++ call_text names c
turn_text names turn.Go = codes " go"
turn_text names turn.Spin = codes " spin"
turn_text names turn.Late = codes " late"
turn_text names turn.Ok = codes " ok"
turn_text names turn.Err = codes " err"

-- the line of a step, of locks with these names
abbrev pub step_text : List (List ℕ) → Step → List ℕ
step_text names s = decimal s.thread ++ turn_text names s.turn

-- ---------------------------------------------------------------- the lines of a drain

abbrev pub drain_line : List (List ℕ) → Step → List ℕ
drain_line names s = codes "drain " ++ (step_text names s ++ codes "\n")

abbrev pub drain_refused_line : List ℕ
drain_refused_line = codes "drain refused\n"

-- ---------------------------------------------------------------- read back

-- calls and turns by the names of their locks
abbrev pub condvar_named : List (List ℕ) → CondvarCall → NamedCall
condvar_named names (condvar.Wait m timed) = named.Wait (name_at names m) timed
condvar_named names (condvar.Notify all) = named.Notify all

abbrev pub named_call : List (List ℕ) → Call → NamedCall
named_call names (call.Mutex l c) = named.Mutex c
named_call names (call.RwLock l c) = named.RwLock c
named_call names (call.Once l c) = named.Once c
named_call names (call.Condvar l c) = condvar_named names c
named_call names (call.Semaphore l c) = named.Semaphore c

abbrev pub turn_named : List (List ℕ) → Turn → NamedTurn
turn_named names (turn.Begin c) = turns.Begin (named_call names c) (name_at names (lock_in c))
turn_named names turn.Go = turns.Go
turn_named names turn.Spin = turns.Spin
turn_named names turn.Late = turns.Late
turn_named names turn.Ok = turns.Ok
turn_named names turn.Err = turns.Err

abbrev pub HasName : List (List ℕ) → ℕ → Type 0
HasName names l = is_name (name_at names l) ≡ true

-- the locks that a turn calls have names
abbrev pub AreNamed : List (List ℕ) → Turn → Type 0
AreNamed names (turn.Begin c) = HasName names (lock_in c) × IfSome (mutex_in c) (HasName names)
AreNamed names turn.Go = Unit {0}
AreNamed names turn.Spin = Unit {0}
AreNamed names turn.Late = Unit {0}
AreNamed names turn.Ok = Unit {0}
AreNamed names turn.Err = Unit {0}

-- the line of a step means that step
abbrev pub StepsAreReadBack : Type 0
StepsAreReadBack =
    (names : List (List ℕ)) (s : Step) → s.thread < 10 ^ 19 → AreNamed names s.turn
    → meaning (step_text names s) ≡ Some (command.Turn s.thread (turn_named names s.turn))
