-- The meaning of a line.
use Rattle.std.specs.Prelude.{ℕ, ◌+◌, ◌-◌, ◌*◌, Bool, true, false, not, ◌&&◌, ◌||◌, List, [], ◌∷◌, length}
use Rattle.std.specs.Prelude.{slice_index, nat_lt, nat_le, ◌==◌, if◌then◌else◌, codes, Option, None, Some}
use Rattle.std.specs.Prelude.{option_map, option_and_then}
use Rattle.std.specs.List.{slice_split}
use Rattle.std.specs.Str.{bytes_eq}
use Rattle.spec_locks.specs.declared.kinds.Kind.{Kind}
use Rattle.spec_locks.specs.declared.kinds.Kind.TheVariants as kind
use Rattle.spec_locks.specs.declared.calls.MutexCall.{MutexCall}
use Rattle.spec_locks.specs.declared.calls.MutexCall.TheVariants as mutex
use Rattle.spec_locks.specs.declared.calls.RwLockCall.{RwLockCall}
use Rattle.spec_locks.specs.declared.calls.RwLockCall.TheVariants.{Enter, Release, ReleaseFair, Downgrade}
use Rattle.spec_locks.specs.declared.calls.RwLockCall.TheVariants.{Upgrade, Bump}
use Rattle.spec_locks.specs.declared.calls.OnceCall.{OnceCall}
use Rattle.spec_locks.specs.declared.calls.OnceCall.TheVariants.{CallOnce, Wait, WaitTimed}
use Rattle.spec_locks.specs.declared.calls.SemaphoreCall.{SemaphoreCall}
use Rattle.spec_locks.specs.declared.calls.SemaphoreCall.TheVariants as semaphore
use Rattle.spec_locks.specs.declared.calls.Access.TheVariants.{Shared, Upgradable, Exclusive}
use Rattle.spec_locks.specs.declared.calls.Downgrade.TheVariants.{ToShared, ToUpgradable, UpgradableToShared}
use Rattle.spec_locks.specs.declared.calls.Patience.TheVariants.{Patient, Timed, Try}
use Rattle.spec_locks.specs.declared.kinds.TheConstants.{MOST_READERS}
use Rattle.lot_text.specs.declared.grammar.NamedCall.{NamedCall}
use Rattle.lot_text.specs.declared.grammar.NamedCall as call
use Rattle.lot_text.specs.declared.grammar.Command.{Command}
use Rattle.lot_text.specs.declared.grammar.Command.TheVariants as command
use Rattle.lot_text.specs.declared.grammar.NamedTurn.{NamedTurn}
use Rattle.lot_text.specs.declared.grammar.NamedTurn.TheVariants as turn
use Rattle.lot_text.specs.LockNames.{is_digit, name_of}

-- words are parted by one space
abbrev pub words_of : List ℕ → List (List ℕ)
words_of line = slice_split (λ b. b == 32) line

-- the number that digits spell after the number n
abbrev pub digits_after : ℕ → List ℕ → Option ℕ
digits_after n [] = Some n
digits_after n (c ∷ cs) = if is_digit c then digits_after (n * 10 + (c - 48)) cs else None

-- 1 to 19 digits, the first of several no 0
abbrev pub has_form : List ℕ → Bool
has_form word = (nat_lt 0 (length word) && nat_le (length word) 19) &&
    ((length word == 1) || not (slice_index word 0 == 48))

abbrev pub number_read : List ℕ → Option ℕ
number_read word = if has_form word then digits_after 0 word else None

-- a reader-writer lock with a limit
abbrev pub rwlock_kind_of : List ℕ → ℕ → Option Kind
rwlock_kind_of word limit =
    if bytes_eq word (codes "rwlock") then Some (kind.RwLock limit)
    else (if bytes_eq word (codes "recursive") then Some (kind.Recursive limit)
    else None)

-- one with a limit, or a semaphore with its permits
abbrev pub limited_kind_of : List ℕ → Option ℕ → Option Kind
limited_kind_of word None = None
limited_kind_of word (Some limit) =
    if bytes_eq word (codes "semaphore") then Some (kind.Semaphore limit)
    else rwlock_kind_of word limit

-- without a limit, readers may be as many as fit into a word; a semaphore always says its permits
abbrev pub kind_of : List ℕ → Option Kind
kind_of word =
    if bytes_eq word (codes "mutex") then Some kind.Mutex
    else (if bytes_eq word (codes "fair") then Some kind.Fair
    else (if bytes_eq word (codes "condvar") then Some kind.Condvar
    else (if bytes_eq word (codes "once") then Some kind.Once
    else rwlock_kind_of word MOST_READERS)))

abbrev pub mutex_call_of : List ℕ → Option MutexCall
mutex_call_of word =
    if bytes_eq word (codes "lock") then Some mutex.Lock
    else (if bytes_eq word (codes "unlock") then Some mutex.Unlock
    else (if bytes_eq word (codes "try_lock") then Some mutex.TryLock
    else (if bytes_eq word (codes "lock_timed") then Some mutex.LockTimed
    else (if bytes_eq word (codes "unlock_fair") then Some mutex.UnlockFair
    else (if bytes_eq word (codes "bump") then Some mutex.Bump
    else None)))))

-- a call that waits for a right to a reader-writer lock
abbrev pub entering_call_of : List ℕ → Option RwLockCall
entering_call_of word =
    if bytes_eq word (codes "read") then Some (Enter Shared Patient)
    else (if bytes_eq word (codes "read_timed") then Some (Enter Shared Timed)
    else (if bytes_eq word (codes "try_read") then Some (Enter Shared Try)
    else (if bytes_eq word (codes "upgradable") then Some (Enter Upgradable Patient)
    else (if bytes_eq word (codes "upgradable_timed") then Some (Enter Upgradable Timed)
    else (if bytes_eq word (codes "try_upgradable") then Some (Enter Upgradable Try)
    else (if bytes_eq word (codes "write") then Some (Enter Exclusive Patient)
    else (if bytes_eq word (codes "write_timed") then Some (Enter Exclusive Timed)
    else (if bytes_eq word (codes "try_write") then Some (Enter Exclusive Try)
    else None))))))))

-- one that gives its right up fairly, for good or until it has it again
abbrev pub fair_call_of : List ℕ → Option RwLockCall
fair_call_of word =
    if bytes_eq word (codes "unlock_shared_fair") then Some (ReleaseFair Shared)
    else (if bytes_eq word (codes "unlock_upgradable_fair") then Some (ReleaseFair Upgradable)
    else (if bytes_eq word (codes "unlock_exclusive_fair") then Some (ReleaseFair Exclusive)
    else (if bytes_eq word (codes "bump_shared") then Some (Bump Shared)
    else (if bytes_eq word (codes "bump_upgradable") then Some (Bump Upgradable)
    else (if bytes_eq word (codes "bump_exclusive") then Some (Bump Exclusive)
    else None)))))

-- The call of a word that gives its right up, or turns it into another.
abbrev pub other_call_of : List ℕ → Option RwLockCall
other_call_of word =
    if bytes_eq word (codes "unlock_shared") then Some (Release Shared)
    else (if bytes_eq word (codes "unlock_upgradable") then Some (Release Upgradable)
    else (if bytes_eq word (codes "unlock_exclusive") then Some (Release Exclusive)
    else (if bytes_eq word (codes "downgrade") then Some (Downgrade ToShared)
    else (if bytes_eq word (codes "downgrade_to_upgradable") then Some (Downgrade ToUpgradable)
    else (if bytes_eq word (codes "downgrade_upgradable") then Some (Downgrade UpgradableToShared)
    else (if bytes_eq word (codes "upgrade") then Some (Upgrade Patient)
    else (if bytes_eq word (codes "upgrade_timed") then Some (Upgrade Timed)
    else (if bytes_eq word (codes "try_upgrade") then Some (Upgrade Try)
    else fair_call_of word))))))))

abbrev pub once_call_of : List ℕ → Option OnceCall
once_call_of word =
    if bytes_eq word (codes "call_once") then Some (CallOnce false)
    else (if bytes_eq word (codes "call_once_force") then Some (CallOnce true)
    else (if bytes_eq word (codes "wait") then Some (Wait false)
    else (if bytes_eq word (codes "wait_force") then Some (Wait true)
    else (if bytes_eq word (codes "wait_timed") then Some WaitTimed
    else None))))

abbrev pub semaphore_call_of : List ℕ → Option SemaphoreCall
semaphore_call_of word =
    if bytes_eq word (codes "acquire") then Some (semaphore.Acquire Patient)
    else (if bytes_eq word (codes "acquire_timed") then Some (semaphore.Acquire Timed)
    else (if bytes_eq word (codes "try_acquire") then Some (semaphore.Acquire Try)
    else (if bytes_eq word (codes "release") then Some semaphore.Release
    else None)))

-- one that notifies the waiters of a condition variable
abbrev pub notification_of : List ℕ → Option NamedCall
notification_of word =
    if bytes_eq word (codes "notify_one") then Some (call.TheVariants.Notify false)
    else (if bytes_eq word (codes "notify_all") then Some (call.TheVariants.Notify true)
    else None)

-- one that waits there with the mutex of a name
abbrev pub wait_of : List ℕ → Option (List ℕ) → Option NamedCall
wait_of word None = None
wait_of word (Some mutex) =
    if bytes_eq word (codes "wait") then Some (call.TheVariants.Wait mutex false)
    else (if bytes_eq word (codes "wait_timed") then Some (call.TheVariants.Wait mutex true)
    else None)

-- the first of them that is there
abbrev pub first_call : Option MutexCall → Option RwLockCall → Option RwLockCall → Option OnceCall
    → Option SemaphoreCall → Option NamedCall → Option NamedCall
first_call (Some c) enters other once permits notifies = Some (call.TheVariants.Mutex c)
first_call None (Some c) other once permits notifies = Some (call.TheVariants.RwLock c)
first_call None None (Some c) once permits notifies = Some (call.TheVariants.RwLock c)
first_call None None None (Some c) permits notifies = Some (call.TheVariants.Once c)
first_call None None None None (Some c) notifies = Some (call.TheVariants.Semaphore c)
first_call None None None None None notifies = notifies

abbrev pub call_of : List ℕ → Option NamedCall
call_of word =
    first_call (mutex_call_of word) (entering_call_of word) (other_call_of word) (once_call_of word)
    (semaphore_call_of word) (notification_of word)

-- a turn by which a closure answers
abbrev pub closing_turn_of : List ℕ → Option NamedTurn
closing_turn_of word =
    if bytes_eq word (codes "ok") then Some turn.Ok
    else (if bytes_eq word (codes "err") then Some turn.Err
    else None)

-- a turn that calls no lock
abbrev pub turn_of : List ℕ → Option NamedTurn
turn_of word =
    if bytes_eq word (codes "go") then Some turn.Go
    else (if bytes_eq word (codes "solo") then Some turn.Solo
    else (if bytes_eq word (codes "spin") then Some turn.Spin
    else (if bytes_eq word (codes "late") then Some turn.Late
    else closing_turn_of word)))

-- a turn that calls a lock
abbrev pub calling_turn_of : List ℕ → NamedCall → List ℕ → Option NamedTurn
calling_turn_of word call name =
    if bytes_eq word (codes "begin") then Some (turn.Begin call name)
    else (if bytes_eq word (codes "do") then Some (turn.Do call name)
    else None)

-- a thread's number and its turn
abbrev pub turn_command : Option ℕ → Option NamedTurn → Option Command
turn_command None turn = None
turn_command (Some t) turn = option_map (command.Turn t) turn

abbrev pub lock_command : Option (List ℕ) → Option Kind → Option Command
lock_command None kind = None
lock_command (Some name) kind = option_map (command.Lock name) kind

-- a thread's number, `begin` or `do`, a call and the name of a lock
abbrev pub calling_command_of : List ℕ → List ℕ → Option NamedCall → List ℕ → Option Command
calling_command_of a b c d =
    turn_command (number_read a)
    (option_and_then (λ call. option_and_then (calling_turn_of b call) (name_of d)) c)

-- the words of a line with a meaning: `show`, `drain`, `threads N`, `T TURN`, `lock NAME KIND`,
-- `lock NAME KIND LIMIT`, `lock NAME semaphore PERMITS`, `T begin CALL NAME`, `T do CALL NAME`, and of a wait
-- on a condition variable `T begin CALL NAME MUTEX`, `T do CALL NAME MUTEX`
abbrev pub command_of : List (List ℕ) → Option Command
command_of (a ∷ []) =
    if bytes_eq a (codes "show") then Some command.Show
    else (if bytes_eq a (codes "drain") then Some command.Drain else None)
command_of (a ∷ b ∷ []) =
    if bytes_eq a (codes "threads") then option_map command.Threads (number_read b)
    else turn_command (number_read a) (turn_of b)
command_of (a ∷ b ∷ c ∷ []) =
    if bytes_eq a (codes "lock") then lock_command (name_of b) (kind_of c) else None
command_of (a ∷ b ∷ c ∷ d ∷ []) =
    if bytes_eq a (codes "lock") then lock_command (name_of b) (limited_kind_of c (number_read d))
    else calling_command_of a b (call_of c) d
command_of (a ∷ b ∷ c ∷ d ∷ e ∷ []) = calling_command_of a b (wait_of c (name_of e)) d
command_of _ = None

abbrev pub meaning : List ℕ → Option Command
meaning line = command_of (words_of line)
