-- The rows of the places of a condition variable, there and at the mutex beside it. A row says all
-- that is asked of a place's thread.
use Rattle.std.specs.Prelude.{ℕ, Bool, true, false, Option, Some, None, if◌then◌else◌, ◌==◌, ◌&&◌, ◌||◌, ◌*◌}
use Rattle.std.specs.Prelude.{is_none}
use Rattle.core_base.specs.declared.notes.Note.TheVariants as note
use Rattle.core_base.specs.declared.wants.Want.{Want}
use Rattle.core_base.specs.declared.wants.Want.TheVariants as wants
use Rattle.steps_base.specs.Profiles as profiles
use Rattle.steps_base.specs.Profiles.{Hand, Profile, hand, hand_owner, in_hand, in_line}
use Rattle.spec_locks.specs.Condvars.{CondvarPhase, NothingToDo, ToStandLast, SeesOther, Misses, Sees, Clears}
use Rattle.spec_locks.specs.Condvars.{moving}
use Rattle.spec_locks.specs.Locks.{Rights}
use Rattle.spec_locks.specs.Purposes.{Purpose, Waits, Notifies, CondvarMemory, Blank, Saw, SawOwner, HasMoved}
use Rattle.spec_locks.specs.Purposes.{WasMoved, WasNotified}
use Rattle.spec_locks.specs.Sites.{Role, Line, Has, Main, found, idle}
use Rattle.steps_mutex.specs.MutexProfiles.{before_release, inside, mutex_profile, owner}
use Rattle.steps_condvar.specs.declared.notify.NotifyAt.{NotifyAt}
use Rattle.steps_condvar.specs.declared.notify.NotifyAt.TheVariants as notify
use Rattle.steps_condvar.specs.declared.places.CondvarPlace.{CondvarPlace}
use Rattle.steps_condvar.specs.declared.places.CondvarPlace.TheVariants.{Wait, Look, Notify}
use Rattle.steps_condvar.specs.declared.wait.WaiterFate.{WaiterFate}
use Rattle.steps_condvar.specs.declared.wait.WaiterFate.TheVariants as stands
use Rattle.steps_condvar.specs.declared.wait.WaitAt.{WaitAt}
use Rattle.steps_condvar.specs.declared.wait.WaitAt.TheVariants as wait

pub record CondvarRow : Type 0 where
  -- inside the section of the condition variable, what it is about to do there; the mutex that its
  -- wait names, and whether it stands in the queue of the condition variable
  pub stage : Option CondvarPhase
  pub waits_with : Option ℕ
  pub listed : Bool
  -- the deeds of the thread at the mutex, and whether it stands in that queue
  pub role : Role
  pub moved : Bool
  -- in whose hand it is, and what it wants, where it waits
  pub hand : Option Hand
  pub wants : Option Want
  -- on which of the two queues it is shown to owe a wake, and whether to try its mutex again
  pub owes : Bool
  pub owes_mutex : Bool
  pub retries : Bool

abbrev pub blank_condvar_row : CondvarRow
blank_condvar_row = record {
  stage = None;
  waits_with = None;
  listed = false;
  role = idle;
  moved = false;
  hand = None;
  wants = None;
  owes = false;
  owes_mutex = false;
  retries = false;
}

abbrev pub is_main_line : Option Line → Bool
is_main_line (Some Main) = true
is_main_line line = false

-- ---------------------------------------------------------------- waiters

abbrev pub is_listed : WaiterFate → Bool
is_listed stands.Listed = true
is_listed s = false

abbrev pub is_moved : WaiterFate → Bool
is_moved stands.Moved = true
is_moved s = false

-- the thread was handed the mutex
abbrev pub has_mutex : WaiterFate → Bool
has_mutex (stands.Handed by) = true
has_mutex (stands.Noted note.HandOff) = true
has_mutex s = false

-- the thread was woken, and has the mutex to lock again
abbrev pub is_woken : WaiterFate → Bool
is_woken (stands.Noted note.Normal) = true
is_woken s = false

abbrev pub hand_of : WaiterFate → Option Hand
hand_of (stands.InHand by) = hand by false
hand_of (stands.Handed by) = hand by true
hand_of s = None

abbrev pub taker_of : WaiterFate → Option ℕ
taker_of s = hand_owner (hand_of s)

abbrev pub want_of : WaiterFate → Want
want_of s = if is_listed s then wants.Wait else wants.Exclusive

-- the news that befell it adds to its deeds at the mutex
abbrev pub befell : WaiterFate → Role → Role
befell s d = record d {
  retries = if is_woken s then Some wants.Exclusive else d.retries;
  claims = if has_mutex s then Some (Has wants.Exclusive) else d.claims;
}

-- the thread stands somewhere since it stood after the last
abbrev pub standing_row : WaiterFate → CondvarRow → CondvarRow
standing_row s row = record row {
  listed = is_listed s;
  moved = is_moved s;
  hand = hand_of s;
  wants = Some (want_of s);
  retries = is_woken s;
}

-- as in a call of the mutex
abbrev pub mutex_row_beside : Profile → CondvarRow
mutex_row_beside row = record blank_condvar_row {
  role = row.role;
  moved = is_main_line row.stands;
  hand = row.hand;
  wants = row.wants;
  owes_mutex = is_main_line row.owes;
  retries = row.retries;
}

-- inside the section of the condition variable
abbrev pub waiting_at : CondvarPhase → CondvarRow
waiting_at stage = record blank_condvar_row { stage = Some stage; wants = Some wants.Wait; owes = true }

-- the thread still owns its mutex there
abbrev pub coming : CondvarPhase → CondvarRow
coming stage = record (waiting_at stage) { role = owner }

-- inside the section of the mutex, to which it was moved
abbrev pub leaving_mutex : Bool → Role → CondvarRow
leaving_mutex moved role =
    record blank_condvar_row { role = role; moved = moved; wants = Some wants.Exclusive; owes_mutex = true }

abbrev pub wait_row : ℕ → WaitAt → CondvarRow
wait_row m wait.Enter = record blank_condvar_row { role = owner; wants = Some wants.Wait }
wait_row m wait.Show = coming NothingToDo
wait_row m wait.Stand = coming (ToStandLast m)
wait_row m wait.Leave = record (coming NothingToDo) { listed = true }
wait_row m wait.Refuse = coming (SeesOther m)
wait_row m (wait.Release s at) =
    standing_row s (record (mutex_row_beside (mutex_profile at)) { role = befell s (mutex_profile at).role })
wait_row m (wait.Asleep s) = standing_row s (record blank_condvar_row { role = befell s idle })
wait_row m wait.Remove = record (waiting_at NothingToDo) { listed = true }
wait_row m wait.Hide = waiting_at Clears
wait_row m wait.GiveUp = waiting_at NothingToDo
wait_row m wait.RemoveMoved = leaving_mutex true inside
wait_row m (wait.GiveUpMoved none_left) =
    leaving_mutex false (record inside { empty = found Main none_left })
wait_row m (wait.Lock timed_out at) = mutex_row_beside (mutex_profile at)

-- ---------------------------------------------------------------- a thread that notifies

abbrev pub brings_to : Bool → Role
brings_to locked = record inside { will_bring = locked }

-- the thread has taken the first, if any, and has the bit to set yet where it has moved others
abbrev pub has_moved : Bool → Bool → Role
has_moved any bit_pending = record inside { has_taken = true; owes_taken = any; bit_pending = bit_pending }

abbrev pub inside_both : CondvarPhase → Role → CondvarRow
inside_both stage role = record blank_condvar_row
    { stage = Some stage; role = role; owes = true; owes_mutex = true }

-- the thread has moved nobody, or so many
abbrev pub told_stage : ℕ → ℕ → CondvarPhase
told_stage m number = if number == 0 then Misses m else NothingToDo

abbrev pub told_of : Bool → ℕ → ℕ → CondvarRow
told_of any number m = inside_both (told_stage m number)
    (if number == 0 then inside else has_moved any false)

abbrev pub notify_row : Bool → ℕ → NotifyAt → CondvarRow
notify_row all m notify.Enter = blank_condvar_row
notify_row all m notify.Again = inside_both NothingToDo inside
notify_row all m notify.Hide = inside_both (Sees m) inside
notify_row all m notify.Mark = inside_both (moving all m) inside
notify_row all m (notify.Set seen) = inside_both (moving all m) inside
notify_row all m (notify.Move locked) = inside_both (moving all m) (brings_to locked)
notify_row all m (notify.Clear any) = inside_both Clears (has_moved any false)
notify_row all m (notify.MarkMoved number) = inside_both NothingToDo (has_moved true true)
notify_row all m (notify.Leave any number) = told_of any number m

-- ---------------------------------------------------------------- every place

abbrev pub condvar_row : CondvarPlace → CondvarRow
condvar_row (Wait m timed at) = record (wait_row m at) { waits_with = Some m }
condvar_row (Look all) = blank_condvar_row
condvar_row (Notify all m at) = notify_row all m at

-- the thread that took this one and has not left its sections yet
abbrev pub condvar_taker : CondvarPlace → Option ℕ
condvar_taker p = hand_owner (condvar_row p).hand

-- the want of the thread, where it waits
abbrev pub condvar_wants : CondvarPlace → Option Want
condvar_wants p = (condvar_row p).wants

-- the key of the queue in which it stands
abbrev pub stands_under : ℕ → ℕ → CondvarRow → Option ℕ
stands_under c m row = if row.listed then Some (2 * c) else if row.moved then Some (2 * m) else None

-- the key under which a thread sleeps in a call that may give up
abbrev pub condvar_late_key : ℕ → CondvarPlace → Option ℕ
condvar_late_key c (Wait m true (wait.Asleep s)) = stands_under c m (wait_row m (wait.Asleep s))
condvar_late_key c p = None

-- on the queue of a lock, from entering its section until it is left
abbrev pub owes_by : ℕ → ℕ → ℕ → CondvarRow → Bool
owes_by c l m row = (row.owes && (l == c)) || (row.owes_mutex && (l == m))

abbrev pub condvar_owes : ℕ → ℕ → CondvarPlace → Bool
condvar_owes c l (Wait m timed at) = owes_by c l m (wait_row m at)
condvar_owes c l (Look all) = false
condvar_owes c l (Notify all m at) = owes_by c l m (notify_row all m at)

abbrev pub condvar_retries : CondvarPlace → Bool
condvar_retries p = (condvar_row p).retries

-- ---------------------------------------------------------------- as a place of each of its two locks

abbrev pub section_in : Option CondvarPhase → Option Line
section_in None = None
section_in (Some stage) = Some Main

-- a thread that waits to be notified does so at the condition variable, and all others at the mutex
abbrev pub wants_at_condvar : Option Want → Option Want
wants_at_condvar (Some wants.Wait) = Some wants.Wait
wants_at_condvar x = None

abbrev pub wants_at_mutex : Option Want → Option Want
wants_at_mutex (Some wants.Wait) = None
wants_at_mutex x = x

-- whether its call has a deadline, and whether it sleeps in such a call
abbrev pub has_deadline : CondvarPlace → Bool
has_deadline (Wait m timed at) = timed
has_deadline p = false

abbrev pub may_give_up : CondvarPlace → Bool
may_give_up (Wait m timed (wait.Asleep s)) = timed
may_give_up p = false

-- the thread's time is up, and it leaves, or has left, the queue of the condition variable; or it leaves that
-- of the mutex
abbrev pub is_late : CondvarPlace → Bool
is_late (Wait m timed wait.RemoveMoved) = true
is_late (Wait m timed wait.Remove) = true
is_late (Wait m timed wait.Hide) = true
is_late (Wait m timed wait.GiveUp) = true
is_late (Wait m timed (wait.Lock timed_out at)) = timed_out
is_late p = false

abbrev pub has_given_up : CondvarPlace → Bool
has_given_up (Wait m timed wait.Remove) = false
has_given_up (Wait m timed wait.RemoveMoved) = false
has_given_up p = is_late p

abbrev pub is_late_at_mutex : CondvarPlace → Bool
is_late_at_mutex (Wait m timed wait.RemoveMoved) = true
is_late_at_mutex p = false

-- the goal of its call
abbrev pub condvar_place_purpose : CondvarPlace → ℕ → Purpose
condvar_place_purpose (Wait m timed at) c = Waits c m timed
condvar_place_purpose (Look all) c = Notifies c all
condvar_place_purpose (Notify all m at) c = Notifies c all

-- whether a wait has released its mutex
abbrev pub has_released : WaitAt → Bool
has_released wait.Enter = false
has_released wait.Show = false
has_released wait.Stand = false
has_released wait.Leave = false
has_released wait.Refuse = false
has_released (wait.Release s at) = (mutex_profile at).released
has_released at = true

abbrev pub condvar_released : CondvarPlace → Bool
condvar_released (Wait m timed at) = has_released at
condvar_released p = false

-- the memory of its call
abbrev pub stands_recalls : WaiterFate → CondvarMemory
stands_recalls stands.Listed = Blank
stands_recalls stands.Moved = WasMoved
stands_recalls (stands.InHand by) = WasMoved
stands_recalls s = WasNotified

abbrev pub wait_recalls : WaitAt → CondvarMemory
wait_recalls (wait.Release s at) = stands_recalls s
wait_recalls (wait.Asleep s) = stands_recalls s
wait_recalls wait.RemoveMoved = WasMoved
wait_recalls (wait.GiveUpMoved none_left) = WasNotified
wait_recalls (wait.Lock timed_out at) = if timed_out then Blank else WasNotified
wait_recalls at = Blank

abbrev pub notify_recalls : ℕ → NotifyAt → CondvarMemory
notify_recalls m (notify.Move locked) = SawOwner m locked
notify_recalls m (notify.Clear any) = HasMoved m 1
notify_recalls m (notify.MarkMoved number) = HasMoved m number
notify_recalls m (notify.Leave any number) = if number == 0 then Saw m else HasMoved m number
notify_recalls m at = Saw m

abbrev pub condvar_recalls : CondvarPlace → CondvarMemory
condvar_recalls (Wait m timed at) = wait_recalls at
condvar_recalls (Look all) = Blank
condvar_recalls (Notify all m at) = notify_recalls m at

-- a wait owned its mutex as it began, by whether it does now
abbrev pub owned_before : CondvarPlace → ℕ → (ℕ → Rights) → ℕ → Rights
owned_before (Wait m timed at) l rights =
    before_release l (is_none (wait_row m at).role.claims) rights
owned_before p l rights = rights

-- whether it has anybody in hand, a thread that waits for the mutex
abbrev pub wait_carries : WaitAt → Option Bool
wait_carries (wait.Release s at) = (mutex_profile at).has_taken
wait_carries (wait.Lock timed_out at) = (mutex_profile at).has_taken
wait_carries at = None

abbrev pub notify_carries : NotifyAt → Option Bool
notify_carries (notify.Clear any) = in_hand any false
notify_carries (notify.MarkMoved number) = in_hand true false
notify_carries (notify.Leave any number) = in_hand any false
notify_carries at = None

abbrev pub carries_at_mutex : CondvarPlace → Option Bool
carries_at_mutex (Wait m timed at) = wait_carries at
carries_at_mutex (Look all) = None
carries_at_mutex (Notify all m at) = notify_carries at

-- the row of a place at the condition variable: nobody is in a hand there
abbrev pub condvar_profile : CondvarPlace → Profile
condvar_profile p = record profiles.blank_row {
  role = record idle { inside = section_in (condvar_row p).stage };
  stands = in_line (condvar_row p).listed Main;
  wants = wants_at_condvar (condvar_row p).wants;
  owes = in_line (condvar_row p).owes Main;
  timed = has_deadline p;
  late_line = if may_give_up p then in_line (condvar_row p).listed Main else None;
  late = is_late p;
  gave_up = has_given_up p;
  recalls = condvar_recalls p;
  stage = (condvar_row p).stage;
  names = (condvar_row p).waits_with;
  purpose = condvar_place_purpose p;
  released = condvar_released p;
}

-- What a place says at the mutex beside its condition variable.
abbrev pub mutex_side : CondvarPlace → Profile
mutex_side p = record profiles.blank_row {
  role = (condvar_row p).role;
  stands = in_line (condvar_row p).moved Main;
  has_taken = carries_at_mutex p;
  hand = (condvar_row p).hand;
  wants = wants_at_mutex (condvar_row p).wants;
  owes = in_line (condvar_row p).owes_mutex Main;
  retries = (condvar_row p).retries;
  timed = has_deadline p;
  late_line = if may_give_up p then in_line (condvar_row p).moved Main else None;
  late = is_late_at_mutex p;
  former = owned_before p;
}
