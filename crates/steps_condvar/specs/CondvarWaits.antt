-- The deeds of each place of a wait at its mutex, the events that befall it there, and their laws.
use Rattle.std.specs.Prelude.{ℕ, Bool, false, Option, Some, None, ◌==◌, not, ◌≡◌, ◌≢◌, ◌≤◌, List, [], ◌∷◌}
use Rattle.std.specs.Prelude.{drop, is_none}
use Rattle.core_base.specs.declared.notes.Note.TheVariants.{Normal, HandOff as HandOffNote}
use Rattle.core_base.specs.declared.ops.Op.{Op}
use Rattle.core_base.specs.declared.wants.Want.TheVariants.{Exclusive}
use Rattle.core_base.specs.Words.{apply}
use Rattle.steps_base.specs.declared.acts.Act.TheVariants as act
use Rattle.steps_base.specs.declared.acts.Next.{Next}
use Rattle.steps_base.specs.declared.acts.Next.TheVariants.{At, End as Over}
use Rattle.steps_base.specs.declared.acts.Reply.{Reply}
use Rattle.steps_base.specs.declared.acts.Reply.TheVariants.{Done, Value, Parked, Took, Removed, TakenBy}
use Rattle.steps_base.specs.declared.acts.Reply.TheVariants.{MovedTo, HandedBy, Late, Woken}
use Rattle.steps_base.specs.declared.owners.Owners.{Owners}
use Rattle.steps_base.specs.Moves.{IsSectionFree}
use Rattle.spec_locks.specs.Codes.{code}
use Rattle.spec_locks.specs.Deeds.{AllNeeded, after_all}
use Rattle.spec_locks.specs.Locks.{HasTakenNobody, Late as GivesUp, Mutex, Rules, first_thread, standing}
use Rattle.spec_locks.specs.Locks.{times, without}
use Rattle.spec_locks.specs.Sites.{Case, Deed, Role, End, Has, In, IsSite, Main, Out, Site, idle, is_empty}
use Rattle.spec_locks.specs.Sites.{wakened}
use Rattle.steps_mutex.specs.declared.lock.LockAt.{LockAt}
use Rattle.steps_mutex.specs.declared.lock.LockAt.TheVariants as lock
use Rattle.steps_mutex.specs.declared.places.MutexPlace.TheVariants as mutex
use Rattle.steps_mutex.specs.declared.unlock.UnlockAt.{UnlockAt}
use Rattle.steps_mutex.specs.declared.unlock.UnlockAt.TheVariants as unlock
use Rattle.steps_mutex.specs.MutexDeeds.{mutex_deeds}
use Rattle.steps_condvar.specs.declared.places.CondvarPlace.TheVariants.{Wait}
use Rattle.steps_condvar.specs.declared.wait.WaiterFate.{WaiterFate}
use Rattle.steps_condvar.specs.declared.wait.WaiterFate.TheVariants as stands
use Rattle.steps_condvar.specs.declared.wait.WaitAt.{WaitAt}
use Rattle.steps_condvar.specs.declared.wait.WaitAt.TheVariants as wait
use Rattle.steps_condvar.specs.CondvarSteps.{condvar_owners, next_wait, wait_act}
use Rattle.steps_condvar.specs.CondvarProfiles.{has_mutex, wait_row}

-- ---------------------------------------------------------------- the deeds of each step

-- where its release ends the wait goes on
abbrev pub unended : List Deed → List Deed
unended [] = []
unended (End ∷ ds) = unended ds
unended (d ∷ ds) = d ∷ unended ds

-- The deeds are those of calls of the mutex, but a wait that was moved to it and is late leaves the
-- bit. The thread that the release takes is no part of a place: `whom`.
abbrev pub waiter_deeds : WaitAt → Option ℕ → Reply → List Deed
waiter_deeds wait.Refuse whom Done = End ∷ []
waiter_deeds (wait.Release s at) whom told = unended (mutex_deeds at whom told)
waiter_deeds (wait.Asleep stands.Moved) whom Late = In Main ∷ []
waiter_deeds wait.RemoveMoved whom (Removed none_left) = Case GivesUp ∷ []
waiter_deeds (wait.GiveUpMoved none_left) whom Done = Out ∷ []
waiter_deeds (wait.Lock timed_out at) whom told = mutex_deeds at whom told
waiter_deeds at whom told = []

-- ---------------------------------------------------------------- the notes that it may be told

-- the thread takes the first, if anybody waits
pub record TakesFirst (s : Site) (whom : Option ℕ) (any none_left : Bool) : Type 0 where
  pub first : whom ≡ first_thread s.lock.queue
  pub some : any ≡ not (is_none whom)
  pub left : none_left ≡ is_empty (drop 1 s.lock.queue)

-- a thread that releases it owns it, and nobody has handed it over meanwhile
abbrev pub MayHearReleasing : Rules → Site → ℕ → WaiterFate → UnlockAt → Option ℕ → Reply → Type 0
MayHearReleasing r s t st unlock.Subtract whom (Value seen) =
    (seen ≡ code r s) × (has_mutex st ≡ false)
MayHearReleasing r s t st unlock.Enter whom Done = IsSectionFree s Main
MayHearReleasing r s t st unlock.Take whom (Took any none_left) =
    TakesFirst s whom any none_left × HasTakenNobody s.lock t
MayHearReleasing r s t st (unlock.Clear any) whom (Value seen) = Unit {0}
MayHearReleasing r s t st (unlock.Leave any) whom Done = Unit {0}
MayHearReleasing r s t st at whom told = ⊥

-- the thread locks the mutex again without a deadline
abbrev pub MayHearLocking : Rules → Site → ℕ → LockAt → Reply → Type 0
MayHearLocking r s t lock.First (Value seen) = seen ≡ code r s
MayHearLocking r s t lock.Load (Value seen) = Unit {0}
MayHearLocking r s t (lock.Decide expected) (Value seen) = seen ≡ code r s
MayHearLocking r s t (lock.Decide expected) Done = IsSectionFree s Main
MayHearLocking r s t lock.Check (Parked parked) =
    (parked ≡ (code r s == 3)) × (standing t s.lock ≡ 0)
MayHearLocking r s t (lock.Leave parked) Done = Unit {0}
MayHearLocking r s t lock.Accept Done = Unit {0}
MayHearLocking r s t at told = ⊥

abbrev pub MayHearWaiter : Rules → Site → ℕ → WaitAt → Option ℕ → Reply → Type 0
MayHearWaiter r s t wait.Enter whom Done = Unit {0}
MayHearWaiter r s t wait.Show whom (Value seen) = Unit {0}
MayHearWaiter r s t wait.Stand whom Done = Unit {0}
MayHearWaiter r s t wait.Leave whom Done = Unit {0}
MayHearWaiter r s t wait.Refuse whom Done = Unit {0}
MayHearWaiter r s t (wait.Release st (mutex.Unlock at)) whom told =
    MayHearReleasing r s t st at whom told
MayHearWaiter r s t (wait.Asleep stands.Listed) whom Late = Unit {0}
MayHearWaiter r s t (wait.Asleep stands.Moved) whom Late = IsSectionFree s Main
MayHearWaiter r s t wait.Remove whom (Removed none_left) = Unit {0}
MayHearWaiter r s t wait.Hide whom (Value seen) = Unit {0}
MayHearWaiter r s t wait.GiveUp whom Done = Unit {0}
MayHearWaiter r s t wait.RemoveMoved whom (Removed none_left) =
    (1 ≤ times t s.lock.queue) × (none_left ≡ is_empty (without t s.lock.queue))
MayHearWaiter r s t (wait.GiveUpMoved none_left) whom Done = Unit {0}
MayHearWaiter r s t (wait.Lock timed_out (mutex.Lock e retries at)) whom told =
    MayHearLocking r s t at told
MayHearWaiter r s t at whom told = ⊥

-- ---------------------------------------------------------------- the laws

abbrev pub waiter_next : ℕ → Next WaitAt → Role
waiter_next m (At at) = (wait_row m at).role
waiter_next m (Over answer) = idle

-- a thread that leaves the section is woken where it was in its own hand: a release may take its own thread
abbrev pub itself_woken : ℕ → Site → List Deed → Role → Role
itself_woken t s (Out ∷ ds) d = wakened t (s.lock.taken t) d
itself_woken t s ds d = d

-- the deeds may be done, and the next place says what the thread does about the mutex after them
pub record WaiterFollows (r : Rules) (s : Site) (t m : ℕ) (timed : Bool) (at : WaitAt)
    (whom : Option ℕ) (told : Reply) : Type 0 where
  pub needed : AllNeeded r (waiter_deeds at whom told) s t
  pub role : (after_all r (waiter_deeds at whom told) s t).role t
      ≡ itself_woken t s (waiter_deeds at whom told) (waiter_next m (next_wait m timed at told))

abbrev pub WaitersFollow : Type 0
WaitersFollow =
    (r : Rules) (s : Site) (t m : ℕ) (timed : Bool) (at : WaitAt) (whom : Option ℕ) (told : Reply)
    → r.sort ≡ Mutex
    → IsSite r s → s.role t ≡ (wait_row m at).role → MayHearWaiter r s t at whom told
    → WaiterFollows r s t m timed at whom told

-- the steps of a wait on the word of its mutex leave the word of the mutex after the deeds, and the owner
pub record LeavesMutex (r : Rules) (s : Site) (t m : ℕ) (timed : Bool) (at : WaitAt) (f : Op)
    (o : Owners) : Type 0 where
  pub word : apply f (code r s) ≡ code r (after_all r (waiter_deeds at None (Value (code r s))) s t)
  pub owner : (condvar_owners (Wait m timed at) t (code r s) o).exclusive
      ≡ (after_all r (waiter_deeds at None (Value (code r s))) s t).lock.exclusive

abbrev pub WaitersCode : Type 0
WaitersCode =
    (r : Rules) (s : Site) (t k m : ℕ) (timed : Bool) (at : WaitAt) (f : Op) (o : Owners)
    → r.sort ≡ Mutex → k ≢ m
    → IsSite r s → s.role t ≡ (wait_row m at).role
    → MayHearWaiter r s t at None (Value (code r s))
    → wait_act k m at ≡ act.Word m f → o.exclusive ≡ s.lock.exclusive
    → LeavesMutex r s t m timed at f o

-- ---------------------------------------------------------------- effects on a waiter

-- a waiter that was taken and handed the mutex has it, and one that was woken without it tries again
abbrev pub befalls_role : Reply → Role → Role
befalls_role (HandedBy by alone) d = record d { claims = Some (Has Exclusive) }
befalls_role (Woken Normal) d = record d { retries = Some Exclusive }
befalls_role told d = d

-- the thread stands in a queue and is taken, or moved to its mutex's; it is in a hand, and handed the mutex
-- or woken
abbrev pub MayBefall : WaitAt → Reply → Type 0
MayBefall (wait.Release stands.Listed at) (TakenBy u) = Unit {0}
MayBefall (wait.Release stands.Listed at) (MovedTo key) = Unit {0}
MayBefall (wait.Release stands.Moved at) (TakenBy u) = Unit {0}
MayBefall (wait.Release (stands.InHand by) at) (HandedBy u alone) = Unit {0}
MayBefall (wait.Release (stands.InHand by) at) (Woken Normal) = Unit {0}
MayBefall (wait.Release (stands.Handed by) at) (Woken HandOffNote) = Unit {0}
MayBefall (wait.Asleep stands.Listed) (TakenBy u) = Unit {0}
MayBefall (wait.Asleep stands.Listed) (MovedTo key) = Unit {0}
MayBefall (wait.Asleep stands.Moved) (TakenBy u) = Unit {0}
MayBefall (wait.Asleep (stands.InHand by)) (HandedBy u alone) = Unit {0}
MayBefall (wait.Asleep (stands.InHand by)) (Woken Normal) = Unit {0}
MayBefall (wait.Asleep (stands.Handed by)) (Woken HandOffNote) = Unit {0}
MayBefall (wait.Lock timed_out (mutex.Lock e retries lock.Asleep)) (TakenBy u) = Unit {0}
MayBefall (wait.Lock timed_out (mutex.Lock e retries (lock.Taken by))) (HandedBy u alone) = Unit {0}
MayBefall (wait.Lock timed_out (mutex.Lock e retries (lock.Taken by))) (Woken Normal) = Unit {0}
MayBefall (wait.Lock timed_out (mutex.Lock e retries (lock.Handed by))) (Woken HandOffNote) =
    Unit {0}
MayBefall at told = ⊥

-- what befalls a waiter is what its next place says
abbrev pub WaitersHear : Type 0
WaitersHear =
    (m : ℕ) (timed : Bool) (at : WaitAt) (told : Reply) → MayBefall at told
    → waiter_next m (next_wait m timed at told) ≡ befalls_role told (wait_row m at).role
