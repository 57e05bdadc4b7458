-- Where each step in a call of a condition variable takes its thread in the machine, at each of its
-- two locks.
use Rattle.std.specs.Prelude.{ℕ, Bool, true, false, Option, Some, None, ◌≡◌, ◌⊎◌, List, [], ◌∷◌}
use Rattle.std.specs.Prelude.{if◌then◌else◌, not}
use Rattle.core_base.specs.declared.keys.Keys.TheVariants.{One, Two}
use Rattle.core_base.specs.declared.notes.Note.TheVariants.{Normal, HandOff as HandOffNote}
use Rattle.core_base.specs.declared.requeues.Requeue.{Requeue}
use Rattle.core_base.specs.declared.requeues.Requeue.TheVariants as requeue
use Rattle.core_base.specs.declared.wants.Want.TheVariants.{Exclusive, Wait as WaitHere}
use Rattle.core_base.specs.Keys.{key_of}
use Rattle.spec_locks.specs.declared.calls.CondvarCall.TheVariants as call
use Rattle.steps_base.specs.declared.acts.Act.{Act}
use Rattle.steps_base.specs.declared.acts.Act.TheVariants as act
use Rattle.steps_base.specs.declared.acts.Next.{Next}
use Rattle.steps_base.specs.declared.acts.Next.TheVariants.{At, End as Over}
use Rattle.steps_base.specs.declared.acts.Reply.{Reply}
use Rattle.steps_base.specs.declared.acts.Reply.TheVariants.{Done, Value, Parked, Took, Requeued, Removed}
use Rattle.steps_base.specs.declared.acts.Reply.TheVariants.{TakenBy, MovedTo, HandedBy, Woken}
use Rattle.steps_base.specs.declared.acts.Wakes.{Wakes}
use Rattle.steps_base.specs.declared.acts.TakeWhich.TheVariants.{First}
use Rattle.steps_base.specs.Acts.{wakes_taken}
use Rattle.steps_base.specs.Moves.{Accepts, AreLeaving, AreOfWord, Hears, IsSectionFree, LeavesLine, StepView}
use Rattle.steps_base.specs.Moves.{Parks, inside_of, location_of, location_then}
use Rattle.steps_base.specs.Profiles.{Profile, blank_row, hand, in_hand}
use Rattle.steps_base.specs.Locations.{Location, location_by, nowhere}
use Rattle.spec_locks.specs.Condvars.{BeginsWait, CondvarNeeded, condvar_leads, CondvarDeed, CondvarSite}
use Rattle.spec_locks.specs.Condvars.{EndsWait, GoIn, GoOut, LeaveList, MoveAll, MoveFirst, StandLast}
use Rattle.spec_locks.specs.Condvars.{line_of, moved_of, taken_of}
use Rattle.spec_locks.specs.Locks.{HasTakenNobody, Owns, Queued, Rights, Rules}
use Rattle.spec_locks.specs.Sites.{Begin, Bring, Deed, Has, In, Main, MarkBrought, MarkOwned, Needed, Site}
use Rattle.spec_locks.specs.Sites.{after_deed, idle}
use Rattle.spec_locks.specs.Purposes.{Waits}
use Rattle.spec_locks.specs.Runs.{new_call}
use Rattle.steps_mutex.specs.MutexDeeds.{take_deeds}
use Rattle.steps_condvar.specs.declared.notify.NotifyAt.{NotifyAt}
use Rattle.steps_condvar.specs.declared.places.CondvarPlace.{CondvarPlace}
use Rattle.steps_condvar.specs.declared.places.CondvarPlace.TheVariants.{Wait, Look, Notify}
use Rattle.steps_condvar.specs.declared.wait.WaitAt.{WaitAt}
use Rattle.steps_condvar.specs.declared.wait.WaitAt.TheVariants as wait
use Rattle.steps_condvar.specs.CondvarSteps.{condvar_act, condvar_first, condvar_respin, condvar_next}
use Rattle.steps_condvar.specs.CondvarProfiles.{condvar_profile, mutex_side, wait_row}
use Rattle.steps_condvar.specs.CondvarDeeds.{IsAt, IsAway, condvar_deeds}
use Rattle.steps_condvar.specs.CondvarMutex.{MayGetReplyAtMutex, beside_deeds}
use Rattle.steps_condvar.specs.CondvarWaits.{MayHearWaiter, TakesFirst, waiter_deeds}
use Rattle.steps_condvar.specs.CondvarCalls.{IsReached, condvar_call_by}

-- ------------------------------------------------------------ a thread at a place, seen at each of its locks

abbrev pub row_at_condvar : Next CondvarPlace → Profile
row_at_condvar (At p) = condvar_profile p
row_at_condvar (Over answer) = blank_row

abbrev pub row_at_mutex : Next CondvarPlace → Profile
row_at_mutex (At p) = mutex_side p
row_at_mutex (Over answer) = blank_row

-- at the condition variable
abbrev pub there : CondvarPlace → Location
there p = location_by (condvar_profile p)

abbrev pub there_then : CondvarPlace → Reply → Location
there_then p told = location_by (row_at_condvar (condvar_next p told))

-- at the mutex beside it; of these waiters it moves some, and each thread that it takes there is no part of
-- the place
abbrev pub deeds_at_mutex : List Queued → CondvarPlace → Option ℕ → Reply → List Deed
deeds_at_mutex q (Wait m timed at) whom told = waiter_deeds at whom told
deeds_at_mutex q (Look all) whom told = []
deeds_at_mutex q (Notify all m at) whom told = beside_deeds all q at told

abbrev pub move_at_mutex : List Queued → CondvarPlace → StepView
move_at_mutex q p = record {
  row = mutex_side p;
  next = λ told. row_at_mutex (condvar_next p told);
  deeds = λ whom told. deeds_at_mutex q p whom told;
}

-- the news that it may be told there, however the condition variable stands
abbrev pub hears_at_mutex : CondvarPlace → Hears
hears_at_mutex (Wait m timed at) r s t whom told = MayHearWaiter r s t at whom told
hears_at_mutex (Look all) r s t whom told = Unit {0}
hears_at_mutex (Notify all m at) r s t whom told = (v : CondvarSite)
    → MayGetReplyAtMutex r s v t m all at told

-- ---------------------------------------------------------------- at the condition variable

-- a step on the word, or at the mutex: nobody goes in or out, and nobody stands or is moved
abbrev pub StayAtCondvar : List CondvarDeed → Type 0
StayAtCondvar [] = Unit {0}
StayAtCondvar (GoIn ∷ ds) = ⊥
StayAtCondvar (GoOut ∷ ds) = ⊥
StayAtCondvar (StandLast ∷ ds) = ⊥
StayAtCondvar (LeaveList ∷ ds) = ⊥
StayAtCondvar (MoveFirst ∷ ds) = ⊥
StayAtCondvar (MoveAll ∷ ds) = ⊥
StayAtCondvar (d ∷ ds) = StayAtCondvar ds

pub record StaysAtCondvar (p : CondvarPlace) (told : Reply) : Type 0 where
  pub deeds : StayAtCondvar (condvar_deeds p told)
  pub goes : there_then p told ≡ there p

-- the thread goes into the section
pub record GoesInAtCondvar (p : CondvarPlace) (told : Reply) : Type 0 where
  pub out : (there p).inside ≡ None
  pub deeds : condvar_deeds p told ≡ GoIn ∷ []
  pub goes : there_then p told ≡ record (there p) { inside = Some Main }

-- the thread stands after the last, and waits to be notified
pub record StandsAtCondvar (p : CondvarPlace) : Type 0 where
  pub was : there p ≡ inside_of Main
  pub deeds : condvar_deeds p Done ≡ StandLast ∷ []
  pub goes : there_then p Done
      ≡ record (inside_of Main) { stands = Some Main; waits = Some WaitHere }

-- the thread's time is up, and it leaves the queue
pub record LeavesAtCondvar (p : CondvarPlace) : Type 0 where
  pub was : there p ≡ record (inside_of Main) { stands = Some Main; waits = Some WaitHere }
  pub deeds : (none_left : Bool) → condvar_deeds p (Removed none_left) ≡ LeaveList ∷ []
  pub goes : (none_left : Bool) → there_then p (Removed none_left) ≡ inside_of Main

-- out of the section, and where another mutex is shown its call ends
abbrev pub AreLeavingAtCondvar : List CondvarDeed → Type 0
AreLeavingAtCondvar (GoOut ∷ []) = Unit {0}
AreLeavingAtCondvar (GoOut ∷ EndsWait ∷ []) = Unit {0}
AreLeavingAtCondvar ds = ⊥

pub record GoesOutAtCondvar (p : CondvarPlace) : Type 0 where
  pub inside : (there p).inside ≡ Some Main
  pub deeds : AreLeavingAtCondvar (condvar_deeds p Done)
  pub goes : there_then p Done ≡ record (there p) { inside = None }

-- ---------------------------------------------------------------- at the mutex

-- as of any step on the word; or a notification sets the parked bit
abbrev pub StayAtMutex : List Deed → Type 0
StayAtMutex (MarkOwned ∷ []) = Unit {0}
StayAtMutex (MarkBrought ∷ []) = Unit {0}
StayAtMutex ds = AreOfWord ds

-- the thread stays where it is; while it releases the mutex it may stand in its queue, or be in a hand
pub record StaysPutAtMutex (x : StepView) (told : Reply) : Type 0 where
  pub deeds : StayAtMutex (x.deeds None told)
  pub goes : location_then x told ≡ location_of x

pub record GoesInAtMutex (x : StepView) (hears : Hears) (told : Reply) : Type 0 where
  pub out : (location_of x).inside ≡ None
  pub deeds : x.deeds None told ≡ In Main ∷ []
  pub goes : location_then x told ≡ record (location_of x) { inside = Some Main }
  pub may : (r : Rules) (s : Site) (t : ℕ) → IsSectionFree s Main → hears r s t None told

-- a release takes the first, if anybody waits: it may be its own thread
pub record TakesAtMutex (x : StepView) (hears : Hears) : Type 0 where
  pub inside : (location_of x).inside ≡ Some Main
  pub empty_handed : (location_of x).has_taken ≡ None
  pub deeds : (whom : Option ℕ) (any none_left : Bool)
      → x.deeds whom (Took any none_left) ≡ take_deeds whom
  pub goes : (any none_left : Bool)
      → location_then x (Took any none_left) ≡ record (location_of x) { has_taken = in_hand any false }
  pub may : (r : Rules) (s : Site) (t : ℕ) (whom : Option ℕ) (any none_left : Bool)
      → TakesFirst s whom any none_left
      → HasTakenNobody s.lock t → hears r s t whom (Took any none_left)

-- the thread goes out of the section, and wakes the threads that it has in hand, if anybody
pub record GoesOutAtMutex (x : StepView) (wakes : Wakes) : Type 0 where
  pub any : Bool
  pub notes : wakes ≡ wakes_taken any Normal
  pub inside : (location_of x).inside ≡ Some Main
  pub has_taken : (location_of x).has_taken ≡ in_hand any false
  pub deeds : AreLeaving (x.deeds None Done)
  pub goes : location_then x Done ≡ record (location_of x) { inside = None; has_taken = None }

-- ---------------------------------------------------------------- at both

-- a notification moves the first waiter, or all; of a mutex that nobody owns it takes the first of
-- them
pub record MovesWaiters (q : List Queued) (p : CondvarPlace) (all locked : Bool)
    (told : Reply) : Type 0 where
  pub inside : ((there p) ≡ inside_of Main) × (location_of (move_at_mutex q p) ≡ inside_of Main)
  pub deeds_at_condvar : condvar_deeds p told ≡ (if all then MoveAll else MoveFirst) ∷ []
  pub deeds_at_mutex : deeds_at_mutex q p None told
      ≡ Bring (taken_of locked (moved_of all q)) (line_of locked (moved_of all q)) ∷ []
  pub stays : there_then p told ≡ there p
  pub has_taken : location_then (move_at_mutex q p) told
      ≡ record (inside_of Main) { has_taken = in_hand (not locked) false }

-- the waiters moved, by how
abbrev pub MovesBy : List Queued → CondvarPlace → Requeue → Type 0
MovesBy q p requeue.One = (number : ℕ) (none_left : Bool)
    → MovesWaiters q p false true (Requeued number none_left)
MovesBy q p requeue.All = (number : ℕ) (none_left : Bool)
    → MovesWaiters q p true true (Requeued number none_left)
MovesBy q p requeue.TakeOneMoveRest = (number : ℕ) (none_left : Bool)
    → MovesWaiters q p true false (Requeued number none_left)

-- by the act: what is done under the key of one of the two locks leaves the thread where it is at
-- the other
abbrev pub CondvarMoves : ℕ → ℕ → List Queued → CondvarPlace → Act → Type 0
CondvarMoves c m q p (act.Word k op) =
    ((k ≡ c) ⊎ (k ≡ m)) ×
    ((seen : ℕ) → StaysAtCondvar p (Value seen) × StaysPutAtMutex (move_at_mutex q p) (Value seen))
CondvarMoves c m q p (act.Enter keys) =
    ((keys ≡ One (key_of c Main)) × GoesInAtCondvar p Done × StaysPutAtMutex (move_at_mutex q p) Done)
    ⊎ (((keys ≡ One (key_of m Main)) × StaysAtCondvar p Done
    × GoesInAtMutex (move_at_mutex q p) (hears_at_mutex p) Done)
    ⊎ ((keys ≡ Two (key_of c Main) (key_of m Main)) × GoesInAtCondvar p Done
    × GoesInAtMutex (move_at_mutex q p) (hears_at_mutex p) Done))
CondvarMoves c m q p (act.Stand key want) =
    (key ≡ key_of c Main) × (want ≡ WaitHere) × StandsAtCondvar p × StaysPutAtMutex (move_at_mutex q p) Done
CondvarMoves c m q p (act.Park k key check want) =
    (k ≡ m) × (key ≡ key_of m Main) × Parks (move_at_mutex q p) (hears_at_mutex p) Main check want
    × ((parked : Bool) → StaysAtCondvar p (Parked parked))
CondvarMoves c m q p (act.Take key First) =
    ((key ≡ key_of m Main) × TakesAtMutex (move_at_mutex q p) (hears_at_mutex p)
    × ((any none_left : Bool) → StaysAtCondvar p (Took any none_left)))
    ⊎ ((key ≡ key_of c Main)
    × ((none_left : Bool) → MovesWaiters q p false false (Took true none_left)))
CondvarMoves c m q p (act.Requeue from to how) =
    (from ≡ key_of c Main) × (to ≡ key_of m Main) × MovesBy q p how
CondvarMoves c m q p (act.Remove key) =
    ((key ≡ key_of c Main) × LeavesAtCondvar p
    × ((none_left : Bool) → StaysPutAtMutex (move_at_mutex q p) (Removed none_left)))
    ⊎ ((key ≡ key_of m Main) × ((none_left : Bool) → StaysAtCondvar p (Removed none_left))
    × LeavesLine (move_at_mutex q p) (hears_at_mutex p) Main)
CondvarMoves c m q p (act.Leave keys wakes) =
    ((keys ≡ One (key_of c Main)) × GoesOutAtCondvar p × StaysPutAtMutex (move_at_mutex q p) Done)
    ⊎ (((keys ≡ One (key_of m Main)) × StaysAtCondvar p Done × GoesOutAtMutex (move_at_mutex q p) wakes)
    ⊎ ((keys ≡ Two (key_of c Main) (key_of m Main)) × GoesOutAtCondvar p
    × GoesOutAtMutex (move_at_mutex q p) wakes))
CondvarMoves c m q p act.Accept = StaysAtCondvar p Done × Accepts (move_at_mutex q p) (hears_at_mutex p)
CondvarMoves c m q p act.Sleep = Unit {0}
CondvarMoves c m q p act = ⊥

-- each place that calls come to moves as its act says
abbrev pub WaitsMove : Type 0
WaitsMove =
    (c m : ℕ) (timed : Bool) (at : WaitAt) → IsReached (Wait m timed at)
    → CondvarMoves c m [] (Wait m timed at) (condvar_act c (Wait m timed at))

abbrev pub NotifiesMove : Type 0
NotifiesMove =
    (c m : ℕ) (q : List Queued) (all : Bool) (at : NotifyAt) → IsReached (Notify all m at)
    → CondvarMoves c m q (Notify all m at) (condvar_act c (Notify all m at))

-- before its first look it stands nowhere, whatever the mutex that it sees then
abbrev pub LooksMove : Type 0
LooksMove = (c m : ℕ) (all : Bool) → CondvarMoves c m [] (Look all) (condvar_act c (Look all))

-- ---------------------------------------------------------------- effects on a waiter

-- a waiter in the queue of the condition variable is taken or moved: it stands there no more, and is in a
-- hand at the mutex, or stands there
pub record SleepsAtCondvar (p : CondvarPlace) : Type 0 where
  pub was : ((there p).stands ≡ Some Main) × ((location_of (move_at_mutex [] p)).stands ≡ None)
      × ((location_of (move_at_mutex [] p)).hand ≡ None)
  pub taken : (u : ℕ) → (there_then p (TakenBy u)
      ≡ record (there p) { stands = None; waits = None })
      × (location_then (move_at_mutex [] p) (TakenBy u)
      ≡ record (location_of (move_at_mutex [] p)) { hand = hand u false })
  pub moved : (key : ℕ) →
      (there_then p (MovedTo key) ≡ record (there p) { stands = None; waits = None })
      × (location_then (move_at_mutex [] p) (MovedTo key)
      ≡ record (location_of (move_at_mutex [] p)) { stands = Some Main; waits = Some Exclusive })

-- a waiter in that of the mutex is taken
pub record SleepsAtMutex (p : CondvarPlace) : Type 0 where
  pub was : ((location_of (move_at_mutex [] p)).stands ≡ Some Main) × ((there p).stands ≡ None)
  pub taken : (u : ℕ) → (there_then p (TakenBy u) ≡ there p)
      × (location_then (move_at_mutex [] p) (TakenBy u)
      ≡ record (location_of (move_at_mutex [] p)) { stands = None; waits = None; hand = hand u false })

-- a thread in a hand is handed the mutex, or woken, and then stands nowhere
pub record IsHeldAtMutex (p : CondvarPlace) (u : ℕ) : Type 0 where
  pub was : ((location_of (move_at_mutex [] p)).hand ≡ hand u false)
      × ((location_of (move_at_mutex [] p)).stands ≡ None) × ((there p).stands ≡ None)
  pub handed : (alone : Bool) → (there_then p (HandedBy u alone) ≡ there p)
      × (location_then (move_at_mutex [] p) (HandedBy u alone)
      ≡ record (location_of (move_at_mutex [] p)) { hand = hand u true })
  pub woken : (there_then p (Woken Normal) ≡ there p)
      × (location_then (move_at_mutex [] p) (Woken Normal)
      ≡ record (location_of (move_at_mutex [] p)) { hand = None })

-- a thread that was handed the mutex is told so
pub record WasGivenAtMutex (p : CondvarPlace) (u : ℕ) : Type 0 where
  pub was : ((location_of (move_at_mutex [] p)).hand ≡ hand u true)
      × ((location_of (move_at_mutex [] p)).stands ≡ None) × ((there p).stands ≡ None)
  pub told : (there_then p (Woken HandOffNote) ≡ there p)
      × (location_then (move_at_mutex [] p) (Woken HandOffNote)
      ≡ record (location_of (move_at_mutex [] p)) { hand = None })

abbrev pub IsInHand : CondvarPlace → ℕ → Bool → Type 0
IsInHand p u false = IsHeldAtMutex p u
IsInHand p u true = WasGivenAtMutex p u

-- a thread in one of the two queues is inside its section, or is so to be taken, and one in a hand is so to
-- be told
pub record WaitsAtBoth (p : CondvarPlace) : Type 0 where
  pub listed : (there p).stands ≡ Some Main → ((there p).inside ≡ Some Main) ⊎ SleepsAtCondvar p
  pub moved : (location_of (move_at_mutex [] p)).stands ≡ Some Main
      → ((location_of (move_at_mutex [] p)).inside ≡ Some Main) ⊎ SleepsAtMutex p
  pub held : (u : ℕ) (handed : Bool) → (location_of (move_at_mutex [] p)).hand ≡ hand u handed
      → IsInHand p u handed

abbrev pub WaitersMove : Type 0
WaitersMove = (m : ℕ) (timed : Bool) (at : WaitAt) → IsReached (Wait m timed at)
    → WaitsAtBoth (Wait m timed at)

-- -------------------------------------------- where a call begins, and where it looks at its mutex once more

-- the thread stands nowhere, and a wait owns its mutex
pub record BeginsAt (v : CondvarSite) (r : Rules) (s : Site) (t c m : ℕ)
    (timed : Bool) : Type 0 where
  pub reached : IsReached (condvar_first (call.Wait m timed))
  pub needed : CondvarNeeded (BeginsWait m) v t × Needed r (Begin (Some (Has Exclusive))) s t
  pub at : IsAt (condvar_leads (BeginsWait m) v t) t (condvar_first (call.Wait m timed))
  pub role : (after_deed r (Begin (Some (Has Exclusive))) s t).role t
      ≡ (wait_row m wait.Enter).role
  pub locations : (there (condvar_first (call.Wait m timed)) ≡ nowhere)
      × (location_of (move_at_mutex [] (condvar_first (call.Wait m timed))) ≡ nowhere)
  pub call : (rights : ℕ → Rights)
      → condvar_call_by c m (condvar_first (call.Wait m timed)) rights
      ≡ new_call (Some (Waits c m timed)) rights

abbrev pub WaitsBegin : Type 0
WaitsBegin =
    (v : CondvarSite) (r : Rules) (s : Site) (t c m : ℕ) (timed : Bool) → IsAway v t
    → Owns s.lock t Exclusive
    → s.role t ≡ idle → BeginsAt v r s t c m timed

-- the rows of a waiter are the same after one more look
abbrev pub WaitersLookAgain : Type 0
WaitersLookAgain =
    (p p2 : CondvarPlace) → condvar_respin p ≡ Some p2
    → (condvar_profile p2 ≡ condvar_profile p) × (mutex_side p2 ≡ mutex_side p)
