-- The deeds of each place at the condition variable, which are the effects of a step on it, and
-- their laws. The step's effects on the mutex beside it are no part of them.
use Rattle.std.specs.Prelude.{ℕ, Bool, true, false, Option, Some, None, if◌then◌else◌, ◌==◌, ◌||◌, ◌≡◌, ◌≢◌}
use Rattle.std.specs.Prelude.{List, [], ◌∷◌, drop, length}
use Rattle.core_base.specs.declared.ops.Op.{Op}
use Rattle.core_base.specs.Words.{apply}
use Rattle.steps_base.specs.declared.acts.Act.TheVariants as act
use Rattle.steps_base.specs.declared.acts.Next.{Next}
use Rattle.steps_base.specs.declared.acts.Next.TheVariants.{At, End}
use Rattle.steps_base.specs.declared.acts.Reply.{Reply}
use Rattle.steps_base.specs.declared.acts.Reply.TheVariants.{Done, Value, Took, Requeued, Removed, Late}
use Rattle.steps_base.specs.declared.owners.Owners.{Owners}
use Rattle.spec_locks.specs.Condvars.{CondvarPhase, CondvarSite, IsCondvar, CondvarDeed, EndsWait, GoIn}
use Rattle.spec_locks.specs.Condvars.{GoOut, Show, SeeOther, StandLast, SeeAgain, MissIt, HideAndTakeAll}
use Rattle.spec_locks.specs.Condvars.{MoveFirst, MoveAll, LeaveList, ShowNone, CondvarNeeded, IsInsideAt}
use Rattle.spec_locks.specs.Condvars.{IsInsideNot, MoveFits, WaitsAside, condvar_leads}
use Rattle.spec_locks.specs.Locks.{Mutex, Rules, times, without}
use Rattle.spec_locks.specs.Sites.{Site, is_empty}
use Rattle.steps_mutex.specs.declared.places.MutexPlace.{MutexPlace}
use Rattle.steps_mutex.specs.MutexSteps.{mutex_next}
use Rattle.steps_condvar.specs.declared.notify.NotifyAt.{NotifyAt}
use Rattle.steps_condvar.specs.declared.notify.NotifyAt.TheVariants as notify
use Rattle.steps_condvar.specs.declared.places.CondvarPlace.{CondvarPlace}
use Rattle.steps_condvar.specs.declared.places.CondvarPlace.TheVariants.{Wait, Look, Notify}
use Rattle.steps_condvar.specs.declared.wait.WaiterFate.TheVariants as stands
use Rattle.steps_condvar.specs.declared.wait.WaitAt.{WaitAt}
use Rattle.steps_condvar.specs.declared.wait.WaitAt.TheVariants as wait
use Rattle.steps_condvar.specs.CondvarSteps.{comes_from_another, condvar_act, condvar_next, condvar_owners}
use Rattle.steps_condvar.specs.CondvarSteps.{is_shown, mutex_beside, shown_as}
use Rattle.steps_condvar.specs.CondvarProfiles.{condvar_row, notify_row}

-- ---------------------------------------------------------------- the deeds of each step

-- the mutex of the wait is locked again, and the call ends
abbrev pub relocked_deeds : Next MutexPlace → List CondvarDeed
relocked_deeds (At at) = []
relocked_deeds (End answer) = EndsWait ∷ []

abbrev pub wait_deeds : ℕ → WaitAt → Reply → List CondvarDeed
wait_deeds m wait.Enter Done = GoIn ∷ []
wait_deeds m wait.Show (Value seen) =
    if (seen == 0) || is_shown seen m then Show m ∷ [] else SeeOther m ∷ []
wait_deeds m wait.Stand Done = StandLast ∷ []
wait_deeds m wait.Leave Done = GoOut ∷ []
wait_deeds m wait.Refuse Done = GoOut ∷ EndsWait ∷ []
wait_deeds m (wait.Asleep stands.Listed) Late = GoIn ∷ []
wait_deeds m wait.Remove (Removed none_left) = LeaveList ∷ []
wait_deeds m wait.Hide (Value seen) = ShowNone ∷ []
wait_deeds m wait.GiveUp Done = GoOut ∷ []
wait_deeds m (wait.Lock timed_out at) told = relocked_deeds (mutex_next at told)
wait_deeds m at told = []

abbrev pub notify_deeds : Bool → ℕ → NotifyAt → Reply → List CondvarDeed
notify_deeds all m notify.Enter Done = GoIn ∷ []
notify_deeds all m notify.Again (Value seen) =
    if is_shown seen m then SeeAgain m ∷ [] else MissIt m ∷ []
notify_deeds all m notify.Hide (Value seen) = HideAndTakeAll ∷ []
notify_deeds all m (notify.Move locked) (Took any none_left) = MoveFirst ∷ []
notify_deeds all m (notify.Move locked) (Requeued number none_left) =
    if all then MoveAll ∷ [] else MoveFirst ∷ []
notify_deeds all m (notify.Clear any) (Value seen) = ShowNone ∷ []
notify_deeds all m (notify.Leave any number) Done = GoOut ∷ []
notify_deeds all m at told = []

abbrev pub condvar_deeds : CondvarPlace → Reply → List CondvarDeed
condvar_deeds (Wait m timed at) told = wait_deeds m at told
condvar_deeds (Look all) told = []
condvar_deeds (Notify all m at) told = notify_deeds all m at told

-- the condition variable after deeds of one thread, each of them allowed where it is done
abbrev pub after_condvar_deeds : List CondvarDeed → CondvarSite → ℕ → CondvarSite
after_condvar_deeds [] c t = c
after_condvar_deeds (d ∷ ds) c t = after_condvar_deeds ds (condvar_leads d c t) t

abbrev pub AllCondvarNeeded : List CondvarDeed → CondvarSite → ℕ → Type 0
AllCondvarNeeded [] c t = Unit {0}
AllCondvarNeeded (d ∷ ds) c t = CondvarNeeded d c t × AllCondvarNeeded ds (condvar_leads d c t) t

-- ---------------------------------------------------------------- a thread at a place

abbrev pub IsAtStage : CondvarSite → ℕ → Option CondvarPhase → Type 0
IsAtStage c t None = IsInsideNot c.inside t
IsAtStage c t (Some stage) = IsInsideAt c t stage

abbrev pub IsListed : CondvarSite → ℕ → Bool → Type 0
IsListed c t true = times t c.waiters ≡ 1
IsListed c t false = times t c.waiters ≡ 0

-- the condition variable has its thread where the row of its place says
pub record IsAt (c : CondvarSite) (t : ℕ) (p : CondvarPlace) : Type 0 where
  pub stage : IsAtStage c t (condvar_row p).stage
  pub listed : IsListed c t (condvar_row p).listed
  pub names : c.waits_with t ≡ (condvar_row p).waits_with

-- the thread is in no call
pub record IsAway (c : CondvarSite) (t : ℕ) : Type 0 where
  pub outside : IsInsideNot c.inside t
  pub unlisted : times t c.waiters ≡ 0
  pub names : c.waits_with t ≡ None

abbrev pub IsAtNext : CondvarSite → ℕ → Next CondvarPlace → Type 0
IsAtNext c t (At p) = IsAt c t p
IsAtNext c t (End answer) = IsAway c t

-- ---------------------------------------------------------------- the laws

-- the word: it shows the mutex that is shown
abbrev pub word_showing : Option ℕ → ℕ
word_showing None = 0
word_showing (Some m) = shown_as m

abbrev pub MayHearWaiting : CondvarSite → ℕ → WaitAt → Reply → Type 0
MayHearWaiting c t wait.Enter Done = c.inside ≡ None
MayHearWaiting c t wait.Show (Value seen) = seen ≡ word_showing c.shown
MayHearWaiting c t wait.Stand Done = Unit {0}
MayHearWaiting c t wait.Leave Done = Unit {0}
MayHearWaiting c t wait.Refuse Done = Unit {0}
MayHearWaiting c t (wait.Release s at) told = comes_from_another told ≡ false
MayHearWaiting c t (wait.Asleep stands.Listed) Late = c.inside ≡ None
MayHearWaiting c t (wait.Asleep stands.Moved) Late = Unit {0}
MayHearWaiting c t wait.Remove (Removed none_left) = none_left ≡ is_empty (without t c.waiters)
MayHearWaiting c t wait.Hide (Value seen) = Unit {0}
MayHearWaiting c t wait.GiveUp Done = Unit {0}
MayHearWaiting c t wait.RemoveMoved (Removed none_left) = Unit {0}
MayHearWaiting c t (wait.GiveUpMoved none_left) Done = Unit {0}
MayHearWaiting c t (wait.Lock timed_out at) told = Unit {0}
MayHearWaiting c t at told = ⊥

abbrev pub MayHearNotifying : CondvarSite → Bool → NotifyAt → Reply → Type 0
MayHearNotifying c all notify.Enter Done = c.inside ≡ None
MayHearNotifying c all notify.Again (Value seen) = seen ≡ word_showing c.shown
MayHearNotifying c all notify.Hide (Value seen) = all ≡ true
MayHearNotifying c all notify.Mark (Value seen) = Unit {0}
MayHearNotifying c all (notify.Set expected) (Value seen) = Unit {0}
MayHearNotifying c false (notify.Move locked) (Took any none_left) =
    none_left ≡ is_empty (drop 1 c.waiters)
MayHearNotifying c false (notify.Move locked) (Requeued number none_left) =
    none_left ≡ is_empty (drop 1 c.waiters)
MayHearNotifying c true (notify.Move locked) (Requeued number none_left) = number ≡ length c.waiters
MayHearNotifying c all (notify.Clear any) (Value seen) = Unit {0}
MayHearNotifying c all (notify.MarkMoved number) (Value seen) = number ≢ 0
MayHearNotifying c all (notify.Leave any number) Done = Unit {0}
MayHearNotifying c all at told = ⊥

-- the outcomes that a thread may be told of its own steps
abbrev pub MayReply : CondvarSite → ℕ → CondvarPlace → Reply → Type 0
MayReply c t (Wait m timed at) told = MayHearWaiting c t at told
MayReply c t (Look all) (Value seen) = Unit {0}
MayReply c t (Look all) told = ⊥
MayReply c t (Notify all m at) told = MayHearNotifying c all at told

-- the deeds may be done, and after them the thread is where its next place says
pub record Follows (c : CondvarSite) (t : ℕ) (p : CondvarPlace) (told : Reply) : Type 0 where
  pub needed : AllCondvarNeeded (condvar_deeds p told) c t
  pub next : IsAtNext (after_condvar_deeds (condvar_deeds p told) c t) t (condvar_next p told)

abbrev pub CondvarStepsFollow : Type 0
CondvarStepsFollow =
    (c : CondvarSite) (t : ℕ) (p : CondvarPlace) (told : Reply) → IsCondvar c → IsAt c t p
    → MayReply c t p told
    → Follows c t p told

-- each step on its word, which is no word of the mutex beside it, leaves that word after the deeds
abbrev pub CondvarStepsCode : Type 0
CondvarStepsCode =
    (c : CondvarSite) (t k : ℕ) (p : CondvarPlace) (f : Op) → condvar_act k p ≡ act.Word k f
    → mutex_beside p ≢ Some k
    → apply f (word_showing c.shown)
    ≡ word_showing (after_condvar_deeds (condvar_deeds p (Value (word_showing c.shown))) c t).shown

-- A step leaves the mutex that its deeds show.
abbrev pub CondvarOwnersFollow : Type 0
CondvarOwnersFollow =
    (c : CondvarSite) (t k : ℕ) (p : CondvarPlace) (f : Op) (o : Owners)
    → condvar_act k p ≡ act.Word k f
    → mutex_beside p ≢ Some k → o.shown ≡ c.shown
    → condvar_owners p t (word_showing c.shown) o
    ≡ record o { shown = (after_condvar_deeds (condvar_deeds p (Value (word_showing c.shown))) c t).shown }

-- where a notification moves, it moves somebody, each of them waits with the mutex that it saw, and
-- that mutex may be brought them
abbrev pub CondvarMovesFit : Type 0
CondvarMovesFit =
    (r : Rules) (all locked : Bool) (c : CondvarSite) (s : Site) (t m : ℕ) → r.sort ≡ Mutex
    → IsCondvar c → WaitsAside c s m
    → IsAt c t (Notify all m (notify.Move locked))
    → s.role t ≡ (notify_row all m (notify.Move locked)).role
    → MoveFits r all locked c s t m
