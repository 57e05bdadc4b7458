-- The holdings of a thread in a call of a condition variable, at each place and at its end.
use Rattle.std.specs.Prelude.{ℕ, ◌≡◌, ◌*◌, ◌+◌, ◌++◌, ◌⊎◌, Bool, true, false, List, ◌∷◌, Option, Some, length}
use Rattle.std.specs.Prelude.{if◌then◌else◌}
use Rattle.core_base.specs.Lines.{threads_of}
use Rattle.core_base.specs.declared.keys.Keys.TheVariants.{Two}
use Rattle.core_base.specs.declared.ops.Op.TheVariants.{Load}
use Rattle.core_base.specs.declared.requeues.Requeue.TheVariants as requeue
use Rattle.core_base.specs.declared.wants.Waiter.{Waiter}
use Rattle.spec_locks.specs.declared.outcomes.Answer.{Answer}
use Rattle.spec_locks.specs.declared.outcomes.Answer.TheVariants as answers
use Rattle.steps_condvar.specs.CondvarSteps.{is_shown, notified, waited}
use Rattle.steps_condvar.specs.declared.notify.NotifyAt.{NotifyAt}
use Rattle.steps_condvar.specs.declared.notify.NotifyAt.TheVariants as notify
use Rattle.steps_condvar.specs.declared.places.CondvarPlace.{CondvarPlace}
use Rattle.steps_condvar.specs.declared.places.CondvarPlace.TheVariants.{Wait, Look, Notify}
use Rattle.steps_condvar.specs.declared.wait.WaiterFate.{WaiterFate}
use Rattle.steps_condvar.specs.declared.wait.WaiterFate.TheVariants as stands
use Rattle.steps_condvar.specs.declared.wait.WaitAt.{WaitAt}
use Rattle.steps_condvar.specs.declared.wait.WaitAt.TheVariants as wait
use Rattle.steps_mutex.specs.declared.lock.Entry.TheVariants as entry
use Rattle.steps_mutex.specs.declared.places.MutexPlace.{MutexPlace}
use Rattle.steps_mutex.specs.declared.places.MutexPlace.TheVariants.{Lock, Unlock}
use Rattle.steps_mutex.specs.declared.unlock.UnlockAt.TheVariants as unlock
use Rattle.core_words.specs.Steps.{has, without}
use Rattle.core_words.specs.declared.owners.Ownership.{Ownership}
use Rattle.core_words.specs.declared.views.WordStep.{WordStep}
use Rattle.parking_lot_core.specs.declared.tokens.Did.{Did}
use Rattle.parking_lot_core.specs.declared.tokens.Did.TheVariants as did
use Rattle.parking_lot_core.specs.declared.tokens.SectionRecord.{SectionRecord}
use Rattle.run_base.specs.MutexFitting.{FitsLock, FitsUnlock, Outside, Within, mutex_ownership}
use Rattle.run_base.specs.Paths.{condvar_at, step}
use Rattle.run_base.specs.Stages.{HasLeft, ThreadState, TookNobodyAt, entered_now, having_taken}

-- a waiting thread owned its mutex as the call began
abbrev pub OwnsIt : ℕ → List Ownership → Type 0
OwnsIt m base = has (mutex_ownership m) base ≡ true

-- the ownership of a thread while it waits
abbrev pub apart : ℕ → List Ownership → List Ownership
apart m base = without (mutex_ownership m) base

-- in the sections of the condition variable and of the mutex shown, where it has done nothing
abbrev pub InBothSections : ℕ → ℕ → List Ownership → ThreadState → Type 0
InBothSections c m owns st = (st.owns ≡ owns) × (st.inside ≡ entered_now (Two (2 * c) (2 * m)))

-- the last of these steps looked at the condition variable, and saw another mutex than this shown,
-- or none
abbrev pub SawElse : ℕ → ℕ → List WordStep → Type 0
SawElse c m steps = (before : List WordStep) × (seen : ℕ) × (is_shown seen m ≡ false)
    × (steps ≡ before ++ step (condvar_at c) Load seen)

-- the effect of a notification there, by whether the mutex was owned
abbrev pub move_did : Bool → Bool → ℕ → ℕ → Did
move_did true locked c m =
    did.Requeue (2 * c) (2 * m) (if locked then requeue.All else requeue.TakeOneMoveRest)
move_did false true c m = did.Requeue (2 * c) (2 * m) requeue.One
move_did false false c m = did.TakeFirst (2 * c)

-- a notification of all tells how many it took and moved
abbrev pub TellsNumber : Bool → ℕ → ℕ → Type 0
TellsNumber true number counted = number ≡ counted
TellsNumber false number counted = number ≡ 1

-- a thread has moved waiters there, and took one of them or none
abbrev pub HasMovedInSection : ℕ → ℕ → Bool → ℕ → List Ownership → ThreadState → Type 0
HasMovedInSection c m all number owns st =
    (st.owns ≡ owns) × (locked : Bool) × (waiters : List Waiter) × (moved : ℕ)
    × (st.inside ≡ Some (record
    (having_taken (Two (2 * c) (2 * m)) (move_did all locked c m) waiters (threads_of waiters)) {
      moved = moved;
    }))
    × TellsNumber all number (length (threads_of waiters) + moved)

abbrev pub FitsNotify : ℕ → ℕ → Bool → List Ownership → NotifyAt → ThreadState → Type 0
FitsNotify c m all base notify.Enter st = Outside base st
FitsNotify c m all base notify.Again st = InBothSections c m base st
FitsNotify c m all base notify.Hide st = InBothSections c m base st
FitsNotify c m all base notify.Mark st = InBothSections c m base st
FitsNotify c m all base (notify.Set seen) st = ((seen ≡ 1) ⊎ (seen ≡ 3)) × InBothSections c m base st
FitsNotify c m all base (notify.Move locked) st = InBothSections c m base st
FitsNotify c m all base (notify.Clear any) st = (all ≡ false) × HasMovedInSection c m all 1 base st
FitsNotify c m all base (notify.MarkMoved number) st = HasMovedInSection c m all number base st
FitsNotify c m all base (notify.Leave any number) st =
    ((number ≡ 0) × InBothSections c m base st × SawElse c m st.steps)
    ⊎ HasMovedInSection c m all number base st

-- the answer of a notification from its second look on, by the section that it left: it saw another mutex
-- shown, or none, and did nothing; or it moved waiters, and one that notifies all tells the record's number
abbrev pub AnswersBy : ℕ → ℕ → Bool → Answer → Option SectionRecord → List WordStep → Type 0
AnswersBy c m all answer last steps =
    ((answer ≡ notified all 0) × TookNobodyAt c last × SawElse c m steps)
    ⊎ ((locked : Bool) × (number : ℕ)
    × (answer ≡ (if all then answers.Number number else answers.Yes))
    × HasLeft (2 * c) (move_did all locked c m) number last)

abbrev pub IsNotifyOver : ℕ → ℕ → Bool → List Ownership → Answer → ThreadState → Type 0
IsNotifyOver c m all base answer st = Outside base st × AnswersBy c m all answer st.last st.steps

-- `up` says that the time of the call is up
module _ (up : Type 0) where
  -- a thread whose time was up while it stood in the queue of the condition variable is in a timed
  -- call
  abbrev pub LateIf : Bool → Bool → Type 0
  LateIf timed true = (timed ≡ true) × up
  LateIf timed false = Unit {0}

  -- a thread that releases its mutex, from its subtraction on
  abbrev pub FitsMutexRelease : ℕ → List Ownership → WaiterFate → MutexPlace → ThreadState → Type 0
  FitsMutexRelease m base stands.Listed (Unlock unlock.Subtract) st = OwnsIt m base × Outside base st
  FitsMutexRelease m base stands.Listed (Unlock unlock.Enter) st =
      FitsUnlock m (apart m base) unlock.Enter st
  FitsMutexRelease m base stands.Listed (Unlock unlock.Take) st =
      FitsUnlock m (apart m base) unlock.Take st
  FitsMutexRelease m base stands.Listed (Unlock (unlock.Clear any)) st =
      FitsUnlock m (apart m base) (unlock.Clear any) st
  FitsMutexRelease m base stands.Listed (Unlock (unlock.Leave any)) st =
      FitsUnlock m (apart m base) (unlock.Leave any) st
  FitsMutexRelease m base s at st = ⊥

  -- A stage fits a wait that locks its mutex again.
  abbrev pub FitsRelock : ℕ → List Ownership → MutexPlace → ThreadState → Type 0
  FitsRelock m base (Lock entry.Lock retries at) st = FitsLock up m entry.Lock (apart m base) at st
  FitsRelock m base at st = ⊥

  -- one that sleeps stands in the queue of the condition variable, or was moved to that of its
  -- mutex
  abbrev pub FitsAsleep : ℕ → List Ownership → WaiterFate → ThreadState → Type 0
  FitsAsleep m base stands.Listed st = Outside (apart m base) st
  FitsAsleep m base stands.Moved st = Outside (apart m base) st
  FitsAsleep m base s st = ⊥

  abbrev pub FitsWait : ℕ → ℕ → Bool → List Ownership → WaitAt → ThreadState → Type 0
  FitsWait c m timed base wait.Enter st = OwnsIt m base × Outside base st
  FitsWait c m timed base wait.Show st = OwnsIt m base × Within c base st
  FitsWait c m timed base wait.Stand st = OwnsIt m base × Within c base st
  FitsWait c m timed base wait.Leave st = OwnsIt m base × Within c base st
  FitsWait c m timed base wait.Refuse st = OwnsIt m base × Within c base st
  FitsWait c m timed base (wait.Release s at) st = FitsMutexRelease m base s at st
  FitsWait c m timed base (wait.Asleep s) st = FitsAsleep m base s st
  FitsWait c m timed base wait.Remove st = LateIf timed true × Within c (apart m base) st
  FitsWait c m timed base wait.Hide st = LateIf timed true × Within c (apart m base) st
  FitsWait c m timed base wait.GiveUp st = LateIf timed true × Within c (apart m base) st
  FitsWait c m timed base wait.RemoveMoved st = Within m (apart m base) st
  FitsWait c m timed base (wait.GiveUpMoved none_left) st = Within m (apart m base) st
  FitsWait c m timed base (wait.Lock timed_out at) st =
      LateIf timed timed_out × FitsRelock m base at st

  -- the ownership of a thread in a call of a condition variable, which owned so much as it began. The first
  -- step of a notification is taken before
  abbrev pub FitsCondvarCall : ℕ → List Ownership → CondvarPlace → ThreadState → Type 0
  FitsCondvarCall c base (Wait m timed at) st = FitsWait c m timed base at st
  FitsCondvarCall c base (Look all) st = ⊥
  FitsCondvarCall c base (Notify all m at) st = FitsNotify c m all base at st

  -- the answer at the end of a wait is true: another mutex was shown, and it never released its own, or it
  -- has it again
  abbrev pub IsWaitOver : ℕ → Bool → List Ownership → Answer → ThreadState → Type 0
  IsWaitOver m timed base answer st =
      ((answer ≡ answers.TwoMutexes) × OwnsIt m base × Outside base st)
      ⊎ ((timed_out : Bool) × (answer ≡ waited timed timed_out) × LateIf timed timed_out
      × Outside (mutex_ownership m ∷ apart m base) st)
