-- A call whose thread steps alone, and to what it comes.
use Rattle.std.specs.Prelude.{ℕ, Bool, true, false, if◌then◌else◌, List, Option, Some, None, ◌≡◌, ◌≢◌, ◌≤◌}
use Rattle.std.specs.Prelude.{◌⊎◌, ◌++◌, ◌∷◌, [], length, replicate}
use Rattle.core_base.specs.declared.keys.Keys.TheVariants.{One, Two}
use Rattle.core_base.specs.declared.wants.Want.{Want}
use Rattle.core_base.specs.declared.wants.Want.TheVariants.{Exclusive, Shared, CallOnce, Wait}
use Rattle.steps_base.specs.declared.acts.Act.{Act}
use Rattle.steps_base.specs.declared.acts.Act.TheVariants.{Enter, Sleep}
use Rattle.spec_locks.specs.declared.outcomes.Answer.{Answer}
use Rattle.spec_locks.specs.declared.outcomes.Answer.TheVariants as answer
use Rattle.spec_locks.specs.declared.outcomes.Outcome.{Outcome}
use Rattle.spec_locks.specs.declared.outcomes.Outcome.TheVariants as outcome
use Rattle.spec_locks.specs.declared.outcomes.OnceState.{OnceState}
use Rattle.spec_locks.specs.declared.outcomes.OnceState.TheVariants as once_state
use Rattle.steps_condvar.specs.declared.places.CondvarPlace.TheVariants.{Look}
use Rattle.lot_steps.specs.declared.places.Place.{Place}
use Rattle.lot_steps.specs.declared.places.Place.TheVariants.{Idle, Condvar}
use Rattle.lot_steps.specs.Steps.{act_of, beside_of, called_lock}
use Rattle.lot_machine.specs.Machine.{State, place_at, word_at, kind_at, section_at, go_of, after_steps}
use Rattle.lot_machine.specs.Machine.{runs_closure}
use Rattle.spec_locks.specs.Locks.{Sort, Mutex, Recursive, Rules, LockState, first_thread, Queued, MayEnter}
use Rattle.spec_locks.specs.Locks.{IsBlocked, Owns, count, readers, with_right}
use Rattle.spec_locks.specs.Sites.{Line, Main, Second, has_readers}
use Rattle.spec_locks.specs.Purposes.{rules_of, Purpose, Enters, Releases, Converts, Bumps, CallsOnce, Awaits}
use Rattle.spec_locks.specs.Purposes.{Waits, Notifies}
use Rattle.spec_locks.specs.declared.calls.Patience.{Patience}
use Rattle.spec_locks.specs.declared.calls.Patience.TheVariants.{Patient, Try}
use Rattle.spec_locks.specs.Codes.{has_parked}
use Rattle.spec_locks.specs.Onces.{Phase, New, Poisoned, InProgress, Done}
use Rattle.spec_locks.specs.Runs.{LocksState, IsFull, IsRun, rules_at, rights_in, ShowsOther}
use Rattle.lot_laws.specs.SitesOf.{key_of}
use Rattle.lot_laws.specs.Refinement.{lock_state, locks_of}
use Rattle.lot_laws.specs.WorldRuns.{IsWorldRun}

-- the thread is in a call, isn't asleep, and isn't in its closure
abbrev pub IsUnderWay : State → ℕ → Type 0
IsUnderWay w t =
    (place_at w t ≢ Idle) × (act_of (place_at w t) ≢ Sleep)
    × (runs_closure (act_of (place_at w t)) ≡ false)

-- a lock that is shared has a second line
abbrev pub HasLine : Sort → Line → Type 0
HasLine sort Main = Unit {0}
HasLine sort Second = has_readers sort ≡ true

-- a notification that hasn't looked yet comes to the mutex that is shown
abbrev pub mutex_to_come : State → Place → Option ℕ
mutex_to_come w (Condvar c (Look all)) = (lock_state w c).shown
mutex_to_come w p = None

-- a lock whose sections a call may enter: its own, or the mutex beside
abbrev pub MayEnterOf : State → Place → ℕ → Type 0
MayEnterOf w p l = (called_lock p ≡ Some l) ⊎ ((beside_of p ≡ Some l) ⊎ (mutex_to_come w p ≡ Some l))

-- the thread is this one, if anybody
abbrev pub IsOnly : ℕ → Option ℕ → Type 0
IsOnly t who = (u : ℕ) → who ≡ Some u → u ≡ t

-- nobody else is inside a section that its call may enter
abbrev pub IsUnobstructed : State → ℕ → Type 0
IsUnobstructed w t =
    (l u : ℕ) (m : Line) → MayEnterOf w (place_at w t) l → HasLine (rules_of (kind_at w l)).sort m
    → section_at w (key_of l m) ≡ Some u → u ≡ t

-- the call has ended, sleeps or is in its closure
abbrev pub EndsOrSleeps : Outcome → Type 0
EndsOrSleeps (outcome.End a) = Unit {0}
EndsOrSleeps outcome.Sleep = Unit {0}
EndsOrSleeps (outcome.Closure state) = Unit {0}
EndsOrSleeps o = ⊥

-- the act enters the section of this key
abbrev pub EntersSection : ℕ → Act → Type 0
EntersSection key (Enter (One k)) = k ≡ key
EntersSection key (Enter (Two j k)) = (j ≡ key) ⊎ (k ≡ key)
EntersSection key act = ⊥

-- the thread is barred: its next act enters a section that another thread is inside
pub record IsBarred (w : State) (t : ℕ) : Type 0 where
  pub lock : ℕ
  pub line : Line
  pub other : ℕ
  pub enters : EntersSection (key_of lock line) (act_of (place_at w t))
  pub inside : section_at w (key_of lock line) ≡ Some other
  pub another : other ≢ t

-- nobody else is inside the section of a lock's main line
abbrev pub HasMainLine : State → ℕ → ℕ → Type 0
HasMainLine w t l = IsOnly t (section_at w (key_of l Main))

-- a fair release of a mutex, a bump of a right that isn't shared and a notification may end by what
-- they read of the queue, which a thread inside its section may be about to change
abbrev pub HasWhatItReads : State → ℕ → Option Purpose → Type 0
HasWhatItReads w t (Some (Releases l x true)) =
    (rules_of (kind_at w l)).sort ≡ Mutex → HasMainLine w t l
HasWhatItReads w t (Some (Bumps l Shared)) = Unit {0}
HasWhatItReads w t (Some (Bumps l x)) = HasMainLine w t l
HasWhatItReads w t (Some (Notifies l all)) = HasMainLine w t l
HasWhatItReads w t purpose = Unit {0}

-- a call that ends where it can't have its right at once
abbrev pub OnlyTries : Option Purpose → Type 0
OnlyTries (Some (Enters l x Try)) = Unit {0}
OnlyTries (Some (Converts l x y Try)) = Unit {0}
OnlyTries purpose = ⊥

-- the answer of a call that has entered
abbrev pub entered_answer : Patience → Answer
entered_answer Patient = answer.Ok
entered_answer how = answer.Yes

-- a call may have its right at once: nobody shares where it is to own alone; and a writer's try at a lock
-- that is shared finds a word that is clear, since a parked bit may stand where a waiter was and is gone
abbrev pub MayEnterAtOnce : Type 0 → Rules → LockState → Want → Patience → Type 0
MayEnterAtOnce clear r s Exclusive Try =
    MayEnter r s Exclusive × (has_readers r.sort ≡ true → clear)
MayEnterAtOnce clear r s Exclusive how =
    MayEnter r s Exclusive × (has_readers r.sort ≡ true → readers s ≡ 0)
MayEnterAtOnce clear r s x how = MayEnter r s x

-- the thread is the last of the queue, asleep
abbrev pub SleepsLast : LockState → ℕ → Want → Outcome → LockState → Type 0
SleepsLast s t x o s2 = (o ≡ outcome.Sleep)
    × (s2.queue ≡ s.queue ++ (record { thread = t; want = x }) ∷ [])

-- beside readers a writer sleeps aside of the queue, where it waits for them, and a try ends
abbrev pub WaitsForReaders : Patience → ℕ → Outcome → LockState → Type 0
WaitsForReaders Try t o s2 = o ≡ outcome.End answer.No
WaitsForReaders how t o s2 = (o ≡ outcome.Sleep) × (s2.aside ≡ Some t)

-- where its way is barred a try ends, and any other call waits
abbrev pub WaitsAlone : Patience → LockState → ℕ → Want → Outcome → LockState → Type 0
WaitsAlone Try s t x o s2 = o ≡ outcome.End answer.No
WaitsAlone how s t x o s2 = SleepsLast s t x o s2

-- the end of a call that waits for a right; clear says that no bit of the word is set
pub record EntersAlone (clear : Type 0) (w : LocksState) (t l : ℕ) (x : Want) (how : Patience)
    (o : Outcome)
    (v : LocksState) : Type 0 where
  pub owns : MayEnterAtOnce clear (rules_at w l) (w.locks l) x how
      → (o ≡ outcome.End (entered_answer how)) × Owns (v.locks l) t x
  pub pends : x ≡ Exclusive → MayEnter (rules_at w l) (w.locks l) x → 1 ≤ readers (w.locks l)
      → WaitsForReaders how t o (v.locks l)
  -- a writer's try at a lock that is shared fails wherever the word isn't clear
  pub refused : has_readers (rules_at w l).sort ≡ true → x ≡ Exclusive → how ≡ Try → (clear → ⊥)
      → o ≡ outcome.End answer.No
  pub full : IsFull w l x → o ≡ outcome.End answer.ReadersFull
  pub barred : IsBlocked (rules_at w l) (w.locks l) x → WaitsAlone how (w.locks l) t x o (v.locks l)

-- a right turned into a lesser one
abbrev pub DowngradesAlone : ℕ → Want → Outcome → LockState → Type 0
DowngradesAlone t y o s2 = (o ≡ outcome.End answer.Ok) × Owns s2 t y

-- the end of a call that turns its right into another
abbrev pub ConvertsAlone : LockState → ℕ → Want → Patience → Outcome → LockState → Type 0
ConvertsAlone s t Exclusive how o s2 =
    (readers s ≡ 0 → (o ≡ outcome.End (entered_answer how)) × Owns s2 t Exclusive)
    × (1 ≤ readers s → WaitsForReaders how t o s2)
ConvertsAlone s t y how o s2 = DowngradesAlone t y o s2

-- a fair release leaves the lock to the first waiter, and any other to nobody
abbrev pub successor : Bool → List Queued → Option ℕ
successor fair q = if fair then first_thread q else None

-- a release ends without its right, and a thread that shares has one right less
abbrev pub ReleasesAlone : LocksState → ℕ → ℕ → Want → Bool → Outcome → LocksState → Type 0
ReleasesAlone w t l Exclusive fair o v =
    (o ≡ outcome.End answer.Ok) × (Owns (v.locks l) t Exclusive → ⊥)
    × ((rules_at w l).sort ≡ Mutex → (v.locks l).exclusive ≡ successor fair (w.locks l).queue)
ReleasesAlone w t l x fair o v =
    (o ≡ outcome.End answer.Ok)
    × (with_right x (rights_in v t l) ≡ rights_in w t l)

-- a bump of a mutex hands it to the first waiter and then is as a call that enters, asleep as the
-- last of the queue; where nobody waits it ends with the mutex
abbrev pub BumpsAlone : ℕ → ℕ → List Queued → Outcome → LockState → Type 0
BumpsAlone t l [] o s = (o ≡ outcome.End answer.Ok) × (s.exclusive ≡ Some t)
BumpsAlone t l (x ∷ q) o s =
    (o ≡ outcome.Sleep) × (s.exclusive ≡ Some x.thread)
    × (s.queue ≡ q ++ (record { thread = t; want = Exclusive }) ∷ [])

-- to which a bump of a lock that is shared gives way: a thread that shares it, to a pending writer, on a
-- recursive lock only as the last; and any other owner to each thread that stands in the queue
abbrev pub BumpGivesWay : Rules → LockState → Want → Type 0
BumpGivesWay r s Shared = (s.pending ≢ None) × (r.sort ≡ Recursive → count s ≡ 1)
BumpGivesWay r s x = s.queue ≢ []

-- where there is nobody; a parked bit may stand where a waiter was and is gone
abbrev pub NeedsNoWay : Type 0 → Rules → LockState → Want → Type 0
NeedsNoWay unparked r s Shared = BumpGivesWay r s Shared → ⊥
NeedsNoWay unparked r s x = unparked

-- by so many of its steps it gives its right up, and from there comes to what a call comes to that
-- waits for that right; later are the locks after each number of them
pub record ComesBack (later : ℕ → LocksState) (w : LocksState) (t l : ℕ) (x : Want) (o : Outcome)
    (v : LocksState) : Type 0 where
  pub steps : ℕ
  pub run : IsRun w (replicate steps (go_of t)) (replicate steps outcome.Step)
      (later steps)
  pub given_up : with_right x (rights_in (later steps) t l) ≡ rights_in w t l
  pub enters : EntersAlone ⊥ (later steps) t l x Patient o v

-- a bump of a lock that is shared gives way, or ends with its right
pub record BumpsShared (unparked : Type 0) (later : ℕ → LocksState) (w : LocksState) (t l : ℕ)
    (x : Want) (o : Outcome) (v : LocksState) : Type 0 where
  pub gives_way : BumpGivesWay (rules_at w l) (w.locks l) x → ComesBack later w t l x o v
  pub stays : NeedsNoWay unparked (rules_at w l) (w.locks l) x
      → (o ≡ outcome.End answer.Ok) × Owns (v.locks l) t x

-- the closure of the call begins, told what the run found
abbrev pub RunsAlone : OnceState → ℕ → Outcome → LockState → Type 0
RunsAlone found t o s2 = (o ≡ outcome.Closure found) × (s2.phase ≡ InProgress t)

-- the end of a call that runs a closure, by how far the `Once` has come
abbrev pub CallsOnceAlone : Phase → LockState → ℕ → Bool → Outcome → LockState → Type 0
CallsOnceAlone New s t forced o s2 = RunsAlone once_state.New t o s2
CallsOnceAlone Poisoned s t true o s2 = RunsAlone once_state.Poisoned t o s2
CallsOnceAlone Poisoned s t false o s2 = o ≡ outcome.End answer.Poisoned
CallsOnceAlone (InProgress runner) s t forced o s2 = SleepsLast s t CallOnce o s2
CallsOnceAlone Done s t forced o s2 = o ≡ outcome.End answer.Ok

-- the end of a call that waits for another's run, up to a deadline or without one
abbrev pub AwaitsAlone : Phase → LockState → ℕ → (forced timed : Bool) → Outcome → LockState
    → Type 0
AwaitsAlone Done s t forced false o s2 = o ≡ outcome.End answer.Ok
AwaitsAlone Done s t forced true o s2 = o ≡ outcome.End answer.Yes
AwaitsAlone Poisoned s t false timed o s2 =
    o ≡ outcome.End answer.Poisoned
AwaitsAlone phase s t forced timed o s2 = SleepsLast s t Wait o s2

-- the end of a wait: it sleeps after the last, its mutex let go, or ends where another mutex is shown
pub record CondvarWaitsAlone (w : LocksState) (t l m : ℕ) (o : Outcome) (v : LocksState) : Type 0 where
  pub other : ShowsOther (w.locks l) m → o ≡ outcome.End answer.TwoMutexes
  pub own : (ShowsOther (w.locks l) m → ⊥)
      → SleepsLast (w.locks l) t Wait o (v.locks l) × ((v.locks m).exclusive ≡ None)

-- A notification alone moves the first, or all.
abbrev pub NotifiesAlone : Bool → List Queued → Outcome → List Queued → Type 0
NotifiesAlone false [] o q2 = o ≡ outcome.End answer.No
NotifiesAlone false (x ∷ q) o q2 = (o ≡ outcome.End answer.Yes) × (q2 ≡ q)
NotifiesAlone true q o q2 =
    (o ≡ outcome.End (answer.Number (length q))) × (q2 ≡ [])

abbrev pub EndsBy : (ℕ → ℕ) → (ℕ → LocksState) → LocksState → ℕ → Option Purpose → Outcome
    → LocksState → Type 0
EndsBy words later w t (Some (Enters l x how)) o v = EntersAlone (words l ≡ 0) w t l x how o v
EndsBy words later w t (Some (Releases l x fair)) o v = ReleasesAlone w t l x fair o v
EndsBy words later w t (Some (Converts l x y how)) o v = ConvertsAlone (w.locks l) t y how o (v.locks l)
EndsBy words later w t (Some (Bumps l x)) o v =
    ((rules_at w l).sort ≡ Mutex → BumpsAlone t l (w.locks l).queue o (v.locks l))
    × (has_readers (rules_at w l).sort ≡ true
    → BumpsShared (has_parked (words l) ≡ false) later w t l x o v)
EndsBy words later w t (Some (CallsOnce l forced)) o v =
    CallsOnceAlone (w.locks l).phase (w.locks l) t forced o (v.locks l)
EndsBy words later w t (Some (Awaits l forced timed)) o v =
    AwaitsAlone (w.locks l).phase (w.locks l) t forced timed o (v.locks l)
EndsBy words later w t (Some (Waits l m timed)) o v = CondvarWaitsAlone w t l m o v
EndsBy words later w t (Some (Notifies l all)) o v =
    NotifiesAlone all (w.locks l).queue o (v.locks l).queue
EndsBy words later w t None o v = Unit {0}

-- the locks after so many steps of the thread alone
abbrev pub locks_afterwards : State → ℕ → ℕ → LocksState
locks_afterwards w t steps = locks_of (after_steps w (replicate steps (go_of t)))

-- the end of a call, by its goal
abbrev pub EndsAlone : State → ℕ → Option Purpose → Outcome → State → Type 0
EndsAlone w t purpose o v =
    EndsBy (word_at w) (locks_afterwards w t) (locks_of w) t purpose o (locks_of v)

-- the last of what was told, and NotNow where nothing was
abbrev pub last_told : List Outcome → Outcome
last_told [] = outcome.NotNow
last_told (o ∷ []) = o
last_told (o ∷ os) = last_told os

-- each but the last is a step: the thread rests after no other
abbrev pub GoesOnUntil : List Outcome → Type 0
GoesOnUntil [] = Unit {0}
GoesOnUntil (o ∷ []) = o ≢ outcome.NotNow
GoesOnUntil (o ∷ os) = (o ≡ outcome.Step) × GoesOnUntil os

-- a solo run is a run of at most 64 steps of the thread, whose last outcome is the result
pub record IsSoloRun (w : State) (t : ℕ) (result : Outcome) (v : State) : Type 0 where
  pub told : List Outcome
  pub few : length told ≤ 64
  pub run : IsWorldRun w (replicate (length told) (go_of t)) told v
  pub goes_on : GoesOnUntil told
  pub last : result ≡ last_told told
