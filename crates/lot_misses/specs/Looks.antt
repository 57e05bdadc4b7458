-- A thread looks at a word, and exchanges it by the value that it saw. Another thread may change the word
-- between the two; then the exchange misses. A run without such misses leads as far as any other.
use Rattle.std.specs.Prelude.{ℕ, Bool, true, false, Option, Some, None, if◌then◌else◌, ◌==◌, ◌≡◌, ◌&&◌}
use Rattle.std.specs.Prelude.{◌⊎◌, not}
use Rattle.std.specs.Prelude.{is_some, List, [], ◌∷◌, ◌++◌, map}
use Rattle.core_base.specs.declared.ops.Op.{Op}
use Rattle.core_base.specs.declared.ops.Op.TheVariants as op
use Rattle.spec_locks.specs.declared.calls.Access.TheVariants as access
use Rattle.spec_locks.specs.declared.calls.Access.{Access}
use Rattle.spec_locks.specs.declared.calls.OnceCall.{OnceCall}
use Rattle.spec_locks.specs.declared.calls.Step.{Step}
use Rattle.spec_locks.specs.declared.calls.Turn.{Turn}
use Rattle.spec_locks.specs.declared.calls.Turn.TheVariants as turn
use Rattle.spec_locks.specs.declared.kinds.Kind.{Kind}
use Rattle.spec_locks.specs.declared.outcomes.Outcome.{Outcome}
use Rattle.spec_locks.specs.declared.outcomes.Outcome.TheVariants as outcome
use Rattle.spec_locks.specs.Codes.{has_aside}
use Rattle.steps_base.specs.declared.acts.Act.{Act}
use Rattle.steps_base.specs.declared.acts.Act.TheVariants as act
use Rattle.steps_base.specs.declared.acts.Reply.TheVariants.{Value}
use Rattle.steps_base.specs.Acts.{takes_effect}
use Rattle.steps_mutex.specs.declared.places.MutexPlace.{MutexPlace}
use Rattle.steps_mutex.specs.declared.places.MutexPlace.TheVariants as mutex
use Rattle.steps_mutex.specs.declared.lock.LockAt.TheVariants as lock
use Rattle.steps_mutex.specs.MutexSteps.{is_locked}
use Rattle.steps_semaphore.specs.declared.places.SemaphorePlace.{SemaphorePlace}
use Rattle.steps_semaphore.specs.declared.places.SemaphorePlace.TheVariants as semaphore
use Rattle.steps_semaphore.specs.declared.acquire.AcquireAt.TheVariants as acquire
use Rattle.steps_semaphore.specs.declared.tries.TryAt.TheVariants as tries
use Rattle.steps_semaphore.specs.SemaphoreSteps.{is_free}
use Rattle.steps_once.specs.declared.places.OncePlace.{OncePlace}
use Rattle.steps_once.specs.declared.places.OncePlace.TheVariants as once
use Rattle.steps_once.specs.declared.look.LookAt.TheVariants as look
use Rattle.steps_once.specs.declared.look.Course.{Course}
use Rattle.steps_once.specs.declared.look.Course.TheVariants as course
use Rattle.steps_once.specs.OnceSteps.{course_of}
use Rattle.steps_rwlock.specs.declared.places.Admission.{Admission}
use Rattle.steps_rwlock.specs.declared.places.RwLockPlace.{RwLockPlace}
use Rattle.steps_rwlock.specs.declared.places.RwLockAt.{RwLockAt}
use Rattle.steps_rwlock.specs.declared.places.RwLockAt.TheVariants as at
use Rattle.steps_rwlock.specs.declared.enter.Decision.{Decision}
use Rattle.steps_rwlock.specs.declared.enter.Decision.TheVariants as decisions
use Rattle.steps_rwlock.specs.RwLockSteps.{decided}
use Rattle.steps_rwlock.specs.RwLockProfiles.{gone_to}
use Rattle.steps_rwlock_fair.specs.declared.hand_over.HandOverAt.TheVariants as handing
use Rattle.steps_rwlock_fair.specs.declared.places.RwLockCallPlace.{RwLockCallPlace}
use Rattle.steps_rwlock_fair.specs.declared.places.RwLockCallPlace.TheVariants as call
use Rattle.steps_rwlock_fair.specs.FairProfiles.{in_call}
use Rattle.steps_condvar.specs.declared.notify.NotifyAt.TheVariants as notify
use Rattle.steps_condvar.specs.declared.wait.WaitAt.TheVariants as wait
use Rattle.steps_condvar.specs.declared.places.CondvarPlace.{CondvarPlace}
use Rattle.steps_condvar.specs.declared.places.CondvarPlace.TheVariants as condvar
use Rattle.steps_condvar.specs.CondvarCalls.{IsReached}
use Rattle.steps_condvar.specs.CondvarSteps.{in_lock}
use Rattle.lot_steps.specs.declared.places.Place.{Place}
use Rattle.lot_steps.specs.declared.places.Place.TheVariants.{Idle, Mutex, RwLock, Once, Condvar, Semaphore}
use Rattle.lot_steps.specs.Steps.{act_of, in_condvar, in_mutex, in_once, in_rwlock, in_semaphore, next_place}
use Rattle.lot_machine.specs.Machine.{State, after, after_steps, go_of, is_possible, opening, place_at}
use Rattle.lot_machine.specs.Machine.{step_outcome, word_at}
use Rattle.lot_laws.specs.SitesOf.{IsWorld}

-- ---------------------------------------------------------------- from where a thread has looked

-- a thread that goes for a mutex has looked, where it is unlocked or has an owner and no waiter
abbrev pub mutex_looked : MutexPlace → Option MutexPlace
mutex_looked (mutex.Lock e retries (lock.Decide seen)) =
    if not (is_locked seen) then Some (mutex.Lock e retries lock.Load)
    else if seen == 1 then Some (mutex.Lock e retries lock.Load) else None
mutex_looked at = None

-- a thread that goes for a permit has looked, where one is free or no thread waits
abbrev pub semaphore_looked : SemaphorePlace → Option SemaphorePlace
semaphore_looked (semaphore.Acquire timed retries (acquire.Decide seen)) =
    if is_free seen then Some (semaphore.Acquire timed retries acquire.Load)
    else if seen == 0 then Some (semaphore.Acquire timed retries acquire.Load) else None
semaphore_looked (semaphore.Try (tries.Decide seen)) = Some (semaphore.Try tries.Load)
semaphore_looked at = None

-- a thread that goes for the run of a `Once`, or is about to wait for one, has looked
abbrev pub once_looked_by : OnceCall → Bool → Course → Option OncePlace
once_looked_by c retries (course.Ends answer) = None
once_looked_by c retries course.Runs = Some (once.Look c retries look.Load)
once_looked_by c retries course.Marks = Some (once.Look c retries look.Load)
once_looked_by c retries course.Parks = None

abbrev pub once_looked : OncePlace → Option OncePlace
once_looked (once.Look c retries (look.Decide seen)) = once_looked_by c retries (course_of c seen)
once_looked at = None

-- the place of the look by which a thread exchanges the word for a right of a reader-writer lock, or as a
-- pending writer for its bit
abbrev pub rwlock_looked_by : Decision → Option RwLockAt
rwlock_looked_by decisions.Take = Some at.Load
rwlock_looked_by decisions.Mark = Some at.Load
rwlock_looked_by decisions.Park = None
rwlock_looked_by (decisions.Refuse answer) = None

abbrev pub rwlock_looked : Admission → RwLockPlace → RwLockAt → Option RwLockAt
rwlock_looked a p (at.Decide seen) = rwlock_looked_by (decided a p seen)
rwlock_looked a p (at.Count seen) = if has_aside seen then None else Some at.Look
rwlock_looked a p to = None

-- an upgradable owner that gives its right up fairly has looked, before it lets others in
abbrev pub freeing : Access → Bool → Option RwLockCallPlace
freeing access.Shared bumps = None
freeing access.Upgradable bumps = Some (call.HandOver access.Upgradable bumps handing.Load)
freeing access.Exclusive bumps = None

abbrev pub call_looked : Admission → RwLockCallPlace → Option RwLockCallPlace
call_looked a (call.Plain p) = in_call false (gone_to p (rwlock_looked a p p.at))
call_looked a (call.Bump p) = in_call true (gone_to p (rwlock_looked a p p.at))
call_looked a (call.HandOver x bumps (handing.Free seen)) = freeing x bumps
call_looked a (call.HandOver x bumps (handing.Exchange k seen)) =
    Some (call.HandOver x bumps (handing.Look k))
call_looked a c = None

-- a notification has looked at the mutex beside, and a wait locks its mutex again
abbrev pub condvar_looked : CondvarPlace → Option CondvarPlace
condvar_looked (condvar.Wait m timed (wait.Lock timed_out at)) = in_lock m timed timed_out (mutex_looked at)
condvar_looked (condvar.Notify all m (notify.Set seen)) = Some (condvar.Notify all m notify.Mark)
condvar_looked p = None

-- where a thread stood when it looked, if it is about to exchange a word by what it saw
abbrev pub looked_from : Place → Option Place
looked_from Idle = None
looked_from (Mutex lock at) = in_mutex lock (mutex_looked at)
looked_from (RwLock lock a at) = in_rwlock lock a (call_looked a at)
looked_from (Once lock at) = in_once lock (once_looked at)
looked_from (Condvar lock at) = in_condvar lock (condvar_looked at)
looked_from (Semaphore lock at) = in_semaphore lock (semaphore_looked at)

-- ---------------------------------------------------------------- exchanges, and tries without a look

abbrev pub exchanges : Op → Bool
exchanges op.Load = false
exchanges (op.Store value) = false
exchanges (op.Swap value) = false
exchanges (op.Add by) = false
exchanges (op.Sub by) = false
exchanges (op.Or bits) = false
exchanges (op.And bits) = false
exchanges (op.Exchange from to) = true

-- an act is an exchange of a word
abbrev pub is_exchange : Act → Bool
is_exchange act.Rest = false
is_exchange (act.Word l f) = exchanges f
is_exchange (act.HandOver l f) = exchanges f
is_exchange (act.Enter keys) = false
is_exchange (act.Park l key check x) = false
is_exchange (act.Stand key x) = false
is_exchange (act.Take key whom) = false
is_exchange (act.Requeue from to how) = false
is_exchange (act.Remove key) = false
is_exchange (act.Leave keys wakes) = false
is_exchange act.Sleep = false
is_exchange act.Accept = false
is_exchange (act.Closure state) = false
is_exchange (act.End answer) = false

-- a thread tries a mutex by an exchange before it looks: as its call begins, and as it unlocks fairly
abbrev pub mutex_tries : MutexPlace → Bool
mutex_tries (mutex.Lock e retries lock.First) = true
mutex_tries mutex.UnlockFair = true
mutex_tries at = false

-- a writer tries by an exchange before it looks, as its call begins
abbrev pub rwlock_tries : RwLockAt → Bool
rwlock_tries at.First = true
rwlock_tries to = false

-- an owner that gives its right up fairly does, unless the right is upgradable
abbrev pub call_tries : RwLockCallPlace → Bool
call_tries (call.Plain p) = rwlock_tries p.at
call_tries (call.Bump p) = rwlock_tries p.at
call_tries (call.HandOver access.Exclusive bumps (handing.Free seen)) = true
call_tries (call.HandOver access.Shared bumps (handing.Free seen)) = true
call_tries c = false

-- a wait shows its mutex so, and tries it as it locks it again
abbrev pub condvar_tries : CondvarPlace → Bool
condvar_tries (condvar.Wait m timed wait.Show) = true
condvar_tries (condvar.Wait m timed (wait.Lock timed_out at)) = mutex_tries at
condvar_tries p = false

-- no call of a `Once` or of a semaphore does
abbrev pub tries_word : Place → Bool
tries_word Idle = false
tries_word (Mutex lock at) = mutex_tries at
tries_word (RwLock lock a at) = call_tries at
tries_word (Once lock at) = false
tries_word (Condvar lock at) = condvar_tries at
tries_word (Semaphore lock at) = false

-- calls of condition variables come only to some of their places
abbrev pub MayBeAt : Place → Type 0
MayBeAt (Condvar lock at) = IsReached at
MayBeAt p = Unit {0}

-- each exchange of a word is one that a look comes before, or one of the tries above
abbrev pub EachExchangeIsKnown : Type 0
EachExchangeIsKnown =
    (p : Place) → MayBeAt p → is_exchange (act_of p) ≡ true
    → (is_some (looked_from p) ≡ true) ⊎ (tries_word p ≡ true)

-- ---------------------------------------------------------------- looks

-- a call of a `Once`, or a try of a semaphore, goes by what it saw; no such call comes to a value by which it
-- would load the word once more
abbrev pub has_decided : Place → Bool
has_decided (Once lock (once.Look c again (look.Decide seen))) = true
has_decided (Semaphore lock (semaphore.Try (tries.Decide seen))) = true
has_decided p = false

-- a load that sees this leads to an exchange
abbrev pub leads_to_exchange : Place → ℕ → Bool
leads_to_exchange p seen = not (has_decided p) && is_exchange (act_of (next_place p (Value seen)))

abbrev pub is_load : Act → Bool
is_load (act.Word l op.Load) = true
is_load a = false

abbrev pub looks_by : State → Place → Act → Bool
looks_by w p (act.Word l op.Load) = leads_to_exchange p (word_at w l)
looks_by w p a = false

abbrev pub looks_in : State → ℕ → Turn → Bool
looks_in w t turn.Go = looks_by w (place_at w t) (act_of (place_at w t))
looks_in w t x = false

-- a step loads a word, and so leads its thread to an exchange
abbrev pub looks : State → Step → Bool
looks w s = looks_in w s.thread s.turn

-- ---------------------------------------------------------------- misses

-- the operation of an act on a word is an exchange that finds another value
abbrev pub finds_another : State → Act → Bool
finds_another w (act.Word l f) = not (takes_effect f (word_at w l))
finds_another w (act.HandOver l f) = not (takes_effect f (word_at w l))
finds_another w a = false

abbrev pub misses_by : State → ℕ → Turn → Bool
misses_by w t (turn.Begin c) = false
misses_by w t turn.Go = is_some (looked_from (place_at w t)) && finds_another w (act_of (place_at w t))
misses_by w t turn.Spin = false
misses_by w t turn.Late = false
misses_by w t turn.Ok = false
misses_by w t turn.Err = false

-- a step is an exchange by what a look saw, and another thread has changed the word since
abbrev pub misses : State → Step → Bool
misses w s = misses_by w s.thread s.turn

-- each step of a run is possible where it comes, and none misses
abbrev pub GoesWithoutMiss : State → List Step → Type 0
GoesWithoutMiss w [] = Unit {0}
GoesWithoutMiss w (s ∷ ss) =
    (is_possible w s ≡ true) × (misses w s ≡ false) × GoesWithoutMiss (after w s) ss

-- a thread that looks at a word once more does so in place of an exchange
abbrev pub LooksFor : State → ℕ → Turn → Type 0
LooksFor w t (turn.Begin c) = Unit {0}
LooksFor w t turn.Go = Unit {0}
LooksFor w t turn.Spin = is_some (looked_from (place_at w t)) ≡ true
LooksFor w t turn.Late = Unit {0}
LooksFor w t turn.Ok = Unit {0}
LooksFor w t turn.Err = Unit {0}

abbrev pub LooksForExchanges : State → List Step → Type 0
LooksForExchanges w [] = Unit {0}
LooksForExchanges w (s ∷ ss) = LooksFor w s.thread s.turn × LooksForExchanges (after w s) ss

-- a thread that has looked goes on at once
abbrev pub FollowedBy : Option Place → ℕ → List Step → Type 0
FollowedBy None t ss = Unit {0}
FollowedBy (Some q) t [] = ⊥
FollowedBy (Some q) t (s ∷ ss) = s ≡ go_of t

-- each look for an exchange is followed at once by that exchange
abbrev pub LooksAtOnce : State → List Step → Type 0
LooksAtOnce w [] = Unit {0}
LooksAtOnce w (s ∷ ss) =
    FollowedBy (looked_from (place_at (after w s) s.thread)) s.thread ss × LooksAtOnce (after w s) ss

-- ---------------------------------------------------------------- the same course of a run

abbrev pub or_here : Option Place → Place → Place
or_here None p = p
or_here (Some q) p = q

-- a thread that has looked stands where it looked
abbrev pub unlooked : Place → Place
unlooked p = or_here (looked_from p) p

-- the locks, rights, sections and queues of a state in which no thread has looked for its exchange yet
abbrev pub before_looks : State → State
before_looks w = record w { places = map unlooked w.places }

-- a thread is told this
pub record News : Type 0 where
  pub thread : ℕ
  pub outcome : Outcome

-- all steps but one that was no turn, or after which its thread goes on
abbrev pub news_of : ℕ → Outcome → List News
news_of t outcome.NotNow = []
news_of t outcome.Step = []
news_of t told = record { thread = t; outcome = told } ∷ []

-- all that the steps of a run tell
abbrev pub news : State → List Step → List News
news w [] = []
news w (s ∷ ss) = news_of s.thread (step_outcome w s) ++ news (after w s) ss

-- some run leads to the same without a miss
pub record IsUnmissed (w : State) (ss : List Step) : Type 0 where
  pub steps : List Step
  pub hits : GoesWithoutMiss w steps
  pub at_once : LooksAtOnce w steps
  pub leads : after_steps w steps ≡ before_looks (after_steps w ss)
  pub tells : news w steps ≡ news w ss
  -- where no thread goes on, the states are one
  pub rests : ((t : ℕ) → is_possible (after_steps w ss) (go_of t) ≡ false)
      → after_steps w steps ≡ after_steps w ss

abbrev pub NoMissIsNeeded : Type 0
NoMissIsNeeded =
    (kinds : List Kind) (threads : ℕ) → IsWorld (opening kinds threads)
    → (ss : List Step) → LooksForExchanges (opening kinds threads) ss
    → IsUnmissed (opening kinds threads) ss
