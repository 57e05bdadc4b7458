-- A thread works on the word of the lock that it calls, and only a call of a `Once` runs a closure, while its
-- run is on.
use Rattle.std.proofs.Common.{ℕ, Bool, true, false, if◌then◌else◌, ◌==◌, not, ◌≡◌, ◌+◌, ◌-◌, ◌*◌, refl, sym}
use Rattle.std.proofs.Common.{ap, ◌∙◌}
use Rattle.core_base.specs.declared.keys.Keys.TheVariants.{One}
use Rattle.core_base.specs.declared.ops.Op.TheVariants as op
use Rattle.steps_base.specs.declared.acts.Act.{Act}
use Rattle.steps_base.specs.declared.acts.Act.TheVariants.{Word, HandOver, Enter}
use Rattle.steps_mutex.specs.declared.places.MutexPlace.TheVariants.{Lock, TryLock, Unlock, UnlockFair, Bump}
use Rattle.steps_mutex.specs.declared.places.MutexPlace.TheVariants.{HandOff}
use Rattle.steps_mutex.specs.declared.lock.LockAt.TheVariants as lock
use Rattle.steps_mutex.specs.declared.unlock.UnlockAt.TheVariants as unlock
use Rattle.steps_mutex.specs.declared.hand_off.HandOffAt.TheVariants as hand_off
use Rattle.steps_condvar.specs.declared.places.CondvarPlace.{CondvarPlace}
use Rattle.steps_condvar.specs.declared.notify.NotifyAt.TheVariants as notify
use Rattle.steps_condvar.specs.declared.wait.WaitAt.TheVariants as wait
use Rattle.steps_condvar.specs.declared.places.CondvarPlace.TheVariants.{Wait, Look as Looks, Notify}
use Rattle.lot_steps.specs.declared.places.Place.{Place}
use Rattle.lot_steps.specs.declared.places.Place.TheVariants.{Idle, Mutex, RwLock, Once, Condvar, Semaphore}
use Rattle.steps_mutex.specs.MutexSteps.{is_locked}
use Rattle.core_base.specs.declared.wants.Want.{Want}
use Rattle.core_base.specs.declared.keys.Line.{Line}
use Rattle.core_base.specs.declared.keys.Line.TheVariants.{Main, Second}
use Rattle.spec_locks.specs.Codes.{has_aside}
use Rattle.steps_rwlock.specs.declared.places.Admission.{Admission}
use Rattle.steps_rwlock.specs.declared.places.RwLockPlace.{RwLockPlace}
use Rattle.steps_rwlock.specs.declared.purposes.RwLockPurpose.{RwLockPurpose}
use Rattle.steps_rwlock.specs.declared.places.RwLockAt.{RwLockAt}
use Rattle.steps_rwlock.specs.declared.places.RwLockAt.TheVariants as at
use Rattle.steps_rwlock.specs.declared.enter.Decision.{Decision}
use Rattle.steps_rwlock.specs.declared.enter.Decision.TheVariants as decisions
use Rattle.steps_rwlock.specs.declared.park.ParkAt.{ParkAt}
use Rattle.steps_rwlock.specs.declared.park.ParkAt.TheVariants as parking
use Rattle.steps_rwlock.specs.declared.release.WakeAt.{WakeAt}
use Rattle.steps_rwlock.specs.declared.release.WakeAt.TheVariants as waking
use Rattle.steps_rwlock.specs.RwLockSteps.{act_at, decided, decided_act, park_act, wake_act, want_at, plus}
use Rattle.spec_locks.specs.declared.calls.Access.{Access}
use Rattle.spec_locks.specs.declared.calls.Access.TheVariants as access
use Rattle.steps_rwlock_fair.specs.declared.places.RwLockCallPlace.{RwLockCallPlace}
use Rattle.steps_rwlock_fair.specs.declared.places.RwLockCallPlace.TheVariants as places
use Rattle.steps_rwlock_fair.specs.declared.hand_over.HandOverAt.{HandOverAt}
use Rattle.steps_rwlock_fair.specs.declared.hand_over.HandOverAt.TheVariants as handing
use Rattle.steps_rwlock_fair.specs.declared.hand_over.Taken.{Taken}
use Rattle.steps_rwlock_fair.specs.declared.handed.HandedAt.TheVariants as handed
use Rattle.steps_rwlock_fair.specs.FairSteps.{accept_act, call_act, hand_over_act, has_room, parked_as}
use Rattle.steps_rwlock_fair.specs.FairSteps.{with_taken, word_without}
use Rattle.steps_base.specs.declared.acts.Reply.TheVariants.{Closed}
use Rattle.lot_steps.specs.Steps.{act_of, next_place}
use Rattle.lot_machine.specs.Machine.{State, place_at, runs_closure, can_do, closed_place}
use Rattle.steps_once.specs.declared.look.LookAt.TheVariants as look
use Rattle.steps_once.specs.declared.look.Course.{Course}
use Rattle.steps_once.specs.declared.look.Course.TheVariants.{Ends, Runs, Marks, Parks}
use Rattle.steps_once.specs.declared.run.RunAt.TheVariants as run
use Rattle.steps_once.specs.declared.give_up.GiveUpAt.TheVariants as give_up
use Rattle.steps_once.specs.declared.places.OncePlace.TheVariants.{Look, Run, GiveUp}
use Rattle.steps_once.specs.OnceSteps.{course_act, course_of}
use Rattle.steps_semaphore.specs.declared.acquire.AcquireAt.TheVariants as acquire
use Rattle.steps_semaphore.specs.declared.tries.TryAt.TheVariants as tries
use Rattle.steps_semaphore.specs.declared.release.ReleaseAt.TheVariants as release
use Rattle.steps_semaphore.specs.declared.places.SemaphorePlace.{SemaphorePlace}
use Rattle.steps_semaphore.specs.declared.places.SemaphorePlace.TheVariants.{Acquire, Try, Release}
use Rattle.steps_semaphore.specs.SemaphoreSteps.{is_free, semaphore_act}
use Rattle.steps_mutex.specs.declared.places.MutexPlace.{MutexPlace}

-- an act on a word is on that of this lock, and no other runs a closure
abbrev pub IsOwn : ℕ → Act → Type 0
IsOwn l (Word k f) = k ≡ l
IsOwn l (HandOver k f) = k ≡ l
IsOwn l a = runs_closure a ≡ false

runs_none : (l : ℕ) (a : Act) → IsOwn l a → runs_closure a ≡ false
runs_none l (Word k f) h = refl
runs_none l (HandOver k f) h = refl
runs_none l a h = h

decides_own : (l s : ℕ) (a b : Bool) → IsOwn l (if not a then Word l (op.Exchange s (s + 1))
    else if b then Word l (op.Exchange 1 3) else Enter (One (2 * l)))
decides_own l s false b = refl
decides_own l s true true = refl
decides_own l s true false = refl

rwlock_decides_own : (l : ℕ) (q : RwLockPurpose) (s : ℕ) (d : Decision) → IsOwn l (decided_act l q s d)
rwlock_decides_own l q s decisions.Take = refl
rwlock_decides_own l q s decisions.Mark = refl
rwlock_decides_own l q s decisions.Park = refl
rwlock_decides_own l q s (decisions.Refuse answer) = refl

counts_own : (l s : ℕ) (b : Bool) → IsOwn l (if b then Enter (One (2 * l + 1))
    else Word l (op.Exchange s (plus s 2)))
counts_own l s true = refl
counts_own l s false = refl

parks_own : (l : ℕ) (a : Admission) (x : Want) (m : Line) (to : ParkAt) → IsOwn l (park_act l a x m to)
parks_own l a x m parking.Check = refl
parks_own l a x m (parking.Leave b) = refl
parks_own l a x m parking.Asleep = refl
parks_own l a x m (parking.Taken by) = refl
parks_own l a x m parking.Remove = refl
parks_own l a x m parking.Clear = refl
parks_own l a x m parking.GiveUp = refl

wakes_own : (l : ℕ) (a : Admission) (q : RwLockPurpose) (m : Line) (to : WakeAt)
    → IsOwn l (wake_act l a q m to)
wakes_own l a q m waking.Enter = refl
wakes_own l a q m waking.Take = refl
wakes_own l a q m (waking.Clear any) = refl
wakes_own l a q m (waking.Leave any) = refl

rwlock_own : (l : ℕ) (a : Admission) (p : RwLockPlace) (to : RwLockAt) → IsOwn l (act_at l a p to)
rwlock_own l a p at.First = refl
rwlock_own l a p at.Load = refl
rwlock_own l a p (at.Decide s) = rwlock_decides_own l p.purpose s (decided a p s)
rwlock_own l a p (at.Park to) = parks_own l a (want_at p) Main to
rwlock_own l a p at.Look = refl
rwlock_own l a p (at.Count s) = counts_own l s (has_aside s)
rwlock_own l a p at.Marked = refl
rwlock_own l a p (at.Aside to) = parks_own l a (want_at p) Second to
rwlock_own l a p at.RollBack = refl
rwlock_own l a p at.GiveWay = refl
rwlock_own l a p (at.Wake m to) = wakes_own l a p.purpose m to

exchanges_own : (l limit : ℕ) (x : Access) (k : Taken) (s : ℕ) (b : Bool)
    → IsOwn l (if b then HandOver l (op.Exchange s (with_taken x k s)) else Word l
    (op.Exchange s (parked_as k.none_left (word_without x s))))
exchanges_own l limit x k s true = refl
exchanges_own l limit x k s false = refl

hands_over_own : (l : ℕ) (a : Admission) (x : Access) (to : HandOverAt) → IsOwn l (hand_over_act l a x to)
hands_over_own l a x handing.Load = refl
hands_over_own l a x (handing.Free s) = refl
hands_over_own l a x handing.Enter = refl
hands_over_own l a x handing.Take = refl
hands_over_own l a x (handing.Store k) = refl
hands_over_own l a x (handing.Look k) = refl
hands_over_own l a x (handing.Exchange k s) = exchanges_own l a.limit x k s (has_room a.limit k s)
hands_over_own l a x (handing.Leave any given) = refl

accepts_own : (l : ℕ) (x : Access) → IsOwn l (accept_act l x)
accepts_own l access.Exclusive = refl
accepts_own l access.Shared = refl
accepts_own l access.Upgradable = refl

pub call_own : (l : ℕ) (a : Admission) (c : RwLockCallPlace) → IsOwn l (call_act l a c)
call_own l a (places.Plain p) = rwlock_own l a p p.at
call_own l a (places.Bump p) = rwlock_own l a p p.at
call_own l a (places.PeekQueue x) = refl
call_own l a (places.HandOver x b to) = hands_over_own l a x to
call_own l a (places.Handed x how b (handed.Asleep u alone)) = refl
call_own l a (places.Handed x how b handed.Accept) = accepts_own l x

pub course_own : (l v : ℕ) (k : Course) → IsOwn l (course_act l v k)
course_own l v (Ends answer) = refl
course_own l v Runs = refl
course_own l v Marks = refl
course_own l v Parks = refl

pub mutex_own : (l : ℕ) (m : MutexPlace) → IsOwn l (act_of (Mutex l m))
mutex_own l (Lock e r lock.First) = refl
mutex_own l (Lock e r (lock.Decide s)) = decides_own l s (is_locked s) (s == 1)
mutex_own l (Lock e r a) = refl
mutex_own l TryLock = refl
mutex_own l (Unlock unlock.Subtract) = refl
mutex_own l (Unlock a) = refl
mutex_own l UnlockFair = refl
mutex_own l Bump = refl
mutex_own l (HandOff b (hand_off.Store false n)) = refl
mutex_own l (HandOff b (hand_off.Store true n)) = refl
mutex_own l (HandOff b a) = refl

takes_own : (l s : ℕ) (a b : Bool) → IsOwn l (if a then Word l (op.Exchange s (s - 2)) else if b
    then Word l (op.Exchange 0 1) else Enter (One (2 * l)))
takes_own l s true b = refl
takes_own l s false true = refl
takes_own l s false false = refl

tries_own : (l s : ℕ) (a : Bool) → IsOwn l (if a then Word l (op.Exchange s (s - 2))
    else Word l op.Load)
tries_own l s true = refl
tries_own l s false = refl

pub semaphore_own : (l : ℕ) (at : SemaphorePlace) → IsOwn l (semaphore_act l at)
semaphore_own l (Acquire timed retries (acquire.Decide s)) = takes_own l s (is_free s) (s == 0)
semaphore_own l (Acquire timed retries a) = refl
semaphore_own l (Try (tries.Decide s)) = tries_own l s (is_free s)
semaphore_own l (Try tries.Load) = refl
semaphore_own l (Release release.Add) = refl
semaphore_own l (Release release.Enter) = refl
semaphore_own l (Release release.Take) = refl
semaphore_own l (Release (release.Clear any)) = refl
semaphore_own l (Release (release.Leave any)) = refl

pub call_runs_none : (l : ℕ) (a : Admission) (c : RwLockCallPlace) → runs_closure (call_act l a c) ≡ false
call_runs_none l a c = runs_none l (call_act l a c) (call_own l a c)

pub course_runs_none : (l v : ℕ) (k : Course) → runs_closure (course_act l v k) ≡ false
course_runs_none l v k = runs_none l (course_act l v k) (course_own l v k)

pub mutex_runs_none : (l : ℕ) (m : MutexPlace) → runs_closure (act_of (Mutex l m)) ≡ false
mutex_runs_none l m = runs_none l (act_of (Mutex l m)) (mutex_own l m)

pub semaphore_runs_none : (l : ℕ) (at : SemaphorePlace) → runs_closure (semaphore_act l at) ≡ false
semaphore_runs_none l at = runs_none l (semaphore_act l at) (semaphore_own l at)

-- a thread that runs a closure
pub record RunsOne (p : Place) : Type 0 where
  pub lock : ℕ
  pub forced : Bool
  pub poisoned : Bool
  pub is : p ≡ Once lock (Run forced (run.Closure poisoned))

pub condvar_runs_none : (l : ℕ) (at : CondvarPlace) → runs_closure (act_of (Condvar l at)) ≡ false
condvar_runs_none l (Wait m timed (wait.Release s at)) = mutex_runs_none m at
condvar_runs_none l (Wait m timed (wait.Lock late at)) = mutex_runs_none m at
condvar_runs_none l (Wait m timed at) = refl
condvar_runs_none l (Looks all) = refl
condvar_runs_none l (Notify true m (notify.Move locked)) = refl
condvar_runs_none l (Notify false m (notify.Move true)) = refl
condvar_runs_none l (Notify false m (notify.Move false)) = refl
condvar_runs_none l (Notify all m at) = refl

-- a thread that runs a closure is in a call of a `Once`, whose run is on
pub runs_one : (p : Place) → runs_closure (act_of p) ≡ true → RunsOne p
runs_one Idle h = absurd cc
runs_one (Mutex l m) h = absurd (let e : false ≡ true = sym (mutex_runs_none l m) ∙ h in cc)
runs_one (RwLock l a c) h = absurd (let e : false ≡ true = sym (call_runs_none l a c) ∙ h in cc)
runs_one (Semaphore l at) h = absurd (let e : false ≡ true = sym (semaphore_runs_none l at) ∙ h in cc)
runs_one (Condvar l at) h = absurd (let e : false ≡ true = sym (condvar_runs_none l at) ∙ h in cc)
runs_one (Once l (Run forced (run.Closure poisoned))) h = record {
  lock = l;
  forced = forced;
  poisoned = poisoned;
  is = refl;
}
runs_one (Once l (Run forced (run.Close succeeded))) h = absurd cc
runs_one (Once l (Run forced (run.Enter succeeded))) h = absurd cc
runs_one (Once l (Run forced (run.Take succeeded))) h = absurd cc
runs_one (Once l (Run forced (run.Leave succeeded any))) h = absurd cc
runs_one (Once l (Look c again (look.Decide seen))) h = absurd (let e : false ≡ true =
    sym (course_runs_none l seen (course_of c seen)) ∙ h in cc)
runs_one (Once l (Look c again look.Load)) h = absurd cc
runs_one (Once l (Look c again look.Check)) h = absurd cc
runs_one (Once l (Look c again (look.Leave parked))) h = absurd cc
runs_one (Once l (Look c again look.Asleep)) h = absurd cc
runs_one (Once l (Look c again (look.Taken by))) h = absurd cc
runs_one (Once l (GiveUp again give_up.Remove)) h = absurd cc
runs_one (Once l (GiveUp again give_up.Clear)) h = absurd cc
runs_one (Once l (GiveUp again give_up.Leave)) h = absurd cc

-- A thread that closes its run swaps the word next, whatever thread is inside.
pub closes_freely : (w v : State) (t : ℕ) (succeeded : Bool) → runs_closure (act_of (place_at w t)) ≡ true
    → can_do v (act_of (closed_place w t succeeded)) ≡ true
closes_freely w v t succeeded runs = ap (λ p. can_do v (act_of (next_place p (Closed succeeded))))
    (runs_one (place_at w t) runs).is
