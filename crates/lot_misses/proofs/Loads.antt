-- A load leads to no try: where it leads to an exchange, the thread has looked for that.
use Rattle.std.proofs.Common.{ℕ, Bool, true, false, Option, Some, None, if◌then◌else◌, ◌==◌, ◌&&◌, not, ◌≡◌}
use Rattle.std.proofs.Common.{◌⊎◌, inl, inr, refl, is_some, sym, ◌∙◌, ap, subst, ◌+◌, ◌-◌, ◌*◌}
use Rattle.core_base.specs.declared.keys.Keys.TheVariants as keys
use Rattle.core_base.specs.declared.keys.Line.{Line}
use Rattle.core_base.specs.declared.keys.Line.TheVariants as lines
use Rattle.core_base.specs.declared.ops.Op.TheVariants as op
use Rattle.core_base.specs.declared.wants.Want.{Want}
use Rattle.spec_locks.specs.declared.calls.Access.{Access}
use Rattle.spec_locks.specs.declared.calls.Access.TheVariants as access
use Rattle.spec_locks.specs.declared.calls.Downgrade.TheVariants as downgrade
use Rattle.spec_locks.specs.declared.outcomes.Answer.TheVariants as answer
use Rattle.spec_locks.specs.Codes.{count_in, has_aside, has_parked}
use Rattle.steps_base.specs.declared.acts.Act.TheVariants as act
use Rattle.steps_base.specs.declared.acts.Next.{Next}
use Rattle.steps_base.specs.declared.acts.Next.TheVariants.{At, End}
use Rattle.steps_base.specs.declared.acts.Reply.TheVariants.{Value}
use Rattle.steps_mutex.specs.declared.hand_off.HandOffAt.TheVariants as hand_off
use Rattle.steps_mutex.specs.declared.lock.LockAt.TheVariants as lock
use Rattle.steps_mutex.specs.declared.places.MutexPlace.{MutexPlace}
use Rattle.steps_mutex.specs.declared.places.MutexPlace.TheVariants as mutex
use Rattle.steps_mutex.specs.declared.unlock.UnlockAt.TheVariants as unlock
use Rattle.steps_mutex.specs.MutexSteps.{is_locked, is_parked, mutex_act, mutex_next}
use Rattle.steps_mutex.specs.MutexSteps as mutex_steps
use Rattle.steps_semaphore.specs.declared.places.SemaphorePlace.{SemaphorePlace}
use Rattle.steps_semaphore.specs.declared.places.SemaphorePlace.TheVariants as semaphore
use Rattle.steps_semaphore.specs.declared.tries.TryAt.TheVariants as tries
use Rattle.steps_semaphore.specs.SemaphoreSteps.{semaphore_next}
use Rattle.steps_once.specs.declared.look.Course.{Course}
use Rattle.steps_once.specs.declared.look.Course.TheVariants as course
use Rattle.steps_once.specs.declared.look.LookAt.TheVariants as look
use Rattle.steps_once.specs.declared.places.OncePlace.{OncePlace}
use Rattle.steps_once.specs.declared.places.OncePlace.TheVariants as once
use Rattle.steps_once.specs.OnceSteps.{course_act, course_of, once_next}
use Rattle.steps_rwlock.specs.declared.enter.Decision.{Decision}
use Rattle.steps_rwlock.specs.declared.enter.Decision.TheVariants as decisions
use Rattle.steps_rwlock.specs.declared.park.ParkAt.{ParkAt}
use Rattle.steps_rwlock.specs.declared.park.ParkAt.TheVariants as parking
use Rattle.steps_rwlock.specs.declared.places.Admission.{Admission}
use Rattle.steps_rwlock.specs.declared.places.RwLockAt.{RwLockAt}
use Rattle.steps_rwlock.specs.declared.places.RwLockAt.TheVariants as at
use Rattle.steps_rwlock.specs.declared.places.RwLockPlace.{RwLockPlace}
use Rattle.steps_rwlock.specs.declared.purposes.RwLockPurpose.{RwLockPurpose}
use Rattle.steps_rwlock.specs.declared.purposes.RwLockPurpose.TheVariants as purpose
use Rattle.steps_rwlock.specs.declared.release.WakeAt.{WakeAt}
use Rattle.steps_rwlock.specs.declared.release.WakeAt.TheVariants as waking
use Rattle.steps_rwlock.specs.RwLockCalls.{StandsAt}
use Rattle.steps_rwlock.specs.RwLockProfiles.{gone_to}
use Rattle.steps_rwlock.specs.RwLockSteps.{act_at, decided, decided_act, entered, exchange, give_op}
use Rattle.steps_rwlock.specs.RwLockSteps.{looked_by, next_at, park_act, patience_at, plus, rollback_op}
use Rattle.steps_rwlock.specs.RwLockSteps.{stays, wake_act}
use Rattle.steps_rwlock_fair.specs.declared.hand_over.HandOverAt.{HandOverAt}
use Rattle.steps_rwlock_fair.specs.declared.hand_over.HandOverAt.TheVariants as handing
use Rattle.steps_rwlock_fair.specs.declared.hand_over.Taken.{Taken}
use Rattle.steps_rwlock_fair.specs.declared.handed.HandedAt.TheVariants as handed
use Rattle.steps_rwlock_fair.specs.declared.places.RwLockCallPlace.{RwLockCallPlace}
use Rattle.steps_rwlock_fair.specs.declared.places.RwLockCallPlace.TheVariants as call
use Rattle.steps_rwlock_fair.specs.FairCalls.{CallStands, HandsOverAt}
use Rattle.steps_rwlock_fair.specs.FairProfiles.{in_call}
use Rattle.steps_rwlock_fair.specs.FairSteps.{bump_next, call_act, call_next, gives_up_at, gives_way}
use Rattle.steps_rwlock_fair.specs.FairSteps.{hand_over_act, hand_over_next, has_room, parked_as, plain_next}
use Rattle.steps_rwlock_fair.specs.FairSteps.{with_taken, word_without}
use Rattle.steps_condvar.specs.declared.places.CondvarPlace.{CondvarPlace}
use Rattle.steps_condvar.specs.declared.places.CondvarPlace.TheVariants as condvar
use Rattle.steps_condvar.specs.declared.notify.NotifyAt.{NotifyAt}
use Rattle.steps_condvar.specs.declared.notify.NotifyAt.TheVariants as notify
use Rattle.steps_condvar.specs.declared.wait.WaitAt.TheVariants as wait
use Rattle.steps_condvar.specs.CondvarCalls.{IsReached}
use Rattle.steps_condvar.specs.CondvarSteps.{condvar_act, condvar_next, in_lock, in_notify, in_wait}
use Rattle.steps_condvar.specs.CondvarSteps.{mutex_shown, next_notify, notified, relocked}
use Rattle.lot_steps.specs.declared.places.Place.{Place}
use Rattle.lot_steps.specs.declared.places.Place.TheVariants.{Idle, Mutex, RwLock, Once, Condvar, Semaphore}
use Rattle.lot_steps.specs.Steps.{act_of, condvar_goes, in_condvar, in_mutex, in_once, in_rwlock}
use Rattle.lot_steps.specs.Steps.{in_semaphore, mutex_goes, next_place, once_goes, rwlock_goes}
use Rattle.lot_steps.specs.Steps.{semaphore_goes}
use Rattle.lot_machine.specs.Machine.{State}
use Rattle.lot_laws.specs.SitesOf.{FitsItsLock}
use Rattle.lot_misses.specs.Looks.{MayBeAt, call_looked, call_tries, condvar_looked, condvar_tries}
use Rattle.lot_misses.specs.Looks.{has_decided, is_exchange, is_load, leads_to_exchange, looked_from}
use Rattle.lot_misses.specs.Looks.{mutex_looked, mutex_tries, once_looked, rwlock_looked, rwlock_looked_by}
use Rattle.lot_misses.specs.Looks.{rwlock_tries, semaphore_looked, tries_word}
use Rattle.lot_misses.proofs.Exchanges.{each_is_known}
use Rattle.lot_misses.proofs.Onces.{GoesOn}
use Rattle.lot_misses.proofs.Places.{IsSane}
use Rattle.lot_misses.proofs.RwLocks.{IsSaneAt}

-- nothing is both
not_both : {A : Type 0} (b : Bool) → b ≡ false → b ≡ true → A
not_both b none some = absurd (let f : false ≡ true = sym none ∙ some in cc)

-- ---------------------------------------------------------------- mutexes

abbrev mutex_then : Next MutexPlace → Bool
mutex_then (At p) = mutex_tries p
mutex_then (End answer) = false

mutex_loads : (l : ℕ) (p : MutexPlace) (v : ℕ) → is_load (mutex_act l p) ≡ true
    → mutex_then (mutex_next p (Value v)) ≡ false
mutex_loads l (mutex.Lock e r lock.First) v h = absurd cc
mutex_loads l (mutex.Lock e r lock.Load) v h = refl
mutex_loads l (mutex.Lock e r (lock.Decide seen)) v h = absurd (decides (is_locked seen) (seen == 1) h)
  where
    decides : (a b : Bool) → is_load (if not a then act.Word l (op.Exchange seen (seen + 1)) else if b then
        act.Word l (op.Exchange 1 3) else act.Enter (keys.One (2 * l))) ≡ true → ⊥
    decides false b h = absurd cc
    decides true true h = absurd cc
    decides true false h = absurd cc
mutex_loads l (mutex.Lock e r lock.Check) v h = absurd cc
mutex_loads l (mutex.Lock e r (lock.Leave parked)) v h = absurd cc
mutex_loads l (mutex.Lock e r lock.Asleep) v h = absurd cc
mutex_loads l (mutex.Lock e r (lock.Taken by)) v h = absurd cc
mutex_loads l (mutex.Lock e r (lock.Handed by)) v h = absurd cc
mutex_loads l (mutex.Lock e r lock.Accept) v h = absurd cc
mutex_loads l (mutex.Lock e r lock.Remove) v h = absurd cc
mutex_loads l (mutex.Lock e r lock.Clear) v h = absurd cc
mutex_loads l (mutex.Lock e r lock.GiveUp) v h = absurd cc
mutex_loads l mutex.TryLock v h = absurd cc
mutex_loads l (mutex.Unlock unlock.Subtract) v h = absurd cc
mutex_loads l (mutex.Unlock unlock.Enter) v h = absurd cc
mutex_loads l (mutex.Unlock unlock.Take) v h = absurd cc
mutex_loads l (mutex.Unlock (unlock.Clear any)) v h = absurd cc
mutex_loads l (mutex.Unlock (unlock.Leave any)) v h = absurd cc
mutex_loads l mutex.UnlockFair v h = absurd cc
mutex_loads l mutex.Bump v h = by_parked (is_parked v)
  where
    by_parked : (b : Bool) → mutex_then (mutex_steps.looked true b) ≡ false
    by_parked true = refl
    by_parked false = refl
mutex_loads l (mutex.HandOff bumps hand_off.Enter) v h = absurd cc
mutex_loads l (mutex.HandOff bumps hand_off.Take) v h = absurd cc
mutex_loads l (mutex.HandOff bumps (hand_off.Store true none_left)) v h = absurd cc
mutex_loads l (mutex.HandOff bumps (hand_off.Store false none_left)) v h = absurd cc
mutex_loads l (mutex.HandOff bumps (hand_off.Leave any)) v h = absurd cc

-- ---------------------------------------------------------------- reader-writer locks

abbrev rwlock_then : Next RwLockPlace → Bool
rwlock_then (At p) = rwlock_tries p.at
rwlock_then (End answer) = false

abbrev call_then : Next RwLockCallPlace → Bool
call_then (At c) = call_tries c
call_then (End answer) = false

-- a call that ends is no release
abbrev EndsNone : RwLockPurpose → Next RwLockPlace → Type 0
EndsNone (purpose.Release x) (End answer) = ⊥
EndsNone q n = Unit {0}

module _ (l : ℕ) (a : Admission) where
  parks : (x : Want) (m : Line) (to : ParkAt) → is_load (park_act l a x m to) ≡ false
  parks x m parking.Check = refl
  parks x m (parking.Leave parked) = refl
  parks x m parking.Asleep = refl
  parks x m (parking.Taken by) = refl
  parks x m parking.Remove = refl
  parks x lines.Main parking.Clear = refl
  parks x lines.Second parking.Clear = refl
  parks x m parking.GiveUp = refl

  wakes : (q : RwLockPurpose) (m : Line) (to : WakeAt) → is_load (wake_act l a q m to) ≡ false
  wakes q m waking.Enter = refl
  wakes q m waking.Take = refl
  wakes q lines.Main (waking.Clear any) = refl
  wakes q lines.Second (waking.Clear any) = refl
  wakes q m (waking.Leave any) = refl

  gives : (q : RwLockPurpose) → is_load (act.Word l (give_op q)) ≡ false
  gives (purpose.Enter x how) = refl
  gives (purpose.Release x) = refl
  gives (purpose.Downgrade downgrade.ToShared) = refl
  gives (purpose.Downgrade downgrade.ToUpgradable) = refl
  gives (purpose.Downgrade downgrade.UpgradableToShared) = refl
  gives (purpose.Upgrade how) = refl

  rolls : (q : RwLockPurpose) → is_load (act.Word l (rollback_op q)) ≡ false
  rolls (purpose.Enter x how) = refl
  rolls (purpose.Release x) = refl
  rolls (purpose.Downgrade d) = refl
  rolls (purpose.Upgrade how) = refl

  decides : (q : RwLockPurpose) (seen : ℕ) (d : Decision) → is_load (decided_act l q seen d) ≡ false
  decides q seen decisions.Take = refl
  decides q seen decisions.Mark = refl
  decides q seen decisions.Park = refl
  decides q seen (decisions.Refuse answer) = refl

  counts : (seen : ℕ) (b : Bool) → is_load (if b then act.Enter (keys.One (2 * l + 1)) else exchange l seen
      (plus seen 2)) ≡ false
  counts seen true = refl
  counts seen false = refl

  -- only an entry or an upgrade loads the word
  stands_load : (q : RwLockPurpose) (again : Bool) → StandsAt q again at.Load → (n : Next RwLockPlace)
      → EndsNone q n
  stands_load (purpose.Release access.Shared) again s n = absurd s
  stands_load (purpose.Release access.Upgradable) again s n = absurd s
  stands_load (purpose.Release access.Exclusive) again s n = absurd s
  stands_load (purpose.Enter x how) again s n = tt
  stands_load (purpose.Downgrade d) again s n = tt
  stands_load (purpose.Upgrade how) again s n = tt

  stands_look : (q : RwLockPurpose) (again : Bool) → StandsAt q again at.Look → (n : Next RwLockPlace)
      → EndsNone q n
  stands_look (purpose.Release access.Shared) again s n = absurd s
  stands_look (purpose.Release access.Upgradable) again s n = absurd s
  stands_look (purpose.Release access.Exclusive) again s n = absurd s
  stands_look (purpose.Enter x how) again s n = tt
  stands_look (purpose.Downgrade d) again s n = tt
  stands_look (purpose.Upgrade how) again s n = tt

  load_then : (p : RwLockPlace) (v : ℕ) → rwlock_then (next_at a p at.Load (Value v)) ≡ false
  load_then p v = by_decision (decided a p v)
    where
      by_decision : (d : Decision) → rwlock_then (looked_by p v d) ≡ false
      by_decision decisions.Take = refl
      by_decision decisions.Mark = refl
      by_decision decisions.Park = refl
      by_decision (decisions.Refuse answer) = refl

  look_then : (p : RwLockPlace) (v : ℕ) → rwlock_then (next_at a p at.Look (Value v)) ≡ false
  look_then p v = by_count (count_in v == 0)
    where
      by_count : (b : Bool)
          → rwlock_then (if b then End (entered (patience_at p)) else stays p (at.Count v)) ≡ false
      by_count true = refl
      by_count false = refl

  place_loads : (p : RwLockPlace) (to : RwLockAt) (v : ℕ) → StandsAt p.purpose p.retries to
      → is_load (act_at l a p to) ≡ true
      → (rwlock_then (next_at a p to (Value v)) ≡ false) × EndsNone p.purpose (next_at a p to (Value v))
  place_loads p at.First v s h = absurd cc
  place_loads p at.Load v s h = (load_then p v, stands_load p.purpose p.retries s _)
  place_loads p (at.Decide seen) v s h = not_both _ (decides p.purpose seen (decided a p seen)) h
  place_loads p (at.Park to) v s h = not_both _ (parks _ lines.Main to) h
  place_loads p at.Look v s h = (look_then p v, stands_look p.purpose p.retries s _)
  place_loads p (at.Count seen) v s h = not_both _ (counts seen (has_aside seen)) h
  place_loads p at.Marked v s h = absurd cc
  place_loads p (at.Aside to) v s h = not_both _ (parks _ lines.Second to) h
  place_loads p at.RollBack v s h = not_both _ (rolls p.purpose) h
  place_loads p at.GiveWay v s h = not_both _ (gives p.purpose) h
  place_loads p (at.Wake m to) v s h = not_both _ (wakes p.purpose m to) h

  plain_then : (n : Next RwLockPlace) → rwlock_then n ≡ false → call_then (plain_next n) ≡ false
  plain_then (At p) e = e
  plain_then (End answer) e = refl

  bump_then : (q : RwLockPurpose) (n : Next RwLockPlace) → EndsNone q n → rwlock_then n ≡ false
      → call_then (bump_next q n) ≡ false
  bump_then q (At p) none e = e
  bump_then (purpose.Release x) (End answer) none e = absurd none
  bump_then (purpose.Enter x how) (End answer) none e = refl
  bump_then (purpose.Downgrade d) (End answer) none e = refl
  bump_then (purpose.Upgrade how) (End answer) none e = refl

  exchanges : (x : Access) (k : Taken) (seen : ℕ) (b : Bool)
      → is_load (if b then act.HandOver l (op.Exchange seen (with_taken x k seen))
      else act.Word l (op.Exchange seen (parked_as k.none_left (word_without x seen)))) ≡ false
  exchanges x k seen true = refl
  exchanges x k seen false = refl

  hands_loads : (x : Access) (b : Bool) (to : HandOverAt) (v : ℕ) → HandsOverAt x to
      → is_load (hand_over_act l a x to) ≡ true → call_then (hand_over_next a x b to (Value v)) ≡ false
  hands_loads access.Shared b to v s h = absurd s
  hands_loads access.Exclusive b handing.Load v s h = absurd s
  hands_loads access.Exclusive b (handing.Look k) v s h = absurd s
  hands_loads access.Exclusive b (handing.Free seen) v s h = absurd cc
  hands_loads access.Exclusive b handing.Enter v s h = absurd cc
  hands_loads access.Exclusive b handing.Take v s h = absurd cc
  hands_loads access.Exclusive b (handing.Store k) v s h = absurd cc
  hands_loads access.Exclusive b (handing.Exchange k seen) v s h = absurd s
  hands_loads access.Exclusive b (handing.Leave any given) v s h = absurd cc
  hands_loads access.Upgradable b handing.Load v s h = by_parked (has_parked v)
    where
      by_parked : (c : Bool)
          → call_then (At (call.HandOver access.Upgradable b (if c then handing.Enter else handing.Free v)))
          ≡ false
      by_parked true = refl
      by_parked false = refl
  hands_loads access.Upgradable b (handing.Look k) v s h = refl
  hands_loads access.Upgradable b (handing.Free seen) v s h = absurd cc
  hands_loads access.Upgradable b handing.Enter v s h = absurd cc
  hands_loads access.Upgradable b handing.Take v s h = absurd cc
  hands_loads access.Upgradable b (handing.Store k) v s h = absurd cc
  hands_loads access.Upgradable b (handing.Exchange k seen) v s h =
      not_both _ (exchanges access.Upgradable k seen (has_room a.limit k seen)) h
  hands_loads access.Upgradable b (handing.Leave any given) v s h = absurd cc

  glance_loads : (x : Access) (b : Bool) → call_then (if b then At (gives_up_at x) else End answer.Ok) ≡ false
  glance_loads access.Shared true = refl
  glance_loads access.Upgradable true = refl
  glance_loads access.Exclusive true = refl
  glance_loads x false = refl

  call_loads : (c : RwLockCallPlace) (v : ℕ) → CallStands a c → is_load (call_act l a c) ≡ true
      → call_then (call_next a c (Value v)) ≡ false
  call_loads (call.Plain p) v s h = plain_then (next_at a p p.at (Value v)) (place_loads p p.at v s.place h).0
  call_loads (call.Bump p) v s h =
      let two = place_loads p p.at v s.0.place h in bump_then p.purpose
      (next_at a p p.at (Value v)) two.1 two.0
  call_loads (call.PeekQueue x) v s h = glance_loads x (gives_way a x v)
  call_loads (call.HandOver x b to) v s h = hands_loads x b to v s h
  call_loads (call.Handed x how b (handed.Asleep by alone)) v s h = absurd cc
  call_loads (call.Handed x how b handed.Accept) v s h = refl

-- ---------------------------------------------------------------- condition variables

abbrev condvar_then : Next CondvarPlace → Bool
condvar_then (At p) = condvar_tries p
condvar_then (End answer) = false

notify_then : (all : Bool) (m : ℕ) (n : Next NotifyAt) → condvar_then (in_notify all m n) ≡ false
notify_then all m (At to) = refl
notify_then all m (End answer) = refl

lock_then : (m : ℕ) (timed late : Bool) (n : Next MutexPlace) → mutex_then n ≡ false
    → condvar_then (in_wait m timed (relocked timed late n)) ≡ false
lock_then m timed late (At p) e = e
lock_then m timed late (End answer) e = refl

condvar_loads : (l : ℕ) (p : CondvarPlace) (v : ℕ) → IsReached p → is_load (condvar_act l p) ≡ true
    → condvar_then (condvar_next p (Value v)) ≡ false
condvar_loads l (condvar.Wait m timed wait.Enter) v s h = absurd cc
condvar_loads l (condvar.Wait m timed wait.Show) v s h = absurd cc
condvar_loads l (condvar.Wait m timed wait.Stand) v s h = absurd cc
condvar_loads l (condvar.Wait m timed wait.Leave) v s h = absurd cc
condvar_loads l (condvar.Wait m timed wait.Refuse) v s h = absurd cc
condvar_loads l (condvar.Wait m timed (wait.Release b (mutex.Lock e r to))) v s h = absurd s.0
condvar_loads l (condvar.Wait m timed (wait.Release b mutex.TryLock)) v s h = absurd s.0
condvar_loads l (condvar.Wait m timed (wait.Release b (mutex.Unlock unlock.Subtract))) v s h = absurd cc
condvar_loads l (condvar.Wait m timed (wait.Release b (mutex.Unlock unlock.Enter))) v s h = absurd cc
condvar_loads l (condvar.Wait m timed (wait.Release b (mutex.Unlock unlock.Take))) v s h = absurd cc
condvar_loads l (condvar.Wait m timed (wait.Release b (mutex.Unlock (unlock.Clear any)))) v s h = absurd cc
condvar_loads l (condvar.Wait m timed (wait.Release b (mutex.Unlock (unlock.Leave any)))) v s h = absurd cc
condvar_loads l (condvar.Wait m timed (wait.Release b mutex.UnlockFair)) v s h = absurd s.0
condvar_loads l (condvar.Wait m timed (wait.Release b mutex.Bump)) v s h = absurd s.0
condvar_loads l (condvar.Wait m timed (wait.Release b (mutex.HandOff bumps to))) v s h = absurd s.0
condvar_loads l (condvar.Wait m timed (wait.Asleep b)) v s h = absurd cc
condvar_loads l (condvar.Wait m timed wait.Remove) v s h = absurd cc
condvar_loads l (condvar.Wait m timed wait.Hide) v s h = absurd cc
condvar_loads l (condvar.Wait m timed wait.GiveUp) v s h = absurd cc
condvar_loads l (condvar.Wait m timed wait.RemoveMoved) v s h = absurd cc
condvar_loads l (condvar.Wait m timed (wait.GiveUpMoved none_left)) v s h = absurd cc
condvar_loads l (condvar.Wait m timed (wait.Lock late to)) v s h =
    lock_then m timed late (mutex_next to (Value v)) (mutex_loads m to v h)
condvar_loads l (condvar.Look all) v s h = by_word (v == 0)
  where
    by_word : (b : Bool) → condvar_then (if b then End (notified all 0)
        else At (condvar.Notify all (mutex_shown v) notify.Enter)) ≡ false
    by_word true = refl
    by_word false = refl
condvar_loads l (condvar.Notify all m to) v s h = notify_then all m (next_notify all m to (Value v))

-- ---------------------------------------------------------------- every place

mutex_at : (l : ℕ) (n : Next MutexPlace) → mutex_then n ≡ false → tries_word (mutex_goes l n) ≡ false
mutex_at l (At p) e = e
mutex_at l (End answer) e = refl

rwlock_at : (l : ℕ) (a : Admission) (n : Next RwLockCallPlace) → call_then n ≡ false
    → tries_word (rwlock_goes l a n) ≡ false
rwlock_at l a (At p) e = e
rwlock_at l a (End answer) e = refl

once_at : (l : ℕ) (n : Next OncePlace) → tries_word (once_goes l n) ≡ false
once_at l (At p) = refl
once_at l (End answer) = refl

condvar_at : (l : ℕ) (n : Next CondvarPlace) → condvar_then n ≡ false → tries_word (condvar_goes l n) ≡ false
condvar_at l (At p) e = e
condvar_at l (End answer) e = refl

semaphore_at : (l : ℕ) (n : Next SemaphorePlace) → tries_word (semaphore_goes l n) ≡ false
semaphore_at l (At p) = refl
semaphore_at l (End answer) = refl

pub no_try : (w : State) (p : Place) (v : ℕ) → FitsItsLock w p → is_load (act_of p) ≡ true
    → tries_word (next_place p (Value v)) ≡ false
no_try w Idle v fits h = absurd cc
no_try w (Mutex l p) v fits h = mutex_at l (mutex_next p (Value v)) (mutex_loads l p v h)
no_try w (RwLock l a c) v fits h = rwlock_at l a (call_next a c (Value v)) (call_loads l a c v fits.1 h)
no_try w (Once l p) v fits h = once_at l (once_next p (Value v))
no_try w (Condvar l p) v fits h = condvar_at l (condvar_next p (Value v)) (condvar_loads l p v fits.reached h)
no_try w (Semaphore l p) v fits h = semaphore_at l (semaphore_next p (Value v))

pub may_be : (w : State) (p : Place) → FitsItsLock w p → MayBeAt p
may_be w (Condvar l p) fits = fits.reached
may_be w Idle fits = tt
may_be w (Mutex l p) fits = tt
may_be w (RwLock l a c) fits = tt
may_be w (Once l p) fits = tt
may_be w (Semaphore l p) fits = tt

-- a load leads to no exchange, where it leads to no try, and the thread has not looked there
pub leads_none : (p : Place) (seen : ℕ) → tries_word (next_place p (Value seen)) ≡ false
    → MayBeAt (next_place p (Value seen)) → looked_from (next_place p (Value seen)) ≡ None
    → leads_to_exchange p seen ≡ false
leads_none p seen tries may none = by_exchange (is_exchange (act_of (next_place p (Value seen)))) refl
  where
    never : is_exchange (act_of (next_place p (Value seen))) ≡ true → ⊥
    never e = elim (each_is_known (next_place p (Value seen)) may e) [
      | inl looked ↦ not_both _ (ap is_some none) looked
      | inr tried ↦ not_both _ tries tried
    ]

    by_decided : (d : Bool) → (not d && false) ≡ false
    by_decided true = refl
    by_decided false = refl

    by_exchange : (b : Bool) → is_exchange (act_of (next_place p (Value seen))) ≡ b
        → leads_to_exchange p seen ≡ false
    by_exchange true e = absurd (never e)
    by_exchange false e = ap (λ b. not (has_decided p) && b) e ∙ by_decided (has_decided p)

-- ---------------------------------------------------------------- another look

-- where a look leads that is taken in place of an exchange
mutex_again : (p q : MutexPlace) → mutex_looked p ≡ Some q → (v : ℕ)
    → mutex_then (mutex_next q (Value v)) ≡ false
mutex_again (mutex.Lock e r (lock.Decide seen)) q is v = decides (is_locked seen) (seen == 1) is
  where
    again : Some (mutex.Lock e r lock.Load) ≡ Some q → mutex_then (mutex_next q (Value v)) ≡ false
    again is = let here : mutex.Lock e r lock.Load ≡ q = cc in
        subst (λ x. mutex_then (mutex_next x (Value v)) ≡ false) here refl

    decides : (a b : Bool) → (if not a then Some (mutex.Lock e r lock.Load) else if b
        then Some (mutex.Lock e r lock.Load) else None) ≡ Some q → mutex_then (mutex_next q (Value v)) ≡ false
    decides false b is = again is
    decides true true is = again is
    decides true false is = absurd cc
mutex_again (mutex.Lock e r to) q is v = absurd cc
mutex_again p q is v = absurd cc

module _ (l : ℕ) (a : Admission) where
  -- only an entry or an upgrade decides, and counts
  decides_none : (seen : ℕ) (q : RwLockPurpose) (again : Bool) → StandsAt q again (at.Decide seen)
      → (n : Next RwLockPlace) → EndsNone q n
  decides_none seen (purpose.Release access.Shared) again s n = absurd s
  decides_none seen (purpose.Release access.Upgradable) again s n = absurd s
  decides_none seen (purpose.Release access.Exclusive) again s n = absurd s
  decides_none seen (purpose.Enter x how) again s n = tt
  decides_none seen (purpose.Downgrade d) again s n = tt
  decides_none seen (purpose.Upgrade how) again s n = tt

  counts_none : (seen : ℕ) (q : RwLockPurpose) (again : Bool) → StandsAt q again (at.Count seen)
      → (n : Next RwLockPlace) → EndsNone q n
  counts_none seen (purpose.Release access.Shared) again s n = absurd s
  counts_none seen (purpose.Release access.Upgradable) again s n = absurd s
  counts_none seen (purpose.Release access.Exclusive) again s n = absurd s
  counts_none seen (purpose.Enter x how) again s n = tt
  counts_none seen (purpose.Downgrade d) again s n = tt
  counts_none seen (purpose.Upgrade how) again s n = tt

  module _ (d : RwLockCallPlace) (v : ℕ) where
    abbrev Goal : Type 0
    Goal = call_then (call_next a d (Value v)) ≡ false

    goes_again : (b : Bool) (p : RwLockPlace) (z : RwLockAt) → in_call b (gone_to p (Some z)) ≡ Some d
        → rwlock_then (next_at a (record p { at = z }) z (Value v)) ≡ false
        → EndsNone p.purpose (next_at a (record p { at = z }) z (Value v)) → Goal
    goes_again false p z is e none = let here : call.Plain (record p { at = z }) ≡ d = cc in
        subst (λ c. call_then (call_next a c (Value v)) ≡ false) here
        (plain_then l a (next_at a (record p { at = z }) z (Value v)) e)
    goes_again true p z is e none = let here : call.Bump (record p { at = z }) ≡ d = cc in
        subst (λ c. call_then (call_next a c (Value v)) ≡ false) here
        (bump_then l a p.purpose (next_at a (record p { at = z }) z (Value v)) none e)

    none_again : (b : Bool) (p : RwLockPlace) → in_call b (gone_to p None) ≡ Some d → Goal
    none_again true p is = absurd cc
    none_again false p is = absurd cc

    at_again : (b : Bool) (p : RwLockPlace) (y : RwLockAt) → StandsAt p.purpose p.retries y
        → in_call b (gone_to p (rwlock_looked a p y)) ≡ Some d → Goal
    at_again b p (at.Decide seen) s is = by_decision (decided a p seen) is
      where
        by_decision : (x : Decision) → in_call b (gone_to p (rwlock_looked_by x)) ≡ Some d → Goal
        by_decision decisions.Take is =
            goes_again b p at.Load is (load_then l a (record p { at = at.Load }) v)
            (decides_none seen p.purpose p.retries s _)
        by_decision decisions.Mark is =
            goes_again b p at.Load is (load_then l a (record p { at = at.Load }) v)
            (decides_none seen p.purpose p.retries s _)
        by_decision decisions.Park is = none_again b p is
        by_decision (decisions.Refuse answer) is = none_again b p is
    at_again b p (at.Count seen) s is = by_aside (has_aside seen) is
      where
        by_aside : (x : Bool) → in_call b (gone_to p (if x then None else Some at.Look)) ≡ Some d → Goal
        by_aside true is = none_again b p is
        by_aside false is = goes_again b p at.Look is (look_then l a (record p { at = at.Look }) v)
            (counts_none seen p.purpose p.retries s _)
    at_again b p y s is = none_again b p is

    look_again : (x : Access) (b : Bool) (k : Taken) → call.HandOver x b (handing.Look k) ≡ d → Goal
    look_again access.Shared b k here = subst (λ c. call_then (call_next a c (Value v)) ≡ false) here refl
    look_again access.Upgradable b k here = subst (λ c. call_then (call_next a c (Value v)) ≡ false) here refl
    look_again access.Exclusive b k here = subst (λ c. call_then (call_next a c (Value v)) ≡ false) here refl

    hands_again : (x : Access) (b : Bool) (to : HandOverAt) → call_looked a (call.HandOver x b to) ≡ Some d
        → Goal
    hands_again access.Shared b (handing.Free seen) is = absurd cc
    hands_again access.Exclusive b (handing.Free seen) is = absurd cc
    hands_again access.Upgradable b (handing.Free seen) is =
        let here : call.HandOver access.Upgradable b handing.Load ≡ d = cc in
        subst (λ c. call_then (call_next a c (Value v)) ≡ false) here
        (hands_loads l a access.Upgradable b handing.Load v tt refl)
    hands_again x b (handing.Exchange k seen) is =
        let here : call.HandOver x b (handing.Look k) ≡ d = cc in look_again x b k here
    hands_again x b handing.Load is = absurd cc
    hands_again x b handing.Enter is = absurd cc
    hands_again x b handing.Take is = absurd cc
    hands_again x b (handing.Store k) is = absurd cc
    hands_again x b (handing.Look k) is = absurd cc
    hands_again x b (handing.Leave any given) is = absurd cc

    call_again : (c : RwLockCallPlace) → CallStands a c → call_looked a c ≡ Some d → Goal
    call_again (call.Plain p) s is = at_again false p p.at s.place is
    call_again (call.Bump p) s is = at_again true p p.at s.0.place is
    call_again (call.HandOver x b to) s is = hands_again x b to is
    call_again (call.PeekQueue x) s is = absurd cc
    call_again (call.Handed x how b to) s is = absurd cc

condvar_again : (p q : CondvarPlace) (v : ℕ) → condvar_looked p ≡ Some q
    → condvar_then (condvar_next q (Value v)) ≡ false
condvar_again (condvar.Wait m timed (wait.Lock late to)) q v is = by_mutex (mutex_looked to) refl is
  where
    by_mutex : (o : Option MutexPlace) → mutex_looked to ≡ o → in_lock m timed late o ≡ Some q
        → condvar_then (condvar_next q (Value v)) ≡ false
    by_mutex None e is = absurd cc
    by_mutex (Some x) e is = let here : condvar.Wait m timed (wait.Lock late x) ≡ q = cc in
        subst (λ p. condvar_then (condvar_next p (Value v)) ≡ false) here
        (lock_then m timed late (mutex_next x (Value v)) (mutex_again to x e v))
condvar_again (condvar.Notify all m (notify.Set seen)) q v is =
    let here : condvar.Notify all m notify.Mark ≡ q = cc in
    subst (λ p. condvar_then (condvar_next p (Value v)) ≡ false) here
    (notify_then all m (next_notify all m notify.Mark (Value v)))
condvar_again p q v is = absurd cc

-- a look in place of an exchange leads to no try
pub no_try_again : (w : State) (p q : Place) (v : ℕ) → FitsItsLock w p → looked_from p ≡ Some q
    → tries_word (next_place q (Value v)) ≡ false
no_try_again w Idle q v fits is = absurd cc
no_try_again w (Mutex l p) q v fits is = by_place (mutex_looked p) refl is
  where
    by_place : (o : Option MutexPlace) → mutex_looked p ≡ o → in_mutex l o ≡ Some q
        → tries_word (next_place q (Value v)) ≡ false
    by_place None e is = absurd cc
    by_place (Some x) e is = let here : Mutex l x ≡ q = cc in
        subst (λ y. tries_word (next_place y (Value v)) ≡ false) here
        (mutex_at l (mutex_next x (Value v)) (mutex_again p x e v))
no_try_again w (RwLock l a c) q v fits is = by_place (call_looked a c) refl is
  where
    by_place : (o : Option RwLockCallPlace) → call_looked a c ≡ o → in_rwlock l a o ≡ Some q
        → tries_word (next_place q (Value v)) ≡ false
    by_place None e is = absurd cc
    by_place (Some d) e is = let here : RwLock l a d ≡ q = cc in
        subst (λ y. tries_word (next_place y (Value v)) ≡ false) here
        (rwlock_at l a (call_next a d (Value v)) (call_again l a d v c fits.1 e))
no_try_again w (Once l p) q v fits is = by_place (once_looked p) is
  where
    by_place : (o : Option OncePlace) → in_once l o ≡ Some q → tries_word (next_place q (Value v)) ≡ false
    by_place None is = absurd cc
    by_place (Some x) is = let here : Once l x ≡ q = cc in
        subst (λ y. tries_word (next_place y (Value v)) ≡ false) here (once_at l (once_next x (Value v)))
no_try_again w (Condvar l p) q v fits is = by_place (condvar_looked p) refl is
  where
    by_place : (o : Option CondvarPlace) → condvar_looked p ≡ o → in_condvar l o ≡ Some q
        → tries_word (next_place q (Value v)) ≡ false
    by_place None e is = absurd cc
    by_place (Some x) e is = let here : Condvar l x ≡ q = cc in
        subst (λ y. tries_word (next_place y (Value v)) ≡ false) here
        (condvar_at l (condvar_next x (Value v)) (condvar_again p x v e))
no_try_again w (Semaphore l p) q v fits is = by_place (semaphore_looked p) is
  where
    by_place : (o : Option SemaphorePlace) → in_semaphore l o ≡ Some q
        → tries_word (next_place q (Value v)) ≡ false
    by_place None is = absurd cc
    by_place (Some x) is = let here : Semaphore l x ≡ q = cc in
        subst (λ y. tries_word (next_place y (Value v)) ≡ false) here
        (semaphore_at l (semaphore_next x (Value v)))

-- ---------------------------------------------------------------- where a thread has decided

-- there a thread that is where calls come to loads nothing
pub undecided : (p : Place) (l : ℕ) → IsSane p → act_of p ≡ act.Word l op.Load → has_decided p ≡ false
undecided (Once l (once.Look c again (look.Decide seen))) k sane load =
    absurd (by_course (course_of c seen) sane (ap is_load load))
  where
    by_course : (x : Course) → GoesOn x → is_load (course_act l seen x) ≡ true → ⊥
    by_course (course.Ends answer) goes h = absurd goes
    by_course course.Runs goes h = absurd cc
    by_course course.Marks goes h = absurd cc
    by_course course.Parks goes h = absurd cc
undecided (Semaphore l (semaphore.Try (tries.Decide seen))) k sane load =
    absurd (not_both _ cut (ap is_load load))
  where
    cut : is_load (act_of (Semaphore l (semaphore.Try (tries.Decide seen)))) ≡ false
    cut = ap (λ b. is_load (if b then act.Word l (op.Exchange seen (seen - 2)) else act.Word l op.Load)) sane
undecided Idle k sane load = refl
undecided (Mutex l p) k sane load = refl
undecided (RwLock l a c) k sane load = refl
undecided (Condvar l p) k sane load = refl
undecided (Once l p) k sane load = refl
undecided (Semaphore l p) k sane load = refl

by_at : (l : ℕ) (a : Admission) (p : RwLockPlace) (to : RwLockAt)
    → IsSaneAt to ⊎ (is_load (act_at l a p to) ≡ false)
by_at l a p (at.Decide seen) = inr (decides l a p.purpose seen (decided a p seen))
by_at l a p (at.Count seen) = inr (counts l a seen (has_aside seen))
by_at l a p to = inl tt

-- no look leads on from there
abbrev pub IsAlone : Place → Type 0
IsAlone p = (l seen : ℕ) → act_of p ≡ act.Word l op.Load → leads_to_exchange p seen ≡ false

pub no_load_alone : (p : Place) → is_load (act_of p) ≡ false → IsAlone p
no_load_alone p e l seen load = not_both _ e (ap is_load load)

-- a place is one that calls come to, or no look leads on from there
pub sane_or : (p : Place) → IsSane p ⊎ IsAlone p
sane_or Idle = inl tt
sane_or (Mutex l p) = inl tt
sane_or (RwLock l a (call.Plain p)) = elim (by_at l a p p.at) [
  | inl sane ↦ inl sane
  | inr e ↦ inr (no_load_alone (RwLock l a (call.Plain p)) e)
]
sane_or (RwLock l a (call.Bump p)) = elim (by_at l a p p.at) [
  | inl sane ↦ inl sane
  | inr e ↦ inr (no_load_alone (RwLock l a (call.Bump p)) e)
]
sane_or (RwLock l a (call.PeekQueue x)) = inl tt
sane_or (RwLock l a (call.HandOver access.Upgradable b (handing.Free seen))) =
    inr (no_load_alone (RwLock l a (call.HandOver access.Upgradable b (handing.Free seen))) refl)
sane_or (RwLock l a (call.HandOver access.Upgradable b to)) = inl tt
sane_or (RwLock l a (call.HandOver access.Shared b to)) = inl tt
sane_or (RwLock l a (call.HandOver access.Exclusive b to)) = inl tt
sane_or (RwLock l a (call.Handed x how b to)) = inl tt
sane_or (Once l (once.Look c again (look.Decide seen))) = inr (λ m v load. refl)
sane_or (Once l (once.Look c again to)) = inl tt
sane_or (Once l (once.Run forced to)) = inl tt
sane_or (Once l (once.GiveUp again to)) = inl tt
sane_or (Condvar l (condvar.Notify all m (notify.Set seen))) =
    inr (no_load_alone (Condvar l (condvar.Notify all m (notify.Set seen))) refl)
sane_or (Condvar l (condvar.Notify all m to)) = inl tt
sane_or (Condvar l (condvar.Wait m timed to)) = inl tt
sane_or (Condvar l (condvar.Look all)) = inl tt
sane_or (Semaphore l (semaphore.Try (tries.Decide seen))) = inr (λ m v load. refl)
sane_or (Semaphore l (semaphore.Try tries.Load)) = inl tt
sane_or (Semaphore l (semaphore.Acquire timed again to)) = inl tt
sane_or (Semaphore l (semaphore.Release to)) = inl tt
