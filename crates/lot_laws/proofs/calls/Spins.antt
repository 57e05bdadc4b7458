-- In place of each exchange by which a waiting call sets a bit its thread may look at the word once more.
use Rattle.lot_laws.proofs.Imports
use Imports.{ℕ, Bool, true, false, Option, Some, None, if◌then◌else◌, ◌==◌, ◌&&◌, not, ◌≡◌, ◌≢◌, ◌+◌, ◌-◌, ◌*◌}
use Imports.{◌%◌, ◌^◌, ◌⊎◌, is_some, inl, inr, refl, sym, ◌∙◌, ap, subst, arith, One, Access, has_aside}
use Imports.{is_done, is_marked, is_poisoned, is_running, is_plain_mutex, OnceCall, Rights, Rules, Sort}
use Imports.{rights_of, Line, Main, Second, has_readers, Act, SemaphorePlace, is_free, semaphore_act}
use Imports.{semaphore_respin, MutexPlace, Entry, is_locked, mutex_act, mutex_respin, OncePlace, Course}
use Imports.{course_act, course_of, once_act, once_respin, Admission, RwLockPlace, RwLockAt, ParkAt, WakeAt}
use Imports.{RwLockPurpose, Decision, act_at, decided as decides, decided_act, give_op, park_act, plus}
use Imports.{rollback_op, wake_act, want_at, word_taken, gone_to, is_mark, looking_at, RwLockCallPlace}
use Imports.{HandOverAt, call_respin, in_call, accept_act, call_act, hand_over_act, WaitAt, IsReached}
use Imports.{condvar_act, in_lock, Place, Idle, Mutex, RwLock, Once, Condvar, Semaphore, act_of, in_condvar}
use Imports.{in_mutex, in_once, in_rwlock, in_semaphore, respins_from, State, kind_at, place_at, sort_at}
use Imports.{IsWaitingCall, SetsBit, IsOwn, call_own, course_own, semaphore_own, call_at, call_state}
use Imports.{lock_state, FitsItsLock, IsInductive}
use Rattle.core_base.specs.declared.ops.Op.TheVariants as op
use Rattle.spec_locks.specs.declared.calls.Access.TheVariants as access
use Rattle.spec_locks.specs.declared.calls.Downgrade.TheVariants as downgrade
use Rattle.spec_locks.specs.declared.outcomes.Answer.TheVariants as answer
use Rattle.spec_locks.specs.Locks as locks
use Rattle.steps_base.specs.declared.acts.Act.TheVariants as act
use Rattle.steps_semaphore.specs.declared.places.SemaphorePlace.TheVariants as semaphore
use Rattle.steps_semaphore.specs.declared.acquire.AcquireAt.TheVariants as acquire
use Rattle.steps_semaphore.specs.declared.tries.TryAt.TheVariants as tries
use Rattle.steps_semaphore.specs.declared.release.ReleaseAt.TheVariants as release
use Rattle.steps_mutex.specs.declared.places.MutexPlace.TheVariants as mutex
use Rattle.steps_mutex.specs.declared.lock.LockAt.TheVariants as lock
use Rattle.steps_mutex.specs.declared.unlock.UnlockAt.TheVariants as unlock
use Rattle.steps_mutex.specs.declared.hand_off.HandOffAt.TheVariants as hand_off
use Rattle.steps_once.specs.declared.places.OncePlace.TheVariants as once
use Rattle.steps_once.specs.declared.give_up.GiveUpAt.TheVariants as give_up
use Rattle.steps_once.specs.declared.look.Course.TheVariants as course
use Rattle.steps_once.specs.declared.look.LookAt.TheVariants as look
use Rattle.steps_once.specs.declared.run.RunAt.TheVariants as run
use Rattle.steps_once.specs.OnceSteps as steps
use Rattle.steps_rwlock.specs.declared.places.RwLockAt.TheVariants as at
use Rattle.steps_rwlock.specs.declared.park.ParkAt.TheVariants as parking
use Rattle.steps_rwlock.specs.declared.release.WakeAt.TheVariants as waking
use Rattle.steps_rwlock.specs.declared.purposes.RwLockPurpose.TheVariants as purpose
use Rattle.steps_rwlock.specs.declared.enter.Decision.TheVariants as decisions
use Rattle.steps_rwlock_fair.specs.declared.places.RwLockCallPlace.TheVariants as fair
use Rattle.steps_rwlock_fair.specs.declared.hand_over.HandOverAt.TheVariants as handing
use Rattle.steps_rwlock_fair.specs.declared.handed.HandedAt.TheVariants as handed
use Rattle.steps_condvar.specs.declared.places.CondvarPlace.TheVariants as condvar
use Rattle.steps_condvar.specs.declared.wait.WaitAt.TheVariants as wait
use Rattle.lot_laws.proofs.machine.Parts.{plain_rules}
use Rattle.lot_laws.proofs.sites.StandsMoved.{mutex_rules}

-- ---------------------------------------------------------------- a mutex

decided_looks : (k s l seen now : ℕ) (e : Entry) (again locked one : Bool) → is_locked s ≡ locked
    → (s == 1) ≡ one
    → (if not locked then act.Word k (op.Exchange s (s + 1)) else if one then act.Word k (op.Exchange 1 3)
    else act.Enter (One (2 * k))) ≡ act.Word l (op.Exchange seen now)
    → (seen ≡ 1) × (now ≡ 3) → is_some (if one then Some (mutex.Lock e again lock.Load) else None) ≡ true
decided_looks k s l seen now e again false one f g is bit =
    absurd (let a : s ≡ seen = cc in let b : s + 1 ≡ now = cc in let c = bit.0 in let d = bit.1
    in omega arith)
decided_looks k s l seen now e again true true f g is bit = refl
decided_looks k s l seen now e again true false f g is bit = absurd cc

mutex_spins : (k : ℕ) (p : MutexPlace) (l seen now : ℕ) → mutex_act k p ≡ act.Word l (op.Exchange seen now)
    → (seen ≡ 1) × (now ≡ 3)
    → is_some (mutex_respin p) ≡ true
mutex_spins k (mutex.Lock e again (lock.Decide s)) l seen now is bit = decided_looks k s l seen now e again
    (is_locked s) (s == 1) refl refl is bit
mutex_spins k (mutex.Lock e again lock.First) l seen now is bit = absurd (let a : 1 ≡ now = cc in let b =
    bit.1 in omega arith)
mutex_spins k (mutex.Lock e again lock.Load) l seen now is bit = absurd cc
mutex_spins k (mutex.Lock e again lock.Check) l seen now is bit = absurd cc
mutex_spins k (mutex.Lock e again (lock.Leave parked)) l seen now is bit = absurd cc
mutex_spins k (mutex.Lock e again lock.Asleep) l seen now is bit = absurd cc
mutex_spins k (mutex.Lock e again (lock.Taken by)) l seen now is bit = absurd cc
mutex_spins k (mutex.Lock e again (lock.Handed by)) l seen now is bit = absurd cc
mutex_spins k (mutex.Lock e again lock.Accept) l seen now is bit = absurd cc
mutex_spins k (mutex.Lock e again lock.Remove) l seen now is bit = absurd cc
mutex_spins k (mutex.Lock e again lock.Clear) l seen now is bit = absurd cc
mutex_spins k (mutex.Lock e again lock.GiveUp) l seen now is bit = absurd cc
mutex_spins k mutex.TryLock l seen now is bit = absurd cc
mutex_spins k (mutex.Unlock unlock.Subtract) l seen now is bit = absurd cc
mutex_spins k (mutex.Unlock unlock.Enter) l seen now is bit = absurd cc
mutex_spins k (mutex.Unlock unlock.Take) l seen now is bit = absurd cc
mutex_spins k (mutex.Unlock (unlock.Clear any)) l seen now is bit = absurd cc
mutex_spins k (mutex.Unlock (unlock.Leave any)) l seen now is bit = absurd cc
mutex_spins k mutex.UnlockFair l seen now is bit = absurd (let a : 0 ≡ now = cc in let b = bit.1
    in omega arith)
mutex_spins k mutex.Bump l seen now is bit = absurd cc
mutex_spins k (mutex.HandOff b hand_off.Enter) l seen now is bit = absurd cc
mutex_spins k (mutex.HandOff b hand_off.Take) l seen now is bit = absurd cc
mutex_spins k (mutex.HandOff b (hand_off.Store true none_left)) l seen now is bit = absurd cc
mutex_spins k (mutex.HandOff b (hand_off.Store false none_left)) l seen now is bit = absurd cc
mutex_spins k (mutex.HandOff b (hand_off.Leave any)) l seen now is bit = absurd cc

mutex_word : (k : ℕ) (p : MutexPlace) (l seen now : ℕ) → mutex_act k p ≡ act.Word l (op.Exchange seen now)
    → k ≡ l
mutex_word k (mutex.Lock e again (lock.Decide s)) l seen now is = by_word (is_locked s) (s == 1) is
  where
    by_word : (a b : Bool) → (if not a then act.Word k (op.Exchange s (s + 1)) else if b then act.Word k
        (op.Exchange 1 3) else act.Enter (One (2 * k))) ≡ act.Word l (op.Exchange seen now) → k ≡ l
    by_word false b e = cc
    by_word true true e = cc
    by_word true false e = absurd cc
mutex_word k (mutex.Lock e again lock.First) l seen now is = cc
mutex_word k (mutex.Lock e again lock.Load) l seen now is = absurd cc
mutex_word k (mutex.Lock e again lock.Check) l seen now is = absurd cc
mutex_word k (mutex.Lock e again (lock.Leave parked)) l seen now is = absurd cc
mutex_word k (mutex.Lock e again lock.Asleep) l seen now is = absurd cc
mutex_word k (mutex.Lock e again (lock.Taken by)) l seen now is = absurd cc
mutex_word k (mutex.Lock e again (lock.Handed by)) l seen now is = absurd cc
mutex_word k (mutex.Lock e again lock.Accept) l seen now is = absurd cc
mutex_word k (mutex.Lock e again lock.Remove) l seen now is = absurd cc
mutex_word k (mutex.Lock e again lock.Clear) l seen now is = absurd cc
mutex_word k (mutex.Lock e again lock.GiveUp) l seen now is = absurd cc
mutex_word k mutex.TryLock l seen now is = absurd cc
mutex_word k (mutex.Unlock unlock.Subtract) l seen now is = absurd cc
mutex_word k (mutex.Unlock unlock.Enter) l seen now is = absurd cc
mutex_word k (mutex.Unlock unlock.Take) l seen now is = absurd cc
mutex_word k (mutex.Unlock (unlock.Clear any)) l seen now is = absurd cc
mutex_word k (mutex.Unlock (unlock.Leave any)) l seen now is = absurd cc
mutex_word k mutex.UnlockFair l seen now is = cc
mutex_word k mutex.Bump l seen now is = absurd cc
mutex_word k (mutex.HandOff b hand_off.Enter) l seen now is = absurd cc
mutex_word k (mutex.HandOff b hand_off.Take) l seen now is = absurd cc
mutex_word k (mutex.HandOff b (hand_off.Store true none_left)) l seen now is = absurd cc
mutex_word k (mutex.HandOff b (hand_off.Store false none_left)) l seen now is = absurd cc
mutex_word k (mutex.HandOff b (hand_off.Leave any)) l seen now is = absurd cc

-- ---------------------------------------------------------------- a reader-writer lock

abbrev SetsShared : ℕ → ℕ → Type 0
SetsShared seen now = (has_aside seen ≡ false) × ((now ≡ plus seen 1) ⊎ (now ≡ plus seen 2))

shared_bit : (sort : Sort) (seen now : ℕ) → has_readers sort ≡ true → SetsBit sort seen now
    → SetsShared seen now
shared_bit locks.Normal seen now h bit = bit
shared_bit locks.Recursive seen now h bit = bit
shared_bit sort seen now h bit = absurd cc

-- a thread that takes the right sets no bit
adds : (seen k : ℕ) → ((k ≡ 16) ⊎ ((k ≡ 20) ⊎ (k ≡ 8))) → plus seen k ≢ plus seen 1
adds seen k (inl e) f = let g : (seen + k) % 2 ^ 64 ≡ (seen + 1) % 2 ^ 64 = f in omega arith
adds seen k (inr (inl e)) f = let g : (seen + k) % 2 ^ 64 ≡ (seen + 1) % 2 ^ 64 = f in omega arith
adds seen k (inr (inr e)) f = let g : (seen + k) % 2 ^ 64 ≡ (seen + 1) % 2 ^ 64 = f in omega arith

adds_two : (seen k : ℕ) → ((k ≡ 16) ⊎ ((k ≡ 20) ⊎ (k ≡ 8))) → plus seen k ≢ plus seen 2
adds_two seen k (inl e) f = let g : (seen + k) % 2 ^ 64 ≡ (seen + 2) % 2 ^ 64 = f in omega arith
adds_two seen k (inr (inl e)) f = let g : (seen + k) % 2 ^ 64 ≡ (seen + 2) % 2 ^ 64 = f in omega arith
adds_two seen k (inr (inr e)) f = let g : (seen + k) % 2 ^ 64 ≡ (seen + 2) % 2 ^ 64 = f in omega arith

takes : (seen k : ℕ) → ((k ≡ 16) ⊎ ((k ≡ 20) ⊎ (k ≡ 8)))
    → ((plus seen k ≡ plus seen 1) ⊎ (plus seen k ≡ plus seen 2)) → ⊥
takes seen k h (inl e) = adds seen k h e
takes seen k h (inr e) = adds_two seen k h e

sets_none : (q : RwLockPurpose) (seen : ℕ) → ((word_taken q seen ≡ plus seen 1)
    ⊎ (word_taken q seen ≡ plus seen 2)) → ⊥
sets_none (purpose.Upgrade how) seen (inl e) = let g : (seen + (2 ^ 64 - 12)) % 2 ^ 64 ≡ (seen + 1) % 2 ^ 64 =
    e in omega arith
sets_none (purpose.Upgrade how) seen (inr e) = let g : (seen + (2 ^ 64 - 12)) % 2 ^ 64 ≡ (seen + 2) % 2 ^ 64 =
    e in omega arith
sets_none (purpose.Enter access.Shared how) seen h = takes seen 16 (inl refl) h
sets_none (purpose.Enter access.Upgradable how) seen h = takes seen 20 (inr (inl refl)) h
sets_none (purpose.Enter access.Exclusive how) seen h = takes seen 8 (inr (inr refl)) h
sets_none (purpose.Release access.Shared) seen h = takes seen 16 (inl refl) h
sets_none (purpose.Release access.Upgradable) seen h = takes seen 20 (inr (inl refl)) h
sets_none (purpose.Release access.Exclusive) seen h = takes seen 8 (inr (inr refl)) h
sets_none (purpose.Downgrade downgrade.ToShared) seen h = takes seen 8 (inr (inr refl)) h
sets_none (purpose.Downgrade downgrade.ToUpgradable) seen h = takes seen 8 (inr (inr refl)) h
sets_none (purpose.Downgrade downgrade.UpgradableToShared) seen h = takes seen 20 (inr (inl refl)) h

module _ (k : ℕ) (a : Admission) (p : RwLockPlace) (l seen now : ℕ) (bit : SetsShared seen now) where
  decision_spins : (s : ℕ) (d : Decision) (aside : Bool) → has_aside s ≡ aside → decided_act k p.purpose s d
      ≡ act.Word l (op.Exchange seen now)
      → is_some (if is_mark d && not aside then Some at.Load else None) ≡ true
  decision_spins s decisions.Take aside e is = absurd (let f : s ≡ seen = cc in let g : word_taken p.purpose s
      ≡ now = cc in
      sets_none p.purpose seen (elim bit.1 [
        | inl one ↦ inl (ap (word_taken p.purpose) (sym f) ∙ g ∙ one)
        | inr two ↦ inr (ap (word_taken p.purpose) (sym f) ∙ g ∙ two)
      ]))
  decision_spins s decisions.Mark false e is = refl
  decision_spins s decisions.Mark true e is = absurd (let f : s ≡ seen = cc in let g : true ≡ false = sym e
      ∙ ap has_aside f ∙ bit.0 in cc)
  decision_spins s decisions.Park aside e is = absurd cc
  decision_spins s (decisions.Refuse x) aside e is = absurd cc

  parks : (m : Line) (to : ParkAt) → park_act k a (want_at p) m to ≡ act.Word l (op.Exchange seen now) → ⊥
  parks m parking.Check e = cc
  parks m (parking.Leave b) e = cc
  parks m parking.Asleep e = cc
  parks m (parking.Taken by) e = cc
  parks m parking.Remove e = cc
  parks Main parking.Clear e = cc
  parks Second parking.Clear e = cc
  parks m parking.GiveUp e = cc

  wakes : (m : Line) (to : WakeAt) → wake_act k a p.purpose m to ≡ act.Word l (op.Exchange seen now) → ⊥
  wakes m waking.Enter e = cc
  wakes m waking.Take e = cc
  wakes Main (waking.Clear any) e = cc
  wakes Second (waking.Clear any) e = cc
  wakes m (waking.Leave any) e = cc

  gives : (q : RwLockPurpose) → act.Word k (give_op q) ≡ act.Word l (op.Exchange seen now) → ⊥
  gives (purpose.Enter x how) e = cc
  gives (purpose.Release x) e = cc
  gives (purpose.Downgrade downgrade.ToShared) e = cc
  gives (purpose.Downgrade downgrade.ToUpgradable) e = cc
  gives (purpose.Downgrade downgrade.UpgradableToShared) e = cc
  gives (purpose.Upgrade how) e = cc

  rolls : (q : RwLockPurpose) → act.Word k (rollback_op q) ≡ act.Word l (op.Exchange seen now) → ⊥
  rolls (purpose.Enter x how) e = cc
  rolls (purpose.Release x) e = cc
  rolls (purpose.Downgrade d) e = cc
  rolls (purpose.Upgrade how) e = cc

  rwlock_spins : (to : RwLockAt) → act_at k a p to ≡ act.Word l (op.Exchange seen now)
      → is_some (looking_at a p to) ≡ true
  rwlock_spins (at.Decide s) is = decision_spins s (decides a p s) (has_aside s) refl is
  rwlock_spins (at.Count s) is = refl
  rwlock_spins at.First is = absurd (let f : 0 ≡ seen = cc in let g : 8 ≡ now = cc
      in takes 0 8 (inr (inr refl)) (elim bit.1 [
        | inl one ↦ inl (g ∙ one ∙ ap (λ s. plus s 1) (sym f))
        | inr two ↦ inr (g ∙ two ∙ ap (λ s. plus s 2) (sym f))
      ]))
  rwlock_spins at.Load is = absurd cc
  rwlock_spins (at.Park to) is = absurd (parks Main to is)
  rwlock_spins at.Look is = absurd cc
  rwlock_spins at.Marked is = absurd cc
  rwlock_spins (at.Aside to) is = absurd (parks Second to is)
  rwlock_spins at.RollBack is = absurd (rolls p.purpose is)
  rwlock_spins at.GiveWay is = absurd (gives p.purpose is)
  rwlock_spins (at.Wake m to) is = absurd (wakes m to is)

-- ---------------------------------------------------------------- a `Once`, and a semaphore

-- a run begins only while nobody runs
runs_alone : (c : OnceCall) (v : ℕ) → course_of c v ≡ course.Runs → is_running v ≡ false
runs_alone c v e = by_tests (is_done v) (is_poisoned v && not (steps.is_forced c)) (steps.runs c)
    (is_running v) (is_marked v) e
  where
    by_tests : (a b n r m : Bool) → (if a then course.Ends (steps.when_done c) else if b then course.Ends
        answer.Poisoned else if n && not r then course.Runs else if m then course.Parks else course.Marks)
        ≡ course.Runs
        → r ≡ false
    by_tests true b n r m e = absurd cc
    by_tests false true n r m e = absurd cc
    by_tests false false true false m e = refl
    by_tests false false true true true e = absurd cc
    by_tests false false true true false e = absurd cc
    by_tests false false false r true e = absurd cc
    by_tests false false false r false e = absurd cc

course_spins : (k l s seen now : ℕ) (c : Course) (running : Bool) → is_running s ≡ running
    → (c ≡ course.Runs → running ≡ false) → course_act k s c ≡ act.Word l (op.Exchange seen now)
    → (is_running seen ≡ true) × (now ≡ steps.marked seen)
    → is_some (if running && steps.is_mark c then Some look.Load else None) ≡ true
course_spins k l s seen now course.Marks true e alone is bit = refl
course_spins k l s seen now course.Marks false e alone is bit = absurd (let f : s ≡ seen = cc
    in let g : false ≡ true = sym e ∙ ap is_running f ∙ bit.0 in cc)
course_spins k l s seen now course.Runs running e alone is bit = absurd (let f : s ≡ seen = cc
    in let g : false ≡ true = sym (alone refl) ∙ sym e ∙ ap is_running f ∙ bit.0 in cc)
course_spins k l s seen now (course.Ends x) running e alone is bit = absurd cc
course_spins k l s seen now course.Parks running e alone is bit = absurd cc

once_there : (k : ℕ) (c : OnceCall) (again b : Bool) → is_some (if b then Some look.Load else None) ≡ true
    → is_some (in_once k (if b then Some (once.Look c again look.Load) else None)) ≡ true
once_there k c again true h = refl
once_there k c again false h = absurd cc

once_spins : (k : ℕ) (p : OncePlace) (l seen now : ℕ) → once_act k p ≡ act.Word l (op.Exchange seen now)
    → (is_running seen ≡ true) × (now ≡ steps.marked seen)
    → is_some (in_once k (once_respin p)) ≡ true
once_spins k (once.Look c again (look.Decide s)) l seen now is bit =
    once_there k c again (is_running s && steps.is_mark (course_of c s)) (course_spins k l s seen now
    (course_of c s) (is_running s) refl (runs_alone c s) is bit)
once_spins k (once.Look c again look.Load) l seen now is bit = absurd cc
once_spins k (once.Look c again look.Check) l seen now is bit = absurd cc
once_spins k (once.Look c again (look.Leave b)) l seen now is bit = absurd cc
once_spins k (once.Look c again look.Asleep) l seen now is bit = absurd cc
once_spins k (once.Look c again (look.Taken by)) l seen now is bit = absurd cc
once_spins k (once.Run forced (run.Closure b)) l seen now is bit = absurd cc
once_spins k (once.Run forced (run.Close b)) l seen now is bit = absurd cc
once_spins k (once.Run forced (run.Enter b)) l seen now is bit = absurd cc
once_spins k (once.Run forced (run.Take b)) l seen now is bit = absurd cc
once_spins k (once.Run forced (run.Leave b any)) l seen now is bit = absurd cc
once_spins k (once.GiveUp again give_up.Remove) l seen now is bit = absurd cc
once_spins k (once.GiveUp again give_up.Clear) l seen now is bit = absurd cc
once_spins k (once.GiveUp again give_up.Leave) l seen now is bit = absurd cc

takes_permit : (k s l seen now : ℕ) (timed again free none : Bool) → is_free s ≡ free → (s == 0) ≡ none
    → (if free then act.Word k (op.Exchange s (s - 2)) else if none then act.Word k (op.Exchange 0 1)
    else act.Enter (One (2 * k))) ≡ act.Word l (op.Exchange seen now)
    → (seen ≡ 0) × (now ≡ 1) → is_some
    (in_semaphore k (if none then Some (semaphore.Acquire timed again acquire.Load) else None)) ≡ true
takes_permit k s l seen now timed again true none f g is bit = absurd (let a : s - 2 ≡ now = cc
    in let b : s ≡ seen = cc in let c = bit.0 in let d = bit.1 in omega arith)
takes_permit k s l seen now timed again false true f g is bit = refl
takes_permit k s l seen now timed again false false f g is bit = absurd cc

tries_permit : (k s l seen now : ℕ) (free : Bool) → (if free then act.Word k (op.Exchange s (s - 2))
    else act.Word k op.Load) ≡ act.Word l (op.Exchange seen now)
    → (seen ≡ 0) × (now ≡ 1) → ⊥
tries_permit k s l seen now true is bit = let a : s - 2 ≡ now = cc in let b : s ≡ seen = cc in let c = bit.0
    in let d = bit.1 in omega arith
tries_permit k s l seen now false is bit = cc

semaphore_spins : (k : ℕ) (p : SemaphorePlace) (l seen now : ℕ) → semaphore_act k p ≡ act.Word l
    (op.Exchange seen now) → (seen ≡ 0) × (now ≡ 1)
    → is_some (in_semaphore k (semaphore_respin p)) ≡ true
semaphore_spins k (semaphore.Acquire timed again (acquire.Decide s)) l seen now is bit =
    takes_permit k s l seen now timed again (is_free s) (s == 0) refl refl is bit
semaphore_spins k (semaphore.Acquire timed again acquire.Load) l seen now is bit = absurd cc
semaphore_spins k (semaphore.Acquire timed again acquire.Check) l seen now is bit = absurd cc
semaphore_spins k (semaphore.Acquire timed again (acquire.Leave parked)) l seen now is bit = absurd cc
semaphore_spins k (semaphore.Acquire timed again acquire.Asleep) l seen now is bit = absurd cc
semaphore_spins k (semaphore.Acquire timed again (acquire.Taken by)) l seen now is bit = absurd cc
semaphore_spins k (semaphore.Acquire timed again acquire.Remove) l seen now is bit = absurd cc
semaphore_spins k (semaphore.Acquire timed again acquire.Clear) l seen now is bit = absurd cc
semaphore_spins k (semaphore.Acquire timed again acquire.GiveUp) l seen now is bit = absurd cc
semaphore_spins k (semaphore.Try (tries.Decide s)) l seen now is bit =
    absurd (tries_permit k s l seen now (is_free s) is bit)
semaphore_spins k (semaphore.Try tries.Load) l seen now is bit = absurd cc
semaphore_spins k (semaphore.Release release.Add) l seen now is bit = absurd cc
semaphore_spins k (semaphore.Release release.Enter) l seen now is bit = absurd cc
semaphore_spins k (semaphore.Release release.Take) l seen now is bit = absurd cc
semaphore_spins k (semaphore.Release (release.Clear any)) l seen now is bit = absurd cc
semaphore_spins k (semaphore.Release (release.Leave any)) l seen now is bit = absurd cc

-- ---------------------------------------------------------------- the lock of an act

-- an act on a word is on that of the lock that the thread calls
on_own : (k : ℕ) (a : Act) → IsOwn k a → (l seen now : ℕ) → a ≡ act.Word l (op.Exchange seen now) → k ≡ l
on_own k (act.Word j f) own l seen now e = let g : j ≡ l = cc in sym own ∙ g
on_own k (act.HandOver j f) own l seen now e = absurd cc
on_own k (act.Enter keys) own l seen now e = absurd cc
on_own k (act.Park j key check x) own l seen now e = absurd cc
on_own k (act.Stand key x) own l seen now e = absurd cc
on_own k (act.Take key x) own l seen now e = absurd cc
on_own k (act.Requeue from to how) own l seen now e = absurd cc
on_own k (act.Remove key) own l seen now e = absurd cc
on_own k (act.Leave keys x) own l seen now e = absurd cc
on_own k act.Rest own l seen now e = absurd cc
on_own k act.Sleep own l seen now e = absurd cc
on_own k act.Accept own l seen now e = absurd cc
on_own k (act.Closure x) own l seen now e = absurd cc
on_own k (act.End x) own l seen now e = absurd cc

once_word : (k : ℕ) (p : OncePlace) (l seen now : ℕ) → once_act k p ≡ act.Word l (op.Exchange seen now)
    → k ≡ l
once_word k (once.Look c again (look.Decide s)) l seen now e = on_own k (course_act k s (course_of c s))
    (course_own k s (course_of c s)) l seen now e
once_word k (once.Look c again look.Load) l seen now e = cc
once_word k (once.Look c again look.Check) l seen now e = absurd cc
once_word k (once.Look c again (look.Leave b)) l seen now e = absurd cc
once_word k (once.Look c again look.Asleep) l seen now e = absurd cc
once_word k (once.Look c again (look.Taken by)) l seen now e = absurd cc
once_word k (once.Run forced (run.Closure b)) l seen now e = absurd cc
once_word k (once.Run forced (run.Close b)) l seen now e = cc
once_word k (once.Run forced (run.Enter b)) l seen now e = absurd cc
once_word k (once.Run forced (run.Take b)) l seen now e = absurd cc
once_word k (once.Run forced (run.Leave b any)) l seen now e = absurd cc
once_word k (once.GiveUp again give_up.Remove) l seen now e = absurd cc
once_word k (once.GiveUp again give_up.Clear) l seen now e = cc
once_word k (once.GiveUp again give_up.Leave) l seen now e = absurd cc

-- ---------------------------------------------------------------- any place

mutex_there : (k : ℕ) (o : Option MutexPlace) → is_some o ≡ true → is_some (in_mutex k o) ≡ true
mutex_there k (Some x) h = refl
mutex_there k None h = absurd cc

rwlock_there : (k : ℕ) (a : Admission) (p : RwLockPlace) (o : Option RwLockAt) (b : Bool) → is_some o ≡ true
    → is_some (in_rwlock k a (in_call b (gone_to p o))) ≡ true
rwlock_there k a p (Some x) b h = refl
rwlock_there k a p None b h = absurd cc

condvar_there : (k m : ℕ) (timed late : Bool) (o : Option MutexPlace) → is_some o ≡ true
    → is_some (in_condvar k (in_lock m timed late o)) ≡ true
condvar_there k m timed late (Some x) h = refl
condvar_there k m timed late None h = absurd cc

module _ (w : State) (r : ℕ → Rights) (l seen now : ℕ) (bit : SetsBit (sort_at w l) seen now) where
  bit_at : (k : ℕ) (sort : Sort) → k ≡ l → sort_at w k ≡ sort → SetsBit sort seen now
  bit_at k sort own e = subst (λ x. SetsBit x seen now) (ap (sort_at w) (sym own) ∙ e) bit

  -- a fair release gives its right up by an exchange, and waits for nothing then
  hands_over : (k : ℕ) (a : Admission) (x : Access) (bumps : Bool) (to : HandOverAt)
      → IsWaitingCall (call_state (RwLock k a (fair.HandOver x bumps to)) r) l
      → hand_over_act k a x to ≡ act.Word l (op.Exchange seen now) → ⊥
  hands_over k a x false to waits e = waits.0
  hands_over k a x true (handing.Free s) waits e = waits.1 (waits.0, refl)
  hands_over k a x true (handing.Exchange c s) waits e = waits.1 (waits.0, refl)
  hands_over k a x true handing.Load waits e = cc
  hands_over k a x true handing.Enter waits e = cc
  hands_over k a x true handing.Take waits e = cc
  hands_over k a x true (handing.Store c) waits e = cc
  hands_over k a x true (handing.Look c) waits e = cc
  hands_over k a x true (handing.Leave any given) waits e = cc

  accepts : (k : ℕ) (x : Access) → accept_act k x ≡ act.Word l (op.Exchange seen now) → ⊥
  accepts k access.Shared e = cc
  accepts k access.Upgradable e = cc
  accepts k access.Exclusive e = cc

  of_rwlock : (k : ℕ) (a : Admission) (c : RwLockCallPlace) → k ≡ l → has_readers (sort_at w k) ≡ true
      → IsWaitingCall (call_state (RwLock k a c) r) l
      → call_act k a c ≡ act.Word l (op.Exchange seen now) → is_some (in_rwlock k a (call_respin a c)) ≡ true
  of_rwlock k a (fair.Plain p) own readers waits is = rwlock_there k a p (looking_at a p p.at) false
      (rwlock_spins k a p l seen now (shared_bit (sort_at w k) seen now readers
      (bit_at k (sort_at w k) own refl)) p.at is)
  of_rwlock k a (fair.Bump p) own readers waits is = rwlock_there k a p (looking_at a p p.at) true
      (rwlock_spins k a p l seen now (shared_bit (sort_at w k) seen now readers
      (bit_at k (sort_at w k) own refl)) p.at is)
  of_rwlock k a (fair.PeekQueue x) own readers waits is = absurd cc
  of_rwlock k a (fair.HandOver x bumps to) own readers waits is = absurd (hands_over k a x bumps to waits is)
  of_rwlock k a (fair.Handed x how b (handed.Asleep by alone)) own readers waits is = absurd cc
  of_rwlock k a (fair.Handed x how b handed.Accept) own readers waits is = absurd (accepts k x is)

  of_wait : (k m : ℕ) (timed : Bool) (at : WaitAt) → IsReached (condvar.Wait m timed at)
      → is_plain_mutex (kind_at w m) ≡ true → sort_at w k ≡ locks.Condvar
      → condvar_act k (condvar.Wait m timed at) ≡ act.Word l (op.Exchange seen now)
      → is_some (respins_from (Condvar k (condvar.Wait m timed at))) ≡ true
  of_wait k m timed (wait.Lock late at) reached plain sort is = condvar_there k m timed late
      (mutex_respin at) (mutex_spins m at l seen now is (bit_at m locks.Mutex (mutex_word m at l seen now is)
      (ap (λ (x : Rules). x.sort) (plain_rules (kind_at w m) plain))))
  of_wait k m timed wait.Show reached plain sort is = absurd (let own : k ≡ l = cc
      in bit_at k locks.Condvar own sort)
  of_wait k m timed wait.Hide reached plain sort is = absurd cc
  of_wait k m timed (wait.Release st (mutex.Unlock unlock.Subtract)) reached plain sort is = absurd cc
  of_wait k m timed (wait.Release st (mutex.Unlock unlock.Enter)) reached plain sort is = absurd cc
  of_wait k m timed (wait.Release st (mutex.Unlock unlock.Take)) reached plain sort is = absurd cc
  of_wait k m timed (wait.Release st (mutex.Unlock (unlock.Clear any))) reached plain sort is = absurd cc
  of_wait k m timed (wait.Release st (mutex.Unlock (unlock.Leave any))) reached plain sort is = absurd cc
  of_wait k m timed (wait.Release st at) reached plain sort is = absurd reached.0
  of_wait k m timed wait.Enter reached plain sort is = absurd cc
  of_wait k m timed wait.Stand reached plain sort is = absurd cc
  of_wait k m timed wait.Leave reached plain sort is = absurd cc
  of_wait k m timed wait.Refuse reached plain sort is = absurd cc
  of_wait k m timed (wait.Asleep st) reached plain sort is = absurd cc
  of_wait k m timed wait.Remove reached plain sort is = absurd cc
  of_wait k m timed wait.GiveUp reached plain sort is = absurd cc
  of_wait k m timed wait.RemoveMoved reached plain sort is = absurd cc
  of_wait k m timed (wait.GiveUpMoved none_left) reached plain sort is = absurd cc

  place_spins : (p : Place) → FitsItsLock w p → IsWaitingCall (call_state p r) l
      → act_of p ≡ act.Word l (op.Exchange seen now) → is_some (respins_from p) ≡ true
  place_spins Idle fits waits is = absurd cc
  place_spins (Mutex k at) fits waits is = mutex_there k (mutex_respin at)
      (mutex_spins k at l seen now is (bit_at k locks.Mutex (mutex_word k at l seen now is)
      (ap (λ (x : Rules). x.sort) (mutex_rules (kind_at w k) fits))))
  place_spins (RwLock k a c) fits waits is =
      of_rwlock k a c (on_own k (call_act k a c) (call_own k a c) l seen now is) fits.0.0 waits is
  place_spins (Once k at) fits waits is =
      once_spins k at l seen now is (bit_at k locks.Once (once_word k at l seen now is) fits)
  place_spins (Semaphore k at) fits waits is = semaphore_spins k at l seen now is
      (bit_at k locks.Semaphore (on_own k (semaphore_act k at) (semaphore_own k at) l seen now is) fits.0)
  place_spins (Condvar k (condvar.Wait m timed at)) fits waits is = of_wait k m timed at fits.reached
      (fits.mutex m refl) fits.sort is
  place_spins (Condvar k (condvar.Look all)) fits waits is = absurd cc
  place_spins (Condvar k (condvar.Notify all m at)) fits waits is = absurd waits.0

pub spins : (w : State) → IsInductive w → (t l seen now : ℕ) → IsWaitingCall (call_at w t) l
    → act_of (place_at w t) ≡ act.Word l (op.Exchange seen now) → SetsBit (sort_at w l) seen now
    → is_some (respins_from (place_at w t)) ≡ true
spins w inductive t l seen now waits is bit = place_spins w (λ k. rights_of (lock_state w k) t) l seen now bit
    (place_at w t) (inductive.stands.calls t) waits is
