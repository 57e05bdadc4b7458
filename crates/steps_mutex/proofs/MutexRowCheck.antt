-- Each place of a mutex says of its thread what is promised of it, by the test of its row.
use Rattle.std.proofs.Common.{ℕ, Bool, true, false, if◌then◌else◌, ◌==◌, not, ◌&&◌, ◌≡◌, ◌*◌, ◌+◌, refl}
use Rattle.core_base.specs.declared.keys.Keys.TheVariants.{One}
use Rattle.core_base.specs.declared.keys.Line.TheVariants.{Main}
use Rattle.core_base.specs.declared.ops.Op.TheVariants as op
use Rattle.steps_base.specs.declared.acts.Act.TheVariants as act
use Rattle.spec_locks.specs.Locks.{Mutex}
use Rattle.spec_locks.specs.Purposes.{lock_for}
use Rattle.steps_mutex.specs.declared.lock.Entry.{Entry}
use Rattle.steps_mutex.specs.declared.lock.Entry.TheVariants as entries
use Rattle.steps_mutex.specs.declared.lock.LockAt.{LockAt}
use Rattle.steps_mutex.specs.declared.lock.LockAt.TheVariants as lock
use Rattle.steps_mutex.specs.declared.unlock.UnlockAt.{UnlockAt}
use Rattle.steps_mutex.specs.declared.unlock.UnlockAt.TheVariants as unlock
use Rattle.steps_mutex.specs.declared.hand_off.HandOffAt.{HandOffAt}
use Rattle.steps_mutex.specs.declared.hand_off.HandOffAt.TheVariants as hand_off
use Rattle.steps_mutex.specs.declared.places.MutexPlace.{MutexPlace}
use Rattle.steps_mutex.specs.declared.places.MutexPlace.TheVariants.{Lock, Unlock, HandOff}
use Rattle.steps_mutex.specs.MutexSteps.{hand_off_act, is_locked, lock_act, mutex_act, unlock_act}
use Rattle.steps_mutex.specs.MutexLaws.{MutexRowsKeep, mutex_row}
use Rattle.steps_base.proofs.RowCheck.{Going, Into, HandsOver, Asleep, Other, GoesAs, keeps_row, by_test}
use Rattle.steps_base.proofs.RowCheck.{both}

-- ---------------------------------------------------------------- the next act of a thread

abbrev decided_going : Bool → Bool → Going
decided_going a b = if not a then Other else if b then Other else Into Main

abbrev lock_going : LockAt → Going
lock_going (lock.Decide seen) = decided_going (is_locked seen) (seen == 1)
lock_going lock.Asleep = Asleep
lock_going (lock.Taken by) = Asleep
lock_going (lock.Handed by) = Asleep
lock_going at = Other

abbrev unlock_going : UnlockAt → Going
unlock_going unlock.Enter = Into Main
unlock_going at = Other

abbrev hand_off_going : HandOffAt → Going
hand_off_going hand_off.Enter = Into Main
hand_off_going (hand_off.Leave true) = HandsOver
hand_off_going at = Other

abbrev going : MutexPlace → Going
going (Lock e r at) = lock_going at
going (Unlock at) = unlock_going at
going (HandOff b at) = hand_off_going at
going at = Other

decided_goes : (l s : ℕ) (a b : Bool) → GoesAs l
    (if not a then act.Word l (op.Exchange s (s + 1)) else if b then act.Word l (op.Exchange 1 3)
    else act.Enter (One (2 * l))) (decided_going a b)
decided_goes l s false b = record { acts = refl; awake = λ e. cc; elsewhere = λ m e. cc }
decided_goes l s true true = record { acts = refl; awake = λ e. cc; elsewhere = λ m e. cc }
decided_goes l s true false = refl

lock_goes : (l : ℕ) (at : LockAt) → GoesAs l (lock_act l at) (lock_going at)
lock_goes l (lock.Decide seen) = decided_goes l seen (is_locked seen) (seen == 1)
lock_goes l lock.Asleep = refl
lock_goes l (lock.Taken by) = refl
lock_goes l (lock.Handed by) = refl
lock_goes l at = record { acts = refl; awake = λ e. cc; elsewhere = λ m e. cc }

unlock_goes : (l : ℕ) (at : UnlockAt) → GoesAs l (unlock_act l at) (unlock_going at)
unlock_goes l unlock.Enter = refl
unlock_goes l at = record { acts = refl; awake = λ e. cc; elsewhere = λ m e. cc }

hand_off_goes : (l : ℕ) (at : HandOffAt) → GoesAs l (hand_off_act l at) (hand_off_going at)
hand_off_goes l hand_off.Enter = refl
hand_off_goes l (hand_off.Leave true) = refl
hand_off_goes l (hand_off.Store true none_left) = record {
  acts = refl;
  awake = λ e. cc;
  elsewhere = λ m e. cc;
}
hand_off_goes l (hand_off.Store false none_left) = record {
  acts = refl;
  awake = λ e. cc;
  elsewhere = λ m e. cc;
}
hand_off_goes l at = record { acts = refl; awake = λ e. cc; elsewhere = λ m e. cc }

goes : (l : ℕ) (at : MutexPlace) → GoesAs l (mutex_act l at) (going at)
goes l (Lock e r at) = lock_goes l at
goes l (Unlock at) = unlock_goes l at
goes l (HandOff b at) = hand_off_goes l at
goes l at = record { acts = refl; awake = λ e. cc; elsewhere = λ m e. cc }

-- ---------------------------------------------------------------- the test passes

abbrev Passes : ℕ → MutexPlace → Going → Bool
Passes l at g = keeps_row Mutex (mutex_row at) ((mutex_row at).purpose l) g

-- for every call, woken or not
each : (f : Entry → Bool → Bool)
    → (f entries.Lock true && (f entries.Lock false && (f entries.LockTimed true &&
    (f entries.LockTimed false && (f entries.Bump true && f entries.Bump false))))) ≡ true
    → (e : Entry) (r : Bool) → f e r ≡ true
each f h =
    let a = both (f entries.Lock true) _ h in
    let b = both (f entries.Lock false) _ a.1 in
    let c = both (f entries.LockTimed true) _ b.1 in
    let d = both (f entries.LockTimed false) _ c.1 in
    let g = both (f entries.Bump true) _ d.1 in
    picks a.0 b.0 c.0 d.0 g.0 g.1
  where
    picks : f entries.Lock true ≡ true → f entries.Lock false ≡ true → f entries.LockTimed true ≡ true
        → f entries.LockTimed false ≡ true
        → f entries.Bump true ≡ true → f entries.Bump false ≡ true → (e : Entry) (r : Bool) → f e r ≡ true
    picks a b c d g i entries.Lock true = a
    picks a b c d g i entries.Lock false = b
    picks a b c d g i entries.LockTimed true = c
    picks a b c d g i entries.LockTimed false = d
    picks a b c d g i entries.Bump true = g
    picks a b c d g i entries.Bump false = i

lock_passes : (l : ℕ) (e : Entry) (r : Bool) (at : LockAt) → Passes l (Lock e r at) (lock_going at) ≡ true
lock_passes l e r lock.First = each (λ e r. Passes l (Lock e r lock.First) Other) refl e r
lock_passes l e r lock.Load = each (λ e r. Passes l (Lock e r lock.Load) Other) refl e r
lock_passes l e r (lock.Decide seen) = decide (is_locked seen) (seen == 1)
  where
    decide : (a b : Bool) → Passes l (Lock e r (lock.Decide seen)) (decided_going a b) ≡ true
    decide false b = each (λ e r. Passes l (Lock e r (lock.Decide seen)) Other) refl e r
    decide true true = each (λ e r. Passes l (Lock e r (lock.Decide seen)) Other) refl e r
    decide true false = each (λ e r. Passes l (Lock e r (lock.Decide seen)) (Into Main)) refl e r
lock_passes l e r lock.Check = each (λ e r. Passes l (Lock e r lock.Check) Other) refl e r
lock_passes l e r (lock.Leave true) = each (λ e r. Passes l (Lock e r (lock.Leave true)) Other) refl e r
lock_passes l e r (lock.Leave false) = each (λ e r. Passes l (Lock e r (lock.Leave false)) Other) refl e r
lock_passes l e r lock.Asleep = each (λ e r. Passes l (Lock e r lock.Asleep) Asleep) refl e r
lock_passes l e r (lock.Taken by) = each (λ e r. Passes l (Lock e r (lock.Taken by)) Asleep) refl e r
lock_passes l e r (lock.Handed by) = each (λ e r. Passes l (Lock e r (lock.Handed by)) Asleep) refl e r
lock_passes l e r lock.Accept = each (λ e r. Passes l (Lock e r lock.Accept) Other) refl e r
lock_passes l e r lock.Remove = each (λ e r. Passes l (Lock e r lock.Remove) Other) refl e r
lock_passes l e r lock.Clear = each (λ e r. Passes l (Lock e r lock.Clear) Other) refl e r
lock_passes l e r lock.GiveUp = each (λ e r. Passes l (Lock e r lock.GiveUp) Other) refl e r

unlock_passes : (l : ℕ) (at : UnlockAt) → Passes l (Unlock at) (unlock_going at) ≡ true
unlock_passes l (unlock.Clear true) = refl
unlock_passes l (unlock.Clear false) = refl
unlock_passes l (unlock.Leave true) = refl
unlock_passes l (unlock.Leave false) = refl
unlock_passes l at = refl

hand_off_passes : (l : ℕ) (b : Bool) (at : HandOffAt) → Passes l (HandOff b at) (hand_off_going at) ≡ true
hand_off_passes l true hand_off.Enter = refl
hand_off_passes l false hand_off.Enter = refl
hand_off_passes l true hand_off.Take = refl
hand_off_passes l false hand_off.Take = refl
hand_off_passes l true (hand_off.Store true n) = refl
hand_off_passes l true (hand_off.Store false n) = refl
hand_off_passes l false (hand_off.Store true n) = refl
hand_off_passes l false (hand_off.Store false n) = refl
hand_off_passes l true (hand_off.Leave true) = refl
hand_off_passes l true (hand_off.Leave false) = refl
hand_off_passes l false (hand_off.Leave true) = refl
hand_off_passes l false (hand_off.Leave false) = refl

passes : (l : ℕ) (at : MutexPlace) → Passes l at (going at) ≡ true
passes l (Lock e r at) = lock_passes l e r at
passes l (Unlock at) = unlock_passes l at
passes l (HandOff b at) = hand_off_passes l b at
passes l at = refl

own : (l : ℕ) (at : MutexPlace) → lock_for ((mutex_row at).purpose l) ≡ l
own l (Lock entries.Lock r at) = refl
own l (Lock entries.LockTimed r at) = refl
own l (Lock entries.Bump r at) = refl
own l (HandOff true at) = refl
own l (HandOff false at) = refl
own l at = refl

pub mutex_promises : MutexRowsKeep
mutex_promises l at = by_test Mutex l (mutex_row at) (mutex_act l at) (going at) (own l at) (goes l at)
    (passes l at)
