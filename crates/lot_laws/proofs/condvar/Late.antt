-- When a call of a condition variable has something to do, and when its time may be up: where it sleeps in a
-- queue, of the condition variable or, moved, of its mutex.
use Rattle.lot_laws.proofs.Imports
use Imports.{ℕ, Bool, true, false, Some, None, if◌then◌else◌, ◌==◌, ◌*◌, ◌<◌, ◌≡◌, ◌≢◌, inl, inr, refl, sym}
use Imports.{◌∙◌, ap, Sleep, Late, in_line, Condvar, act_of, late_key, next_place, NotifyAt, CondvarPlace, Wait}
use Imports.{Look, Notify, WaiterFate, WaitAt, condvar_act, move_act, mutex_beside, notify_act, wait_act}
use Imports.{IsReached}
use Imports.{wait_row, Rights, IsTimed, Line, Main, Second, PlaceFits, call_state, key_of, location_at}
use Rattle.steps_condvar.specs.declared.notify.NotifyAt.TheVariants as notify
use Rattle.steps_condvar.specs.declared.wait.WaiterFate.TheVariants as stands
use Rattle.steps_condvar.specs.declared.wait.WaitAt.TheVariants as wait
use Rattle.steps_mutex.specs.declared.places.MutexPlace.TheVariants as mutex
use Rattle.steps_mutex.specs.declared.unlock.UnlockAt.TheVariants as unlock
use Rattle.lot_laws.proofs.condvar.CondvarPromises.{stands_at, two_stand_main}
use Rattle.lot_laws.proofs.machine.Parts.{differ, same}
use Rattle.lot_laws.proofs.mutex.MutexRows.{mutex_acts}
use Rattle.lot_laws.proofs.promises.RowPromises.{is_acting}

-- ---------------------------------------------------------------- something is left to do

wait_acts : (k m : ℕ) (at : WaitAt) → is_acting (wait_act k m at) ≡ true
wait_acts k m (wait.Release s at) = mutex_acts m at
wait_acts k m (wait.Lock late at) = mutex_acts m at
wait_acts k m at = refl

move_acts : (all locked : Bool) (k m : ℕ) → is_acting (move_act all locked k m) ≡ true
move_acts true locked k m = refl
move_acts false true k m = refl
move_acts false false k m = refl

notify_acts : (all : Bool) (k m : ℕ) (at : NotifyAt) → is_acting (notify_act all k m at) ≡ true
notify_acts all k m (notify.Move locked) = move_acts all locked k m
notify_acts all k m at = refl

pub condvar_acts : (k : ℕ) (at : CondvarPlace) → is_acting (condvar_act k at) ≡ true
condvar_acts k (Wait m timed at) = wait_acts k m at
condvar_acts k (Look all) = refl
condvar_acts k (Notify all m at) = notify_acts all k m at

-- ---------------------------------------------------------------- the time is up

-- the thread sleeps in the queue of one of its locks, and is awake after
pub record IsLate (k : ℕ) (at : CondvarPlace) (key : ℕ) : Type 0 where
  pub lock : ℕ
  pub there : (n : ℕ) → PlaceFits n (Condvar k at) → lock < n
  pub timed : (r : ℕ → Rights) → IsTimed (call_state (Condvar k at) r).purpose
      (call_state (Condvar k at) r).recalls lock
  pub asleep : condvar_act k at ≡ Sleep
  pub stands : (location_at (Condvar k at) lock).stands ≡ Some Main
  pub under : key ≡ 2 * lock
  pub awake : act_of (next_place (Condvar k at) Late) ≢ Sleep

module _ (k : ℕ) where
  late_wait : (m : ℕ) (s : WaiterFate) → k ≢ m → (key : ℕ)
      → late_key (Condvar k (Wait m true (wait.Asleep s)))
      ≡ Some key
      → IsLate k (Wait m true (wait.Asleep s)) key
  late_wait m stands.Listed apart key h = record {
    lock = k;
    there = λ n fits. fits.0;
    timed = λ r. (refl, inl refl);
    asleep = refl;
    stands = stands_at k (Wait m true (wait.Asleep stands.Listed)) k ∙ rw (same k) refl;
    under = let e : 2 * k ≡ key = cc in sym e;
    awake = λ e. cc;
  }
  late_wait m stands.Moved apart key h = record {
    lock = m;
    there = λ n fits. fits.1;
    timed = λ r. (refl, inr (refl, refl));
    asleep = refl;
    stands = stands_at k (Wait m true (wait.Asleep stands.Moved)) m ∙ rw (differ k m apart, same m) refl;
    under = let e : 2 * m ≡ key = cc in sym e;
    awake = λ e. cc;
  }
  late_wait m s apart key h = absurd cc

  pub two_late : (at : CondvarPlace) → ((m : ℕ) → mutex_beside at ≡ Some m → k ≢ m) → (key : ℕ)
      → late_key (Condvar k at) ≡ Some key → IsLate k at key
  two_late (Wait m true (wait.Asleep s)) apart key h = late_wait m s (apart m refl) key h
  two_late (Wait m false (wait.Asleep s)) apart key h = absurd cc
  two_late (Wait m timed at) apart key h = absurd cc
  two_late (Notify all m at) apart key h = absurd cc
  two_late (Look all) apart key h = absurd cc

  -- a thread that sleeps in a queue, in a wait with a deadline, may be late there
  module _ (m : ℕ) (timed : Bool) (at : WaitAt) (l : ℕ) (n : Line)
      (stands : (location_at (Condvar k (Wait m timed at)) l).stands ≡ Some n) where
    main : n ≡ Main
    main = by_line n stands
      where
        by_line : (x : Line) → (location_at (Condvar k (Wait m timed at)) l).stands ≡ Some x → x ≡ Main
        by_line Main e = refl
        by_line Second e = absurd (two_stand_main k (Wait m timed at) l e)

    in_one : (if k == l then in_line (wait_row m at).listed Main else if m == l then in_line
        (wait_row m at).moved Main else None)
        ≡ Some n
    in_one = sym (stands_at k (Wait m timed at) l) ∙ stands

  -- at the condition variable, or moved
  there_listed : (m : ℕ) (row_listed row_moved : Bool) (l : ℕ) (n : Line)
      → (if k == l then in_line row_listed Main else if m == l then in_line row_moved Main else None) ≡ Some n
      → k ≡ l
      → row_listed ≡ true
  there_listed m true moved l n h e = refl
  there_listed m false moved l n h e = absurd (by_lock (k == l) (rw e (same l)) h)
    where
      by_lock : (c : Bool) → c ≡ true → (if c then in_line false Main else if m == l then in_line moved Main
          else None) ≡ Some n
          → ⊥
      by_lock true f g = cc
      by_lock false f g = cc

  nowhere_here : (m : ℕ) (l : ℕ) (n : Line)
      → (if k == l then in_line false Main else if m == l then in_line false Main else None) ≡ Some n → ⊥
  nowhere_here m l n h = by_lock (k == l) (m == l) h
    where
      by_lock : (c d : Bool) → (if c then in_line false Main else if d then in_line false Main else None)
          ≡ Some n → ⊥
      by_lock true d h = cc
      by_lock false true h = cc
      by_lock false false h = cc

  asleep_late : (m : ℕ) (timed : Bool) (s : WaiterFate) (l : ℕ) (r : ℕ → Rights)
      → IsTimed (call_state (Condvar k (Wait m timed (wait.Asleep s))) r).purpose
      (call_state (Condvar k (Wait m timed (wait.Asleep s))) r).recalls l
      → (n : Line) → (location_at (Condvar k (Wait m timed (wait.Asleep s))) l).stands ≡ Some n
      → late_key (Condvar k (Wait m timed (wait.Asleep s))) ≡ Some (key_of l n)
  asleep_late m false s l r time n h = absurd (let e : false ≡ true = time.0 in cc)
  asleep_late m true stands.Listed l r time n h = elim time.1 [
    | inl e ↦ rw (main m true (wait.Asleep stands.Listed) l n h) (ap (λ j. Some (2 * j)) e)
    | inr e ↦ absurd (let f = e.1 in cc)
  ]
  asleep_late m true stands.Moved l r time n h = elim time.1 [
    | inl e ↦ absurd (let f : false ≡ true = there_listed m false true l n
        (in_one m true (wait.Asleep stands.Moved) l n h) e in cc)
    | inr e ↦ rw (main m true (wait.Asleep stands.Moved) l n h) (ap (λ j. Some (2 * j)) e.0)
  ]
  asleep_late m true (stands.InHand by) l r time n h =
      absurd (nowhere_here m l n (in_one m true (wait.Asleep (stands.InHand by)) l n h))
  asleep_late m true (stands.Handed by) l r time n h =
      absurd (nowhere_here m l n (in_one m true (wait.Asleep (stands.Handed by)) l n h))
  asleep_late m true (stands.Noted note) l r time n h =
      absurd (nowhere_here m l n (in_one m true (wait.Asleep (stands.Noted note)) l n h))

  pub two_may_late : (at : CondvarPlace) → IsReached at → condvar_act k at ≡ Sleep → (l : ℕ) (r : ℕ → Rights)
      → IsTimed (call_state (Condvar k at) r).purpose (call_state (Condvar k at) r).recalls l → (n : Line)
      → (location_at (Condvar k at) l).stands ≡ Some n → late_key (Condvar k at) ≡ Some (key_of l n)
  two_may_late (Wait m timed (wait.Asleep s)) reached asleep l r time n h = asleep_late m timed s l r time n h
  two_may_late (Wait m timed (wait.Lock true at)) reached asleep l r time n h = absurd (elim time.1 [
    | inl e ↦ let f : false ≡ true = there_listed m false (wait_row m (wait.Lock true at)).moved l n
        (in_one m timed (wait.Lock true at) l n h) e in cc
    | inr e ↦ let f = e.1 in cc
  ])
  two_may_late (Wait m timed (wait.Lock false at)) reached asleep l r time n h = absurd (elim time.1 [
    | inl e ↦ let f : false ≡ true = there_listed m false (wait_row m (wait.Lock false at)).moved l n
        (in_one m timed (wait.Lock false at) l n h) e in cc
    | inr e ↦ let f = e.1 in cc
  ])
  two_may_late (Wait m timed (wait.Release s (mutex.Unlock unlock.Subtract))) reached asleep l r time n h =
      absurd cc
  two_may_late (Wait m timed (wait.Release s (mutex.Unlock at))) reached asleep l r time n h = absurd cc
  two_may_late (Wait m timed (wait.Release s at)) reached asleep l r time n h = absurd reached.0
  two_may_late (Wait m timed at) reached asleep l r time n h = absurd cc
  two_may_late (Notify all m at) reached asleep l r time n h = absurd time
  two_may_late (Look all) reached asleep l r time n h = absurd time
