-- Each step of a mutex uses up what its thread has before it.
use Rattle.std.proofs.Common.{ℕ, zero, suc, Bool, true, false, if◌then◌else◌, ◌==◌, ◌&&◌, not, ◌≡◌, ◌+◌, ◌*◌}
use Rattle.std.proofs.Common.{◌≤◌, ◌<◌, inl, inr, length, drop, refl, ap, sym, ◌∙◌, subst, arith}
use Rattle.std.proofs.lemmas.Bool.{cases_eq, eqb-true}
use Rattle.std.proofs.lemmas.Bool.Decides.{nat_tests}
use Rattle.core_base.specs.declared.keys.Keys.TheVariants.{One}
use Rattle.core_base.specs.declared.ops.Op.TheVariants.{Exchange, Load as LoadOp}
use Rattle.core_base.specs.Lines.{first_of, without}
use Rattle.steps_base.specs.declared.acts.Act.{Act}
use Rattle.steps_base.specs.declared.acts.Act.TheVariants as act
use Rattle.steps_base.specs.declared.acts.Next.TheVariants.{At, End}
use Rattle.steps_base.specs.declared.acts.Reply.TheVariants.{Value}
use Rattle.spec_locks.specs.Locks as locks
use Rattle.spec_locks.specs.Purposes.{rules_of}
use Rattle.spec_locks.specs.declared.outcomes.Answer.TheVariants as answer
use Rattle.steps_mutex.specs.declared.lock.Entry.{Entry}
use Rattle.steps_mutex.specs.declared.lock.LockAt.{LockAt}
use Rattle.steps_mutex.specs.declared.lock.LockAt.TheVariants as lock
use Rattle.steps_mutex.specs.declared.unlock.UnlockAt.{UnlockAt}
use Rattle.steps_mutex.specs.declared.unlock.UnlockAt.TheVariants as unlock
use Rattle.steps_mutex.specs.declared.hand_off.HandOffAt.{HandOffAt}
use Rattle.steps_mutex.specs.declared.hand_off.HandOffAt.TheVariants as hand_off
use Rattle.steps_mutex.specs.declared.places.MutexPlace.{MutexPlace}
use Rattle.steps_mutex.specs.declared.places.MutexPlace.TheVariants.{Lock, TryLock, Unlock, UnlockFair, Bump}
use Rattle.steps_mutex.specs.declared.places.MutexPlace.TheVariants.{HandOff}
use Rattle.steps_mutex.specs.MutexSteps.{decided, entered, hand_off_act, in_lock, in_unlock, is_locked}
use Rattle.steps_mutex.specs.MutexSteps.{is_parked, lock_act, mutex_act, mutex_next, unlock_act}
use Rattle.lot_machine.specs.Machine.{State, can_do, is_there, kind_at, queue_at, reply_to, word_at}
use Rattle.lot_rests.proofs.Rows.{Goes, SetsBit, either_less, exchange_fails, exchanged, nears, same}
use Rattle.lot_rests.proofs.Work.{mutex_work, work_then}
use Rattle.lot_rests.proofs.Ways.{checks, decides, leaves, loads, lock_enters, lock_ways, mutex_ways}
use Rattle.lot_rests.proofs.Ways.{ways_then}
use Rattle.lot_rests.proofs.Ways as ways

-- a mutex that is owned and marked makes a thread wait
enters_waits : (word : ℕ) → word ≤ 3 → lock_enters word ≡ true → (word == 3) ≡ true
enters_waits zero h e = absurd cc
enters_waits (suc zero) h e = absurd cc
enters_waits (suc (suc zero)) h e = absurd cc
enters_waits (suc (suc (suc zero))) h e = refl
enters_waits (suc (suc (suc (suc n)))) h e = absurd (omega arith)

module _ (w : State) (t l : ℕ) (sort : (rules_of (kind_at w l)).sort ≡ locks.Mutex) (few : word_at w l ≤ 3)
    (there : l < length w.locks) where
  abbrev word : ℕ
  word = word_at w l

  -- where this act leads from a place
  abbrev Leads : MutexPlace → Act → Type 0
  Leads at a = Goes w a (mutex_work at) (work_then mutex_work (mutex_next at (reply_to w t a)))
      (mutex_ways word at) (ways_then (mutex_ways word) (mutex_next at (reply_to w t a)))

  -- the value that it has just seen
  looked_now : lock_ways word (lock.Decide word) + 1 ≤ loads (word == 3)
  looked_now = subst (λ b. decides (lock_enters word) (word == 3) b + 1 ≤ loads (word == 3)) (sym (same word))
      (ways.looked (lock_enters word) (word == 3) (enters_waits word few))

  first_row : (e : Entry) (again : Bool) → Leads (Lock e again lock.First) (act.Word l (Exchange 0 1))
  first_row e again = by_word (word == 0) refl
    where
      by_word : (b : Bool) → (word == 0) ≡ b
          → Goes w (act.Word l (Exchange 0 1)) 4
          (work_then mutex_work (in_lock e again (if b then End (entered e) else At lock.Load)))
          (loads (word == 3) + 1) (ways_then (mutex_ways word)
          (in_lock e again (if b then End (entered e) else At lock.Load)))
      by_word true is = inl (omega arith)
      by_word false is = nears 4 4 (loads (word == 3) + 1) (loads (word == 3)) (omega arith)
          (exchange_fails 0 1 word is) (omega arith)

  load_row : (e : Entry) (again : Bool) → Leads (Lock e again lock.Load) (act.Word l LoadOp)
  load_row e again = nears 4 4 (loads (word == 3)) (lock_ways word (lock.Decide word)) (omega arith)
      (same word) looked_now

  -- ---------------------------------------------------------------- by the value seen last

  bit_pending : (word == 1) ≡ true → SetsBit w (act.Word l (Exchange 1 3))
  bit_pending is = record {
    lock = l;
    op = Exchange 1 3;
    is = refl;
    there = there;
    fewer = rw (sort, exchanged 1 3 word is, eqb-true word 1 is) (omega arith);
  }

  one_row : (e : Entry) (again : Bool) → Leads (Lock e again (lock.Decide 1)) (act.Word l (Exchange 1 3))
  one_row e again = by_word (word == 1) (is_locked word) refl
    where
      by_word : (b locked : Bool) → (word == 1) ≡ b
          → Goes w (act.Word l (Exchange 1 3)) 4
          (work_then mutex_work (in_lock e again (if not b then At (lock.Decide word) else if locked
          then At (lock.Decide 3) else End (entered e))))
          (decides false (word == 3) b)
          (ways_then (mutex_ways word) (in_lock e again (if not b then At (lock.Decide word) else if locked
          then At (lock.Decide 3) else End (entered e))))
      by_word false locked is = nears 4 4 (loads (word == 3)) (lock_ways word (lock.Decide word))
          (omega arith) (exchange_fails 1 3 word is) looked_now
      by_word true true is = inr (omega arith, inl (bit_pending is))
      by_word true false is = inl (omega arith)

  -- the thread tries to own the mutex
  own_row : (e : Entry) (again : Bool) (seen : ℕ) → is_locked seen ≡ false
      → Goes w (act.Word l (Exchange seen (seen + 1))) 4
      (work_then mutex_work (mutex_next (Lock e again (lock.Decide seen)) (Value word)))
      (decides false (word == 3) (word == seen))
      (ways_then (mutex_ways word) (mutex_next (Lock e again (lock.Decide seen)) (Value word)))
  own_row e again seen vacant = by_word (word == seen) (is_locked word) refl refl
    where
      by_word : (b locked : Bool) → (word == seen) ≡ b → is_locked word ≡ locked
          → Goes w (act.Word l (Exchange seen (seen + 1))) 4
          (work_then mutex_work (in_lock e again (if not b then At (lock.Decide word) else if locked
          then At (lock.Decide 3) else End (entered e))))
          (decides false (word == 3) b)
          (ways_then (mutex_ways word) (in_lock e again (if not b then At (lock.Decide word) else if locked
          then At (lock.Decide 3) else End (entered e))))
      by_word false locked is told = nears 4 4 (loads (word == 3)) (lock_ways word (lock.Decide word))
          (omega arith) (exchange_fails seen (seen + 1) word is) looked_now
      by_word true false is told = inl (omega arith)
      by_word true true is told = absurd (let e : true ≡ false = sym told
          ∙ ap is_locked (eqb-true word seen is) ∙ vacant in cc)

  decide_row : (e : Entry) (again : Bool) (seen : ℕ) → Leads (Lock e again (lock.Decide seen))
      (decided l seen)
  decide_row e again seen = elim (cases_eq seen 1) [
    | inl one ↦ subst (λ v. Leads (Lock e again (lock.Decide v)) (decided l v)) (sym one) (one_row e again)
    | inr more ↦ by_word (is_locked seen) (seen == 1) refl (grind (arith, nat_tests))
  ]
    where
      by_word : (locked one : Bool) → is_locked seen ≡ locked → one ≡ false
          → Goes w (if not locked then act.Word l (Exchange seen (seen + 1)) else if one then act.Word l
          (Exchange 1 3) else act.Enter (One (2 * l))) 4
          (work_then mutex_work (mutex_next (Lock e again (lock.Decide seen))
          (reply_to w t (if not locked then act.Word l (Exchange seen (seen + 1)) else if one
          then act.Word l (Exchange 1 3) else act.Enter (One (2 * l))))))
          (decides (locked && not one) (word == 3) (word == seen))
          (ways_then (mutex_ways word) (mutex_next (Lock e again (lock.Decide seen))
          (reply_to w t (if not locked then act.Word l (Exchange seen (seen + 1)) else if one
          then act.Word l (Exchange 1 3) else act.Enter (One (2 * l))))))
      by_word false one told is = own_row e again seen told
      by_word true false told is = nears 4 4 (decides true (word == 3) (word == seen)) (checks (word == 3))
          (omega arith) refl (ways.entered (word == 3) (word == seen))
      by_word true true told is = absurd cc

  -- ---------------------------------------------------------------- each place

  leave_row : (e : Entry) (again parked : Bool) → Leads (Lock e again (lock.Leave parked))
      (lock_act l (lock.Leave parked))
  leave_row e again true = nears 4 4 1 0 (omega arith) refl (omega arith)
  leave_row e again false = nears 4 4 (loads (word == 3) + 1) (loads (word == 3)) (omega arith) refl
      (omega arith)

  lock_row : (e : Entry) (again : Bool) (at : LockAt) → can_do w (lock_act l at) ≡ true
      → Leads (Lock e again at) (lock_act l at)
  lock_row e again lock.First can = first_row e again
  lock_row e again lock.Load can = load_row e again
  lock_row e again (lock.Decide seen) can = decide_row e again seen
  lock_row e again lock.Check can = nears 4 4 (checks (word == 3)) (leaves (word == 3) (word == 3))
      (omega arith) refl (ways.checked (word == 3))
  lock_row e again (lock.Leave parked) can = leave_row e again parked
  lock_row e again lock.Asleep can = absurd cc
  lock_row e again (lock.Taken by) can = absurd cc
  lock_row e again (lock.Handed by) can = absurd cc
  lock_row e again lock.Accept can = inl (omega arith)
  lock_row e again lock.Remove can = inl (either_less (λ n. work_then mutex_work (in_lock e again n))
      (length (without t (queue_at w (2 * l))) == 0) (At lock.Clear) (At lock.GiveUp) 3 (omega arith)
      (omega arith))
  lock_row e again lock.Clear can = inl (omega arith)
  lock_row e again lock.GiveUp can = inl (omega arith)

  unlock_row : (at : UnlockAt) → Leads (Unlock at) (unlock_act l at)
  unlock_row unlock.Subtract = inl (either_less (λ n. work_then mutex_work (in_unlock n)) (is_parked word)
      (At unlock.Enter) (End answer.Ok) 5 (omega arith) (omega arith))
  unlock_row unlock.Enter = inl (omega arith)
  unlock_row unlock.Take = inl (either_less (λ n. work_then mutex_work (in_unlock n))
      (length (drop 1 (queue_at w (2 * l))) == 0)
      (At (unlock.Clear (is_there (first_of (queue_at w (2 * l))))))
      (At (unlock.Leave (is_there (first_of (queue_at w (2 * l)))))) 3 (omega arith) (omega arith))
  unlock_row (unlock.Clear any) = inl (omega arith)
  unlock_row (unlock.Leave any) = inl (omega arith)

  hand_off_row : (bumps : Bool) (at : HandOffAt) → Leads (HandOff bumps at) (hand_off_act l at)
  hand_off_row bumps hand_off.Enter = inl (omega arith)
  hand_off_row bumps hand_off.Take = inl (omega arith)
  hand_off_row bumps (hand_off.Store true none_left) = inl (omega arith)
  hand_off_row bumps (hand_off.Store false none_left) = inl (omega arith)
  hand_off_row true (hand_off.Leave any) = inl (omega arith)
  hand_off_row false (hand_off.Leave any) = inl (omega arith)

  pub mutex_row : (at : MutexPlace) → can_do w (mutex_act l at) ≡ true → Leads at (mutex_act l at)
  mutex_row (Lock e again at) can = lock_row e again at can
  mutex_row TryLock can = inl (either_less (work_then mutex_work) (is_locked word) (End answer.No)
      (End answer.Yes) 1 (omega arith) (omega arith))
  mutex_row (Unlock at) can = unlock_row at
  mutex_row UnlockFair can = inl (either_less (work_then mutex_work) (not (word == 1))
      (At (HandOff false hand_off.Enter)) (End answer.Ok) 5 (omega arith) (omega arith))
  mutex_row Bump can = inl (either_less (work_then mutex_work) (is_parked word)
      (At (HandOff true hand_off.Enter)) (End answer.Ok) 9 (omega arith) (omega arith))
  mutex_row (HandOff bumps at) can = hand_off_row bumps at
