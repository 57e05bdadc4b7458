-- Each step of a condition variable uses up what its thread has before it.
use Rattle.std.proofs.Common.{ℕ, Bool, true, false, Some, if◌then◌else◌, ◌==◌, ◌&&◌, ◌||◌, not, ◌≡◌, ◌+◌, ◌*◌}
use Rattle.std.proofs.Common.{◌≤◌, ◌<◌, nat_lt, inl, inr, length, refl, sym, subst, arith}
use Rattle.core_base.specs.declared.ops.Op.TheVariants.{Exchange, Load as LoadOp}
use Rattle.core_base.specs.Lines.{without}
use Rattle.spec_locks.specs.Locks as locks
use Rattle.spec_locks.specs.Purposes.{rules_of}
use Rattle.steps_base.specs.declared.acts.Act.{Act}
use Rattle.steps_base.specs.declared.acts.Act.TheVariants as act
use Rattle.steps_base.specs.declared.acts.Next.{Next}
use Rattle.steps_base.specs.declared.acts.Next.TheVariants.{At, End}
use Rattle.steps_base.specs.declared.acts.TakeWhich.TheVariants as whom
use Rattle.steps_mutex.specs.declared.lock.LockAt.TheVariants as lock
use Rattle.steps_mutex.specs.declared.unlock.UnlockAt.TheVariants as unlock
use Rattle.steps_mutex.specs.declared.hand_off.HandOffAt.TheVariants as hand_off
use Rattle.steps_mutex.specs.declared.places.MutexPlace.{MutexPlace}
use Rattle.steps_mutex.specs.declared.places.MutexPlace.TheVariants as mutex
use Rattle.steps_mutex.specs.MutexSteps.{is_locked, mutex_act, mutex_next}
use Rattle.steps_condvar.specs.declared.notify.NotifyAt.{NotifyAt}
use Rattle.steps_condvar.specs.declared.notify.NotifyAt.TheVariants as notify
use Rattle.steps_condvar.specs.declared.wait.WaiterFate.{WaiterFate}
use Rattle.steps_condvar.specs.declared.wait.WaitAt.{WaitAt}
use Rattle.steps_condvar.specs.declared.wait.WaitAt.TheVariants as wait
use Rattle.steps_condvar.specs.declared.places.CondvarPlace.{CondvarPlace}
use Rattle.steps_condvar.specs.declared.places.CondvarPlace.TheVariants.{Wait, Look, Notify}
use Rattle.steps_condvar.specs.CondvarSteps.{past_release, comes_from_another, condvar_act, condvar_next}
use Rattle.steps_condvar.specs.CondvarSteps.{in_notify, in_wait, is_shown, marks, move_act, moved_all}
use Rattle.steps_condvar.specs.CondvarSteps.{moved_one, mutex_beside, mutex_shown, next_notify, notified}
use Rattle.steps_condvar.specs.CondvarSteps.{notify_act, released, relocked, stands_after, wait_act}
use Rattle.lot_machine.specs.Machine.{State, can_do, kind_at, queue_at, reply_to, word_at}
use Rattle.lot_rests.proofs.Befallen.{after_works}
use Rattle.lot_rests.proofs.Mutexes.{mutex_row}
use Rattle.lot_rests.proofs.Rows.{Goes, either_less, exchange_fails, is_still, nears, same}
use Rattle.lot_rests.proofs.Work.{condvar_work, mutex_work, notify_work, wait_work, work_then}
use Rattle.lot_rests.proofs.Ways.{condvar_ways, mutex_ways, notify_ways, ways_then}

-- ---------------------------------------------------------------- a wait that goes as a call of its mutex

-- the reply to a thread's own act comes from no other
own_reply : (w : State) (t : ℕ) (a : Act) → comes_from_another (reply_to w t a) ≡ false
own_reply w t (act.Word l f) = refl
own_reply w t (act.HandOver l f) = refl
own_reply w t (act.Park l key check x) = refl
own_reply w t (act.Take key whom.First) = refl
own_reply w t (act.Take key (whom.Picked start recursive)) = refl
own_reply w t (act.Take key whom.All) = refl
own_reply w t (act.Requeue from to how) = refl
own_reply w t (act.Remove key) = refl
own_reply w t a = refl

-- each call of a mutex has something to do
some_work : (at : MutexPlace) → 1 ≤ mutex_work at
some_work (mutex.Lock e again lock.First) = omega arith
some_work (mutex.Lock e again at) = omega arith
some_work (mutex.Unlock unlock.Subtract) = omega arith
some_work (mutex.Unlock at) = omega arith
some_work (mutex.HandOff bumps hand_off.Enter) = omega arith
some_work (mutex.HandOff bumps at) = omega arith
some_work at = omega arith

-- beside as much other work
pub goes_more : {w : State} {a : Act} (more work work2 ways ways2 : ℕ) → Goes w a work work2 ways ways2
    → Goes w a (more + work) (more + work2) ways ways2
goes_more more work work2 ways ways2 (inl less) = inl (omega arith)
goes_more more work work2 ways ways2 (inr rest) = inr (let most = rest.0 in omega arith, rest.1)

-- a mutex that a condition variable may name
pub record IsMutexAt (w : State) (m : ℕ) : Type 0 where
  pub sort : (rules_of (kind_at w m)).sort ≡ locks.Mutex
  pub few : word_at w m ≤ 3
  pub there : m < length w.locks

module _ (w : State) (t c : ℕ) where
  -- where this act leads from a place
  abbrev Leads : CondvarPlace → Act → Type 0
  Leads at a = Goes w a (condvar_work at) (work_then condvar_work (condvar_next at (reply_to w t a)))
      (condvar_ways (word_at w) at) (ways_then (condvar_ways (word_at w)) (condvar_next at (reply_to w t a)))

  module _ (m : ℕ) (of : IsMutexAt w m) where
    abbrev word : ℕ
    word = word_at w m

    inner : (at : MutexPlace) → can_do w (mutex_act m at) ≡ true
        → Goes w (mutex_act m at) (mutex_work at)
        (work_then mutex_work (mutex_next at (reply_to w t (mutex_act m at)))) (mutex_ways word at)
        (ways_then (mutex_ways word) (mutex_next at (reply_to w t (mutex_act m at))))
    inner at can = mutex_row w t m of.sort of.few of.there at can

    -- the thread releases its mutex
    released_row : (timed : Bool) (s : WaiterFate) (a : Act) (work ways : ℕ) (n : Next MutexPlace) → 1 ≤ work
        → Goes w a work (work_then mutex_work n) ways (ways_then (mutex_ways word) n)
        → Goes w a (8 + work) (work_then condvar_work (in_wait m timed (At (released s n)))) ways
        (ways_then (condvar_ways (word_at w)) (in_wait m timed (At (released s n))))
    released_row timed s a work ways (At at) some row = goes_more 8 work (mutex_work at) ways
        (mutex_ways word at) row
    released_row timed s a work ways (End answer) some row =
        inl (let most : wait_work (past_release s) ≤ 8 = after_works s in omega arith)

    release_row : (timed : Bool) (s : WaiterFate) (at : MutexPlace) → can_do w (mutex_act m at) ≡ true
        → Leads (Wait m timed (wait.Release s at)) (mutex_act m at)
    release_row timed s at can = subst
        (λ b. Goes w (mutex_act m at) (8 + mutex_work at)
        (work_then condvar_work (in_wait m timed
        (At (if b then wait.Release (stands_after s (reply_to w t (mutex_act m at))) at else released s
        (mutex_next at (reply_to w t (mutex_act m at)))))))
        (mutex_ways word at)
        (ways_then (condvar_ways (word_at w))
        (in_wait m timed (At (if b then wait.Release (stands_after s (reply_to w t (mutex_act m at))) at
        else released s (mutex_next at (reply_to w t (mutex_act m at))))))))
        (sym (own_reply w t (mutex_act m at)))
        (released_row timed s (mutex_act m at) (mutex_work at) (mutex_ways word at)
        (mutex_next at (reply_to w t (mutex_act m at))) (some_work at) (inner at can))

    -- the thread locks its mutex again
    relocked_row : (timed late : Bool) (a : Act) (work ways : ℕ) (n : Next MutexPlace)
        → Goes w a work (work_then mutex_work n) ways (ways_then (mutex_ways word) n)
        → Goes w a work (work_then condvar_work (in_wait m timed (relocked timed late n))) ways
        (ways_then (condvar_ways (word_at w)) (in_wait m timed (relocked timed late n)))
    relocked_row timed late a work ways (At at) row = row
    relocked_row timed late a work ways (End answer) row = row

    wait_row : (timed : Bool) (at : WaitAt) → can_do w (wait_act c m at) ≡ true
        → Leads (Wait m timed at) (wait_act c m at)
    wait_row timed wait.Enter can = inl (omega arith)
    wait_row timed wait.Show can = inl (either_less (λ n. work_then condvar_work (in_wait m timed n))
        ((word_at w c == 0) || is_shown (word_at w c) m) (At wait.Stand) (At wait.Refuse) 16 (omega arith)
        (omega arith))
    wait_row timed wait.Stand can = inl (omega arith)
    wait_row timed wait.Leave can = inl (omega arith)
    wait_row timed wait.Refuse can = inl (omega arith)
    wait_row timed (wait.Release s at) can = release_row timed s at can
    wait_row timed (wait.Asleep s) can = absurd cc
    wait_row timed wait.Remove can = inl (either_less (λ n. work_then condvar_work (in_wait m timed n))
        (length (without t (queue_at w (2 * c))) == 0) (At wait.Hide) (At wait.GiveUp) 7 (omega arith)
        (omega arith))
    wait_row timed wait.Hide can = inl (omega arith)
    wait_row timed wait.GiveUp can = inl (omega arith)
    wait_row timed wait.RemoveMoved can = inl (omega arith)
    wait_row timed (wait.GiveUpMoved none_left) can = inl (omega arith)
    wait_row timed (wait.Lock late at) can = relocked_row timed late (mutex_act m at) (mutex_work at)
        (mutex_ways word at) (mutex_next at (reply_to w t (mutex_act m at))) (inner at can)

  -- ---------------------------------------------------------------- a notification

  module _ (all : Bool) (m : ℕ) where
    abbrev seen_now : ℕ
    seen_now = word_at w m

    abbrev Notes : Act → ℕ → Next NotifyAt → Type 0
    Notes a before n = Goes w a 4 (work_then condvar_work (in_notify all m n)) before
        (ways_then (condvar_ways (word_at w)) (in_notify all m n))

    -- by the word of the mutex, which it has just seen
    marks_row : (a : Act) → is_still w a ≡ true → Notes a 1 (At (marks seen_now))
    marks_row a still = by_word (is_locked seen_now)
      where
        by_word : (b : Bool) → Notes a 1 (At (if b then notify.Set seen_now else notify.Move false))
        by_word true = nears 4 4 1 (notify_ways seen_now (notify.Set seen_now)) (omega arith) still
            (subst (λ b. (if b then 0 else 1) + 1 ≤ 1) (sym (same seen_now)) (omega arith))
        by_word false = inl (omega arith)

    set_row : (expected : ℕ) → Notes (act.Word m (Exchange expected 3)) (notify_ways seen_now
        (notify.Set expected)) (if seen_now == expected then At (notify.Move true) else At (marks seen_now))
    set_row expected = by_word (seen_now == expected) refl
      where
        by_word : (b : Bool) → (seen_now == expected) ≡ b → Notes (act.Word m (Exchange expected 3))
            (if b then 0 else 1) (if b then At (notify.Move true) else At (marks seen_now))
        by_word true is = inl (omega arith)
        by_word false is = marks_row (act.Word m (Exchange expected 3)) (exchange_fails expected 3 seen_now
            is)

    one_moved : (any none_left : Bool) → notify_work (moved_one any none_left) + 1 ≤ 3
    one_moved any true = omega arith
    one_moved any false = omega arith

    all_moved : (locked : Bool) (number : ℕ) → notify_work (moved_all locked number) + 1 ≤ 3
    all_moved locked number = either_less notify_work (not locked && nat_lt 1 number)
        (notify.MarkMoved number) (notify.Leave (not locked) number) 3 (omega arith) (omega arith)

    moved_row : (both locked : Bool) → work_then condvar_work
        (in_notify both m (next_notify both m (notify.Move locked) (reply_to w t (move_act both locked c m))))
        + 1 ≤ 3
    moved_row true locked = all_moved locked _
    moved_row false true = one_moved false _
    moved_row false false = one_moved _ _

    again_less : (b both : Bool) → work_then condvar_work
        (in_notify all m (At (if b then notify.Leave false 0 else if both then notify.Hide else notify.Mark)))
        + 1 ≤ 6
    again_less true both = omega arith
    again_less false true = omega arith
    again_less false false = omega arith

    notify_row : (at : NotifyAt) → can_do w (notify_act all c m at) ≡ true
        → Leads (Notify all m at) (notify_act all c m at)
    notify_row notify.Enter can = inl (omega arith)
    notify_row notify.Again can = inl (again_less (not (is_shown (word_at w c) m)) all)
    notify_row notify.Hide can = inl (omega arith)
    notify_row notify.Mark can = marks_row (act.Word m LoadOp) (same seen_now)
    notify_row (notify.Set seen) can = set_row seen
    notify_row (notify.Move locked) can = inl (moved_row all locked)
    notify_row (notify.Clear any) can = inl (omega arith)
    notify_row (notify.MarkMoved number) can = inl (omega arith)
    notify_row (notify.Leave any number) can = inl (omega arith)

  look_row : (all : Bool) → Leads (Look all) (act.Word c LoadOp)
  look_row all = inl (either_less (work_then condvar_work) (word_at w c == 0) (End (notified all 0))
      (At (Notify all (mutex_shown (word_at w c)) notify.Enter)) 8 (omega arith) (omega arith))

  -- by the mutex that it names
  pub condvar_row : (at : CondvarPlace) → ((m : ℕ) → mutex_beside at ≡ Some m → IsMutexAt w m)
      → can_do w (condvar_act c at) ≡ true → Leads at (condvar_act c at)
  condvar_row (Wait m timed at) beside can = wait_row m (beside m refl) timed at can
  condvar_row (Look all) beside can = look_row all
  condvar_row (Notify all m at) beside can = notify_row all m at can
