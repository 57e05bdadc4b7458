-- An act makes of the machine's condition variable the same as its deeds make of the abstract one: the
-- mutex that is shown, and the waiters.
use Rattle.lot_laws.proofs.Imports
use Imports.{ℕ, Bool, true, false, Option, Some, None, if◌then◌else◌, ◌==◌, ◌≡◌, ◌≢◌, ◌+◌, ◌*◌, ◌<◌, ◌||◌, List}
use Imports.{[], ◌∷◌, ◌++◌, drop, get_or, length, map, not, set, refl, sym, ◌∙◌, ap, subst, arith}
use Imports.{get_or-set_other, get_or-set_same, get_or-map, length-map, Keys, One, Two, Op, Requeue, Waiter}
use Imports.{Want, Exclusive, first_of, times, waiter, without, Act, Check, Wakes, Next, Value, holds}
use Imports.{wakes_taken, Owners, MutexPlace, NOT_PARKED, LockAt, is_locked, lock_act, mutex_next, NotifyAt}
use Imports.{CondvarPlace, Wait, Look, Notify, WaitAt, IsLockOf, IsReached, IsListed, after_condvar_deeds}
use Imports.{condvar_deeds, relocked_deeds, condvar_row, condvar_act, condvar_owners, is_shown, move_act}
use Imports.{mutex_beside, notify_act, wait_act, condvar_owners_follow, Place, Condvar, CondvarSite, SeeAgain}
use Imports.{SeeOther, MissIt, Show, queued_of, main_line_there, IsWellFormed, State, can_do, kind_at}
use Imports.{left_in_line, owners_at, place_at, queue_at, queues_with_last, queues_without}
use Imports.{queues_without_first, reply_to, state_after_act, state_after_operation, state_after_park}
use Imports.{state_after_requeue, state_after_take_first, state_after_taking, state_after_wake}
use Imports.{state_with_sections, unlocked, word_at, FitsCondvar, IsInductive, condvar_of, rules_in}
use Rattle.core_base.specs.declared.ops.Op.TheVariants as op
use Rattle.core_base.specs.declared.requeues.Requeue.TheVariants as requeue
use Rattle.core_base.specs.declared.wants.Want.TheVariants.{Wait as WaitHere}
use Rattle.core_base.specs.declared.notes.Note.TheVariants as note
use Rattle.spec_locks.specs.declared.kinds.Kind.TheVariants as kind
use Rattle.steps_base.specs.declared.acts.Act.TheVariants as act
use Rattle.steps_base.specs.declared.acts.Check.TheVariants as checks
use Rattle.steps_base.specs.declared.acts.Wakes.TheVariants as wakes
use Rattle.steps_base.specs.declared.acts.Next.TheVariants as next
use Rattle.steps_mutex.specs.declared.places.MutexPlace.TheVariants as mutex
use Rattle.steps_mutex.specs.declared.lock.Entry.TheVariants as entry
use Rattle.steps_mutex.specs.declared.lock.LockAt.TheVariants as lock
use Rattle.steps_mutex.specs.declared.unlock.UnlockAt.TheVariants as unlock
use Rattle.steps_condvar.specs.declared.notify.NotifyAt.TheVariants as notify
use Rattle.steps_condvar.specs.declared.wait.WaitAt.TheVariants as wait
use Rattle.spec_locks.specs.Locks as locks
use Rattle.lot_machine.specs.declared.locks.Lock.{Lock}
use Rattle.lot_laws.proofs.condvar.Replies.{at_it, fits_here, word_is}
use Rattle.lot_laws.proofs.hands.Counts.{without_absent}
use Rattle.lot_laws.proofs.sites.OneStep.{queued_after, queued_times, queued_without}
use Rattle.lot_laws.proofs.condvar.WaitersAside.{plain_sort}

dropped : (q : List Waiter) → map queued_of (drop 1 q) ≡ drop 1 (map queued_of q)
dropped [] = refl
dropped (x ∷ q) = refl

module _ (w : State) (t l : ℕ) (at : CondvarPlace) (shape : IsWellFormed w) (inductive : IsInductive w)
    (is : place_at w t ≡ Condvar l at)
    (lt : l < length w.locks) where
  abbrev here : CondvarSite
  here = condvar_of w l

  fits : FitsCondvar w l at
  fits = fits_here w t l at inductive is

  line : 2 * l < length w.queues
  line = main_line_there w l shape lt

  -- after an act these are shown and wait
  abbrev Is : State → Option ℕ → List locks.Queued → Type 0
  Is b shown waiters = ((owners_at b l).shown ≡ shown) × (map queued_of (queue_at b (2 * l)) ≡ waiters)

  -- tells what its deeds make of it
  abbrev Led : CondvarPlace → Act → Type 0
  Led p a = Is (state_after_act w t (Condvar l p) a) (after_condvar_deeds (condvar_deeds p (reply_to w t a))
      here t).shown (after_condvar_deeds (condvar_deeds p (reply_to w t a)) here t).waiters

  abbrev Same : State → Type 0
  Same b = Is b here.shown here.waiters

  beside : (m : ℕ) → mutex_beside at ≡ Some m → m ≢ l
  beside m names e = let both : locks.Mutex ≡ locks.Condvar =
      sym (plain_sort (kind_at w m) (fits.mutex m names)) ∙ ap (λ j. (rules_in w j).sort) e ∙ fits.sort in cc

  -- a thread that waits in no queue of it leaves it
  gone : times t (queue_at w (2 * l)) ≡ 0 → get_or (map (without t) w.queues) (2 * l) [] ≡ queue_at w (2 * l)
  gone unlisted = get_or-map (without t) w.queues (2 * l) [] ∙ without_absent t (queue_at w (2 * l)) unlisted

  -- ---------------------------------------------------------------- deeds at the mutex

  module _ (m : ℕ) (apart : m ≢ l) where
    at_word : (p : Place) (f : Op) → Same (state_after_operation w t p m f)
    at_word p f = (
      ap (λ (x : Lock). x.owners.shown) (get_or-set_other w.locks m l _ (unlocked kind.Mutex)
          (λ e. apart (sym e))),
      refl,
    )

    other_key : 2 * l ≢ 2 * m
    other_key e = apart (omega arith)

    at_take : Same (state_after_take_first w t (2 * m))
    at_take = by_first (first_of (queue_at w (2 * m)))
      where
        by_first : (o : Option ℕ) → Same
            (state_after_taking (record w { queues = queues_without_first w.queues (2 * m) }) t o)
        by_first None = (refl, ap (map queued_of) (get_or-set_other w.queues (2 * m) (2 * l) _ [] other_key))
        by_first (Some u) = (
          refl,
          ap (map queued_of) (get_or-set_other w.queues (2 * m) (2 * l) _ []
              other_key),
        )

    -- where it waits in no queue of the condition variable
    module _ (unlisted : times t (queue_at w (2 * l)) ≡ 0) where
      at_remove : Same (record w { queues = queues_without w.queues t })
      at_remove = (refl, ap (map queued_of) (gone unlisted))

      at_park : (check : Check) (x : Want) → Same (state_after_park w t m (2 * m) check x)
      at_park check x = either (holds check (word_at w m))
        where
          either : (b : Bool) → Same (if b then record w { queues = queues_with_last w.queues (2 * m) t x }
              else w)
          either true = (
            refl,
            ap (map queued_of) (get_or-set_other (map (without t) w.queues) (2 * m) (2 * l)
                _ [] other_key ∙ gone unlisted),
          )
          either false = (refl, refl)

  at_sections : (keys : Keys) (who : Option ℕ) → Same (state_with_sections w keys who)
  at_sections (One key) who = (refl, refl)
  at_sections (Two first second) who = (refl, refl)

  at_leave : (keys : Keys) (x : Wakes) → Same (state_after_wake (state_with_sections w keys None) t x)
  at_leave keys wakes.Nobody = at_sections keys None
  at_leave (One key) (wakes.All n) = (refl, refl)
  at_leave (Two first second) (wakes.All n) = (refl, refl)

  -- ---------------------------------------------------------------- and on its own word

  at_own_word : (p : CondvarPlace) (f : Op) → condvar_act l p ≡ act.Word l f → mutex_beside p ≢ Some l
      → (after_condvar_deeds (condvar_deeds p (Value (word_at w l))) here t).waiters ≡ here.waiters
      → Led p (act.Word l f)
  at_own_word p f acts other waiters = (
    ap (λ (x : Lock). x.owners.shown) (get_or-set_same w.locks l _ (unlocked kind.Mutex) lt) ∙ shown,
    sym waiters,
  )
    where
      shown : (condvar_owners p t (word_at w l) (owners_at w l)).shown
          ≡ (after_condvar_deeds (condvar_deeds p (Value (word_at w l))) here t).shown
      shown = subst (λ v. (condvar_owners p t v (owners_at w l)).shown
          ≡ (after_condvar_deeds (condvar_deeds p (Value v)) here t).shown)
          (sym (word_is w t l at inductive is))
          (ap (λ (o : Owners). o.shown) (condvar_owners_follow here t l p f (owners_at w l) acts other refl))

  -- ---------------------------------------------------------------- each place

  relocked : (n : Next MutexPlace) (b : State) → Same b
      → Is b (after_condvar_deeds (relocked_deeds n) here t).shown (after_condvar_deeds (relocked_deeds n)
      here t).waiters
  relocked (next.At q) b h = h
  relocked (next.End answer) b h = h

  unlisted : (p : CondvarPlace) → at ≡ p → (condvar_row p).listed ≡ false → times t (queue_at w (2 * l)) ≡ 0
  unlisted p e none = sym (queued_times t (queue_at w (2 * l)))
      ∙ subst (IsListed here t) (ap (λ q. (condvar_row q).listed) e ∙ none)
      (at_it w t l at inductive is).listed

  module _ (m : ℕ) (timed : Bool) (apart : m ≢ l) where
    named : Some m ≢ Some l
    named e = apart cc

    shows : (b : Bool) → (after_condvar_deeds (if b then Show m ∷ [] else SeeOther m ∷ []) here t).waiters
        ≡ here.waiters
    shows true = refl
    shows false = refl

    -- the thread locks its mutex again
    module _ (late again : Bool) where
      abbrev relocks : LockAt → CondvarPlace
      relocks a = Wait m timed (wait.Lock late (mutex.Lock entry.Lock again a))

      by_act : (a : LockAt) (x : Act) → Same (state_after_act w t (Condvar l (relocks a)) x)
          → Led (relocks a) x
      by_act a x h = relocked (mutex_next (mutex.Lock entry.Lock again a) (reply_to w t x))
          (state_after_act w t (Condvar l (relocks a)) x) h

      by_word : (a : LockAt) (f : Op) → Led (relocks a) (act.Word m f)
      by_word a f = by_act a (act.Word m f) (at_word m apart (Condvar l (relocks a)) f)

      decides : (seen : ℕ) (a b : Bool)
          → Led (relocks (lock.Decide seen))
          (if not a then act.Word m (op.Exchange seen (seen + 1)) else if b then act.Word m
          (op.Exchange 1 3) else act.Enter (One (2 * m)))
      decides seen false b = by_word (lock.Decide seen) (op.Exchange seen (seen + 1))
      decides seen true true = by_word (lock.Decide seen) (op.Exchange 1 3)
      decides seen true false = by_act (lock.Decide seen) (act.Enter (One (2 * m)))
          (at_sections (One (2 * m)) (Some t))

      locks_led : (a : LockAt) → at ≡ relocks a → IsLockOf a → can_do w (lock_act m a) ≡ true
          → Led (relocks a) (lock_act m a)
      locks_led lock.First e of can = by_word lock.First (op.Exchange 0 1)
      locks_led lock.Load e of can = by_word lock.Load op.Load
      locks_led (lock.Decide seen) e of can = decides seen (is_locked seen) (seen == 1)
      locks_led lock.Check e of can = by_act lock.Check (act.Park m (2 * m) (checks.WordIs 3) Exclusive)
          (at_park m apart (unlisted (relocks lock.Check) e refl) (checks.WordIs 3) Exclusive)
      locks_led (lock.Leave parked) e of can =
          by_act (lock.Leave parked) (act.Leave (One (2 * m)) wakes.Nobody) (at_sections (One (2 * m)) None)
      locks_led lock.Asleep e of can = absurd cc
      locks_led (lock.Taken by) e of can = absurd cc
      locks_led (lock.Handed by) e of can = absurd cc
      locks_led lock.Accept e of can = by_act lock.Accept act.Accept (refl, refl)
      locks_led a e of can = absurd of

    wait_led : (p : WaitAt) → at ≡ Wait m timed p → IsReached (Wait m timed p) → can_do w (wait_act l m p)
        ≡ true
        → Led (Wait m timed p) (wait_act l m p)
    wait_led wait.Enter e reached can = (refl, refl)
    wait_led wait.Show e reached can = at_own_word (Wait m timed wait.Show)
        (op.Exchange 0 (m + 1)) refl named
        (shows ((word_at w l == 0) || is_shown (word_at w l) m))
    wait_led wait.Stand e reached can = (
      refl,
      ap (map queued_of) (get_or-set_same (map (without t) w.queues) (2 * l) _ []
          (rw (length-map w.queues (without t)) line) ∙ ap (λ q. q ++ waiter (2 * l) t WaitHere ∷ [])
          (gone (unlisted at refl (ap (λ q. (condvar_row q).listed) e))))
          ∙ queued_after (2 * l) t WaitHere (queue_at w (2 * l)),
    )
    wait_led wait.Leave e reached can = (refl, refl)
    wait_led wait.Refuse e reached can = (refl, refl)
    wait_led (wait.Release s (mutex.Unlock unlock.Subtract)) e reached can =
        at_word m apart (Condvar l (Wait m timed (wait.Release s (mutex.Unlock unlock.Subtract))))
        (op.Sub 1)
    wait_led (wait.Release s (mutex.Unlock unlock.Enter)) e reached can = at_sections (One (2 * m)) (Some t)
    wait_led (wait.Release s (mutex.Unlock unlock.Take)) e reached can = at_take m apart
    wait_led (wait.Release s (mutex.Unlock (unlock.Clear any))) e reached can =
        at_word m apart (Condvar l (Wait m timed (wait.Release s (mutex.Unlock (unlock.Clear any)))))
        (op.And NOT_PARKED)
    wait_led (wait.Release s (mutex.Unlock (unlock.Leave any))) e reached can =
        at_leave (One (2 * m)) (wakes_taken any note.Normal)
    wait_led (wait.Release s p) e reached can = absurd reached.0
    wait_led (wait.Asleep s) e reached can = absurd cc
    wait_led wait.Remove e reached can = (
      refl,
      ap (map queued_of) (get_or-map (without t) w.queues (2 * l) [])
          ∙ queued_without t (queue_at w (2 * l)),
    )
    wait_led wait.Hide e reached can = at_own_word (Wait m timed wait.Hide) (op.Store 0) refl
        named refl
    wait_led wait.GiveUp e reached can = (refl, refl)
    wait_led wait.RemoveMoved e reached can =
        at_remove m apart (unlisted at refl (ap (λ q. (condvar_row q).listed) e))
    wait_led (wait.GiveUpMoved none_left) e reached can = (refl, refl)
    wait_led (wait.Lock late (mutex.Lock entry.Lock again a)) e reached can =
        locks_led late again a e reached.1 can
    wait_led (wait.Lock late p) e reached can = absurd reached.1

  module _ (all : Bool) (m : ℕ) (apart : m ≢ l) where
    named_it : Some m ≢ Some l
    named_it e = apart cc

    sees : (b : Bool) → (after_condvar_deeds (if b then SeeAgain m ∷ [] else MissIt m ∷ []) here t).waiters
        ≡ here.waiters
    sees true = refl
    sees false = refl

    -- tells what a requeue leaves
    left : (how : Requeue) → queue_at (state_after_requeue w t (2 * l) (2 * m) how) (2 * l) ≡ left_in_line how
        (queue_at w (2 * l))
    left how = get_or-set_other (set w.queues (2 * l) (left_in_line how (queue_at w (2 * l)))) (2 * m) (2 * l)
        _ [] (other_key m apart) ∙ get_or-set_same w.queues (2 * l) (left_in_line how (queue_at w (2 * l))) []
        line

    moves_led : (all locked : Bool) → Led (Notify all m (notify.Move locked)) (move_act all locked l m)
    moves_led true true = (refl, ap (map queued_of) (left requeue.All))
    moves_led true false = (refl, ap (map queued_of) (left requeue.TakeOneMoveRest))
    moves_led false true = (refl, ap (map queued_of) (left requeue.One) ∙ dropped (queue_at w (2 * l)))
    moves_led false false = by_first (first_of (queue_at w (2 * l)))
      where
        taken : get_or (queues_without_first w.queues (2 * l)) (2 * l) [] ≡ drop 1 (queue_at w (2 * l))
        taken = get_or-set_same w.queues (2 * l) (drop 1 (queue_at w (2 * l))) [] line

        by_first : (o : Option ℕ) → Is
            (state_after_taking (record w { queues = queues_without_first w.queues (2 * l) }) t o) here.shown
            (drop 1 here.waiters)
        by_first None = (refl, ap (map queued_of) taken ∙ dropped (queue_at w (2 * l)))
        by_first (Some u) = (refl, ap (map queued_of) taken ∙ dropped (queue_at w (2 * l)))

    notify_led : (p : NotifyAt) → can_do w (notify_act all l m p) ≡ true → Led (Notify all m p)
        (notify_act all l m p)
    notify_led notify.Enter can = (refl, refl)
    notify_led notify.Again can = at_own_word (Notify all m notify.Again) op.Load refl named_it
        (sees (is_shown (word_at w l) m))
    notify_led notify.Hide can = at_own_word (Notify all m notify.Hide) (op.Store 0) refl named_it
        refl
    notify_led notify.Mark can = at_word m apart (Condvar l (Notify all m notify.Mark)) op.Load
    notify_led (notify.Set seen) can = at_word m apart (Condvar l (Notify all m (notify.Set seen)))
        (op.Exchange seen 3)
    notify_led (notify.Move locked) can = moves_led all locked
    notify_led (notify.Clear any) can = at_own_word (Notify all m (notify.Clear any)) (op.Store 0)
        refl named_it refl
    notify_led (notify.MarkMoved number) can =
        at_word m apart (Condvar l (Notify all m (notify.MarkMoved number))) (op.Or 2)
    notify_led (notify.Leave any number) can = at_leave (Two (2 * l) (2 * m)) (wakes_taken any note.Normal)

  pub goes_led : can_do w (condvar_act l at) ≡ true → Led at (condvar_act l at)
  goes_led can = by_place at refl fits.reached can
    where
      by_place : (p : CondvarPlace) → at ≡ p → IsReached p → can_do w (condvar_act l p) ≡ true
          → Led p (condvar_act l p)
      by_place (Wait m timed p) e reached can = wait_led m timed (beside m (ap mutex_beside e)) p e reached
          can
      by_place (Look all) e reached can = at_own_word (Look all) op.Load refl (λ f. cc) refl
      by_place (Notify all m p) e reached can = notify_led all m (beside m (ap mutex_beside e)) p can
