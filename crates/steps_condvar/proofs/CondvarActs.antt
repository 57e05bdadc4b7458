-- Each step in a call of a condition variable takes its thread in the machine where its act says, at each of
-- its two locks.
use Rattle.std.proofs.Common.{ℕ, Bool, true, false, Option, Some, None, if◌then◌else◌, ◌==◌, ◌≡◌, ◌+◌, ◌*◌}
use Rattle.std.proofs.Common.{◌⊎◌, inl, inr, List, [], ◌∷◌, refl, sym, ap, ◌∙◌, subst, arith}
use Rattle.std.proofs.lemmas.Bool.Decides.{nat_tests}
use Rattle.steps_mutex.specs.declared.lock.Entry.{Entry}
use Rattle.spec_locks.specs.Locks.{putting}
use Rattle.spec_locks.specs.Sites.{Has, Role}
use Rattle.steps_base.proofs.Deeds.{put_same}
use Rattle.std.specs.Prelude.{nat_lt, not, ◌||◌}
use Rattle.core_base.specs.declared.keys.Keys.TheVariants.{One}
use Rattle.core_base.specs.declared.notes.Note.TheVariants as note
use Rattle.core_base.specs.declared.ops.Op.TheVariants as op
use Rattle.core_base.specs.declared.wants.Want.TheVariants.{Exclusive}
use Rattle.spec_locks.specs.declared.outcomes.Answer.TheVariants as answer
use Rattle.steps_base.specs.declared.acts.Act.TheVariants as act
use Rattle.steps_base.specs.declared.acts.Next.{Next}
use Rattle.steps_base.specs.declared.acts.Next.TheVariants.{At, End as Over}
use Rattle.steps_base.specs.declared.acts.Reply.{Reply}
use Rattle.steps_base.specs.declared.acts.Reply.TheVariants.{Value}
use Rattle.steps_base.specs.Moves.{inside_of, location_of}
use Rattle.steps_base.specs.Profiles.{Hand, hand, in_hand}
use Rattle.steps_base.specs.Locations.{Location, nowhere, location_by}
use Rattle.spec_locks.specs.Condvars.{MissIt, SeeAgain, SeeOther, Show}
use Rattle.spec_locks.specs.Locks.{Leave, Queued}
use Rattle.spec_locks.specs.Sites.{Case, End, Line, Main, Mark, MarkOwned}
use Rattle.steps_mutex.specs.declared.lock.Entry.TheVariants as entry
use Rattle.steps_mutex.specs.declared.lock.LockAt.{LockAt}
use Rattle.steps_mutex.specs.declared.lock.LockAt.TheVariants as lock
use Rattle.steps_mutex.specs.declared.places.MutexPlace.TheVariants as mutex
use Rattle.steps_mutex.specs.declared.unlock.UnlockAt.{UnlockAt}
use Rattle.steps_mutex.specs.declared.unlock.UnlockAt.TheVariants as unlock
use Rattle.steps_mutex.specs.MutexDeeds.{enter_deeds, take_deeds}
use Rattle.steps_mutex.specs.MutexProfiles.{inside}
use Rattle.steps_mutex.specs.MutexSteps.{entered, in_lock, in_unlock, is_locked, is_parked}
use Rattle.steps_condvar.specs.declared.notify.NotifyAt.{NotifyAt}
use Rattle.steps_condvar.specs.declared.notify.NotifyAt.TheVariants as notify
use Rattle.steps_condvar.specs.declared.places.CondvarPlace.{CondvarPlace}
use Rattle.steps_condvar.specs.declared.places.CondvarPlace.TheVariants.{Wait, Notify}
use Rattle.steps_condvar.specs.declared.wait.WaiterFate.{WaiterFate}
use Rattle.steps_condvar.specs.declared.wait.WaiterFate.TheVariants as stands
use Rattle.steps_condvar.specs.declared.wait.WaitAt.{WaitAt}
use Rattle.steps_condvar.specs.declared.wait.WaitAt.TheVariants as wait
use Rattle.steps_condvar.specs.CondvarSteps.{in_lock as in_lock_once, past_release, condvar_act, in_notify}
use Rattle.steps_condvar.specs.CondvarSteps.{in_wait, is_shown, marks, moved_one, mutex_shown, notified}
use Rattle.steps_condvar.specs.CondvarSteps.{released, relocked}
use Rattle.steps_condvar.specs.CondvarProfiles.{has_moved, mutex_side, condvar_profile}
use Rattle.steps_condvar.specs.CondvarDeeds.{relocked_deeds}
use Rattle.steps_condvar.specs.CondvarWaits as waits
use Rattle.steps_condvar.specs.CondvarCalls.{IsLockOf, IsReached}
use Rattle.steps_condvar.specs.CondvarMoves.{WaitersLookAgain, WaitsBegin, CondvarMoves, IsInHand, LooksMove}
use Rattle.steps_condvar.specs.CondvarMoves.{NotifiesMove, SleepsAtMutex, SleepsAtCondvar, StayAtMutex, StayAtCondvar}
use Rattle.steps_condvar.specs.CondvarMoves.{StaysPutAtMutex, StaysAtCondvar, WaitersMove, WaitsAtBoth, WaitsMove}
use Rattle.steps_condvar.specs.CondvarMoves.{move_at_mutex, row_at_mutex, row_at_condvar, there}

-- where a thread is next, at each lock
abbrev there_next : Next CondvarPlace → Location
there_next n = location_by (row_at_condvar n)

abbrev beside_next : Next CondvarPlace → Location
beside_next n = location_by (row_at_mutex n)

-- ---------------------------------------------------------------- the release

module _ (c m : ℕ) (timed : Bool) where
  abbrev place : WaitAt → CondvarPlace
  place at = Wait m timed at

  abbrev releasing : WaiterFate → UnlockAt → CondvarPlace
  releasing st at = place (wait.Release st (mutex.Unlock at))

  -- after it, it is where what befell it says
  after_there : (st : WaiterFate) → there (place (past_release st)) ≡ there (releasing st unlock.Subtract)
  after_there stands.Listed = refl
  after_there stands.Moved = refl
  after_there (stands.InHand by) = refl
  after_there (stands.Handed by) = refl
  after_there (stands.Noted note.Normal) = refl
  after_there (stands.Noted note.HandOff) = refl

  after_beside : (st : WaiterFate) → location_by (mutex_side (place (past_release st))) ≡ location_by
      (mutex_side (releasing st unlock.Subtract))
  after_beside stands.Listed = refl
  after_beside stands.Moved = refl
  after_beside (stands.InHand by) = refl
  after_beside (stands.Handed by) = refl
  after_beside (stands.Noted note.Normal) = refl
  after_beside (stands.Noted note.HandOff) = refl

  subtracts : (st : WaiterFate) (seen : ℕ) → StaysAtCondvar (releasing st unlock.Subtract) (Value seen)
      × StaysPutAtMutex (move_at_mutex [] (releasing st unlock.Subtract)) (Value seen)
  subtracts st seen = (
    record { deeds = tt; goes = by_there (is_parked seen) },
    record { deeds = by_deeds (is_parked seen); goes = by_beside (is_parked seen) },
  )
    where
      by_there : (b : Bool) → there_next
          (in_wait m timed (At (released st (in_unlock (if b then At unlock.Enter else Over answer.Ok)))))
          ≡ there (releasing st unlock.Subtract)
      by_there true = refl
      by_there false = after_there st

      by_beside : (b : Bool) → beside_next
          (in_wait m timed (At (released st (in_unlock (if b then At unlock.Enter else Over answer.Ok)))))
          ≡ location_by (mutex_side (releasing st unlock.Subtract))
      by_beside true = refl
      by_beside false = after_beside st

      by_deeds : (b : Bool) → StayAtMutex
          (waits.unended (Case (Leave Exclusive) ∷ (if b then [] else End ∷ [])))
      by_deeds true = tt
      by_deeds false = tt

  releases : (st : WaiterFate) (at : UnlockAt) → CondvarMoves c m [] (releasing st at)
      (condvar_act c (releasing st at))
  releases st unlock.Subtract = (inr refl, subtracts st)
  releases st unlock.Enter = inr (inl (
    refl,
    record { deeds = tt; goes = refl },
    record { out = refl; deeds = refl; goes = refl; may = λ r s t free. free },
  ))
  releases st unlock.Take =
      inl (
        refl,
        record {
          inside = refl;
          empty_handed = refl;
          deeds = takes_so;
          goes = λ any none_left. took any none_left;
          may = λ r s t whom any none_left first nobody. (first, nobody);
        },
        λ any none_left. record { deeds = tt; goes = left_there any none_left },
      )
    where
      takes_so : (whom : Option ℕ) (any none_left : Bool) → waits.unended (take_deeds whom) ≡ take_deeds whom
      takes_so None any none_left = refl
      takes_so (Some u) any none_left = refl

      took : (any none_left : Bool)
          → beside_next (in_wait m timed
          (At (released st (in_unlock (if none_left then At (unlock.Clear any) else At (unlock.Leave any))))))
          ≡ record (location_by (mutex_side (releasing st unlock.Take))) { has_taken = in_hand any false }
      took any true = refl
      took any false = refl

      left_there : (any b : Bool) → there_next
          (in_wait m timed (At (released st
          (in_unlock (if b then At (unlock.Clear any) else At (unlock.Leave any)))))) ≡ there
          (releasing st unlock.Take)
      left_there any true = refl
      left_there any false = refl
  releases st (unlock.Clear any) =
      (inr refl, λ seen. (record { deeds = tt; goes = refl }, record { deeds = tt; goes = refl }))
  releases st (unlock.Leave any) = inr (inl (
    refl,
    record { deeds = tt; goes = after_there st },
    record { any = any; notes = refl; inside = refl; has_taken = refl; deeds = tt; goes = after_beside st },
  ))

  -- ---------------------------------------------------------------- the lock after it

  module _ (timed_out retries : Bool) where
    abbrev locking : LockAt → CondvarPlace
    locking at = place (wait.Lock timed_out (mutex.Lock entry.Lock retries at))

    abbrev lock_next : Next LockAt → Next CondvarPlace
    lock_next n = in_wait m timed (relocked timed timed_out (in_lock entry.Lock retries n))

    abbrev StayBoth : LockAt → Reply → Type 0
    StayBoth at told = StaysAtCondvar (locking at) told × StaysPutAtMutex (move_at_mutex [] (locking at)) told

    tries : (seen : ℕ) → StayBoth lock.First (Value seen)
    tries seen = (
      record { deeds = deeds_at_condvar (seen == 0); goes = by_there (seen == 0) },
      record { deeds = deeds_by (seen == 0); goes = by_beside (seen == 0) },
    )
      where
        deeds_at_condvar : (b : Bool) → StayAtCondvar
            (relocked_deeds (in_lock entry.Lock retries (if b then Over (entered entry.Lock)
            else At lock.Load)))
        deeds_at_condvar true = tt
        deeds_at_condvar false = tt

        by_there : (b : Bool) → there_next (lock_next (if b then Over (entered entry.Lock) else At lock.Load))
            ≡ nowhere
        by_there true = refl
        by_there false = refl

        deeds_by : (b : Bool) → StayAtMutex (if b then enter_deeds else [])
        deeds_by true = tt
        deeds_by false = tt

        by_beside : (b : Bool) → beside_next (lock_next (if b then Over (entered entry.Lock)
            else At lock.Load)) ≡ nowhere
        by_beside true = refl
        by_beside false = refl

    abbrev after_exchange : ℕ → Bool → Bool → Next LockAt
    after_exchange seen same locked = if not same then At (lock.Decide seen) else if locked
        then At (lock.Decide 3) else Over (entered entry.Lock)

    exchanges : (expected seen : ℕ) → StayBoth (lock.Decide expected) (Value seen)
    exchanges expected seen = (
      record {
        deeds = deeds_at_condvar (seen == expected) (is_locked seen);
        goes = by_there (seen == expected) (is_locked seen);
      },
      record {
        deeds = deeds_by (seen == expected) (is_locked seen);
        goes = by_beside (seen == expected) (is_locked seen);
      },
    )
      where
        deeds_at_condvar : (same locked : Bool)
            → StayAtCondvar (relocked_deeds (in_lock entry.Lock retries (after_exchange seen same locked)))
        deeds_at_condvar false locked = tt
        deeds_at_condvar true true = tt
        deeds_at_condvar true false = tt

        by_there : (same locked : Bool) → there_next (lock_next (after_exchange seen same locked)) ≡ nowhere
        by_there false locked = refl
        by_there true true = refl
        by_there true false = refl

        deeds_by : (same locked : Bool) → StayAtMutex (if not same then [] else if locked then Mark Main ∷ []
            else enter_deeds)
        deeds_by false locked = tt
        deeds_by true true = tt
        deeds_by true false = tt

        by_beside : (same locked : Bool) → beside_next (lock_next (after_exchange seen same locked))
            ≡ nowhere
        by_beside false locked = refl
        by_beside true true = refl
        by_beside true false = refl

    decides : (expected : ℕ) (locked one : Bool)
        → CondvarMoves c m [] (locking (lock.Decide expected)) (if not locked then act.Word m
        (op.Exchange expected (expected + 1)) else if one then act.Word m (op.Exchange 1 3)
        else act.Enter (One (2 * m)))
    decides expected false one = (inr refl, exchanges expected)
    decides expected true true = (inr refl, exchanges expected)
    decides expected true false = inr (inl (
      refl,
      record { deeds = tt; goes = refl },
      record { out = refl; deeds = refl; goes = refl; may = λ r s t free. free },
    ))

    leaves : (parked : Bool) → CondvarMoves c m [] (locking (lock.Leave parked))
        (condvar_act c (locking (lock.Leave parked)))
    leaves true = inr (inl (
      refl,
      record { deeds = tt; goes = refl },
      record { any = false; notes = refl; inside = refl; has_taken = refl; deeds = tt; goes = refl },
    ))
    leaves false = inr (inl (
      refl,
      record { deeds = tt; goes = refl },
      record { any = false; notes = refl; inside = refl; has_taken = refl; deeds = tt; goes = refl },
    ))

    locks : (at : LockAt) → IsLockOf at → CondvarMoves c m [] (locking at) (condvar_act c (locking at))
    locks lock.First is = (inr refl, tries)
    locks lock.Load is = (
      inr refl,
      λ seen. (record { deeds = tt; goes = refl }, record { deeds = tt; goes = refl }),
    )
    locks (lock.Decide expected) is = decides expected (is_locked expected) (expected == 1)
    locks lock.Check is = (
      refl,
      refl,
      record {
        was = refl;
        parks = refl;
        parked = refl;
        turns = refl;
        turned = refl;
        may = λ r s t b e out. (e, out);
      },
      λ parked. record { deeds = tt; goes = refl },
    )
    locks (lock.Leave parked) is = leaves parked
    locks lock.Asleep is = tt
    locks (lock.Taken by) is = tt
    locks (lock.Handed by) is = tt
    locks lock.Accept is = (
      record { deeds = tt; goes = refl },
      record { was = refl; deeds = refl; goes = refl; may = λ r s t. tt },
    )
    locks at is = absurd is

  -- ---------------------------------------------------------------- each place of a wait

  shows : (seen : ℕ) → StaysAtCondvar (place wait.Show) (Value seen)
      × StaysPutAtMutex (move_at_mutex [] (place wait.Show)) (Value seen)
  shows seen = (
    record {
      deeds = deeds_at_condvar ((seen == 0) || is_shown seen m);
      goes = by_there ((seen == 0) || is_shown seen m);
    },
    record { deeds = tt; goes = by_beside ((seen == 0) || is_shown seen m) },
  )
    where
      deeds_at_condvar : (b : Bool) → StayAtCondvar (if b then Show m ∷ [] else SeeOther m ∷ [])
      deeds_at_condvar true = tt
      deeds_at_condvar false = tt

      by_there : (b : Bool) → there_next (in_wait m timed (if b then At wait.Stand else At wait.Refuse))
          ≡ inside_of Main
      by_there true = refl
      by_there false = refl

      by_beside : (b : Bool) → beside_next (in_wait m timed (if b then At wait.Stand else At wait.Refuse))
          ≡ nowhere
      by_beside true = refl
      by_beside false = refl

  removes : CondvarMoves c m [] (place wait.Remove) (act.Remove (2 * c))
  removes = inl (
    refl,
    record { was = refl; deeds = λ none_left. refl; goes = by_there },
    λ none_left. record { deeds = tt; goes = by_beside none_left },
  )
    where
      by_there : (b : Bool) → there_next (in_wait m timed (if b then At wait.Hide else At wait.GiveUp))
          ≡ inside_of Main
      by_there true = refl
      by_there false = refl

      by_beside : (b : Bool) → beside_next (in_wait m timed (if b then At wait.Hide else At wait.GiveUp))
          ≡ nowhere
      by_beside true = refl
      by_beside false = refl

  waits_so : (at : WaitAt) → IsReached (place at) → CondvarMoves c m [] (place at) (condvar_act c (place at))
  waits_so wait.Enter reached = inl (
    refl,
    record { out = refl; deeds = refl; goes = refl },
    record { deeds = tt; goes = refl },
  )
  waits_so wait.Show reached = (inl refl, shows)
  waits_so wait.Stand reached = (
    refl,
    refl,
    record { was = refl; deeds = refl; goes = refl },
    record { deeds = tt; goes = refl },
  )
  waits_so wait.Leave reached = inl (
    refl,
    record { inside = refl; deeds = tt; goes = refl },
    record { deeds = tt; goes = refl },
  )
  waits_so wait.Refuse reached = inl (
    refl,
    record { inside = refl; deeds = tt; goes = refl },
    record { deeds = tt; goes = refl },
  )
  waits_so (wait.Release st (mutex.Unlock at)) reached = releases st at
  waits_so (wait.Release st at) reached = absurd reached.0
  waits_so (wait.Asleep st) reached = tt
  waits_so wait.Remove reached = removes
  waits_so wait.Hide reached = (
    inl refl,
    λ seen. (record { deeds = tt; goes = refl }, record { deeds = tt; goes = refl }),
  )
  waits_so wait.GiveUp reached = inl (
    refl,
    record { inside = refl; deeds = tt; goes = refl },
    record { deeds = tt; goes = refl },
  )
  waits_so wait.RemoveMoved reached =
      inr (
        refl,
        (λ none_left. record { deeds = tt; goes = refl }),
        record {
          want = Exclusive;
          was = refl;
          deeds = λ none_left. refl;
          goes = λ none_left. refl;
          may = λ r s t none_left alone. alone;
        },
      )
  waits_so (wait.GiveUpMoved none_left) reached = inr (inl (
    refl,
    record { deeds = tt; goes = refl },
    record { any = false; notes = refl; inside = refl; has_taken = refl; deeds = tt; goes = refl },
  ))
  waits_so (wait.Lock timed_out (mutex.Lock entry.Lock retries at)) reached =
      locks timed_out retries at reached.1
  waits_so (wait.Lock timed_out at) reached = absurd reached.1

pub waits_move : WaitsMove
waits_move c m timed at reached = waits_so c m timed at reached

-- ---------------------------------------------------------------- a thread that notifies

module _ (c m : ℕ) (q : List Queued) where
  abbrev notifying : Bool → NotifyAt → CondvarPlace
  notifying all at = Notify all m at

  abbrev Stays : Bool → NotifyAt → Reply → Type 0
  Stays all at told = StaysAtCondvar (notifying all at) told × StaysPutAtMutex (move_at_mutex q (notifying all at))
      told

  -- inside both sections, with those that it has taken, if any, in hand
  abbrev both_with : Bool → Location
  both_with any = record (inside_of Main) { has_taken = in_hand any false }

  leaving_is : (all any : Bool) (number : ℕ)
      → location_by (mutex_side (notifying all (notify.Leave any number))) ≡ both_with any
  leaving_is all any number = λ i. record (both_with any) { inside = sections (number == 0) i }
    where
      sections : (b : Bool) → (if b then inside else has_moved any false).inside ≡ Some Main
      sections true = refl
      sections false = refl

  abbrev again_after : Bool → Bool → Next CondvarPlace
  again_after all b = At (notifying all (if not b then notify.Leave false 0 else if all then notify.Hide
      else notify.Mark))

  sees : (all : Bool) (seen : ℕ) → Stays all notify.Again (Value seen)
  sees all seen = (
    record { deeds = deeds_at_condvar (is_shown seen m); goes = by_there all (is_shown seen m) },
    record { deeds = tt; goes = by_beside all (is_shown seen m) },
  )
    where
      deeds_at_condvar : (b : Bool) → StayAtCondvar (if b then SeeAgain m ∷ [] else MissIt m ∷ [])
      deeds_at_condvar true = tt
      deeds_at_condvar false = tt

      by_there : (all b : Bool) → there_next (again_after all b) ≡ inside_of Main
      by_there true true = refl
      by_there false true = refl
      by_there all false = refl

      by_beside : (all b : Bool) → beside_next (again_after all b) ≡ inside_of Main
      by_beside true true = refl
      by_beside false true = refl
      by_beside all false = refl

  module _ (all : Bool) where
    marked_there : (seen : ℕ) (b : Bool)
        → there (notifying all (if b then notify.Set seen else notify.Move false)) ≡ inside_of Main
    marked_there seen true = refl
    marked_there seen false = refl

    marked_beside : (seen : ℕ) (b : Bool)
        → location_by (mutex_side (notifying all (if b then notify.Set seen else notify.Move false)))
        ≡ inside_of Main
    marked_beside seen true = refl
    marked_beside seen false = refl

    bit_pending : (expected seen : ℕ) → Stays all (notify.Set expected) (Value seen)
    bit_pending expected seen = (
      record { deeds = tt; goes = by_there (seen == expected) },
      record { deeds = deeds_by (seen == expected); goes = by_beside (seen == expected) },
    )
      where
        by_there : (b : Bool) → there_next (in_notify all m (if b then At (notify.Move true)
            else At (marks seen))) ≡ inside_of Main
        by_there true = refl
        by_there false = marked_there seen (is_locked seen)

        deeds_by : (b : Bool) → StayAtMutex (if b then MarkOwned ∷ [] else [])
        deeds_by true = tt
        deeds_by false = tt

        by_beside : (b : Bool) → beside_next (in_notify all m (if b then At (notify.Move true)
            else At (marks seen))) ≡ inside_of Main
        by_beside true = refl
        by_beside false = marked_beside seen (is_locked seen)

  one_there : (any b : Bool) → there (notifying false (moved_one any b)) ≡ inside_of Main
  one_there any true = refl
  one_there any false = refl

  one_beside : (any b : Bool) → location_by (mutex_side (notifying false (moved_one any b))) ≡ both_with any
  one_beside any true = refl
  one_beside any false = refl

  all_there : (any : Bool) (number : ℕ) (b : Bool)
      → there (notifying true (if b then notify.MarkMoved number else notify.Leave any number))
      ≡ inside_of Main
  all_there any number true = refl
  all_there any number false = refl

  all_beside : (number : ℕ) (b : Bool)
      → location_by (mutex_side (notifying true (if b then notify.MarkMoved number else notify.Leave true
      number))) ≡ both_with true
  all_beside number true = refl
  all_beside number false = leaving_is true true number

  moves_all : (locked : Bool) → CondvarMoves c m q (notifying true (notify.Move locked))
      (condvar_act c (notifying true (notify.Move locked)))
  moves_all true = (
    refl,
    refl,
    λ number none_left. record {
      inside = (refl, refl);
      deeds_at_condvar = refl;
      deeds_at_mutex = refl;
      stays = refl;
      has_taken = leaving_is true false number;
    },
  )
  moves_all false = (
    refl,
    refl,
    λ number none_left. record {
      inside = (refl, refl);
      deeds_at_condvar = refl;
      deeds_at_mutex = refl;
      stays = all_there true number (nat_lt 1 number);
      has_taken = all_beside number (nat_lt 1 number);
    },
  )

  notifies_so : (all : Bool) (at : NotifyAt) → CondvarMoves c m q (notifying all at)
      (condvar_act c (notifying all at))
  notifies_so all notify.Enter = inr (inr (
    refl,
    record { out = refl; deeds = refl; goes = refl },
    record { out = refl; deeds = refl; goes = refl; may = λ r s t free v. free },
  ))
  notifies_so all notify.Again = (inl refl, sees all)
  notifies_so all notify.Hide =
      (inl refl, λ seen. (record { deeds = tt; goes = refl }, record { deeds = tt; goes = refl }))
  notifies_so all notify.Mark = (
    inr refl,
    λ seen. (
      record { deeds = tt; goes = marked_there all seen (is_locked seen) },
      record { deeds = tt; goes = marked_beside all seen (is_locked seen) },
    ),
  )
  notifies_so all (notify.Set expected) = (inr refl, bit_pending all expected)
  notifies_so true (notify.Move locked) = moves_all locked
  notifies_so false (notify.Move true) = (
    refl,
    refl,
    λ number none_left. record {
      inside = (refl, refl);
      deeds_at_condvar = refl;
      deeds_at_mutex = refl;
      stays = one_there false none_left;
      has_taken = one_beside false none_left;
    },
  )
  notifies_so false (notify.Move false) = inr (
    refl,
    λ none_left. record {
      inside = (refl, refl);
      deeds_at_condvar = refl;
      deeds_at_mutex = refl;
      stays = one_there true none_left;
      has_taken = one_beside true none_left;
    },
  )
  notifies_so all (notify.Clear any) =
      (inl refl, λ seen. (record { deeds = tt; goes = refl }, record { deeds = tt; goes = refl }))
  notifies_so all (notify.MarkMoved number) = (
    inr refl,
    λ seen. (record { deeds = tt; goes = refl }, record { deeds = tt; goes = leaving_is all true number }),
  )
  notifies_so all (notify.Leave any number) =
      inr (inr (
        refl,
        record { inside = refl; deeds = tt; goes = refl },
        record {
          any = any;
          notes = refl;
          inside = ap (λ (x : Location). x.inside) (leaving_is all any number);
          has_taken = refl;
          deeds = tt;
          goes = refl;
        },
      ))

pub notifies_move : NotifiesMove
notifies_move c m q all at reached = notifies_so c m q all at

abbrev look_after : Bool → ℕ → Bool → Next CondvarPlace
look_after all seen b = if b then Over (notified all 0) else At (Notify all (mutex_shown seen) notify.Enter)

pub looks_move : LooksMove
looks_move c m all = (
  inl refl,
  λ seen. (
    record { deeds = tt; goes = by_there seen (seen == 0) },
    record { deeds = tt; goes = by_beside seen (seen == 0) },
  ),
)
  where
    by_there : (seen : ℕ) (b : Bool) → there_next (look_after all seen b) ≡ nowhere
    by_there seen true = refl
    by_there seen false = refl

    by_beside : (seen : ℕ) (b : Bool) → beside_next (look_after all seen b) ≡ nowhere
    by_beside seen true = refl
    by_beside seen false = refl

-- ---------------------------------------------------------------- effects on a waiter

-- the thread stands in neither queue, and is in nobody's hand
awake : (p : CondvarPlace) → (there p).stands ≡ None → (location_of (move_at_mutex [] p)).stands ≡ None
    → (location_of (move_at_mutex [] p)).hand ≡ None → WaitsAtBoth p
awake p out off free = record {
  listed = λ e. absurd (let g : ◌≡◌ {A = Option Line} None (Some Main) = sym out ∙ e in cc);
  moved = λ e. absurd (let g : ◌≡◌ {A = Option Line} None (Some Main) = sym off ∙ e in cc);
  held = λ u handed e. absurd (let g : ◌≡◌ {A = Option Hand} None (hand u handed) = sym free ∙ e in cc);
}

module _ (m : ℕ) (timed : Bool) where
  abbrev waiting : WaitAt → CondvarPlace
  waiting at = Wait m timed at

  listed : (p : CondvarPlace) → ((there p).inside ≡ Some Main) ⊎ SleepsAtCondvar p
      → (location_of (move_at_mutex [] p)).stands ≡ None → (location_of (move_at_mutex [] p)).hand ≡ None
      → WaitsAtBoth p
  listed p so off free = record {
    listed = λ e. so;
    moved = λ e. absurd (let g : ◌≡◌ {A = Option Line} None (Some Main) = sym off ∙ e in cc);
    held = λ u handed e. absurd (let g : ◌≡◌ {A = Option Hand} None (hand u handed) = sym free ∙ e in cc);
  }

  moved : (p : CondvarPlace) → ((location_of (move_at_mutex [] p)).inside ≡ Some Main) ⊎ SleepsAtMutex p
      → (there p).stands ≡ None → (location_of (move_at_mutex [] p)).hand ≡ None → WaitsAtBoth p
  moved p so out free = record {
    listed = λ e. absurd (let g : ◌≡◌ {A = Option Line} None (Some Main) = sym out ∙ e in cc);
    moved = λ e. so;
    held = λ u handed e. absurd (let g : ◌≡◌ {A = Option Hand} None (hand u handed) = sym free ∙ e in cc);
  }

  in_hand_of : (p : CondvarPlace) (by : ℕ) (given : Bool) → (there p).stands ≡ None
      → (location_of (move_at_mutex [] p)).stands ≡ None → (location_of (move_at_mutex [] p)).hand ≡ hand by given
      → ((u : ℕ) → hand by given ≡ hand u given → IsInHand p u given) → WaitsAtBoth p
  in_hand_of p by given out off holds so = record {
    listed = λ e. absurd (let g : ◌≡◌ {A = Option Line} None (Some Main) = sym out ∙ e in cc);
    moved = λ e. absurd (let g : ◌≡◌ {A = Option Line} None (Some Main) = sym off ∙ e in cc);
    held = λ u handed e. let f : hand by given ≡ hand u handed = sym holds ∙ e in let same : given ≡ handed =
        cc in subst (λ b. hand by given ≡ hand u b → IsInHand p u b) same (so u) f;
  }

  sleepers : (at : WaitAt) → IsReached (waiting at) → WaitsAtBoth (waiting at)
  sleepers wait.Leave reached = listed (waiting wait.Leave) (inl refl) refl refl
  sleepers wait.Remove reached = listed (waiting wait.Remove) (inl refl) refl refl
  sleepers wait.RemoveMoved reached = moved (waiting wait.RemoveMoved) (inl refl) refl refl
  sleepers (wait.Release stands.Listed (mutex.Unlock at)) reached = listed _ (inr (record {
    was = (refl, refl, refl);
    taken = λ u. (refl, refl);
    moved = λ key. (refl, refl);
  })) refl refl
  sleepers (wait.Release stands.Moved (mutex.Unlock at)) reached = moved _ (inr (record {
    was = (refl, refl);
    taken = λ u. (refl, refl);
  })) refl refl
  sleepers (wait.Release (stands.InHand by) (mutex.Unlock at)) reached = in_hand_of _ by false refl refl refl
      (λ u e. record { was = (e, refl, refl); handed = λ alone. (refl, refl); woken = (refl, refl) })
  sleepers (wait.Release (stands.Handed by) (mutex.Unlock at)) reached = in_hand_of _ by true refl refl refl
      (λ u e. record { was = (e, refl, refl); told = (refl, refl) })
  sleepers (wait.Release (stands.Noted note) (mutex.Unlock at)) reached = awake _ refl refl refl
  sleepers (wait.Release st at) reached = absurd reached.0
  sleepers (wait.Asleep stands.Listed) reached = listed _ (inr (record {
    was = (refl, refl, refl);
    taken = λ u. (refl, refl);
    moved = λ key. (refl, refl);
  })) refl refl
  sleepers (wait.Asleep stands.Moved) reached = moved _ (inr (record {
    was = (refl, refl);
    taken = λ u. (refl, refl);
  })) refl refl
  sleepers (wait.Asleep (stands.InHand by)) reached = in_hand_of _ by false refl refl refl (λ u e. record {
    was = (e, refl, refl);
    handed = λ alone. (refl, refl);
    woken = (refl, refl);
  })
  sleepers (wait.Asleep (stands.Handed by)) reached = in_hand_of _ by true refl refl refl (λ u e. record {
    was = (e, refl, refl);
    told = (refl, refl);
  })
  sleepers (wait.Asleep (stands.Noted note)) reached = awake _ refl refl refl
  sleepers (wait.Lock timed_out (mutex.Lock entry.Lock retries lock.Asleep)) reached = moved _ (inr (record {
    was = (refl, refl);
    taken = λ u. (refl, refl);
  })) refl refl
  sleepers (wait.Lock timed_out (mutex.Lock entry.Lock retries (lock.Leave true))) reached =
      moved _ (inl refl) refl refl
  sleepers (wait.Lock timed_out (mutex.Lock entry.Lock retries (lock.Leave false))) reached =
      awake _ refl refl refl
  sleepers (wait.Lock timed_out (mutex.Lock entry.Lock retries (lock.Taken by))) reached =
      in_hand_of _ by false refl refl refl (λ u e. record {
        was = (e, refl, refl);
        handed = λ alone. (refl, refl);
        woken = (refl, refl);
      })
  sleepers (wait.Lock timed_out (mutex.Lock entry.Lock retries (lock.Handed by))) reached =
      in_hand_of _ by true refl refl refl (λ u e. record { was = (e, refl, refl); told = (refl, refl) })
  sleepers (wait.Lock timed_out (mutex.Lock entry.Lock retries lock.Remove)) reached = absurd reached.1
  sleepers (wait.Lock timed_out (mutex.Lock entry.Lock retries lock.Clear)) reached = absurd reached.1
  sleepers (wait.Lock timed_out (mutex.Lock entry.Lock retries lock.GiveUp)) reached = absurd reached.1
  sleepers (wait.Lock timed_out (mutex.Lock entry.Lock retries at)) reached = awake _ refl refl refl
  sleepers (wait.Lock timed_out at) reached = absurd reached.1
  sleepers at reached = awake _ refl refl refl

pub waiters_move : WaitersMove
waiters_move m timed at reached = sleepers m timed at reached

-- -------------------------------------------- where a call begins, and where it looks at its mutex once more

pub waits_begin : WaitsBegin
waits_begin v r s t c m timed away own is = record {
  reached = tt;
  needed = ((away.unlisted, away.outside), own);
  at = record { stage = away.outside; listed = away.unlisted; names = names };
  role = put_same s.role t _ ∙ ap (λ (d : Role). record d { claims = Some (Has Exclusive) }) is;
  locations = (refl, refl);
  call = λ rights. refl;
}
  where
    names : putting v.waits_with t (Some m) t ≡ Some m
    names = grind (arith, nat_tests)

looks_once_more : (m : ℕ) (timed timed_out retries : Bool) (e : Entry) (seen : ℕ) (p2 : CondvarPlace)
    (b : Bool) → in_lock_once m timed timed_out (if b then Some (mutex.Lock e retries lock.Load) else None)
    ≡ Some p2
    → (condvar_profile p2 ≡ condvar_profile
    (Wait m timed (wait.Lock timed_out (mutex.Lock e retries (lock.Decide seen)))))
    × (mutex_side p2 ≡ mutex_side
    (Wait m timed (wait.Lock timed_out (mutex.Lock e retries (lock.Decide seen)))))
looks_once_more m timed timed_out retries e seen p2 true is =
    let g : Wait m timed (wait.Lock timed_out (mutex.Lock e retries lock.Load)) ≡ p2 = cc
    in (ap condvar_profile (sym g), ap mutex_side (sym g))
looks_once_more m timed timed_out retries e seen p2 false is = absurd cc

pub waiters_look_again : WaitersLookAgain
waiters_look_again (Wait m timed (wait.Lock timed_out (mutex.Lock e retries (lock.Decide seen)))) p2 is =
    looks_once_more m timed timed_out retries e seen p2 (seen == 1) is
waiters_look_again p p2 is = absurd cc
