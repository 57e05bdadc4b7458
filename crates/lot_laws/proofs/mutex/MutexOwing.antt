-- A call of a mutex comes to owe a wake by the word that it sees, and by entering the section. An
-- event that befalls a thread asleep changes nothing of that.
use Rattle.lot_laws.proofs.Imports
use Imports.{ℕ, Bool, true, false, Some, None, if◌then◌else◌, ◌==◌, not, ◌≡◌, ◌*◌, inl, inr, length, drop, refl}
use Imports.{sym, ◌∙◌, ap, subst, first_of, MutexCall, Outcome, Reply, TakenBy, MovedTo, HandedBy, Woken, Late}
use Imports.{MutexPlace, Lock, TryLock, Unlock, UnlockFair, LockAt, Place, Idle, Mutex, outcome_of, Entry, Next}
use Imports.{UnlockAt, HandOffAt, in_unlock, is_parked, is_locked, next_lock, lock_act, mutex_first, next_place}
use Imports.{mutex_goes, mutex_does, State, place_at, word_at, queue_at, is_there, reply_to, owner_at, Main}
use Imports.{IsMutexWord, IsInductive, line_owed, profile, mutex_act, mutex_next, line_let_in, tells_of, Line}
use Imports.{Second}
use Rattle.core_base.specs.declared.notes.Note.TheVariants as note
use Rattle.spec_locks.specs.declared.calls.MutexCall.TheVariants as mutex_call
use Rattle.spec_locks.specs.declared.outcomes.Outcome.TheVariants as outcome
use Rattle.steps_mutex.specs.declared.places.MutexPlace.TheVariants.{Bump}
use Rattle.steps_mutex.specs.declared.places.MutexPlace.TheVariants.{HandOff}
use Rattle.steps_mutex.specs.declared.lock.LockAt.TheVariants as lock
use Rattle.steps_mutex.specs.declared.unlock.UnlockAt.TheVariants as unlock
use Rattle.steps_mutex.specs.declared.hand_off.HandOffAt.TheVariants as hand_off
use Rattle.steps_mutex.specs.declared.lock.Entry.TheVariants as entries
use Rattle.steps_base.specs.declared.acts.Next.TheVariants as next
use Rattle.spec_locks.specs.declared.outcomes.Answer.TheVariants as answer
use Rattle.steps_mutex.specs.MutexSteps.{in_lock, looked}
use Rattle.lot_laws.proofs.machine.AtPlaces.{coded_for, owns}
use Rattle.lot_laws.proofs.promises.RowPromises.{LetsIn, RowSees, RowOwesNext, IsLateNext, Befalls}
use Rattle.lot_laws.proofs.mutex.MutexRows.{lock_owes, shut}
use Rattle.lot_laws.specs.ThreadDeeds.{mutex_row}
use Rattle.steps_mutex.specs.MutexSteps.{is_timed}
use Rattle.spec_locks.specs.Locks as locks

-- ---------------------------------------------------------------- effects on another thread

-- a thread owes what it owed, with all that befalls it
pub mutex_befallen : (l : ℕ) (at : MutexPlace) (r : Reply) → Befalls r → (k : ℕ)
    → line_owed (next_place (Mutex l at) r) k ≡ line_owed (Mutex l at) k
mutex_befallen l (Lock e retries lock.Asleep) (Woken note.Normal) b k = refl
mutex_befallen l (Lock e retries lock.Asleep) (Woken note.HandOff) b k = refl
mutex_befallen l (Lock e retries (lock.Taken by)) (Woken note.Normal) b k = refl
mutex_befallen l (Lock e retries (lock.Taken by)) (Woken note.HandOff) b k = refl
mutex_befallen l (Lock e retries (lock.Handed by)) (Woken note.Normal) b k = refl
mutex_befallen l (Lock e retries (lock.Handed by)) (Woken note.HandOff) b k = refl
mutex_befallen l (Unlock unlock.Subtract) (TakenBy t) b k = refl
mutex_befallen l (HandOff bumps hand_off.Enter) (TakenBy t) b k = refl
mutex_befallen l at (TakenBy t) b k = refl
mutex_befallen l at (MovedTo key) b k = refl
mutex_befallen l at (HandedBy t alone) b k = refl
mutex_befallen l at (Woken note) b k = refl
mutex_befallen l at r b k = absurd b

-- ---------------------------------------------------------------- the thread of the step

-- a row that owes just while it is inside
abbrev Within : Place → Type 0
Within q = (m : Line) → (profile q).owes ≡ Some m → (profile q).role.inside ≡ Some m

locked_within : (k : ℕ) (e : Entry) (r : Bool) (n : Next LockAt) → Within (mutex_goes k (in_lock e r n))
locked_within k e r (next.At at) m h = lock_owes (is_timed e) r at ∙ h
locked_within k e r (next.End a) m h = absurd cc

-- a call that ends owes nothing
ended : (word k : ℕ) (at : MutexPlace) (a : _)
    → RowOwesNext locks.Mutex k word (mutex_row at) (outcome.End a) (profile Idle)
ended word k at a = record { since = λ m h. absurd cc; sees = λ m s o. absurd cc }

-- a thread that goes on inside the section, or on its way to it, owes on the main line
main_is : (m : Line) (word k : ℕ) (at : MutexPlace) → RowSees locks.Mutex k word (mutex_row at) m → m ≡ Main
main_is Main word k at s = refl
main_is Second word k at s = absurd (let f : false ≡ true = s.2 in cc)

within : (word k : ℕ) (at : MutexPlace) (o : Outcome) (q : Place) → (profile q).owes ≡ Some Main
    → (profile q).role.inside ≡ Some Main → RowOwesNext locks.Mutex k word (mutex_row at) o (profile q)
within word k at o q owes inside = record {
  since = λ m h. inl (inside ∙ sym owes ∙ h);
  sees = λ m s step. owes ∙ ap Some (sym (main_is m word k at s));
}

-- a thread that releases and sees the parked bit is to wake
seen_parked : (word k : ℕ) (at : MutexPlace) (q : Place) → LetsIn locks.Mutex k (mutex_row at)
    → is_parked word ≡ true
    → line_let_in locks.Mutex (Some ((mutex_row at).purpose k)) ≡ Main → (profile q).owes ≡ Some Main
    → RowOwesNext locks.Mutex k word (mutex_row at) outcome.Step (profile q)
seen_parked word k at q lets parked main owes = record {
  since = λ m h. inr (let e : Main ≡ m = some_same Main m (sym owes ∙ h)
      in ((lets, main ∙ e, subst (λ x. tells_of locks.Mutex x word ≡ true) e parked), refl));
  sees = λ m s step. owes ∙ ap Some (sym (main_is m word k at s));
}
  where
    some_same : (m n : Line) → Some m ≡ Some n → m ≡ n
    some_same m n e = cc

-- a thread that enters lets nobody in
entering : (word k : ℕ) (e : Entry) (r : Bool) (a : LockAt) (o : Outcome) (q : Place) → Within q
    → RowOwesNext locks.Mutex k word (mutex_row (Lock e r a)) o (profile q)
entering word k e r a o q within = record {
  since = λ m h. inl (within m h);
  sees = λ m s step. absurd (shut k e r a s.0);
}

-- where the reply to its act leads it
abbrev pub OwesNext : ℕ → ℕ → MutexPlace → Next MutexPlace → Type 0
OwesNext k word at n = RowOwesNext locks.Mutex k word (mutex_row at) (outcome_of (mutex_does k n))
    (profile (mutex_goes k n))

module _ (w : State) (t : ℕ) (inductive : IsInductive w) (k : ℕ) where
  -- the word of an owner that isn't 1 says that somebody may wait
  beside_owner : (at : MutexPlace) → place_at w t ≡ Mutex k at → owner_at w k ≡ Some t → (word_at w k == 1)
      ≡ false
      → is_parked (word_at w k) ≡ true
  beside_owner at is own ne = by_code (subst (λ o. IsMutexWord (word_at w k) o) own
      (coded_for w inductive t k at is))
    where
      by_code : IsMutexWord (word_at w k) (Some t) → is_parked (word_at w k) ≡ true
      by_code (inl e) = let f : (1 == 1) ≡ false = rw e at ne in absurd cc
      by_code (inr e) = rw e refl

  from_unlock : (a : UnlockAt)
      → OwesNext k (word_at w k) (Unlock a) (mutex_next (Unlock a) (reply_to w t (mutex_act k (Unlock a))))
  from_unlock unlock.Subtract = either (is_parked (word_at w k)) refl
    where
      either : (b : Bool) → is_parked (word_at w k) ≡ b
          → OwesNext k (word_at w k) (Unlock unlock.Subtract)
          (in_unlock (if b then next.At unlock.Enter else next.End answer.Ok))
      either true e = seen_parked (word_at w k) k (Unlock unlock.Subtract) (Mutex k (Unlock unlock.Enter))
          (inl refl) e refl refl
      either false e = ended (word_at w k) k (Unlock unlock.Subtract) answer.Ok
  from_unlock unlock.Enter = within (word_at w k) k (Unlock unlock.Enter) _ (Mutex k (Unlock unlock.Take))
      refl refl
  from_unlock unlock.Take = either (length (drop 1 (queue_at w (2 * k))) == 0)
    where
      any : Bool
      any = is_there (first_of (queue_at w (2 * k)))

      either : (b : Bool)
          → OwesNext k (word_at w k) (Unlock unlock.Take)
          (in_unlock (if b then next.At (unlock.Clear (is_there (first_of (queue_at w (2 * k)))))
          else next.At (unlock.Leave (is_there (first_of (queue_at w (2 * k)))))))
      either true = within (word_at w k) k (Unlock unlock.Take) _ (Mutex k (Unlock (unlock.Clear any))) refl
          refl
      either false = within (word_at w k) k (Unlock unlock.Take) _ (Mutex k (Unlock (unlock.Leave any))) refl
          refl
  from_unlock (unlock.Clear any) = within (word_at w k) k (Unlock (unlock.Clear any)) _
      (Mutex k (Unlock (unlock.Leave any))) refl refl
  from_unlock (unlock.Leave any) = ended (word_at w k) k (Unlock (unlock.Leave any)) answer.Ok

  from_hand_off : (b : Bool) (a : HandOffAt)
      → OwesNext k (word_at w k) (HandOff b a)
      (mutex_next (HandOff b a) (reply_to w t (mutex_act k (HandOff b a))))
  from_hand_off b hand_off.Enter = within (word_at w k) k (HandOff b hand_off.Enter) _
      (Mutex k (HandOff b hand_off.Take)) refl refl
  from_hand_off b hand_off.Take = within (word_at w k) k (HandOff b hand_off.Take) _
      (Mutex k (HandOff b (hand_off.Store _ _))) refl refl
  from_hand_off b (hand_off.Store false n) = within (word_at w k) k (HandOff b (hand_off.Store false n)) _
      (Mutex k (HandOff b (hand_off.Leave false))) refl refl
  from_hand_off b (hand_off.Store true n) = within (word_at w k) k (HandOff b (hand_off.Store true n)) _
      (Mutex k (HandOff b (hand_off.Leave true))) refl refl
  from_hand_off true (hand_off.Leave any) = record {
    since = λ m h. absurd cc;
    sees = λ m s step. absurd (elim s.0 [
      | inl releases ↦ let f : true ≡ false = releases.1 in cc
      | inr shared ↦ let f = shared.0 in cc
    ]);
  }
  from_hand_off false (hand_off.Leave any) = ended (word_at w k) k (HandOff false (hand_off.Leave any))
      answer.Ok

  pub mutex_owes_next : (at : MutexPlace) → place_at w t ≡ Mutex k at
      → OwesNext k (word_at w k) at (mutex_next at (reply_to w t (mutex_act k at)))
  mutex_owes_next (Lock e r a) is = entering (word_at w k) k e r a _
      (mutex_goes k (in_lock e _ (next_lock e a (reply_to w t (lock_act k a)))))
      (locked_within k e _ (next_lock e a (reply_to w t (lock_act k a))))
  mutex_owes_next TryLock is = either (is_locked (word_at w k))
    where
      either : (b : Bool)
          → OwesNext k (word_at w k) TryLock (if b then next.End answer.No else next.End
          answer.Yes)
      either true = ended (word_at w k) k TryLock answer.No
      either false = ended (word_at w k) k TryLock answer.Yes
  mutex_owes_next (Unlock a) is = from_unlock a
  mutex_owes_next UnlockFair is = either (word_at w k == 1) refl
    where
      either : (b : Bool) → (word_at w k == 1) ≡ b → OwesNext k (word_at w k) UnlockFair
          (looked false (not b))
      either true e = ended (word_at w k) k UnlockFair answer.Ok
      either false e = seen_parked (word_at w k) k UnlockFair (Mutex k (HandOff false hand_off.Enter))
          (inl refl) (beside_owner UnlockFair is (owns w inductive t k UnlockFair is refl) e) refl refl
  mutex_owes_next Bump is = either (is_parked (word_at w k)) refl
    where
      either : (b : Bool) → is_parked (word_at w k) ≡ b → OwesNext k (word_at w k) Bump (looked true b)
      either true e = seen_parked (word_at w k) k Bump (Mutex k (HandOff true hand_off.Enter))
          (inl (refl, refl)) e refl refl
      either false e = ended (word_at w k) k Bump answer.Ok
  mutex_owes_next (HandOff b a) is = from_hand_off b a

-- ---------------------------------------------------------------- the other turns

-- a call begins before it owes anything
pub mutex_first_owes : (fair : Bool) (c : MutexCall) → (mutex_row (mutex_first fair c)).owes ≡ None
mutex_first_owes fair mutex_call.Lock = refl
mutex_first_owes fair mutex_call.LockTimed = refl
mutex_first_owes fair mutex_call.TryLock = refl
mutex_first_owes true mutex_call.Unlock = refl
mutex_first_owes false mutex_call.Unlock = refl
mutex_first_owes fair mutex_call.UnlockFair = refl
mutex_first_owes fair mutex_call.Bump = refl

-- a thread whose time is up is then awake, inside the section of the line where it slept
pub mutex_late : (k : ℕ) (at : MutexPlace) (m : Line) → (mutex_row at).late_line ≡ Some m
    → IsLateNext (next_place (Mutex k at) Late) m
mutex_late k (Lock entries.LockTimed r lock.Asleep) m h = record { inside = h; owes = h; awake = λ e. cc }
mutex_late k (Lock entries.Lock r lock.Asleep) m h = absurd cc
mutex_late k (Lock entries.Bump r lock.Asleep) m h = absurd cc
mutex_late k (Lock e r lock.First) m h = absurd cc
mutex_late k (Lock e r a) m h = absurd cc
mutex_late k at m h = absurd cc
