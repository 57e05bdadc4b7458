-- A thread in a call of a condition variable owes what it owed, whichever event befalls it.
use Rattle.lot_laws.proofs.Imports
use Imports.{ℕ, Bool, true, false, Option, None, if◌then◌else◌, ◌==◌, ◌≡◌, refl, sym, ◌∙◌, ap, in_line, Next}
use Imports.{Reply, TakenBy, MovedTo, HandedBy, Woken, Mutex, Condvar, condvar_goes, line_owed, mutex_goes}
use Imports.{next_place, or_else, profile, mutex_next, MutexPlace, NotifyAt, CondvarPlace, Wait, Look, Notify}
use Imports.{WaiterFate, WaitAt, in_wait, relocked, is_main_line, Main}
use Rattle.core_base.specs.declared.keys.Line.{Line}
use Rattle.core_base.specs.declared.notes.Note.TheVariants as note
use Rattle.steps_base.specs.declared.acts.Next.TheVariants as next
use Rattle.steps_condvar.specs.declared.notify.NotifyAt.TheVariants as notify
use Rattle.steps_condvar.specs.declared.wait.WaitAt.TheVariants as wait
use Rattle.lot_laws.proofs.machine.Parts.{same}
use Rattle.lot_laws.proofs.mutex.MutexOwing.{mutex_befallen}
use Rattle.lot_laws.proofs.promises.RowPromises.{Befalls}

-- while it locks its mutex again, it owes there what such a call owes
abbrev owed_beside : ℕ → ℕ → Option Line → ℕ → Option Line
owed_beside c m owes k = or_else (if m == k then in_line (is_main_line owes) Main else None)
    (if c == k then None else None)

owes_none : (c m k : ℕ) → ◌≡◌ {A = Option Line} None (owed_beside c m None k)
owes_none c m k = either (m == k) (c == k)
  where
    either : (a b : Bool) → ◌≡◌ {A = Option Line} None (or_else (if a then None else None) (if b then None
        else None))
    either true true = refl
    either true false = refl
    either false true = refl
    either false false = refl

relocked_owes : (c m : ℕ) (timed late : Bool) (n : Next MutexPlace) (k : ℕ)
    → line_owed (condvar_goes c (in_wait m timed (relocked timed late n))) k ≡ owed_beside c m
    (profile (mutex_goes m n)).owes k
relocked_owes c m timed late (next.At at) k = refl
relocked_owes c m timed late (next.End answer) k = owes_none c m k

-- by what it owes in a call of the mutex
mutex_owes : (m : ℕ) (at : MutexPlace) (r : Reply) → Befalls r
    → (profile (mutex_goes m (mutex_next at r))).owes ≡ (profile (Mutex m at)).owes
mutex_owes m at r b = sym (own (mutex_next at r)) ∙ mutex_befallen m at r b m ∙ own (next.At at)
  where
    own : (n : Next MutexPlace) → line_owed (mutex_goes m n) m ≡ (profile (mutex_goes m n)).owes
    own (next.At q) = ap (λ b. or_else None (if b then (profile (Mutex m q)).owes else None)) (same m)
    own (next.End answer) = refl

release_owes : (c m : ℕ) (timed : Bool) (s : WaiterFate) (at : MutexPlace) (r : Reply) → Befalls r → (k : ℕ)
    → line_owed (next_place (Condvar c (Wait m timed (wait.Release s at))) r) k
    ≡ line_owed (Condvar c (Wait m timed (wait.Release s at))) k
release_owes c m timed s at (TakenBy t) b k = refl
release_owes c m timed s at (MovedTo key) b k = refl
release_owes c m timed s at (HandedBy t alone) b k = refl
release_owes c m timed s at (Woken n) b k = refl
release_owes c m timed s at r b k = absurd b

asleep_owes : (c m : ℕ) (timed : Bool) (s : WaiterFate) (r : Reply) → Befalls r → (k : ℕ)
    → line_owed (next_place (Condvar c (Wait m timed (wait.Asleep s))) r) k
    ≡ line_owed (Condvar c (Wait m timed (wait.Asleep s))) k
asleep_owes c m timed s (TakenBy t) b k = refl
asleep_owes c m timed s (MovedTo key) b k = refl
asleep_owes c m timed s (HandedBy t alone) b k = refl
asleep_owes c m timed s (Woken note.Normal) b k = refl
asleep_owes c m timed s (Woken note.HandOff) b k = refl
asleep_owes c m timed s r b k = absurd b

wait_owes : (c m : ℕ) (timed : Bool) (at : WaitAt) (r : Reply) → Befalls r → (k : ℕ)
    → line_owed (next_place (Condvar c (Wait m timed at)) r) k ≡ line_owed (Condvar c (Wait m timed at)) k
wait_owes c m timed (wait.Release s at) r b k = release_owes c m timed s at r b k
wait_owes c m timed (wait.Asleep s) r b k = asleep_owes c m timed s r b k
wait_owes c m timed (wait.Lock late at) r b k = relocked_owes c m timed late (mutex_next at r) k
    ∙ ap (λ o. owed_beside c m o k) (mutex_owes m at r b)
wait_owes c m timed at (TakenBy t) b k = refl
wait_owes c m timed at (MovedTo key) b k = refl
wait_owes c m timed at (HandedBy t alone) b k = refl
wait_owes c m timed at (Woken n) b k = refl
wait_owes c m timed at r b k = absurd b

notify_owes : (c m : ℕ) (all : Bool) (at : NotifyAt) (r : Reply) → Befalls r → (k : ℕ)
    → line_owed (next_place (Condvar c (Notify all m at)) r) k ≡ line_owed (Condvar c (Notify all m at)) k
notify_owes c m all notify.Enter (TakenBy t) b k = refl
notify_owes c m all notify.Enter (MovedTo key) b k = refl
notify_owes c m all notify.Enter (HandedBy t alone) b k = refl
notify_owes c m all notify.Enter (Woken n) b k = refl
notify_owes c m all at (TakenBy t) b k = refl
notify_owes c m all at (MovedTo key) b k = refl
notify_owes c m all at (HandedBy t alone) b k = refl
notify_owes c m all at (Woken n) b k = refl
notify_owes c m all at r b k = absurd b

pub condvar_befallen : (c : ℕ) (at : CondvarPlace) (r : Reply) → Befalls r → (k : ℕ)
    → line_owed (next_place (Condvar c at) r) k ≡ line_owed (Condvar c at) k
condvar_befallen c (Wait m timed at) r b k = wait_owes c m timed at r b k
condvar_befallen c (Notify all m at) r b k = notify_owes c m all at r b k
condvar_befallen c (Look all) (TakenBy t) b k = refl
condvar_befallen c (Look all) (MovedTo key) b k = refl
condvar_befallen c (Look all) (HandedBy t alone) b k = refl
condvar_befallen c (Look all) (Woken n) b k = refl
condvar_befallen c (Look all) r b k = absurd b
