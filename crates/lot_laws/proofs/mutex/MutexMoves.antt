-- Each step of a mutex takes its thread in the machine where its act says.
use Rattle.lot_laws.proofs.Imports
use Imports.{ℕ, Bool, true, false, Some, None, if◌then◌else◌, ◌==◌, ◌≡◌, ◌+◌, ◌*◌, [], ◌∷◌, inl, inr, refl}
use Imports.{subst, not, ◌⊎◌, One, Exclusive, Act, Next, At, Owners, with_exclusive, Accepts, GoesIn, GoesOut}
use Imports.{Hears, LeavesLine, StepView, Parks, TellsHanded, inside_of, row_of, location_of, location_then}
use Imports.{in_hand, Location, location_by, code, Leave, Rules, Case, End, Line, Main, Mark, Site, Entry}
use Imports.{MutexPlace, Lock, TryLock, Unlock, UnlockFair, enter_deeds, mutex_deeds, take_deeds, mutex_row}
use Imports.{next_row, mutex_late_line, in_unlock, is_locked, is_parked, mutex_act, mutex_next, mutex_owners}
use Imports.{GivesUpTimed}
use Rattle.std.specs.Prelude.{◌&&◌}
use Rattle.core_base.specs.declared.ops.Op.TheVariants as op
use Rattle.core_base.specs.Keys.{key_of}
use Rattle.steps_base.specs.declared.acts.Act.TheVariants as act
use Rattle.steps_base.specs.declared.acts.Next.TheVariants.{End as Over}
use Rattle.steps_base.specs.declared.acts.Reply.TheVariants as reply
use Rattle.steps_base.specs.declared.acts.TakeWhich.TheVariants.{First}
use Rattle.spec_locks.specs.declared.outcomes.Answer.TheVariants as answer
use Rattle.steps_base.specs.Locations.{nowhere}
use Rattle.steps_mutex.specs.declared.lock.Entry.TheVariants as entries
use Rattle.steps_mutex.specs.declared.lock.LockAt.TheVariants as lock
use Rattle.steps_mutex.specs.declared.unlock.UnlockAt.TheVariants as unlock
use Rattle.steps_mutex.specs.declared.hand_off.HandOffAt.TheVariants as hand_off
use Rattle.steps_mutex.specs.declared.places.MutexPlace.TheVariants.{Bump}
use Rattle.steps_mutex.specs.declared.places.MutexPlace.TheVariants.{HandOff}
use Rattle.steps_mutex.specs.MutexLaws.{MayReply}
use Rattle.steps_mutex.specs.MutexSteps.{entered, in_lock}
use Rattle.lot_laws.proofs.mutex.Acts.{IsOfWord}
use Rattle.steps_base.proofs.Moving.{goes_in, goes_out}
use Rattle.lot_laws.proofs.sites.FirstTaken.{TakesFirst}

abbrev pub mutex_move : MutexPlace → StepView
mutex_move p = record {
  row = mutex_row p;
  next = λ told. row_of (next_row (mutex_next p told));
  deeds = λ whom told. mutex_deeds p whom told;
}

-- tells what it may be told
abbrev pub mutex_hears : MutexPlace → Hears
mutex_hears p r s t whom told = MayReply r s t p whom told

-- the thread works on the word, and stays where it is
pub record Works (x : StepView) (hears : Hears) : Type 0 where
  pub free : (location_of x).hand ≡ None
  pub deeds : (seen : ℕ) → IsOfWord (x.deeds None (reply.Value seen))
  pub goes : (seen : ℕ) → location_then x (reply.Value seen) ≡ location_of x
  pub may : (r : Rules) (s : Site) (t : ℕ) → hears r s t None (reply.Value (code r s))

works : {x : StepView} {hears : Hears} → (location_of x).hand ≡ None
    → ((seen : ℕ) → IsOfWord (x.deeds None (reply.Value seen)))
    → ((seen : ℕ) → location_then x (reply.Value seen) ≡ location_of x)
    → ((r : Rules) (s : Site) (t : ℕ) → hears r s t None (reply.Value (code r s))) → Works x hears
works free deeds goes may = record { free = free; deeds = deeds; goes = goes; may = may }

-- by its act, on the one line of a mutex
abbrev pub MutexMoves : ℕ → StepView → Hears → Act → Type 0
MutexMoves l x hears (act.Word k f) = (k ≡ l) × Works x hears
MutexMoves l x hears (act.Take key First) = (key ≡ key_of l Main) × TakesFirst take_deeds x hears
MutexMoves l x hears (act.Leave keys wakes) =
    (keys ≡ One (key_of l Main)) × (GoesOut x hears Main wakes ⊎ TellsHanded x hears wakes)
MutexMoves l x hears (act.Enter keys) = (keys ≡ One (key_of l Main)) × GoesIn x hears Main reply.Done
MutexMoves l x hears (act.Park k key check want) = (k ≡ l) × (key ≡ key_of l Main)
    × Parks x hears Main check want
MutexMoves l x hears (act.Remove key) = (key ≡ key_of l Main) × LeavesLine x hears Main
MutexMoves l x hears act.Accept = Accepts x hears
MutexMoves l x hears act.Sleep = Unit {0}
MutexMoves l x hears y = ⊥

abbrev location_next : Next MutexPlace → Location
location_next n = location_by (row_of (next_row n))

-- ---------------------------------------------------------------- the word

by_test : {A : Type 0} (P : A → Type 0) (b : Bool) (x y : A) → P x → P y → P (if b then x else y)
by_test P true x y p q = p
by_test P false x y p q = q

-- nothing but the owner changes
pub owner_alone : (p : MutexPlace) (t seen : ℕ) (o : Owners) → mutex_owners p t seen o ≡ with_exclusive o
    (mutex_owners p t seen o).exclusive
owner_alone (Lock e retries lock.First) t seen o = by_test (λ (x : Owners). x ≡ with_exclusive o x.exclusive)
    (seen == 0) (with_exclusive o (Some t)) o refl refl
owner_alone (Lock e retries (lock.Decide was)) t seen o =
    by_test (λ (x : Owners). x ≡ with_exclusive o x.exclusive) ((seen == was) && not (is_locked seen))
    (with_exclusive o (Some t)) o refl refl
owner_alone (Lock e retries at) t seen o = refl
owner_alone TryLock t seen o = by_test (λ (x : Owners). x ≡ with_exclusive o x.exclusive) (is_locked seen) o
    (with_exclusive o (Some t)) refl refl
owner_alone (Unlock unlock.Subtract) t seen o = refl
owner_alone (Unlock at) t seen o = refl
owner_alone UnlockFair t seen o = by_test (λ (x : Owners). x ≡ with_exclusive o x.exclusive) (seen == 1)
    (with_exclusive o None) o refl refl
owner_alone Bump t seen o = refl
owner_alone (HandOff bumps (hand_off.Store any none_left)) t seen o = refl
owner_alone (HandOff bumps at) t seen o = refl

-- ---------------------------------------------------------------- each place

decides_put : (e : Entry) (retries : Bool) (was : ℕ) → Works (mutex_move (Lock e retries (lock.Decide was)))
    (mutex_hears (Lock e retries (lock.Decide was)))
decides_put e retries was = works refl
    (λ seen. by_test IsOfWord (not (seen == was)) [] (if is_locked seen then Mark Main ∷ [] else enter_deeds)
    tt (by_test IsOfWord (is_locked seen) (Mark Main ∷ []) enter_deeds tt tt))
    (λ seen. by_test (λ n. location_next (in_lock e retries n) ≡ nowhere) (not (seen == was)) (At
    (lock.Decide seen)) (if is_locked seen then At (lock.Decide 3) else Over (entered e)) refl (by_test (λ n.
    location_next (in_lock e retries n) ≡ nowhere) (is_locked seen) (At (lock.Decide 3)) (Over (entered e))
    refl refl))
    (λ r s t. refl)

decides : (l : ℕ) (e : Entry) (retries : Bool) (was : ℕ) (locked one : Bool)
    → MutexMoves l (mutex_move (Lock e retries (lock.Decide was)))
    (mutex_hears (Lock e retries (lock.Decide was)))
    (if not locked then act.Word l (op.Exchange was (was + 1)) else if one then act.Word l (op.Exchange 1 3)
    else act.Enter (One (2 * l)))
decides l e retries was false one = (refl, decides_put e retries was)
decides l e retries was true true = (refl, decides_put e retries was)
decides l e retries was true false = (refl, goes_in refl refl refl (λ r s t free. free))

-- all moves but the store of a hand-off
abbrev pub StoresNothing : MutexPlace → Type 0
StoresNothing (HandOff bumps (hand_off.Store any none_left)) = ⊥
StoresNothing p = Unit {0}

pub mutex_acts_move : (l : ℕ) (p : MutexPlace) → GivesUpTimed p → StoresNothing p
    → MutexMoves l (mutex_move p) (mutex_hears p) (mutex_act l p)
mutex_acts_move l (Lock e retries lock.First) timed h = (
  refl,
  works refl (λ seen. by_test IsOfWord (seen == 0) enter_deeds [] tt tt)
      (λ seen. by_test (λ n. location_next (in_lock e retries n) ≡ nowhere) (seen == 0) (Over (entered e))
      (At lock.Load) refl refl)
      (λ r s t. refl),
)
mutex_acts_move l (Lock e retries lock.Load) timed h = (
  refl,
  works refl (λ seen. tt) (λ seen. refl) (λ r s t. refl),
)
mutex_acts_move l (Lock e retries (lock.Decide was)) timed h = decides l e retries was (is_locked was)
    (was == 1)
mutex_acts_move l (Lock e retries lock.Check) timed h = (
  refl,
  refl,
  record {
    was = refl;
    parks = refl;
    parked = refl;
    turns = refl;
    turned = refl;
    may = λ r s t b told out. (told, out);
  },
)
mutex_acts_move l (Lock e retries (lock.Leave true)) timed h = (
  refl,
  inl (goes_out false refl tt refl (λ r s t out. out)),
)
mutex_acts_move l (Lock e retries (lock.Leave false)) timed h = (
  refl,
  inl (goes_out false refl tt refl (λ r s t out. out)),
)
mutex_acts_move l (Lock e retries lock.Accept) timed h = record {
  was = refl;
  deeds = refl;
  goes = refl;
  may = λ r s t. tt;
}
mutex_acts_move l (Lock e retries lock.Remove) timed h = (
  refl,
  record {
    want = Exclusive;
    was = refl;
    deeds = λ none_left. refl;
    goes = λ none_left. by_test (λ n. location_next (in_lock e retries n) ≡ inside_of Main) none_left
        (At lock.Clear) (At lock.GiveUp) refl refl;
    may = λ r s t none_left stands. (timed, stands);
  },
)
mutex_acts_move l (Lock e retries lock.Clear) timed h = (
  refl,
  works refl (λ seen. tt) (λ seen. refl) (λ r s t. refl),
)
mutex_acts_move l (Lock e retries lock.GiveUp) timed h = (
  refl,
  inl (goes_out false refl tt refl (λ r s t out. (timed, out))),
)
mutex_acts_move l (Lock e retries at) timed h = tt
mutex_acts_move l TryLock timed h = (
  refl,
  works refl (λ seen. by_test IsOfWord (is_locked seen) (End ∷ []) enter_deeds tt tt)
      (λ seen. by_test (λ n. location_next n ≡ nowhere) (is_locked seen) (Over answer.No) (Over answer.Yes)
      refl refl)
      (λ r s t. refl),
)
mutex_acts_move l (Unlock unlock.Subtract) timed h = (
  refl,
  works refl
      (λ seen. by_test (λ ds. IsOfWord (Case (Leave Exclusive) ∷ ds)) (is_parked seen) [] (End ∷ []) tt tt)
      (λ seen. by_test (λ n. location_next (in_unlock n) ≡ nowhere) (is_parked seen) (At unlock.Enter) (Over
      answer.Ok) refl refl)
      (λ r s t. refl),
)
mutex_acts_move l (Unlock unlock.Enter) timed h = (refl, goes_in refl refl refl (λ r s t free. free))
mutex_acts_move l (Unlock unlock.Take) timed h = (
  refl,
  record {
    was = refl;
    deeds = λ whom any none_left. refl;
    goes = λ any none_left. by_test (λ n. location_next (in_unlock n) ≡ record (inside_of Main) {
      has_taken =
          in_hand any false;
    }) none_left (At (unlock.Clear any)) (At (unlock.Leave any)) refl refl;
    may = λ r s t whom any none_left first some left nobody. (
      record { first = first; some = some; left = left },
      nobody,
    );
  },
)
mutex_acts_move l (Unlock (unlock.Clear any)) timed h = (
  refl,
  works refl (λ seen. tt) (λ seen. refl) (λ r s t. refl),
)
mutex_acts_move l (Unlock (unlock.Leave any)) timed h = (
  refl,
  inl (goes_out any refl tt refl (λ r s t out. out)),
)
mutex_acts_move l UnlockFair timed h = (
  refl,
  works refl (λ seen. by_test IsOfWord (seen == 1) (Case (Leave Exclusive) ∷ End ∷ []) [] tt tt)
      (λ seen. by_test (λ n. location_next n ≡ nowhere) (not (seen == 1)) (At (HandOff false hand_off.Enter))
      (Over answer.Ok) refl refl)
      (λ r s t. refl),
)
mutex_acts_move l Bump timed h = (
  refl,
  works refl (λ seen. by_test IsOfWord (is_parked seen) [] (End ∷ []) tt tt)
      (λ seen. by_test (λ n. location_next n ≡ nowhere) (is_parked seen) (At (HandOff true hand_off.Enter))
      (Over answer.Ok) refl refl)
      (λ r s t. refl),
)
mutex_acts_move l (HandOff bumps hand_off.Enter) timed h = (refl, goes_in refl refl refl (λ r s t free. free))
mutex_acts_move l (HandOff bumps hand_off.Take) timed h = (
  refl,
  record {
    was = refl;
    deeds = λ whom any none_left. refl;
    goes = λ any none_left. refl;
    may = λ r s t whom any none_left first some left nobody. (
      record { first = first; some = some; left = left },
      nobody,
    );
  },
)
mutex_acts_move l (HandOff bumps (hand_off.Store any none_left)) timed h = absurd h
mutex_acts_move l (HandOff true (hand_off.Leave any)) timed h = (
  refl,
  inr (record { any = any; notes = refl; was = refl; deeds = tt; goes = refl; may = λ r s t out. out }),
)
mutex_acts_move l (HandOff false (hand_off.Leave any)) timed h = (
  refl,
  inr (record { any = any; notes = refl; was = refl; deeds = tt; goes = refl; may = λ r s t out. out }),
)

-- ---------------------------------------------------------------- giving up

-- a thread that gives up goes into the section of the line in which it sleeps
pub mutex_late_move : (p : MutexPlace) (m : Line) → mutex_late_line p ≡ Some m
    → GoesIn (mutex_move p) (mutex_hears p) m reply.Late
mutex_late_move (Lock entries.LockTimed retries lock.Asleep) m h =
    subst (λ n. GoesIn (mutex_move (Lock entries.LockTimed retries lock.Asleep))
    (mutex_hears (Lock entries.LockTimed retries lock.Asleep)) n reply.Late) (let e : Main ≡ m = cc in e)
    (goes_in refl refl refl (λ r s t free. (refl, free)))
mutex_late_move (Lock entries.Lock retries lock.Asleep) m h = absurd cc
mutex_late_move (Lock entries.Bump retries lock.Asleep) m h = absurd cc
mutex_late_move (Lock e retries lock.First) m h = absurd cc
mutex_late_move (Lock e retries at) m h = absurd cc
mutex_late_move p m h = absurd cc
