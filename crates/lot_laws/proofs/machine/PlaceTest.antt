-- Each place, tested once: its row and the act that its thread does there agree, by a test that computes.
-- Other files read off it what they need.
use Rattle.lot_laws.proofs.Imports
use Imports.{ℕ, Bool, true, false, Option, Some, None, if◌then◌else◌, ◌==◌, ◌&&◌, ◌||◌, not, ◌≡◌, ◌⊎◌, ◌+◌, ◌-◌}
use Imports.{◌*◌, inl, inr, refl, sym, ◌∙◌, ap, subst, One, Two, Shared, Access, OnceCall, Act, Hand, Profile}
use Imports.{in_line, is_line, is_try, no_line, has_aside, CondvarPhase, CondvarMemory, Blank, Purpose, Enters}
use Imports.{Converts, once_purpose, Patience, Try, Line, Main, Second, Entry, MutexPlace, inside}
use Imports.{entry_purpose, mutex_profile, is_locked, mutex_act, Course, OncePlace, once_profile, course_act}
use Imports.{course_of, once_act, SemaphorePlace, patience, semaphore_profile, is_free, semaphore_act}
use Imports.{Admission, RwLockPlace, RwLockAt, Decision, RwLockPurpose, rwlock_profile, act_at, decided}
use Imports.{decided_act, exchange, plus, HandOverAt, RwLockCallPlace, call_profile, call_act, has_room}
use Imports.{hand_over_act, NotifyAt, CondvarPlace, WaiterFate, WaitAt, condvar_profile, hand_of, has_moved}
use Imports.{is_main_line, is_moved, mutex_side, condvar_act, move_act, Place, Idle, Mutex, RwLock, Once}
use Imports.{Condvar, Semaphore, act_of, profile, profile_at_mutex, IsTry, keys_entered, sleeps, key_of}
use Imports.{EntersSection}
use Rattle.core_base.specs.declared.ops.Op.TheVariants as op
use Rattle.spec_locks.specs.declared.calls.Access.TheVariants as access
use Rattle.spec_locks.specs.declared.calls.OnceCall.TheVariants as once_call
use Rattle.steps_base.specs.declared.acts.Act.TheVariants as act
use Rattle.steps_base.proofs.RowCheck.{both}
use Rattle.steps_mutex.specs.declared.lock.Entry.TheVariants as entry
use Rattle.steps_mutex.specs.declared.lock.LockAt.TheVariants as lock
use Rattle.steps_mutex.specs.declared.unlock.UnlockAt.TheVariants as unlock
use Rattle.steps_mutex.specs.declared.hand_off.HandOffAt.TheVariants as hand_off
use Rattle.steps_mutex.specs.declared.places.MutexPlace.TheVariants as mutex
use Rattle.steps_mutex.specs.MutexProfiles.{release_purpose}
use Rattle.steps_once.specs.declared.look.Course.TheVariants as course
use Rattle.steps_once.specs.declared.look.LookAt.TheVariants as look
use Rattle.steps_once.specs.declared.run.RunAt.TheVariants as run
use Rattle.steps_once.specs.declared.give_up.GiveUpAt.TheVariants as give_up
use Rattle.steps_once.specs.declared.places.OncePlace.TheVariants as once
use Rattle.steps_semaphore.specs.declared.acquire.AcquireAt.TheVariants as acquire
use Rattle.steps_semaphore.specs.declared.tries.TryAt.TheVariants as tries_at
use Rattle.steps_semaphore.specs.declared.release.ReleaseAt.TheVariants as release
use Rattle.steps_semaphore.specs.declared.places.SemaphorePlace.TheVariants as semaphore
use Rattle.steps_rwlock.specs.declared.places.RwLockAt.TheVariants as at
use Rattle.steps_rwlock.specs.declared.park.ParkAt.TheVariants as parking
use Rattle.steps_rwlock.specs.declared.release.WakeAt.TheVariants as waking
use Rattle.steps_rwlock.specs.declared.enter.Decision.TheVariants as decisions
use Rattle.steps_rwlock_fair.specs.declared.hand_over.HandOverAt.TheVariants as handing
use Rattle.steps_rwlock_fair.specs.declared.handed.HandedAt.TheVariants as handed
use Rattle.steps_rwlock_fair.specs.declared.places.RwLockCallPlace.TheVariants as fair
use Rattle.steps_condvar.specs.declared.notify.NotifyAt.TheVariants as notify
use Rattle.steps_condvar.specs.declared.places.CondvarPlace.TheVariants as condvar
use Rattle.steps_condvar.specs.declared.wait.WaiterFate.TheVariants as stands
use Rattle.steps_condvar.specs.declared.wait.WaitAt.TheVariants as wait
use Rattle.lot_laws.specs.ThreadDeeds.{mutex_row}
use Rattle.lot_laws.specs.Refinement.{runs_closure}
use Rattle.lot_laws.specs.Locations.{Location, location_by}

-- ---------------------------------------------------------------- acts

-- no other thread can keep its thread from it
abbrev pub IsFree : Act → Type 0
IsFree a = (sleeps a ≡ false) × (runs_closure a ≡ false) × (keys_entered a ≡ None)

-- the key of a line of the lock, and of the one whose section the thread is in
abbrev pub IsOfLine : ℕ → ℕ → Type 0
IsOfLine l key = (m : Line) × (key ≡ key_of l m)

abbrev pub IsWithinLine : ℕ → Location → ℕ → Type 0
IsWithinLine l s key = (m : Line) × (s.inside ≡ Some m) × (key ≡ key_of l m)

-- a thread that stands in a line stands in that one
abbrev pub StandsAtCondvar : Location → Type 0
StandsAtCondvar s = (s.stands ≡ None) ⊎ (s.stands ≡ s.inside)

abbrev pub IsLineAct : ℕ → Location → Act → Type 0
IsLineAct l s (act.Enter (One key)) = IsOfLine l key
IsLineAct l s (act.Enter (Two first second)) = ⊥
IsLineAct l s (act.Leave (One key) x) = IsWithinLine l s key
IsLineAct l s (act.Leave (Two first second) x) = ⊥
IsLineAct l s (act.Park lock key check x) = IsWithinLine l s key × StandsAtCondvar s
IsLineAct l s (act.Stand key x) = IsWithinLine l s key × StandsAtCondvar s
IsLineAct l s (act.Take key x) = IsWithinLine l s key
IsLineAct l s (act.Remove key) = IsWithinLine l s key × StandsAtCondvar s
IsLineAct l s (act.Requeue from to how) = ⊥
IsLineAct l s a = Unit {0}

-- ---------------------------------------------------------------- a place's fields

-- for its row alone, at every lock
pub record RowFacts (row : Profile) (a : Act) : Type 0 where
  -- inside a section its thread goes freely
  pub goes : (m : Line) → row.role.inside ≡ Some m → IsFree a
  -- a thread that has others in hand is inside
  pub has_taken : row.role.has_taken ≡ true → (m : Line) × (row.role.inside ≡ Some m)
  -- one that is to take waiters beside a clear bit owes them their wake
  pub owed : row.role.bit_pending ≡ true → row.role.wakes ≡ Some Main → row.owes ≡ Some Main
  -- one that stands in a line is in no hand
  pub unheld : (m : Line) → row.stands ≡ Some m → row.hand ≡ None

-- only a call of a condition variable has a stage, names a mutex, or recalls anything
pub record IsSilent (row : Profile) : Type 0 where
  pub stage : row.stage ≡ None
  pub names : row.names ≡ None
  pub recalls : row.recalls ≡ Blank

-- The facts of a place of a call of one lock, which readers share or not.
pub record PlaceFacts (shared : Bool) (l : ℕ) (row : Profile) (a : Act) : Type 0 where
  pub by_row : RowFacts row a
  -- the row says nothing of a condition variable
  pub silent : IsSilent row
  -- one that is in a hand has nobody in hand
  pub bare : (row.hand ≡ None) ⊎ (row.has_taken ≡ None)
  -- the thread's act is on a line of the lock
  pub line : IsLineAct l (location_by row) a
  -- on the main one, where there is no other
  pub main : shared ≡ false → (key : ℕ) → EntersSection key a → 2 * l ≡ key
  -- a try goes freely
  pub tries : shared ≡ false → IsTry (Some (row.purpose l)) → IsFree a

-- ---------------------------------------------------------------- the test

abbrev goes_free : Act → Bool
goes_free act.Sleep = false
goes_free (act.Closure state) = false
goes_free (act.Enter keys) = false
goes_free a = true

abbrev no_hand : Option Hand → Bool
no_hand None = true
no_hand h = false

abbrev carries_none : Option Bool → Bool
carries_none None = true
carries_none c = false

abbrev row_test : Profile → Act → Bool
row_test row a =
    (no_line row.role.inside || goes_free a)
    && ((not row.role.has_taken || not (no_line row.role.inside))
    && ((not (row.role.bit_pending && is_line Main row.role.wakes) || is_line Main row.owes)
    && (no_hand row.hand || no_line row.stands)))

abbrev no_stage : Option CondvarPhase → Bool
no_stage None = true
no_stage s = false

abbrev no_name : Option ℕ → Bool
no_name None = true
no_name m = false

abbrev is_blank : CondvarMemory → Bool
is_blank Blank = true
is_blank r = false

abbrev silent_test : Profile → Bool
silent_test row = no_stage row.stage && (no_name row.names && is_blank row.recalls)

-- the key that an act touches, or else this one
abbrev key_or : ℕ → Act → ℕ
key_or other (act.Enter (One key)) = key
key_or other (act.Leave (One key) x) = key
key_or other (act.Park lock key check x) = key
key_or other (act.Stand key x) = key
key_or other (act.Take key x) = key
key_or other (act.Remove key) = key
key_or other a = other

abbrev line_test : Line → Profile → Act → Bool
line_test m row (act.Enter (Two first second)) = false
line_test m row (act.Leave (One key) x) = is_line m row.role.inside
line_test m row (act.Leave (Two first second) x) = false
line_test m row (act.Park lock key check x) = is_line m row.role.inside &&
    (no_line row.stands || is_line m row.stands)
line_test m row (act.Stand key x) = is_line m row.role.inside && (no_line row.stands || is_line m row.stands)
line_test m row (act.Take key x) = is_line m row.role.inside
line_test m row (act.Remove key) = is_line m row.role.inside && (no_line row.stands || is_line m row.stands)
line_test m row (act.Requeue from to how) = false
line_test m row a = true

abbrev tries : Purpose → Bool
tries (Enters l x how) = is_try how
tries (Converts l x y how) = is_try how
tries q = false

abbrev place_test : Bool → Line → Profile → Act → Bool → Bool
place_test shared m row a tried =
    row_test row a && (silent_test row && ((no_hand row.hand || carries_none row.has_taken)
    && (line_test m row a && ((shared || is_line Main (Some m)) && (shared || (goes_free a || not tried))))))

-- ---------------------------------------------------------------- what the test says

no_line_so : (x : Option Line) (m : Line) → no_line x ≡ true → x ≡ Some m → ⊥
no_line_so None m h e = cc
no_line_so (Some n) m h e = cc

none_so : (x : Option Line) → no_line x ≡ true → x ≡ None
none_so None h = refl
none_so (Some m) h = absurd cc

some_so : (x : Option Line) → not (no_line x) ≡ true → (m : Line) × (x ≡ Some m)
some_so (Some m) h = (m, refl)
some_so None h = absurd cc

line_is : (m : Line) (x : Option Line) → is_line m x ≡ true → x ≡ Some m
line_is Main (Some Main) h = refl
line_is Second (Some Second) h = refl
line_is Main (Some Second) h = absurd cc
line_is Second (Some Main) h = absurd cc
line_is Main None h = absurd cc
line_is Second None h = absurd cc

hand_so : (x : Option Hand) → no_hand x ≡ true → x ≡ None
hand_so None h = refl
hand_so (Some x) h = absurd cc

carries_so : (x : Option Bool) → carries_none x ≡ true → x ≡ None
carries_so None h = refl
carries_so (Some x) h = absurd cc

either : (a b : Bool) → (a || b) ≡ true → (a ≡ true) ⊎ (b ≡ true)
either true b h = inl refl
either false b h = inr h

not_so : (b : Bool) → not b ≡ true → b ≡ true → ⊥
not_so true h e = cc
not_so false h e = cc

free_so : (a : Act) → goes_free a ≡ true → IsFree a
free_so act.Sleep h = absurd cc
free_so (act.Closure state) h = absurd cc
free_so (act.Enter keys) h = absurd cc
free_so a h = (refl, refl, refl)

row_so : (row : Profile) (a : Act) → row_test row a ≡ true → RowFacts row a
row_so row a h =
    let t1 = both (no_line row.role.inside || goes_free a) _ h in
    let t2 = both (not row.role.has_taken || not (no_line row.role.inside)) _ t1.1 in
    let t3 = both (not (row.role.bit_pending && is_line Main row.role.wakes) || is_line Main row.owes) _ t2.1 in
    record {
      goes = λ m e. elim (either (no_line row.role.inside) (goes_free a) t1.0) [
        | inl x ↦
            absurd (no_line_so row.role.inside m x e)
        | inr x ↦ free_so a x
      ];
      has_taken = λ e. elim (either (not row.role.has_taken) _ t2.0) [
        | inl x ↦
            absurd (not_so row.role.has_taken x e)
        | inr x ↦ some_so row.role.inside x
      ];
      owed = λ bit_pending wakes. elim (either (not (row.role.bit_pending && is_line Main row.role.wakes)) _ t3.0) [
        | inl x ↦ absurd (not_so (row.role.bit_pending && is_line Main row.role.wakes) x (rw (bit_pending, wakes) refl))
        | inr x ↦ line_is Main row.owes x
      ];
      unheld = λ m e. elim (either (no_hand row.hand) _ t3.1) [
        | inl x ↦ hand_so row.hand x
        | inr x ↦
            absurd (no_line_so row.stands m x e)
      ];
    }

stage_so : (x : Option CondvarPhase) → no_stage x ≡ true → x ≡ None
stage_so None h = refl
stage_so (Some s) h = absurd cc

name_so : (x : Option ℕ) → no_name x ≡ true → x ≡ None
name_so None h = refl
name_so (Some m) h = absurd cc

blank_so : (r : CondvarMemory) → is_blank r ≡ true → r ≡ Blank
blank_so Blank h = refl
blank_so r h = absurd cc

silent_so : (row : Profile) → silent_test row ≡ true → IsSilent row
silent_so row h =
    let t1 = both (no_stage row.stage) _ h in
    let t2 = both (no_name row.names) (is_blank row.recalls) t1.1 in
    record {
      stage = stage_so row.stage t1.0;
      names = name_so row.names t2.0;
      recalls = blank_so row.recalls t2.1;
    }

module _ (l : ℕ) (m : Line) (row : Profile) where
  within_so : (key : ℕ) → is_line m row.role.inside ≡ true → key ≡ key_of l m
      → IsWithinLine l (location_by row) key
  within_so key h e = (m, line_is m row.role.inside h, e)

  stands_so : (key : ℕ) → (is_line m row.role.inside && (no_line row.stands || is_line m row.stands)) ≡ true
      → key ≡ key_of l m
      → IsWithinLine l (location_by row) key × StandsAtCondvar (location_by row)
  stands_so key h e =
      let t = both (is_line m row.role.inside) _ h in (
        within_so key t.0 e,
        elim (either (no_line row.stands) _ t.1) [
          | inl x ↦ inl (none_so row.stands x)
          | inr x ↦ inr (line_is m row.stands x ∙ sym (line_is m row.role.inside t.0))
        ],
      )

  line_so : (a : Act) → key_or (key_of l m) a ≡ key_of l m → line_test m row a ≡ true
      → IsLineAct l (location_by row) a
  line_so (act.Enter (One key)) e h = (m, e)
  line_so (act.Enter (Two first second)) e h = absurd cc
  line_so (act.Leave (One key) x) e h = within_so key h e
  line_so (act.Leave (Two first second) x) e h = absurd cc
  line_so (act.Park lock key check x) e h = stands_so key h e
  line_so (act.Stand key x) e h = stands_so key h e
  line_so (act.Take key x) e h = within_so key h e
  line_so (act.Remove key) e h = stands_so key h e
  line_so (act.Requeue from to how) e h = absurd cc
  line_so a e h = tt

main_so : (l : ℕ) (m : Line) (row : Profile) (a : Act) → key_or (key_of l m) a ≡ key_of l m
    → line_test m row a ≡ true → is_line Main (Some m) ≡ true
    → (key : ℕ) → EntersSection key a → 2 * l ≡ key
main_so l Main row (act.Enter (One k)) e h main key enters = sym e ∙ enters
main_so l Second row (act.Enter (One k)) e h main key enters = absurd cc
main_so l m row (act.Enter (Two j k)) e h main key enters = absurd cc
main_so l m row a e h main key enters = absurd enters

try_is : (how : Patience) → how ≡ Try → is_try how ≡ true
try_is how e = rw e refl

tries_is : (q : Purpose) → IsTry (Some q) → tries q ≡ true
tries_is (Enters l x how) h = try_is how h
tries_is (Converts l x y how) h = try_is how h
tries_is q h = absurd h

-- the test of a row
pub row_shows : {row : Profile} {a : Act} → row_test row a ≡ true → RowFacts row a
row_shows h = row_so _ _ h

facts : (shared : Bool) (l : ℕ) (row : Profile) (a : Act) (m : Line) (tried : Bool) → key_or (key_of l m) a
    ≡ key_of l m
    → tries (row.purpose l) ≡ tried → place_test shared m row a tried ≡ true → PlaceFacts shared l row a
facts shared l row a m tried e q h =
    let t1 = both (row_test row a) _ h in
    let s1 = both (silent_test row) _ t1.1 in
    let t2 = both (no_hand row.hand || carries_none row.has_taken) _ s1.1 in
    let t3 = both (line_test m row a) _ t2.1 in
    let t4 = both (shared || is_line Main (Some m)) _ t3.1 in
    record {
      by_row = row_so row a t1.0;
      silent = silent_so row s1.0;
      bare = elim (either (no_hand row.hand) _ t2.0) [
        | inl x ↦ inl (hand_so row.hand x)
        | inr x ↦
            inr (carries_so row.has_taken x)
      ];
      line = line_so l m row a e t3.0;
      main = λ alone. main_so l m row a e t3.0 (subst (λ b. (b || is_line Main (Some m)) ≡ true) alone t4.0);
      tries = λ alone is_try. elim (either (goes_free a) (not tried)
          (subst (λ b. (b || (goes_free a || not tried)) ≡ true) alone t4.1)) [
            | inl x ↦ free_so a x
            | inr x ↦ absurd (not_so tried x (sym q ∙ tries_is (row.purpose l) is_try))
          ];
    }

-- for a place, by the line that its act is on
pub shows : {shared : Bool} {l : ℕ} {row : Profile} {a : Act} (m : Line) → key_or (key_of l m) a ≡ key_of l m
    → place_test shared m row a (tries (row.purpose l)) ≡ true → PlaceFacts shared l row a
shows m e h = facts _ _ _ _ m _ e refl h

-- A place at which a call that is no try may wait.
pub waits : {shared : Bool} {l : ℕ} {row : Profile} {a : Act} (m : Line) → key_or (key_of l m) a ≡ key_of l m
    → tries (row.purpose l) ≡ false → place_test shared m row a false ≡ true → PlaceFacts shared l row a
waits m e q h = facts _ _ _ _ m false e q h

-- ---------------------------------------------------------------- a mutex

no_try : (l : ℕ) (e : Entry) → tries (entry_purpose l e) ≡ false
no_try l entry.Lock = refl
no_try l entry.LockTimed = refl
no_try l entry.Bump = refl

no_release : (l : ℕ) (bumps : Bool) → tries (release_purpose l bumps) ≡ false
no_release l true = refl
no_release l false = refl

pub mutex_facts : (l : ℕ) (p : MutexPlace) → PlaceFacts false l (mutex_profile p) (mutex_act l p)
mutex_facts l (mutex.Lock e again (lock.Decide seen)) = by_word (is_locked seen) (seen == 1)
  where
    by_word : (a b : Bool) → PlaceFacts false l (mutex_profile (mutex.Lock e again (lock.Decide seen)))
        (if not a then act.Word l (op.Exchange seen (seen + 1)) else if b then act.Word l (op.Exchange 1 3)
        else act.Enter (One (2 * l)))
    by_word false b = waits Main refl (no_try l e) refl
    by_word true true = waits Main refl (no_try l e) refl
    by_word true false = waits Main refl (no_try l e) refl
mutex_facts l (mutex.Lock e again to) = waits Main refl (no_try l e) refl
mutex_facts l mutex.TryLock = shows Main refl refl
mutex_facts l (mutex.Unlock unlock.Take) = shows Main refl refl
mutex_facts l (mutex.Unlock to) = shows Main refl refl
mutex_facts l mutex.UnlockFair = shows Main refl refl
mutex_facts l mutex.Bump = shows Main refl refl
mutex_facts l (mutex.HandOff bumps (hand_off.Store true none_left)) = waits Main refl (no_release l bumps)
    refl
mutex_facts l (mutex.HandOff bumps (hand_off.Store false none_left)) = waits Main refl (no_release l bumps)
    refl
mutex_facts l (mutex.HandOff bumps to) = waits Main refl (no_release l bumps) refl

-- as a place of the world, where it brings no waiters
pub mutex_row_facts : (l : ℕ) (p : MutexPlace) → PlaceFacts false l (mutex_row p) (mutex_act l p)
mutex_row_facts l p = let f = mutex_facts l p in record {
  by_row = record {
    goes = f.by_row.goes;
    has_taken = f.by_row.has_taken;
    owed = λ bit_pending wakes. absurd cc;
    unheld = f.by_row.unheld;
  };
  silent = record { stage = f.silent.stage; names = f.silent.names; recalls = f.silent.recalls };
  bare = f.bare;
  line = f.line;
  main = f.main;
  tries = f.tries;
}

-- ---------------------------------------------------------------- a `Once`

no_once : (l : ℕ) (c : OnceCall) → tries (once_purpose l c) ≡ false
no_once l (once_call.CallOnce forced) = refl
no_once l (once_call.Wait forced) = refl
no_once l once_call.WaitTimed = refl

pub once_facts : (l : ℕ) (p : OncePlace) → PlaceFacts false l (once_profile p) (once_act l p)
once_facts l (once.Look c again (look.Decide seen)) = by_course (course_of c seen)
  where
    by_course : (k : Course) → PlaceFacts false l (once_profile (once.Look c again (look.Decide seen)))
        (course_act l seen k)
    by_course course.Parks = waits Main refl (no_once l c) refl
    by_course k = waits Main refl (no_once l c) refl
once_facts l (once.Look c again to) = waits Main refl (no_once l c) refl
once_facts l (once.Run forced (run.Take succeeded)) = shows Main refl refl
once_facts l (once.Run forced to) = shows Main refl refl
once_facts l (once.GiveUp again give_up.Remove) = shows Main refl refl
once_facts l (once.GiveUp again to) = shows Main refl refl

-- ---------------------------------------------------------------- a semaphore

no_patience : (l : ℕ) (timed : Bool) → tries (Enters l Shared (patience timed)) ≡ false
no_patience l true = refl
no_patience l false = refl

pub semaphore_facts : (l : ℕ) (p : SemaphorePlace) → PlaceFacts false l (semaphore_profile p)
    (semaphore_act l p)
semaphore_facts l (semaphore.Acquire timed again (acquire.Decide seen)) = by_word (is_free seen) (seen == 0)
  where
    by_word : (free empty : Bool)
        → PlaceFacts false l (semaphore_profile (semaphore.Acquire timed again (acquire.Decide seen)))
        (if free then act.Word l (op.Exchange seen (seen - 2)) else if empty then act.Word l (op.Exchange 0 1)
        else act.Enter (One (2 * l)))
    by_word true empty = waits Main refl (no_patience l timed) refl
    by_word false true = waits Main refl (no_patience l timed) refl
    by_word false false = waits Main refl (no_patience l timed) refl
semaphore_facts l (semaphore.Acquire timed again to) = waits Main refl (no_patience l timed) refl
semaphore_facts l (semaphore.Try (tries_at.Decide seen)) = by_word (is_free seen)
  where
    by_word : (free : Bool) → PlaceFacts false l (semaphore_profile (semaphore.Try (tries_at.Decide seen)))
        (if free then act.Word l (op.Exchange seen (seen - 2)) else act.Word l op.Load)
    by_word true = shows Main refl refl
    by_word false = shows Main refl refl
semaphore_facts l (semaphore.Try tries_at.Load) = shows Main refl refl
semaphore_facts l (semaphore.Release release.Take) = shows Main refl refl
semaphore_facts l (semaphore.Release to) = shows Main refl refl

-- ---------------------------------------------------------------- a reader-writer lock

abbrev at_place : RwLockPurpose → Bool → RwLockAt → RwLockPlace
at_place q again to = record { purpose = q; retries = again; at = to }

rwlock_facts : (l : ℕ) (a : Admission) (q : RwLockPurpose) (again : Bool) (to : RwLockAt)
    → PlaceFacts true l (rwlock_profile a (at_place q again to)) (act_at l a (at_place q again to) to)
rwlock_facts l a q again (at.Decide seen) = by_decision (decided a (at_place q again (at.Decide seen)) seen)
  where
    by_decision : (d : Decision) → PlaceFacts true l (rwlock_profile a (at_place q again (at.Decide seen)))
        (decided_act l q seen d)
    by_decision decisions.Park = shows Main refl refl
    by_decision d = shows Main refl refl
rwlock_facts l a q again (at.Count seen) = by_aside (has_aside seen)
  where
    by_aside : (b : Bool) → PlaceFacts true l (rwlock_profile a (at_place q again (at.Count seen)))
        (if b then act.Enter (One (2 * l + 1)) else exchange l seen (plus seen 2))
    by_aside true = shows Second refl refl
    by_aside false = shows Main refl refl
rwlock_facts l a q again at.Marked = shows Second refl refl
rwlock_facts l a q again (at.Park (parking.Leave true)) = shows Main refl refl
rwlock_facts l a q again (at.Park (parking.Leave false)) = shows Main refl refl
rwlock_facts l a q again (at.Park to) = shows Main refl refl
rwlock_facts l a q again (at.Aside (parking.Leave true)) = shows Second refl refl
rwlock_facts l a q again (at.Aside (parking.Leave false)) = shows Second refl refl
rwlock_facts l a q again (at.Aside to) = shows Second refl refl
rwlock_facts l a q again (at.Wake Main waking.Take) = shows Main refl refl
rwlock_facts l a q again (at.Wake Main to) = shows Main refl refl
rwlock_facts l a q again (at.Wake Second waking.Take) = shows Second refl refl
rwlock_facts l a q again (at.Wake Second to) = shows Second refl refl
rwlock_facts l a q again to = shows Main refl refl

hand_over_facts : (l : ℕ) (a : Admission) (x : Access) (b : Bool) (to : HandOverAt)
    → PlaceFacts true l (call_profile a (fair.HandOver x b to)) (hand_over_act l a x to)
hand_over_facts l a x b (handing.Exchange k seen) = by_room (has_room a.limit k seen) _ _
  where
    by_room : (c : Bool) (y z : ℕ)
        → PlaceFacts true l (call_profile a (fair.HandOver x b (handing.Exchange k seen)))
        (if c then act.HandOver l (op.Exchange seen y) else act.Word l (op.Exchange seen z))
    by_room true y z = shows Main refl refl
    by_room false y z = shows Main refl refl
hand_over_facts l a x b to = shows Main refl refl

pub call_facts : (l : ℕ) (a : Admission) (c : RwLockCallPlace) → PlaceFacts true l (call_profile a c)
    (call_act l a c)
call_facts l a (fair.Plain p) = rwlock_facts l a p.purpose p.retries p.at
call_facts l a (fair.Bump p) = let f = rwlock_facts l a p.purpose p.retries p.at in record {
  by_row = record {
    goes = f.by_row.goes;
    has_taken = f.by_row.has_taken;
    owed = f.by_row.owed;
    unheld = f.by_row.unheld;
  };
  silent = record { stage = f.silent.stage; names = f.silent.names; recalls = f.silent.recalls };
  bare = f.bare;
  line = f.line;
  main = λ alone. absurd cc;
  tries = λ alone. absurd cc;
}
call_facts l a (fair.PeekQueue x) = shows Main refl refl
call_facts l a (fair.HandOver x b to) = hand_over_facts l a x b to
call_facts l a (fair.Handed x how b (handed.Asleep by alone)) = shows Main refl refl
call_facts l a (fair.Handed access.Exclusive how b handed.Accept) = shows Main refl refl
call_facts l a (fair.Handed x how b handed.Accept) = shows Main refl refl

-- ---------------------------------------------------------------- a condition variable

-- there
pub condvar_facts : (l : ℕ) (p : CondvarPlace) → RowFacts (condvar_profile p) (condvar_act l p)
condvar_facts l (condvar.Look all) = row_shows refl
condvar_facts l (condvar.Wait m timed (wait.Release s to)) = row_shows refl
condvar_facts l (condvar.Wait m timed to) = row_shows refl
condvar_facts l (condvar.Notify all m (notify.Move locked)) = by_all all locked
  where
    by_all : (b c : Bool) → RowFacts (condvar_profile (condvar.Notify all m (notify.Move locked)))
        (move_act b c l m)
    by_all true c = row_shows refl
    by_all false true = row_shows refl
    by_all false false = row_shows refl
condvar_facts l (condvar.Notify all m to) = row_shows refl

-- The facts of a wait at the mutex beside its condition variable.
wait_beside : (l m : ℕ) (timed : Bool) (to : WaitAt) → RowFacts (mutex_side (condvar.Wait m timed to))
    (condvar_act l (condvar.Wait m timed to))
wait_beside l m timed (wait.Release s to) = let f = (mutex_facts m to).by_row in record {
  goes = f.goes;
  has_taken = f.has_taken;
  owed = λ bit_pending wakes. ap (λ x. in_line (is_main_line x) Main) (f.owed bit_pending wakes);
  unheld = by_stand s;
}
  where
    by_stand : (s : WaiterFate) (n : Line) → in_line (is_moved s) Main ≡ Some n → hand_of s ≡ None
    by_stand stands.Moved n h = refl
    by_stand s n h = absurd cc
wait_beside l m timed (wait.Lock late to) = let f = (mutex_facts m to).by_row in record {
  goes = f.goes;
  has_taken = f.has_taken;
  owed = λ bit_pending wakes. ap (λ x. in_line (is_main_line x) Main) (f.owed bit_pending wakes);
  unheld = λ n h. f.unheld Main (by_line (mutex_profile to).stands n h);
}
  where
    by_line : (o : Option Line) (n : Line) → in_line (is_main_line o) Main ≡ Some n → o ≡ Some Main
    by_line (Some Main) n h = refl
    by_line o n h = absurd cc
wait_beside l m timed (wait.Asleep stands.Moved) = row_shows refl
wait_beside l m timed (wait.Asleep s) = row_shows refl
wait_beside l m timed to = row_shows refl

notify_beside : (l m : ℕ) (all : Bool) (to : NotifyAt) → RowFacts (mutex_side (condvar.Notify all m to))
    (condvar_act l (condvar.Notify all m to))
notify_beside l m all (notify.Move locked) = by_all all locked
  where
    by_all : (b c : Bool) → RowFacts (mutex_side (condvar.Notify all m (notify.Move locked)))
        (move_act b c l m)
    by_all true c = row_shows refl
    by_all false true = row_shows refl
    by_all false false = row_shows refl
notify_beside l m all (notify.Leave any number) = by_number (number == 0)
  where
    by_number : (b : Bool) → RowFacts (record (mutex_side (condvar.Notify all m (notify.Leave any number)))
        { role = if b then inside else has_moved any false })
        (condvar_act l (condvar.Notify all m (notify.Leave any number)))
    by_number true = row_shows refl
    by_number false = row_shows refl
notify_beside l m all to = row_shows refl

-- ---------------------------------------------------------------- any place

pub row_facts : (p : Place) → RowFacts (profile p) (act_of p)
row_facts Idle = row_shows refl
row_facts (Mutex l to) = (mutex_row_facts l to).by_row
row_facts (RwLock l a c) = (call_facts l a c).by_row
row_facts (Once l to) = (once_facts l to).by_row
row_facts (Semaphore l to) = (semaphore_facts l to).by_row
row_facts (Condvar l to) = condvar_facts l to

pub beside_facts : (p : Place) → RowFacts (profile_at_mutex p) (act_of p)
beside_facts (Condvar l (condvar.Wait m timed to)) = wait_beside l m timed to
beside_facts (Condvar l (condvar.Look all)) = row_shows refl
beside_facts (Condvar l (condvar.Notify all m to)) = notify_beside l m all to
beside_facts p = row_shows refl
