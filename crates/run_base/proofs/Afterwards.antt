-- Where a call goes on after its first step, and what it has at its end.
use Rattle.std.proofs.Common.{ℕ, ◌≡◌, Bool, true, false, List, ◌∷◌, ◌++◌, ◌<◌, Option, None, inl, inr}
use Rattle.std.proofs.Common.{if◌then◌else◌, not, sym, refl, ap, ◌∙◌, subst, arith, ne_eqb}
use Rattle.core_base.specs.declared.ops.Op.TheVariants.{Or}
use Rattle.spec_locks.specs.declared.calls.MutexCall.{MutexCall}
use Rattle.spec_locks.specs.declared.calls.MutexCall.TheVariants as call
use Rattle.spec_locks.specs.declared.outcomes.Answer.{Answer}
use Rattle.spec_locks.specs.declared.outcomes.Answer.TheVariants.{Ok, Yes, No}
use Rattle.steps_mutex.specs.MutexSteps.{in_unlock, looked, entered, is_timed, is_locked, is_parked}
use Rattle.lot_steps.specs.Steps.{act_of, next_place, next_act, mutex_goes, mutex_does}
use Rattle.steps_base.specs.declared.acts.Act.TheVariants as act
use Rattle.steps_base.specs.declared.acts.Next.TheVariants as next
use Rattle.steps_base.specs.declared.acts.Reply.TheVariants.{Value}
use Rattle.steps_mutex.specs.declared.places.MutexPlace.{MutexPlace}
use Rattle.steps_mutex.specs.declared.places.MutexPlace.TheVariants as at_mutex
use Rattle.steps_mutex.specs.declared.hand_off.HandOffAt.TheVariants as hand_off
use Rattle.steps_mutex.specs.declared.lock.Entry.{Entry}
use Rattle.steps_mutex.specs.declared.lock.Entry.TheVariants as entry
use Rattle.steps_mutex.specs.declared.lock.LockAt.TheVariants as lock
use Rattle.steps_mutex.specs.declared.unlock.UnlockAt.TheVariants as unlock
use Rattle.lot_steps.specs.declared.places.Place.{Place}
use Rattle.lot_steps.specs.declared.places.Place.TheVariants.{Mutex}
use Rattle.core_words.specs.declared.owners.Ownership.{Ownership}
use Rattle.core_words.specs.Indices.{word_index}
use Rattle.core_words.specs.declared.views.WordStep.{WordStep}
use Rattle.core_words.specs.declared.words.Word.{Word}
use Rattle.core_words.specs.declared.words.WordKind as kinds
use Rattle.parking_lot_core.specs.Tokens.{told_of}
use Rattle.parking_lot_core.specs.declared.tokens.SectionRecord.{SectionRecord}
use Rattle.parking_lot_core.specs.declared.tokens.Token.{Token}
use Rattle.run_base.specs.Calls.{HasWalkedMutex, beginning, first_op, purpose_in, saw_waiter, IsUnfinished}
use Rattle.run_base.specs.Calls.{TookIfSeen, TookIfParked}
use Rattle.run_base.specs.Fitting.{of_mutex, call_purpose, AreWordsFor, Fits, IsOver, IsStopped}
use Rattle.run_base.specs.declared.driver.Stop.TheVariants.{Paused}
use Rattle.run_base.proofs.Ending.{never_paused}
use Rattle.spec_locks.specs.declared.outcomes.OnceState.{OnceState}
use Rattle.run_base.specs.MutexFitting.{to_enter, IsMutexOver, Outside, TookAt, mutex_ownership, beside}
use Rattle.run_base.specs.Courses.{Courses, trail_of}
use Rattle.run_base.specs.Paths.{mutex_at, mutexes, at_mutex, step}
use Rattle.run_base.specs.Telling.{steps_of}
use Rattle.run_base.specs.Stages.{ThreadState, stage}
use Rattle.run_base.specs.Words.{single_word, kind_in, at_in}
use Rattle.run_base.proofs.Courses.{arrives_at_once, courses_between, courses_from}
use Rattle.run_base.proofs.Turning.{words_on}
use Rattle.run_base.proofs.Unqueued.{after_first}

-- the place after the first step
abbrev rest : MutexCall → MutexPlace
rest call.Lock = at_mutex.Lock entry.Lock false lock.Load
rest call.LockTimed = at_mutex.Lock entry.LockTimed false lock.Load
rest call.TryLock = at_mutex.TryLock
rest call.Unlock = at_mutex.Unlock unlock.Enter
rest call.UnlockFair = at_mutex.HandOff false hand_off.Enter
rest call.Bump = at_mutex.HandOff true hand_off.Enter

-- the first step saw what ends the call
abbrev pub EndsAt : MutexCall → ℕ → Type 0
EndsAt call.Lock seen = seen ≡ 0
EndsAt call.LockTimed seen = seen ≡ 0
EndsAt call.TryLock seen = ⊥
EndsAt call.Unlock seen = is_parked seen ≡ false
EndsAt call.UnlockFair seen = seen ≡ 1
EndsAt call.Bump seen = is_parked seen ≡ false

abbrev pub success : MutexCall → Answer
success call.LockTimed = Yes
success _ = Ok

module _ (n : ℕ) where
  goes_to : (c : MutexCall) (seen : ℕ) (owns : List Ownership) → IsUnfinished n c seen owns
      → next_place (beginning n c) (Value seen) ≡ Mutex n (rest c)
  goes_to call.Lock seen owns g = rw (ne_eqb seen 0 (λ z. omega arith)) refl
  goes_to call.LockTimed seen owns g = rw (ne_eqb seen 0 (λ z. omega arith)) refl
  goes_to call.TryLock seen owns g = absurd g
  goes_to call.Unlock seen owns g =
      ap (λ (b : Bool). mutex_goes n (in_unlock (if b then next.At unlock.Enter
      else next.End Ok))) g
  goes_to call.UnlockFair seen owns g = ap (λ (b : Bool). mutex_goes n (looked false (not b)))
      (ne_eqb seen 1 g.0)
  goes_to call.Bump seen owns g = ap (λ (b : Bool). mutex_goes n (looked true b)) g.0

  fits_there : (up : Type 0) (c : MutexCall) (seen : ℕ) (owns : List Ownership) (last : Option SectionRecord)
      (steps : List WordStep) → IsUnfinished n c seen owns → Fits up owns (Mutex n (rest c))
      (stage owns None last steps)
  fits_there up call.Lock seen owns last steps g = (refl, refl)
  fits_there up call.LockTimed seen owns last steps g = (refl, refl)
  fits_there up call.TryLock seen owns last steps g = absurd g
  fits_there up call.Unlock seen owns last steps g = (refl, refl)
  fits_there up call.UnlockFair seen owns last steps g = (g.1, (refl, refl))
  fits_there up call.Bump seen owns last steps g = (g.1, (refl, refl))

  same_aim : (c : MutexCall) → call_purpose (Mutex n (rest c)) ≡ of_mutex n (purpose_in c)
  same_aim call.Lock = refl
  same_aim call.LockTimed = refl
  same_aim call.TryLock = refl
  same_aim call.Unlock = refl
  same_aim call.UnlockFair = refl
  same_aim call.Bump = refl

  ends_with : (c : MutexCall) (seen : ℕ) → EndsAt c seen → next_act (beginning n c) (Value seen)
      ≡ act.End (success c)
  ends_with call.Lock seen e = subst (λ (k : ℕ). next_act (beginning n call.Lock) (Value k)
      ≡ act.End Ok) (sym e) refl
  ends_with call.LockTimed seen e = subst (λ (k : ℕ). next_act (beginning n call.LockTimed) (Value k)
      ≡ act.End Yes) (sym e) refl
  ends_with call.TryLock seen e = absurd e
  ends_with call.Unlock seen e =
      ap (λ (b : Bool). mutex_does n (in_unlock (if b then next.At unlock.Enter
      else next.End Ok))) e
  ends_with call.UnlockFair seen e = subst (λ (k : ℕ). next_act (beginning n call.UnlockFair) (Value k)
      ≡ act.End Ok) (sym e) refl
  ends_with call.Bump seen e = ap (λ (b : Bool). mutex_does n (looked true b)) e

  begins_with : (c : MutexCall) → act_of (beginning n c) ≡ act.Word n (first_op c)
  begins_with call.Lock = refl
  begins_with call.LockTimed = refl
  begins_with call.TryLock = refl
  begins_with call.Unlock = refl
  begins_with call.UnlockFair = refl
  begins_with call.Bump = refl

  -- the first step ends the call
  pub path_at_once : (c : MutexCall) (seen : ℕ) (old new : Token) → EndsAt c seen → steps_of new
      ≡ steps_of old ++ step (mutex_at n) (first_op c) seen → told_of new ≡ told_of old
      → HasWalkedMutex n c (success c) old new
  path_at_once c seen old new e saw untold = arrives_at_once (at_mutex n) old.number (beginning n c) n
      (first_op c) seen (steps_of old) (steps_of new) (told_of old) (told_of new) (success c) (begins_with c)
      (after_first n c seen) saw untold (ends_with c seen e)

  -- a try ends with its one step
  pub path_of_try : (locked : Bool) (seen : ℕ) (old new : Token) → is_locked seen ≡ locked → steps_of new
      ≡ steps_of old ++ step (mutex_at n) (Or 1) seen → told_of new ≡ told_of old
      → HasWalkedMutex n call.TryLock (if locked then No else Yes) old new
  path_of_try locked seen old new e saw untold = arrives_at_once (at_mutex n) old.number
      (beginning n call.TryLock) n (Or 1) seen (steps_of old) (steps_of new) (told_of old) (told_of new)
      (if locked then No else Yes) refl (after_first n call.TryLock seen) saw untold (by_bit locked e)
    where
      by_bit : (locked : Bool) → is_locked seen ≡ locked → next_act (beginning n call.TryLock) (Value seen)
          ≡ act.End (if locked then No else Yes)
      by_bit true e = ap (λ (b : Bool). mutex_does n (if b then next.End No
          else next.End Yes)) e
      by_bit false e = ap (λ (b : Bool). mutex_does n (if b then next.End No
          else next.End Yes)) e

  -- a release that saw a waiter took it
  pub releases_after : (c : MutexCall) (seen : ℕ) (old mid new : List WordStep) (last : Option SectionRecord)
      → saw_waiter c seen ≡ true → mid ≡ old ++ step (mutex_at n) (first_op c) seen → (more : List WordStep)
      × (new ≡ mid ++ more) → TookAt n last → TookIfSeen n c old new last
  releases_after c seen old mid new last waits saw rest took = (
    seen,
    rest.0,
    rest.1 ∙ ap (λ (l : List WordStep). l ++ rest.0) saw,
    subst (λ (b : Bool). TookIfParked n b rest.0 last) (sym waits) took,
  )

  pub fits_after : (up : Type 0) (c : MutexCall) (seen : ℕ) (owns : List Ownership)
      (last : Option SectionRecord) (steps : List WordStep) → IsUnfinished n c seen owns
      → Fits up owns (next_place (beginning n c) (Value seen)) (stage owns None last steps)
  fits_after up c seen owns last steps g = subst (λ (p : Place). Fits up owns p (stage owns None last steps))
      (sym (goes_to c seen owns g)) (fits_there up c seen owns last steps g)

  pub over_after : (up : Type 0) (c : MutexCall) (seen : ℕ) (owns : List Ownership) (answer : Answer)
      (new : ThreadState) → IsUnfinished n c seen owns
      → IsOver up owns (call_purpose (next_place (beginning n c) (Value seen))) answer new
      → IsMutexOver up n owns (purpose_in c) answer new
  over_after up c seen owns answer new g over = subst (λ aim. IsOver up owns aim answer new)
      (ap call_purpose (goes_to c seen owns g) ∙ same_aim c) over

  pub never_pauses : (up : Type 0) (c : MutexCall) (seen : ℕ) (owns : List Ownership) (place : Place)
      (state : OnceState) (new : ThreadState) → IsUnfinished n c seen owns
      → IsStopped up owns (call_purpose (next_place (beginning n c) (Value seen))) (Paused place state) new
      → ⊥
  never_pauses up c seen owns place state new g stopped = never_paused up owns n (purpose_in c) place state
      new (subst (λ aim. IsStopped up owns aim (Paused place state) new)
      (ap call_purpose (goes_to c seen owns g) ∙ same_aim c) stopped)

  pub path_after : (c : MutexCall) (seen : ℕ) (before old new : Token) (answer : Answer)
      → Courses (at_mutex n) old.number (next_place (beginning n c) (Value seen)) (trail_of old None)
      (trail_of new None) answer → old.number ≡ before.number
      → steps_of old ≡ steps_of before ++ step (mutex_at n) (first_op c) seen → told_of old ≡ told_of before
      → HasWalkedMutex n c answer before new
  path_after c seen before old new answer rest same saw untold =
      courses_from (at_mutex n) before.number (beginning n c) n (first_op c) seen (steps_of before)
      (steps_of old) (told_of before) (told_of old) (trail_of new None) answer (begins_with c)
      (after_first n c seen) saw untold
      (subst (λ (me : ℕ). Courses (at_mutex n) me (next_place (beginning n c) (Value seen))
      (trail_of old None) (trail_of new None) answer) same rest)

  -- a token that gave a right away since has the same course
  pub walked_then : (c : MutexCall) (answer : Answer) (old mid new : Token) → steps_of new ≡ steps_of mid
      → told_of new ≡ told_of mid → HasWalkedMutex n c answer old mid → HasWalkedMutex n c answer old new
  walked_then c answer old mid new e told walked =
      courses_between (at_mutex n) (beginning n c) answer old old mid new refl refl refl e told walked

  -- an untimed call has the mutex at its end
  pub has_entered : (up : Type 0) (e : Entry) (base : List Ownership) (answer : Answer) (st : ThreadState)
      → is_timed e ≡ false → IsMutexOver up n base (to_enter e) answer st → (answer ≡ entered e)
      × Outside (mutex_ownership n ∷ beside n e base) st
  has_entered up e base answer st untimed (inl h) = (h.0, (h.1.0, h.1.1))
  has_entered up e base answer st untimed (inr h) = let timed = h.1.0 in absurd cc

module _ (word : Word) (is : word.kind ≡ kinds.TheVariants.Mutex) where
  alone_kinds : kind_in (single_word word) ≡ mutexes
  alone_kinds = ap {B = ℕ → kinds.WordKind} (λ (kind : kinds.WordKind) (lock : ℕ). kind) is

  pub alone_at : at_in (single_word word) ≡ at_mutex word.number
  alone_at = ap {B = ℕ → ℕ} (λ (kind : kinds.WordKind) (lock : ℕ). word_index word.number kind) is

  -- the word of a mutex serves its call
  pub words_afterwards : (c : MutexCall) (seen : ℕ) → word.number < 9223372036854775808
      → AreWordsFor (next_place (beginning word.number c) (Value seen)) (kind_in (single_word word))
      (at_in (single_word word))
  words_afterwards c seen small = words_on (beginning word.number c) (Value seen) (kind_in (single_word word))
      (at_in (single_word word)) (small, alone_kinds, alone_at)
