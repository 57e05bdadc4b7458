-- Each step of a wait on the word of its mutex, as it releases it and locks it again: every lock is a site
-- again.
use Rattle.lot_laws.proofs.Imports
use Imports.{ℕ, Bool, true, false, Option, Some, None, if◌then◌else◌, ◌==◌, ◌&&◌, ◌≡◌, ◌≢◌, ◌<◌, List, [], ◌∷◌}
use Imports.{length, not, refl, sym, ◌∙◌, ap, subst, inl, inr, cases_eq, Op, Exclusive, apply, Next, At, Reply}
use Imports.{Value, Owners, with_exclusive, taken_from, location_by, Condvar, condvar_goes, LockAt, UnlockAt}
use Imports.{enter_deeds, is_locked, is_parked, in_unlock, unlock_act, CondvarPlace, Wait, WaiterFate, WaitAt}
use Imports.{condvar_next, condvar_owners, in_wait, next_wait, relocked, released, wait_act, past_release}
use Imports.{row_at_mutex, row_at_condvar, there, LeavesMutex, MayHearWaiter, WaiterFollows, itself_woken, unended}
use Imports.{waiter_deeds, waiter_next, waiters_code, waiters_follow, code, Leave, Rules, Case, Clear, Deed}
use Imports.{Role, End, Main, Mark, MarkBrought, MarkOwned, Site, State, can_do, owners_at, place_at, put}
use Imports.{reply_to, state_after_operation, word_at, state_after_act, acts, taken_at, role_on, location_at}
use Imports.{FitsItsLock, Goes, IsInductive, rules_in, site_of, Act}
use Rattle.core_base.specs.declared.ops.Op.TheVariants as op
use Rattle.core_base.specs.declared.notes.Note.TheVariants as note
use Rattle.steps_base.specs.declared.acts.Act.TheVariants as act
use Rattle.steps_base.specs.declared.acts.Next.TheVariants.{End as Over}
use Rattle.steps_base.specs.Locations.{nowhere}
use Rattle.steps_mutex.specs.declared.lock.Entry.TheVariants as entry
use Rattle.steps_mutex.specs.declared.lock.LockAt.TheVariants as lock
use Rattle.steps_mutex.specs.declared.places.MutexPlace.TheVariants as mutex
use Rattle.steps_mutex.specs.declared.unlock.UnlockAt.TheVariants as unlock
use Rattle.steps_mutex.specs.MutexSteps.{in_lock}
use Rattle.steps_condvar.specs.declared.wait.WaiterFate.TheVariants as stands
use Rattle.steps_condvar.specs.declared.wait.WaitAt.TheVariants as wait
use Rattle.spec_locks.specs.declared.outcomes.Answer.TheVariants as answer
use Rattle.spec_locks.specs.Deeds as laws
use Rattle.spec_locks.specs.Locks as locks
use Rattle.spec_locks.specs.Locks.{Enter}
use Rattle.lot_laws.proofs.sites.StandsKept.{Alike, AlikeBeside}
use Rattle.lot_laws.proofs.condvar.TwoParts.{Beside, alike_there, role_beside, nothing_else, location_beside}
use Rattle.lot_laws.proofs.condvar.TwoParts.{taken_beside}
use Rattle.lot_laws.proofs.condvar.Replies as hears
use Rattle.lot_laws.proofs.condvar.Replies.{taken_by_wait, waiter_hears}
use Rattle.lot_laws.proofs.mutex.Acts.{IsOfWord, owned_by, works_at}

module _ (w : State) (t l m : ℕ) (timed : Bool) (inductive : IsInductive w) (is_there : t < length w.places)
    (apart : m ≢ l)
    (sort : (rules_in w m).sort ≡ locks.Mutex) where
  abbrev waits : WaitAt → CondvarPlace
  waits at = Wait m timed at

  abbrev r : Rules
  r = rules_in w m

  abbrev here : Site
  here = site_of w m

  -- ---------------------------------------------------------------- where a step at the mutex leads

  -- the condition variable sees no change
  abbrev pub StaysAtCondvar : WaitAt → Next CondvarPlace → Type 0
  StaysAtCondvar at n = Beside m n × (location_by (row_at_condvar n) ≡ there (waits at))

  module _ (at : WaitAt) (is : place_at w t ≡ Condvar l (waits at)) (n : Next CondvarPlace)
      (stays : StaysAtCondvar at n) where
    pub alike : AlikeBeside m (place_at w t) (condvar_goes l n)
    alike k ne = subst (λ q. Alike k q (condvar_goes l n)) (sym is) (elim (cases_eq k l) [
      | inl e ↦ subst (λ j. Alike j (Condvar l (waits at)) (condvar_goes l n)) (sym e)
          (alike_there l m apart (At (waits at)) n refl stays.0 stays.1)
      | inr nl ↦ nothing_else l m apart (At (waits at)) n refl stays.0 k nl ne
    ])

    pub location_was : location_at (place_at w t) m ≡ location_by (row_at_mutex (At (waits at)))
    location_was = ap (λ q. location_at q m) is ∙ location_beside l m apart (At (waits at)) refl

    pub location_then : location_at (condvar_goes l n) m ≡ location_by (row_at_mutex n)
    location_then = location_beside l m apart n stays.0

    pub taken_was : taken_at (place_at w t) m
        ≡ taken_from (row_at_mutex (At (waits at))).hand (row_at_mutex (At (waits at))).wants true
    taken_was = ap (λ q. taken_at q m) is ∙ taken_beside l m apart (At (waits at)) refl

    pub taken_then : taken_at (condvar_goes l n) m ≡ taken_from (row_at_mutex n).hand (row_at_mutex n).wants true
    taken_then = taken_beside l m apart n stays.0

  -- tells what it does about the mutex at the next place
  pub does_next : (n : Next WaitAt) → (beside : Beside m (in_wait m timed n))
      → role_on (condvar_goes l (in_wait m timed n)) m ≡ waiter_next m n
  does_next n beside = role_beside l m apart (in_wait m timed n) beside ∙ by_next n
    where
      by_next : (n : Next WaitAt) → (row_at_mutex (in_wait m timed n)).role ≡ waiter_next m n
      by_next (At at) = refl
      by_next (Over answer) = refl

  pub follows : (at : WaitAt) → place_at w t ≡ Condvar l (waits at) → (whom : Option ℕ) (told : Reply)
      → MayHearWaiter r here t at whom told → WaiterFollows r here t m timed at whom told
  follows at is whom told may = waiters_follow r here t m timed at whom told sort (inductive.sites.site m)
      (hears.role_beside w t l (waits at) inductive is m refl) may

  -- ---------------------------------------------------------------- the word

  -- nobody is woken by it
  unwoken : (ds : List Deed) (d : Role) → IsOfWord ds → itself_woken t here ds d ≡ d
  unwoken [] d h = refl
  unwoken (End ∷ []) d h = refl
  unwoken (Mark Main ∷ []) d h = refl
  unwoken (Clear Main ∷ []) d h = refl
  unwoken (Case (Leave Exclusive) ∷ []) d h = refl
  unwoken (Case (Leave Exclusive) ∷ End ∷ []) d h = refl
  unwoken (Case (Enter Exclusive) ∷ End ∷ []) d h = refl
  unwoken (MarkOwned ∷ []) d h = refl
  unwoken (MarkBrought ∷ []) d h = refl
  unwoken ds d h = absurd h

  -- nothing of the owners changes but the owner
  abbrev KeepsOthers : WaitAt → Type 0
  KeepsOthers at = condvar_owners (waits at) t (word_at w m) (owners_at w m) ≡ with_exclusive (owners_at w m)
      (condvar_owners (waits at) t (word_at w m) (owners_at w m)).exclusive

  -- the thread stays in its line, its section and its hand
  abbrev pub StaysBeside : WaitAt → Next CondvarPlace → Type 0
  StaysBeside at n =
      (location_by (row_at_mutex n) ≡ location_by (row_at_mutex (At (waits at))))
      × (taken_from (row_at_mutex n).hand (row_at_mutex n).wants true ≡ taken_from
      (row_at_mutex (At (waits at))).hand (row_at_mutex (At (waits at))).wants true)

  module _ (at : WaitAt) (is : place_at w t ≡ Condvar l (waits at)) (op : Op) (acts_so : wait_act l m at
      ≡ act.Word m op)
      (can : can_do w (wait_act l m at) ≡ true) (lt : m < length w.locks) (nobody : taken_by_wait w m at
      ≡ None) where
    abbrev does : List Deed
    does = waiter_deeds at None (Value (word_at w m))

    abbrev next : Next WaitAt
    next = next_wait m timed at (Value (word_at w m))

    may_hear : MayHearWaiter r here t at None (Value (word_at w m))
    may_hear = subst (λ o. MayHearWaiter r here t at o (Value (word_at w m))) nobody
        (subst (λ a. MayHearWaiter r here t at (taken_by_wait w m at) (reply_to w t a)) acts_so
        (waiter_hears w t l m timed at inductive is can))

    f : WaiterFollows r here t m timed at None (Value (word_at w m))
    f = follows at is None (Value (word_at w m)) may_hear

    leaves : LeavesMutex r here t m timed at op (owners_at w m)
    leaves = waiters_code r here t l m timed at op (owners_at w m) sort (λ e. apart (sym e))
        (inductive.sites.site m) (hears.role_beside w t l (waits at) inductive is m refl)
        (subst (λ v. MayHearWaiter r here t at None (Value v)) (inductive.sites.word m) may_hear) acts_so refl

    pub works : StaysAtCondvar at (in_wait m timed next) → StaysBeside at (in_wait m timed next)
        → FitsItsLock w (condvar_goes l (in_wait m timed next)) → IsOfWord does → KeepsOthers at
        → Goes w (put (state_after_operation w t (Condvar l (waits at)) m op) t
        (condvar_goes l (in_wait m timed next))) m
        (acts t does)
    works stays same fits of_word others = works_at w t m inductive is_there sort
        (condvar_goes l (in_wait m timed next)) (alike at is (in_wait m timed next) stays) fits
        (Condvar l (waits at)) op lt does (owned_by r does here t of_word) refl f.needed
        (f.role ∙ unwoken does (waiter_next m next) of_word ∙ sym (does_next next stays.0))
        (others ∙ ap (with_exclusive (owners_at w m))
        (subst (λ v. (condvar_owners (waits at) t v (owners_at w m)).exclusive
        ≡ (laws.after_all r (waiter_deeds at None (Value v)) here t).lock.exclusive)
        (sym (inductive.sites.word m)) leaves.owner))
        (subst (λ v. apply op v ≡ code r (laws.after_all r (waiter_deeds at None (Value v)) here t))
        (sym (inductive.sites.word m)) leaves.word)
        (location_then at is (in_wait m timed next) stays ∙ same.0
        ∙ sym (location_was at is (in_wait m timed next) stays))
        (taken_was at is (in_wait m timed next) stays ∙ sym same.1
        ∙ sym (taken_then at is (in_wait m timed next) stays))

  -- ---------------------------------------------------------------- each place that works on the word

  abbrev Kept : WaitAt → Act → Type 0
  Kept at a = Goes w (put (state_after_act w t (Condvar l (waits at)) a) t
      (condvar_goes l (condvar_next (waits at) (reply_to w t a)))) m
      (acts t (waiter_deeds at None (reply_to w t a)))

  abbrev FitsNext : WaitAt → Act → Type 0
  FitsNext at a = FitsItsLock w (condvar_goes l (condvar_next (waits at) (reply_to w t a)))

  abbrev seen : ℕ
  seen = word_at w m

  abbrev releasing : WaiterFate → UnlockAt → WaitAt
  releasing s at = wait.Release s (mutex.Unlock at)

  abbrev relocks : Bool → Bool → LockAt → WaitAt
  relocks late retries at = wait.Lock late (mutex.Lock entry.Lock retries at)

  module _ (lt : m < length w.locks) where
    -- the thread owns the mutex no more; waiters are seen, or its release is over
    module _ (s : WaiterFate) where
      abbrev subtracted : Bool → Next CondvarPlace
      subtracted b = At (waits (released s (in_unlock (if b then At unlock.Enter else Over answer.Ok))))

      subtracted_there : (b : Bool) → StaysAtCondvar (releasing s unlock.Subtract) (subtracted b)
      subtracted_there true = (refl, refl)
      subtracted_there false = ended s
        where
          ended : (s : WaiterFate) → StaysAtCondvar (releasing s unlock.Subtract) (At (waits (past_release s)))
          ended stands.Listed = (refl, refl)
          ended stands.Moved = (refl, refl)
          ended (stands.InHand by) = (refl, refl)
          ended (stands.Handed by) = (refl, refl)
          ended (stands.Noted note.Normal) = (refl, refl)
          ended (stands.Noted note.HandOff) = (refl, refl)

      subtracted_beside : (b : Bool) → StaysBeside (releasing s unlock.Subtract) (subtracted b)
      subtracted_beside true = (refl, refl)
      subtracted_beside false = ended s
        where
          ended : (s : WaiterFate) → StaysBeside (releasing s unlock.Subtract) (At (waits (past_release s)))
          ended stands.Listed = (refl, refl)
          ended stands.Moved = (refl, refl)
          ended (stands.InHand by) = (refl, refl)
          ended (stands.Handed by) = (refl, refl)
          ended (stands.Noted note.Normal) = (refl, refl)
          ended (stands.Noted note.HandOff) = (refl, refl)

      subtracts_word : (b : Bool) → IsOfWord (unended (Case (Leave Exclusive) ∷ (if b then [] else End ∷ [])))
      subtracts_word true = tt
      subtracts_word false = tt

      pub subtracts : place_at w t ≡ Condvar l (waits (releasing s unlock.Subtract))
          → FitsNext (releasing s unlock.Subtract) (act.Word m (op.Sub 1))
          → Kept (releasing s unlock.Subtract) (act.Word m (op.Sub 1))
      subtracts is fits = works (releasing s unlock.Subtract) is (op.Sub 1) refl refl lt refl
          (subtracted_there (is_parked seen)) (subtracted_beside (is_parked seen)) fits
          (subtracts_word (is_parked seen)) refl

      -- the bit, where nobody was left
      pub clears : (any : Bool) → place_at w t ≡ Condvar l (waits (releasing s (unlock.Clear any)))
          → FitsNext (releasing s (unlock.Clear any)) (unlock_act m (unlock.Clear any))
          → Kept (releasing s (unlock.Clear any)) (unlock_act m (unlock.Clear any))
      clears any is fits = works (releasing s (unlock.Clear any)) is _ refl refl lt refl (refl, refl) (
        refl,
        refl,
      ) fits tt refl

    -- the thread locks it again
    module _ (late retries : Bool) where
      abbrev locked : Bool → LockAt → Next CondvarPlace
      locked b at = in_wait m timed (relocked timed late
          (in_lock entry.Lock retries (if b then Over answer.Ok else At at)))

      locked_there : (b : Bool) (at : LockAt) → (p : LockAt) → there (waits (relocks late retries p))
          ≡ nowhere
          → there (waits (relocks late retries at)) ≡ nowhere → StaysAtCondvar (relocks late retries p)
          (locked b at)
      locked_there true at p e f = (tt, sym e)
      locked_there false at p e f = (refl, f ∙ sym e)

      tries_beside : (b : Bool) → StaysBeside (relocks late retries lock.First) (locked b lock.Load)
      tries_beside true = (refl, refl)
      tries_beside false = (refl, refl)

      tries_word : (b : Bool) → IsOfWord (if b then enter_deeds else [])
      tries_word true = tt
      tries_word false = tt

      one_owner : (o : Owners) (x : Option ℕ) (b : Bool)
          → (if b then with_exclusive o x else o) ≡ with_exclusive o (if b then with_exclusive o x
          else o).exclusive
      one_owner o x true = refl
      one_owner o x false = refl

      pub tries : place_at w t ≡ Condvar l (waits (relocks late retries lock.First))
          → FitsNext (relocks late retries lock.First) (act.Word m (op.Exchange 0 1))
          → Kept (relocks late retries lock.First) (act.Word m (op.Exchange 0 1))
      tries is fits = works (relocks late retries lock.First) is (op.Exchange 0 1) refl refl lt refl
          (locked_there (seen == 0) lock.Load lock.First refl refl) (tries_beside (seen == 0)) fits
          (tries_word (seen == 0)) (one_owner (owners_at w m) (Some t) (seen == 0))

      pub loads : place_at w t ≡ Condvar l (waits (relocks late retries lock.Load))
          → FitsNext (relocks late retries lock.Load) (act.Word m op.Load)
          → Kept (relocks late retries lock.Load) (act.Word m op.Load)
      loads is fits = works (relocks late retries lock.Load) is op.Load refl refl lt refl (refl, refl) (
        refl,
        refl,
      ) fits tt refl

      -- the thread has seen the word before: its exchange finds it so, or not
      abbrev decided_next : Bool → Bool → Next CondvarPlace
      decided_next same locked = in_wait m timed
          (relocked timed late (in_lock entry.Lock retries (if not same then At (lock.Decide seen)
          else if locked then At (lock.Decide 3) else Over answer.Ok)))

      decided_there : (x : ℕ) (same locked : Bool) → StaysAtCondvar (relocks late retries (lock.Decide x))
          (decided_next same locked)
      decided_there x false locked = (refl, refl)
      decided_there x true true = (refl, refl)
      decided_there x true false = (tt, refl)

      decided_beside : (x : ℕ) (same locked : Bool)
          → StaysBeside (relocks late retries (lock.Decide x)) (decided_next same locked)
      decided_beside x false locked = (refl, refl)
      decided_beside x true true = (refl, refl)
      decided_beside x true false = (refl, refl)

      decides_word : (same locked : Bool) → IsOfWord (if not same then [] else if locked then Mark Main ∷ []
          else enter_deeds)
      decides_word false locked = tt
      decides_word true true = tt
      decides_word true false = tt

      pub decides : (x : ℕ) (f : Op) → place_at w t ≡ Condvar l (waits (relocks late retries (lock.Decide x)))
          → wait_act l m (relocks late retries (lock.Decide x)) ≡ act.Word m f
          → FitsNext (relocks late retries (lock.Decide x)) (act.Word m f)
          → Kept (relocks late retries (lock.Decide x)) (act.Word m f)
      decides x f is acts_so fits = works (relocks late retries (lock.Decide x)) is f acts_so
          (subst (λ a. can_do w a ≡ true) (sym acts_so) refl) lt refl (decided_there x (seen == x)
          (is_locked seen)) (decided_beside x (seen == x) (is_locked seen)) fits
          (decides_word (seen == x) (is_locked seen)) (one_owner (owners_at w m) (Some t)
          ((seen == x) && not (is_locked seen)))
