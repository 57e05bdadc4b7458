-- Each step of the world is fair.
use Rattle.lot_laws.proofs.Imports
use Imports.{ℕ, Bool, true, false, Option, Some, None, if◌then◌else◌, ◌==◌, ◌&&◌, not, ◌≡◌, ◌≢◌, ◌+◌, ◌*◌, ◌<◌}
use Imports.{◌⊎◌, inl, inr, [], length, refl, sym, ◌∙◌, ap, subst, arith, get_or-set_same, length-set, Run}
use Imports.{GiveUp, cases_eq, eqb-true, ltb-true, nat_tests, One, Op, Want, Exclusive, Upgradable, Shared}
use Imports.{CallOnce, first_of, Turn, Step, MutexPlace, Lock, TryLock, Unlock, UnlockFair, LockAt, NOT_PARKED}
use Imports.{HandOffAt, Place, Idle, Mutex, RwLock, Once, Condvar, Semaphore, CondvarPlace, is_locked}
use Imports.{is_parked, lock_act, hand_off_act, act_of, respins_from, late_key, next_place, called_lock}
use Imports.{profile}
use Imports.{State, unlocked, place_at, word_at, owners_at, kind_at, queue_at, state_after_operation}
use Imports.{queues_with_last, queues_without_first, state_after_act, state_after_taking, state_after_look}
use Imports.{state_after_go, put, state_after_late_on, state_after_turn, can_turn, is_possible, after}
use Imports.{step_outcome, can_do, reply_to, IsWellFormed, PlaceFits, IsMutexWord, mutex_location, AreCondvars}
use Imports.{AreCounted, IsInductive, FitsItsLock, is_mutex, rules_in, Main, both, looking_well_formed}
use Imports.{OnceCase, Start, Finish, Fail, Rest, TakeAll, LockState, Rules, Taken, LockCase, Pend, Settle}
use Imports.{Leave, Convert, Park, Aside, TakeFirst, TakeAside, TakePicked, Wake, HandOff as HandsLockOff}
use Imports.{Rollback, OfOnce, Needs, IsTaken, HasTakenNobody, IsLockState, keep_from, first_thread, Owns}
use Imports.{CallState, AreLockStates, MayMove, rules_at, locks_after, Moves, call_at, lock_state, locks_of}
use Imports.{call_state, owner_at, OwnerReleasesFairly, IsFairRelease, OwnsOn, HandsMutexOver, LetsMutexGo}
use Imports.{IsFair, IsToGiveAt, GivesUpFairly, FairReleaseComesTo as GivesFrom, IsToGive, call_act, Admission}
use Imports.{RwLockCallPlace, rules_of, Owners, with_exclusive, Purpose, Enters, Releases, Converts, Bumps}
use Imports.{CallsOnce, Awaits, Waits, Notifies, lock_for, has_readers, call_profile}
use Rattle.steps_semaphore.specs.declared.places.SemaphorePlace.TheVariants as semaphore
use Rattle.spec_locks.specs.declared.calls.OnceCall.TheVariants as once_call
use Rattle.steps_once.specs.declared.places.OncePlace.TheVariants.{Look}
use Rattle.lot_laws.proofs.calls.Closures.{closes_one}
use Rattle.lot_laws.proofs.calls.OwnPlace.{gone}
use Rattle.core_base.specs.declared.ops.Op.TheVariants as op
use Rattle.core_base.specs.declared.wants.Want.TheVariants.{Wait}
use Rattle.spec_locks.specs.declared.kinds.Kind.TheVariants as kind
use Rattle.steps_base.specs.declared.acts.Act.TheVariants as act
use Rattle.spec_locks.specs.declared.calls.Turn.TheVariants as turn
use Rattle.steps_mutex.specs.declared.lock.Entry.TheVariants as entries
use Rattle.steps_mutex.specs.declared.places.MutexPlace.TheVariants.{Bump}
use Rattle.steps_mutex.specs.declared.places.MutexPlace.TheVariants.{HandOff}
use Rattle.steps_mutex.specs.declared.lock.LockAt.TheVariants as lock
use Rattle.steps_mutex.specs.declared.hand_off.HandOffAt.TheVariants as hand_off
use Rattle.steps_condvar.specs.declared.places.CondvarPlace.TheVariants as condvar_place
use Rattle.lot_laws.proofs.machine.Parts.{own_role}
use Rattle.lot_laws.proofs.calls.Looking.{looking_inductive, locks_same, looks_now, calls_same}
use Rattle.std.specs.Prelude.{nat_lt}
use Rattle.spec_locks.specs.Locks.{Enter}
use Rattle.spec_locks.specs.Locks.{Late}
use Rattle.spec_locks.specs.Locks as locks
use Rattle.lot_laws.proofs.rwlock.FairHands.{goes_giving, owner_stays}
use Rattle.lot_laws.proofs.promises.PlacePromises.{row_promises}
use Rattle.lot_laws.proofs.hands.CountsPut.{looking_counted}
use Rattle.lot_laws.proofs.promises.ExclusiveOwners.{mutex_owner_after, mutex_is, by_code}
use Rattle.lot_laws.proofs.calls.EachLock.{moves_no_owner, moves_no_readers, moves_takes, turned_so}
use Rattle.lot_laws.proofs.machine.Parts.{IsSingle, own_stance, aparts, single_or_two}
use Rattle.lot_laws.proofs.hands.Handed.{successor_one, of_carries}
use Rattle.lot_laws.proofs.mutex.Waiters.{held_there}
use Rattle.lot_laws.proofs.machine.AtPlaces.{coded as words_coded, in_no_hand}
use Rattle.lot_laws.proofs.sites.TurnsKept.{after_inductive}
use Rattle.lot_laws.proofs.machine.Parts.{mutex}
use Rattle.lot_laws.proofs.sites.StandsMoved.{mutex_rules}
use Rattle.lot_laws.proofs.machine.KindsStay.{after_kinds}
use Rattle.lot_laws.proofs.sites.SitesKept.{unshared_at, single_at, alone_at, mutexes_at}
use Rattle.lot_laws.proofs.calls.CallEvents.{rights}
use Rattle.lot_laws.proofs.calls.LockSteps.{IsTurn, after_step}
use Rattle.lot_laws.proofs.rwlock.CallRows.{call_promises}

-- the lock that is released fairly is that of the call
released_lock : (q : Purpose) (l : ℕ) → IsFairRelease (Some q) l → lock_for q ≡ l
released_lock (Releases k Exclusive fair) l h = h.0
released_lock (Bumps k Exclusive) l h = h
released_lock (Enters k x how) l h = absurd h
released_lock (Converts k x y how) l h = absurd h
released_lock (Releases k x fair) l h = absurd h
released_lock (Bumps k x) l h = absurd h
released_lock (CallsOnce k forced) l h = absurd h
released_lock (Awaits k forced timed) l h = absurd h
released_lock (Waits k m timed) l h = absurd h
released_lock (Notifies k all) l h = absurd h

-- ---------------------------------------------------------------- others' effects on an owner

-- a deed at a `Once` changes no owner
once_keeps : (case : OnceCase) (s : LockState) (u : ℕ)
    → ((locks.once_after case s u).exclusive ≡ s.exclusive)
    × ((locks.once_after case s u).upgradable ≡ s.upgradable)
once_keeps (Start forced) s u = (refl, refl)
once_keeps Finish s u = (refl, refl)
once_keeps Fail s u = (refl, refl)
once_keeps (Rest wanted forced) s u = (refl, refl)
once_keeps TakeAll s u = (refl, refl)

-- nor does what is done to a condition variable, and nobody is taken by it
pub record SameOwners (s v : LockState) : Type 0 where
  pub exclusive : v.exclusive ≡ s.exclusive
  pub upgradable : v.upgradable ≡ s.upgradable
  pub taken : v.taken ≡ s.taken

pub condvar_keeps : (case : locks.CondvarCase) (s : LockState) → SameOwners s (locks.condvar_after case s)
condvar_keeps (locks.Look seen) s = record { exclusive = refl; upgradable = refl; taken = refl }
condvar_keeps (locks.Show m) s = record { exclusive = refl; upgradable = refl; taken = refl }
condvar_keeps locks.Hide s = record { exclusive = refl; upgradable = refl; taken = refl }

-- no case of another thread takes a lock from its owner
others_keep : (r : Rules) (s : LockState) (t u : ℕ) → IsLockState r s → s.exclusive ≡ Some t → u ≢ t
    → (c : LockCase)
    → Needs r c s u → (locks.after_case r c s u).exclusive ≡ Some t
others_keep r s t u is own ne (Enter Exclusive) n = grind arith
others_keep r s t u is own ne (Enter x) n = grind arith
others_keep r s t u is own ne Pend n = grind arith
others_keep r s t u is own ne Settle n = grind (arith, is.exclusive_alone t own)
others_keep r s t u is own ne (Leave right) n = grind (arith, is.exclusive_alone t own)
others_keep r s t u is own ne (Convert right x) n = grind (arith, is.exclusive_alone t own)
others_keep r s t u is own ne (Park x) n = own
others_keep r s t u is own ne Aside n = own
others_keep r s t u is own ne (TakeFirst x) n = own
others_keep r s t u is own ne (TakeAside x) n = own
others_keep r s t u is own ne (TakePicked start) n = own
others_keep r s t u is own ne Wake n = own
others_keep r s t u is own ne (HandsLockOff right x) n = grind (arith, is.exclusive_alone t own)
others_keep r s t u is own ne Late n = own
others_keep r s t u is own ne (OfOnce case) n = (once_keeps case s u).0 ∙ own
others_keep r s t u is own ne (locks.OfCondvar case) n = (condvar_keeps case s).exclusive ∙ own
others_keep r s t u is own ne (locks.SeeOwner owned) n = own
others_keep r s t u is own ne Rollback n = grind (arith, is.exclusive_alone t own)

upgradable_keep : (r : Rules) (s : LockState) (t u : ℕ) → IsLockState r s → s.upgradable ≡ Some t → u ≢ t
    → (c : LockCase)
    → Needs r c s u → (locks.after_case r c s u).upgradable ≡ Some t
upgradable_keep r s t u is own ne (Enter Upgradable) n = grind arith
upgradable_keep r s t u is own ne (Enter x) n = own
upgradable_keep r s t u is own ne Pend n = own
upgradable_keep r s t u is own ne Settle n = own
upgradable_keep r s t u is own ne (Leave right) n = grind (arith, is.exclusive_alone u)
upgradable_keep r s t u is own ne (Convert right x) n = grind (arith, is.exclusive_alone u)
upgradable_keep r s t u is own ne (Park x) n = own
upgradable_keep r s t u is own ne Aside n = own
upgradable_keep r s t u is own ne (TakeFirst x) n = own
upgradable_keep r s t u is own ne (TakeAside x) n = own
upgradable_keep r s t u is own ne (TakePicked start) n = own
upgradable_keep r s t u is own ne Wake n = own
upgradable_keep r s t u is own ne (HandsLockOff right x) n = grind (arith, is.exclusive_alone u)
upgradable_keep r s t u is own ne Late n = own
upgradable_keep r s t u is own ne (OfOnce case) n = (once_keeps case s u).1 ∙ own
upgradable_keep r s t u is own ne (locks.OfCondvar case) n = (condvar_keeps case s).upgradable ∙ own
upgradable_keep r s t u is own ne (locks.SeeOwner owned) n = own
upgradable_keep r s t u is own ne Rollback n = grind (arith, is.pending_alone)

-- each thread that is taken from a mutex stood first
let_go_was : (t : ℕ) (o : Option Taken) (h : Taken) → keep_from t o ≡ Some h → o ≡ Some h
let_go_was t o h e = grind arith

taken_was : (s : LockState) (t u a : ℕ) (x : Want) → IsLockState mutex s → (c : LockCase) → Needs mutex c s a
    → IsTaken (locks.after_case mutex c s a) t u x → IsTaken s t u x ⊎ (first_thread s.queue ≡ Some u)
taken_was s t u a x is (Enter Exclusive) n h = inl h
taken_was s t u a x is (Enter y) n h = inl (grind arith)
taken_was s t u a x is Pend n h = inl h
taken_was s t u a x is Settle n h = inl h
taken_was s t u a x is (Leave right) n h = inl (grind arith)
taken_was s t u a x is (Convert right y) n h = inl (grind arith)
taken_was s t u a x is (Park y) n h = inl h
taken_was s t u a x is Aside n h = inl h
taken_was s t u a x is (TakeFirst y) n h = elim (cases_eq u y.thread) [
  | inl e ↦ inr (rw (n.0.1, e) refl)
  | inr ne ↦ inl (let other : (u == y.thread) ≡ false = grind (arith, nat_tests) in rw other at h)
]
taken_was s t u a x is (TakeAside y) n h = absurd (let none = is.unpending (λ z. z) in let aside =
    is.aside_pending y n.0 in rw none.0 at aside)
taken_was s t u a x is (TakePicked start) n h = absurd n.1
taken_was s t u a x is Wake n h = inl (let_go_was a (s.taken u) _ h)
taken_was s t u a x is (HandsLockOff right y) n h = inl (grind (arith, let_go_was))
taken_was s t u a x is Late n h = inl h
taken_was s t u a x is (OfOnce case) n h = absurd (let e : locks.Mutex ≡ locks.Once = n.0 in cc)
taken_was s t u a x is (locks.OfCondvar case) n h = absurd (let e : locks.Mutex ≡ locks.Condvar = n.0 in cc)
taken_was s t u a x is (locks.SeeOwner owned) n h = inl h
taken_was s t u a x is Rollback n h = inl (grind arith)

-- ---------------------------------------------------------------- a fair release's effect by its own step

-- tells what the mutex has come to
abbrev ComesFrom : LockState → (word : ℕ) → ℕ → ℕ → State → Type 0
ComesFrom s word t l v = (owner_at v l ≡ Some t)
    ⊎ (((u : ℕ) × IsTaken s t u Exclusive × (owner_at v l ≡ Some u))
    ⊎ ((owner_at v l ≡ None) × HasTakenNobody s t × ((is_parked word ≡ false) ⊎ (s.queue ≡ []))))

abbrev ComesTo : State → ℕ → ℕ → State → Type 0
ComesTo w t l v = ComesFrom (lock_state w l) (word_at w l) t l v

module _ (w : State) (t l : ℕ) (shape : IsWellFormed w) (inductive : IsInductive w) (own : owner_at w l
    ≡ Some t)
    (of_mutex : is_mutex (kind_at w l) ≡ true) where
  operated_owner : (at : MutexPlace) (f : Op) → l < length w.locks
      → owner_at (state_after_operation w t (Mutex l at) l f) l ≡ mutex_owner_after at t (word_at w l)
      (Some t)
  operated_owner at f lt = ap (λ x. x.owners.exclusive) (get_or-set_same w.locks l _
      (unlocked kind.Mutex) lt) ∙ mutex_is at t (word_at w l) (owners_at w l)
      ∙ ap (mutex_owner_after at t (word_at w l)) own

  still_own : (b : Bool) → (if b then Some t else Some t) ≡ Some t
  still_own true = refl
  still_own false = refl

  module _ (lt : l < length w.locks) where
    -- a bump that enters again owns what it owned
    decided_keeps : (retries : Bool) (s : ℕ) (a b : Bool)
        → ComesTo w t l
        (state_after_act w t (Mutex l (Lock entries.Bump retries (lock.Decide s))) (if not a
        then act.Word l (op.Exchange s (s + 1)) else if b
        then act.Word l (op.Exchange 1 3) else act.Enter
        (One (2 * l))))
    decided_keeps retries s false b = inl (operated_owner (Lock entries.Bump retries (lock.Decide s))
        (op.Exchange s (s + 1)) lt
        ∙ still_own ((word_at w l == s) && not (is_locked (word_at w l))))
    decided_keeps retries s true true =
        inl (operated_owner (Lock entries.Bump retries (lock.Decide s)) (op.Exchange 1 3) lt
        ∙ still_own ((word_at w l == s) && not (is_locked (word_at w l))))
    decided_keeps retries s true false = inl own

    parked_keeps : (b : Bool) → ComesTo w t l (if b then record w {
      queues =
          queues_with_last w.queues (2 * l) t Exclusive;
    } else w)
    parked_keeps true = inl own
    parked_keeps false = inl own

    lock_keeps : (retries : Bool) (a : LockAt)
        → ComesTo w t l (state_after_act w t (Mutex l (Lock entries.Bump retries a)) (lock_act l a))
    lock_keeps retries lock.First = inl (operated_owner (Lock entries.Bump retries lock.First)
        (op.Exchange 0 1) lt ∙ still_own (word_at w l == 0))
    lock_keeps retries lock.Load = inl (operated_owner (Lock entries.Bump retries lock.Load)
        op.Load lt)
    lock_keeps retries (lock.Decide s) = decided_keeps retries s (is_locked s) (s == 1)
    lock_keeps retries lock.Check = parked_keeps (word_at w l == 3)
    lock_keeps retries (lock.Leave parked) = inl own
    lock_keeps retries lock.Asleep = inl own
    lock_keeps retries (lock.Taken by) = inl own
    lock_keeps retries (lock.Handed by) = inl own
    lock_keeps retries lock.Accept = inl own
    lock_keeps retries lock.Remove = inl own
    lock_keeps retries lock.Clear = inl (operated_owner (Lock entries.Bump retries lock.Clear)
        (op.And NOT_PARKED) lt)
    lock_keeps retries lock.GiveUp = inl own

    carries_nobody : (at : MutexPlace) → place_at w t ≡ Mutex l at → ((mutex_location at).has_taken ≡ Some false
        → ⊥)
        → HasTakenNobody (lock_state w l) t
    carries_nobody at is none = in_no_hand w inductive t l
        (λ h. none (sym (ap (λ x. x.has_taken) (own_stance l (place_at w t) at is)) ∙ h))

    unlock_fair_gives : place_at w t ≡ Mutex l UnlockFair
        → ComesTo w t l (state_after_operation w t (Mutex l UnlockFair) l (op.Exchange 1 0))
    unlock_fair_gives is = either (word_at w l == 1) refl
        (operated_owner UnlockFair (op.Exchange 1 0) lt)
      where
        either : (b : Bool) → (word_at w l == 1) ≡ b
            → owner_at (state_after_operation w t (Mutex l UnlockFair) l (op.Exchange 1 0)) l
            ≡ (if b then None else Some t)
            → ComesTo w t l (state_after_operation w t (Mutex l UnlockFair) l (op.Exchange 1 0))
        either false e h = inl h
        either true e h = inr (inr (
          h,
          carries_nobody UnlockFair is (λ g. absurd cc),
          inl (rw (eqb-true (word_at w l) 1 e) refl),
        ))

    taken_gives : (bumps : Bool) (o : Option ℕ)
        → ComesTo w t l (state_after_taking (record w { queues = queues_without_first w.queues (2 * l) }) t o)
    taken_gives bumps None = inl own
    taken_gives bumps (Some u) = inl own

    hand_off_gives : (bumps : Bool) (a : HandOffAt) → place_at w t ≡ Mutex l (HandOff bumps a)
        → ComesTo w t l (state_after_act w t (Mutex l (HandOff bumps a)) (hand_off_act l a))
    hand_off_gives bumps hand_off.Enter is = inl own
    hand_off_gives bumps hand_off.Take is = taken_gives bumps (first_of (queue_at w (2 * l)))
    hand_off_gives bumps (hand_off.Store false none_left) is = inr (inr (
      operated_owner (HandOff bumps (hand_off.Store false none_left)) (op.Store 0) lt,
      carries_nobody (HandOff bumps (hand_off.Store false none_left)) is (λ g. absurd cc),
      inr ((inductive.sites.site l).emptied t Main (ap (λ d. d.empty) (own_role l (place_at w t) _ is))).1,
    ))
    hand_off_gives bumps (hand_off.Store true none_left) is = let one = inductive.stands.hands.carried t l
        false
        (ap (λ x. x.has_taken) (own_stance l (place_at w t) _ is)) in inr (inl (
          one.0,
          (held_there (place_at w one.0) t l (mutexes_at w t l (HandOff bumps (hand_off.Store true none_left))
              inductive is one.0) one.1).was,
          ap (λ x. x.owners.exclusive) (get_or-set_same w.locks l _ (unlocked kind.Mutex) lt)
              ∙ ap (λ (o : Owners). o.exclusive) (successor_one w t l one.0 false (aparts w inductive)
              inductive.stands.hands (single_at w t l (HandOff bumps (hand_off.Store true none_left))
              inductive is)
              (of_carries l (place_at w t) (rw is refl)) one.1
              (alone_at w t l (HandOff bumps (hand_off.Store true none_left)) inductive is)
              (unshared_at w t l (HandOff bumps (hand_off.Store true none_left)) inductive is)
              (with_exclusive (owners_at w l) None)),
        ))
    hand_off_gives bumps (hand_off.Leave false) is = inl own
    hand_off_gives bumps (hand_off.Leave true) is = inl own

  here : (k : ℕ) → k ≡ l → k < length w.locks → l < length w.locks
  here k e lt = rw (← e) lt

  -- for every act, and every place where the thread goes then
  go_gives : (p : Place) → place_at w t ≡ p → PlaceFits (length w.locks) p
      → IsFairRelease (call_state p (rights w t)).purpose l
      → ComesTo w t l (state_after_act w t p (act_of p))
  go_gives Idle is fits h = absurd h
  go_gives (Once k (Look (once_call.CallOnce forced) again at)) is fits h = absurd h
  go_gives (Once k (Look (once_call.Wait forced) again at)) is fits h = absurd h
  go_gives (Once k (Look once_call.WaitTimed again at)) is fits h = absurd h
  go_gives (Once k (Run forced at)) is fits h = absurd h
  go_gives (Once k (GiveUp again at)) is fits h = absurd h
  go_gives (Semaphore k (semaphore.Acquire timed again at)) is fits h = absurd h
  go_gives (Semaphore k (semaphore.Try at)) is fits h = absurd h
  go_gives (Semaphore k (semaphore.Release at)) is fits h = absurd h
  go_gives (Condvar k (condvar_place.Wait m timed at)) is fits h = absurd h
  go_gives (Condvar k (condvar_place.Notify all m at)) is fits h = absurd h
  go_gives (Condvar k (condvar_place.Look all)) is fits h = absurd h
  go_gives (RwLock k a c) is fits h = absurd (
      let admitted : FitsItsLock w (RwLock k a c) = subst (FitsItsLock w) is (inductive.stands.calls t) in
      let here : k ≡ l = sym (call_promises (rules_in w k) a k c admitted.0 admitted.1).own
      ∙ released_lock ((call_profile a c).purpose k) l h in
      let shared : has_readers (rules_in w l).sort ≡ true =
      subst (λ j. has_readers (rules_in w j).sort ≡ true) here admitted.0.0 in
      let none : false ≡ true = sym (ap (λ (r : Rules). has_readers r.sort)
      (mutex_rules (kind_at w l) of_mutex)) ∙ shared in
      cc
      )
  go_gives (Mutex k (Lock entries.Lock retries a)) is fits h = absurd h
  go_gives (Mutex k (Lock entries.LockTimed retries a)) is fits h = absurd h
  go_gives (Mutex k (Lock entries.Bump retries a)) is fits h = rw h (lock_keeps (here k h fits.0) retries a)
  go_gives (Mutex k TryLock) is fits h = absurd h
  go_gives (Mutex k (Unlock a)) is fits h = absurd (let e : false ≡ true = h.1 in cc)
  go_gives (Mutex k UnlockFair) is fits h =
      rw h.0 (unlock_fair_gives (here k h.0 fits.0) (is ∙ ap (λ n. Mutex n UnlockFair) h.0))
  go_gives (Mutex k Bump) is fits h = rw h (inl (operated_owner Bump op.Load (here k h fits.0)))
  go_gives (Mutex k (HandOff true a)) is fits h =
      rw h (hand_off_gives (here k h fits.0) true a (is ∙ ap (λ n. Mutex n (HandOff true a)) h))
  go_gives (Mutex k (HandOff false a)) is fits h =
      rw h.0 (hand_off_gives (here k h.0 fits.0) false a (is ∙ ap (λ n. Mutex n (HandOff false a)) h.0))

  late_gives : (o : Option ℕ) → ComesTo w t l (state_after_late_on w t o)
  late_gives None = inl own
  late_gives (Some key) = inl own

module _ (w : State) (t l : ℕ) (shape : IsWellFormed w) (inductive : IsInductive w) (own : owner_at w l
    ≡ Some t)
    (of_mutex : is_mutex (kind_at w l) ≡ true) where
  -- the thread looks at the word once more, and goes on from there
  spin_gives : t < length w.places → IsFairRelease (call_state (place_at w t) (rights w t)).purpose l
      → (o : Option Place)
      → respins_from (place_at w t) ≡ o → ComesTo w t l (state_after_look w t o)
  spin_gives there h None is = inl own
  spin_gives there h (Some q) is = let well_formed = looking_well_formed w t q shape is in
      subst (λ s. ComesFrom s (word_at w l) t l (state_after_go (put w t q) t)) (locks_same w t there q is l)
      (go_gives (put w t q) t l well_formed (looking_inductive w t there q is inductive) own of_mutex
      (place_at (put w t q) t) refl (well_formed.places t)
      (subst (λ (c : CallState). IsFairRelease c.purpose l) (sym (calls_same w t there q is t)) h))

  turned_gives : t < length w.places → IsFairRelease (call_state (place_at w t) (rights w t)).purpose l
      → (x : Turn)
      → can_turn w t x ≡ true → ComesTo w t l (state_after_turn w t x)
  turned_gives there h (turn.Begin c) can = inl own
  turned_gives there h turn.Go can = go_gives w t l shape inductive own of_mutex (place_at w t)
      refl
      (shape.places t) h
  turned_gives there h turn.Spin can = spin_gives there h (respins_from (place_at w t)) refl
  turned_gives there h turn.Late can = late_gives w t l shape inductive own of_mutex
      (late_key (place_at w t))
  turned_gives there h turn.Ok can =
      absurd (subst (λ p. IsFairRelease (call_state p (rights w t)).purpose l) (closes_one w t true can).is h)
  turned_gives there h turn.Err can =
      absurd (subst (λ p. IsFairRelease (call_state p (rights w t)).purpose l) (closes_one w t false can).is
      h)

  after_gives : IsFairRelease (call_state (place_at w t) (rights w t)).purpose l → (s : Step) → s.thread ≡ t
      → ComesTo w t l (after w s)
  after_gives h s e = either (is_possible w s) refl
    where
      either : (b : Bool) → is_possible w s ≡ b → ComesTo w t l (if b then state_after_turn w s.thread s.turn
          else w)
      either true can = let parts = both (nat_lt s.thread (length w.places)) (can_turn w s.thread s.turn) can
          in
          rw e (turned_gives (rw e at (ltb-true s.thread (length w.places) parts.0)) h s.turn
          (rw e at parts.1))
      either false can = inl own

-- ---------------------------------------------------------------- a fair release of a lock that is shared

-- no case of another thread takes a right from its owner
rights_keep : (r : Rules) (s : LockState) (t u : ℕ) (x : Want) → IsLockState r s → x ≢ Shared → Owns s t x
    → u ≢ t
    → (c : LockCase) → Needs r c s u → Owns (locks.after_case r c s u) t x
rights_keep r s t u Exclusive is more own ne c n = others_keep r s t u is own ne c n
rights_keep r s t u Upgradable is more own ne c n = upgradable_keep r s t u is own ne c n
rights_keep r s t u Shared is more own ne c n = absurd (more refl)
rights_keep r s t u Wait is more own ne c n = absurd own
rights_keep r s t u CallOnce is more own ne c n = absurd own

module _ (w : State) (t l : ℕ) (shape : IsWellFormed w) (inductive : IsInductive w) (counted : AreCounted w)
    (x : Want) (more : x ≢ Shared)
    (readers : has_readers (rules_in w l).sort ≡ true) where
  abbrev Gives : State → Type 0
  Gives v = GivesFrom (rules_in w l) (lock_state w l) (lock_state v l) (word_at w l) t x

  abbrev ToGive : Place → Type 0
  ToGive p = IsToGiveAt (call_state p (rights w t)) l x

  -- from its place
  go_gives_shared : t < length w.places → can_do w (act_of (place_at w t)) ≡ true → ToGive (place_at w t)
      → Owns (lock_state w l) t x → Gives (state_after_go w t)
  go_gives_shared there can gives own = elim (single_or_two (place_at w t)) [
    | inl single ↦ subst Gives (sym (gone w t single)) (by_place (place_at w t) refl (shape.places t) can
        gives)
    | inr two ↦ absurd (two_give two.lock two.at (subst ToGive two.is gives))
  ]
    where
      -- a call of two locks gives up none fairly
      two_give : (k : ℕ) (at : CondvarPlace) → ToGive (Condvar k at) → ⊥
      two_give k (condvar_place.Wait m timed at) gives = gives.1
      two_give k (condvar_place.Notify all m at) gives = gives.1
      two_give k (condvar_place.Look all) gives = gives.1

      by_place : (p : Place) → place_at w t ≡ p → PlaceFits (length w.locks) p → can_do w (act_of p) ≡ true
          → ToGive p
          → Gives (put (state_after_act w t p (act_of p)) t (next_place p (reply_to w t (act_of p))))
      by_place Idle is fits can gives = absurd gives
      by_place (Once k (Look (once_call.CallOnce forced) again at)) is fits can gives = absurd gives.1
      by_place (Once k (Look (once_call.Wait forced) again at)) is fits can gives = absurd gives.1
      by_place (Once k (Look once_call.WaitTimed again at)) is fits can gives = absurd gives.1
      by_place (Once k (Run forced at)) is fits can gives = absurd gives.1
      by_place (Once k (GiveUp again at)) is fits can gives = absurd gives.1
      by_place (Semaphore k (semaphore.Acquire timed again at)) is fits can gives = absurd gives.1
      by_place (Semaphore k (semaphore.Try at)) is fits can gives = absurd gives.1
      by_place (Semaphore k (semaphore.Release at)) is fits can gives = absurd (let f : false ≡ true =
          gives.1.1 in cc)
      by_place (Condvar k at) is fits can gives = absurd (two_give k at gives)
      by_place (Mutex k at) is fits can gives = absurd (
          let fits_k : is_mutex (kind_at w k) ≡ true = subst (FitsItsLock w) is (inductive.stands.calls t) in
          let here : k ≡ l = sym (subst (λ p. lock_for ((profile p).purpose k) ≡ k) is
          (row_promises w t inductive k (subst IsSingle (sym is) tt) (ap called_lock is)).own) ∙ gives.0 in
          let none : has_readers (rules_in w l).sort ≡ false = ap (λ (r : Rules). has_readers r.sort)
          (subst (λ j. rules_of (kind_at w j) ≡ mutex) here (mutex_rules (kind_at w k) fits_k)) in
          let f : false ≡ true = sym none ∙ readers in cc)
      by_place (RwLock k a c) is fits can gives =
          let here : k ≡ l = sym (subst (λ p. lock_for ((profile p).purpose k) ≡ k) is
          (row_promises w t inductive k (subst IsSingle (sym is) tt) (ap called_lock is)).own) ∙ gives.0 in
          at_lock k here a c is fits can gives.1
        where
          at_lock : (k : ℕ) → k ≡ l → (a : Admission) (c : RwLockCallPlace) → place_at w t ≡ RwLock k a c
              → k < length w.locks
              → can_do w (call_act k a c) ≡ true → IsToGive ((call_profile a c).purpose k)
              (call_profile a c).released x
              → Gives
              (put (state_after_act w t (RwLock k a c) (call_act k a c)) t
              (next_place (RwLock k a c) (reply_to w t (call_act k a c))))
          at_lock k here a c is fits can gives =
              subst (λ j. GivesFrom (rules_in w j) (lock_state w j)
              (lock_state (put (state_after_act w t (RwLock k a c) (call_act k a c)) t
              (next_place (RwLock k a c) (reply_to w t (call_act k a c)))) j) (word_at w j) t x) here
              (goes_giving w t k a c shape inductive counted there fits is x more gives
              (subst (λ j. Owns (lock_state w j) t x) (sym here) own) can)

-- ---------------------------------------------------------------- steps

locked_by : (v : ℕ) (o : Option ℕ) (u : ℕ) → IsMutexWord v o → o ≡ Some u → is_locked v ≡ true
locked_by v o u c e = by_code (λ v o. o ≡ Some u → is_locked v ≡ true) (λ g. absurd cc) (λ g. absurd cc)
    (λ x g. refl) (λ x g. refl) v o c e

-- for every turn that it takes
module _ (w : State) (t l : ℕ) (shape : IsWellFormed w) (inductive : IsInductive w) (counted : AreCounted w)
    (x : Want)
    (h : GivesUpFairly w t l x) where
  abbrev Comes : State → Type 0
  Comes v = GivesFrom (rules_in w l) (lock_state w l) (lock_state v l) (word_at w l) t x

  spin_gives_shared : t < length w.places → (o : Option Place) → respins_from (place_at w t) ≡ o
      → Comes (state_after_look w t o)
  spin_gives_shared there None is = inl h.2
  spin_gives_shared there (Some q) is =
      subst (λ s. GivesFrom (rules_in w l) s (lock_state (state_after_go (put w t q) t) l) (word_at w l) t x)
      (locks_same w t there q is l)
      (go_gives_shared (put w t q) t l (looking_well_formed w t q shape is)
      (looking_inductive w t there q is inductive)
      (looking_counted w t there q is counted) x h.1 h.3
      (rw (length-set w.places t q) there) (looks_now w t there q is)
      (subst (λ (c : CallState). IsToGiveAt c l x) (sym (calls_same w t there q is t)) h.0)
      (subst (λ s. Owns s t x) (sym (locks_same w t there q is l)) h.2))

  late_gives_shared : (o : Option ℕ) → Comes (state_after_late_on w t o)
  late_gives_shared None = inl h.2
  late_gives_shared (Some key) = inl (owner_stays w (state_after_late_on w t (Some key)) l t x refl h.1 h.2)

  turned_gives_shared : t < length w.places → (y : Turn) → can_turn w t y ≡ true
      → Comes (state_after_turn w t y)
  turned_gives_shared there (turn.Begin c) can =
      inl (owner_stays w (state_after_turn w t (turn.Begin c)) l t x refl h.1 h.2)
  turned_gives_shared there turn.Go can = go_gives_shared w t l shape inductive counted x h.1 h.3
      there can h.0 h.2
  turned_gives_shared there turn.Spin can = spin_gives_shared there (respins_from (place_at w t))
      refl
  turned_gives_shared there turn.Late can = late_gives_shared (late_key (place_at w t))
  turned_gives_shared there turn.Ok can =
      absurd (subst (λ p. IsToGiveAt (call_state p (rights w t)) l x) (closes_one w t true can).is h.0).1
  turned_gives_shared there turn.Err can =
      absurd (subst (λ p. IsToGiveAt (call_state p (rights w t)) l x) (closes_one w t false can).is h.0).1

  after_gives_shared : (s : Step) → s.thread ≡ t → Comes (after w s)
  after_gives_shared s e = either (is_possible w s) refl
    where
      either : (b : Bool) → is_possible w s ≡ b → Comes (if b then state_after_turn w s.thread s.turn else w)
      either true can = let parts = both (nat_lt s.thread (length w.places)) (can_turn w s.thread s.turn) can
          in
          subst (λ u. Comes (state_after_turn w u s.turn)) (sym e)
          (turned_gives_shared (rw e at (ltb-true s.thread (length w.places) parts.0)) s.turn
          (subst (λ u. can_turn w u s.turn ≡ true) e parts.1))
      either false can = inl h.2

pub is_fair : (w : State) (s : Step) → IsWellFormed w → IsInductive w → AreCounted w → AreCondvars w
    → IsFair w (after w s)
is_fair w s shape inductive counted condvars = record {
  gives = λ t l h. elim (cases_eq s.thread t) [
    | inl e ↦ told t l h (after_gives w t l shape inductive h.1 h.2 h.0 s e)
    | inr ne ↦ inl (owned t l h (turned_so (λ x y. x.exclusive ≡ Some t → y.exclusive ≡ Some t) (locks_of w)
        (locks_of (after w s)) s.thread l (λ c m every owned number may e. moves_no_owner (locks_of w)
        s.thread c m every owned number l ∙ e) (λ e. e)
        (λ c n e. others_keep (rules_at (locks_of w) l) (lock_state w l) t s.thread (all l) e ne c n) s.turn
        (step_outcome w s) step.1 h.1))
  ];
  takes = λ t l u h. turned_so (λ x y. IsTaken y t u Exclusive → IsTaken x t u Exclusive
      ⊎ (first_thread x.queue ≡ Some u)) (locks_of w) (locks_of (after w s)) s.thread l
      (takes_no_other t l u h.0) (λ e. inl e)
      (λ c n. let rules : rules_at (locks_of w) l ≡ mutex = mutex_rules (kind_at w l) h.2 in
      rw rules (taken_was (lock_state w l) t u s.thread Exclusive (subst (λ r. IsLockState r (lock_state w l))
      rules (all l)) c (subst (λ r. Needs r c (lock_state w l) s.thread) rules n))) s.turn
      (step_outcome w s) step.1;
  shared = λ t l x h. elim (cases_eq s.thread t) [
    | inl e ↦ after_gives_shared w t l shape inductive counted x h s e
    | inr ne ↦ inl (turned_so (λ y z. Owns y t x → Owns z t x) (locks_of w) (locks_of (after w s)) s.thread l
        (λ c m every owned number may. moves_no_readers (locks_of w) s.thread c m every owned number l h.3 may
        (λ z. Owns (lock_state w l) t x → Owns z t x) (λ e. e)) (λ e. e)
        (λ c n own. rights_keep (rules_at (locks_of w) l) (lock_state w l) t s.thread x (all l) h.1 own ne c
        n) s.turn (step_outcome w s) step.1 h.2)
  ];
}
  where
    all : AreLockStates (locks_of w)
    all l = (inductive.sites.site l).state

    step : IsTurn (locks_of w) s (step_outcome w s) (locks_of (after w s))
    step = after_step w s shape inductive counted condvars

    -- a thread that a notification takes is in its own hand
    takes_no_other : (t l u : ℕ) → IsFairRelease (call_at w t).purpose l → (c m : ℕ) (every owned : Bool)
        (number : ℕ)
        → MayMove (locks_of w) s.thread c m every owned number
        → IsTaken (locks_after (locks_of w) s.thread (Moves c m every owned number) l) t u Exclusive
        → IsTaken (lock_state w l) t u Exclusive ⊎ (first_thread (lock_state w l).queue ≡ Some u)
    takes_no_other t l u fair c m every owned number may taken =
        elim (moves_takes (locks_of w) s.thread c m every owned number l u
        (record { by = t; want = Exclusive }) taken) [
          | inl before ↦ inl before
          | inr own ↦ absurd (subst (λ q. IsFairRelease q l) may.notifies
              (subst (λ k. IsFairRelease (call_at w k).purpose l) own fair))
        ]

    coded : (t l : ℕ) → OwnerReleasesFairly w t l → IsMutexWord (word_at (after w s) l)
        (owner_at (after w s) l)
    coded t l h = words_coded (after w s) (after_inductive w s shape inductive counted condvars) l
        (ap rules_of (after_kinds w s l) ∙ mutex_rules (kind_at w l) h.2)

    owned : (t l : ℕ) → OwnerReleasesFairly w t l → owner_at (after w s) l ≡ Some t → OwnsOn (after w s) t l
    owned t l h e = (e, locked_by (word_at (after w s) l) (owner_at (after w s) l) t (coded t l h) e)

    told : (t l : ℕ) → OwnerReleasesFairly w t l → ComesTo w t l (after w s)
        → OwnsOn (after w s) t l ⊎ (HandsMutexOver w (after w s) t l ⊎ LetsMutexGo w (after w s) t l)
    told t l fair (inl e) = inl (owned t l fair e)
    told t l fair (inr (inl h)) =
        inr (inl (
          h.0,
          h.1,
          h.2,
          locked_by (word_at (after w s) l) (owner_at (after w s) l) h.0
              (coded t l fair) h.2,
        ))
    told t l fair (inr (inr h)) = inr (inr h)
