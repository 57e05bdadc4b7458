-- The rights of a thread by its place.
use Rattle.std.proofs.Common.{ℕ, Bool, true, false, Some, if◌then◌else◌, ◌≡◌, ◌-◌, refl, sym, ◌∙◌, ap, subst}
use Rattle.std.proofs.Common.{arith}
use Rattle.spec_locks.specs.Locks.{Rights, with_right, without_right}
use Rattle.spec_locks.specs.Runs.{no_rights, one_less_at, one_more_at}
use Rattle.spec_locks.specs.Sites.{Claim, Has, Pends, Runs, Ran}
use Rattle.core_base.specs.declared.keys.Line.TheVariants.{Main}
use Rattle.core_base.specs.declared.wants.Want.{Want}
use Rattle.core_base.specs.declared.wants.Want.TheVariants.{Exclusive, Upgradable, Shared, Wait, CallOnce}
use Rattle.spec_locks.specs.declared.calls.Access.{Access}
use Rattle.spec_locks.specs.declared.calls.Access.TheVariants as access
use Rattle.spec_locks.specs.declared.calls.Patience.{Patience}
use Rattle.spec_locks.specs.declared.calls.Patience.TheVariants.{Patient, Timed, Try}
use Rattle.steps_mutex.specs.declared.lock.Entry.{Entry}
use Rattle.steps_mutex.specs.declared.lock.Entry.TheVariants as entry
use Rattle.steps_mutex.specs.declared.lock.LockAt.{LockAt}
use Rattle.steps_mutex.specs.declared.lock.LockAt.TheVariants as lock
use Rattle.steps_mutex.specs.declared.unlock.UnlockAt.{UnlockAt}
use Rattle.steps_mutex.specs.declared.unlock.UnlockAt.TheVariants as unlock
use Rattle.steps_mutex.specs.declared.hand_off.HandOffAt.{HandOffAt}
use Rattle.steps_mutex.specs.declared.hand_off.HandOffAt.TheVariants as hand_off
use Rattle.steps_mutex.specs.declared.places.MutexPlace.{MutexPlace}
use Rattle.steps_mutex.specs.declared.places.MutexPlace.TheVariants as mutex
use Rattle.steps_mutex.specs.MutexProfiles.{before_entry, was_handed}
use Rattle.steps_rwlock.specs.declared.park.ParkAt.TheVariants as parking
use Rattle.steps_rwlock.specs.declared.places.Admission.{Admission}
use Rattle.steps_rwlock.specs.declared.places.RwLockAt.{RwLockAt}
use Rattle.steps_rwlock.specs.declared.places.RwLockAt.TheVariants as at
use Rattle.steps_rwlock.specs.declared.purposes.RwLockPurpose.{RwLockPurpose}
use Rattle.steps_rwlock.specs.declared.purposes.RwLockPurpose.TheVariants as purpose
use Rattle.steps_rwlock.specs.RwLockCalls.{StandsAt}
use Rattle.steps_rwlock.specs.RwLockSteps.{from_of, to_of, wanted}
use Rattle.steps_rwlock.specs.RwLockProfiles.{before, has_released, is_pending, is_waking, stands_at}
use Rattle.steps_rwlock.specs.RwLockProfiles as rows
use Rattle.steps_rwlock_fair.specs.declared.places.RwLockCallPlace.{RwLockCallPlace}
use Rattle.steps_rwlock_fair.specs.declared.places.RwLockCallPlace.TheVariants.{Plain, PeekQueue, HandOver}
use Rattle.steps_rwlock_fair.specs.declared.places.RwLockCallPlace.TheVariants.{Bump}
use Rattle.steps_rwlock_fair.specs.declared.places.RwLockCallPlace.TheVariants.{Handed}
use Rattle.steps_rwlock_fair.specs.declared.hand_over.HandOverAt.{HandOverAt}
use Rattle.steps_rwlock_fair.specs.FairCalls.{IsOfBump}
use Rattle.steps_rwlock_fair.specs.FairDeeds.{claim_at}
use Rattle.steps_rwlock_fair.specs.FairProfiles.{has_given, without_claim}
use Rattle.lot_steps.specs.declared.places.Place.TheVariants.{Idle, Mutex, RwLock, Once, Condvar, Semaphore}
use Rattle.lot_steps.specs.Steps.{profile}
use Rattle.lot_world.specs.Few.{IsFew, IsPlain}
use Rattle.lot_world.proofs.Sleepers.{given_up, here, less}
use Rattle.lot_world.specs.Owned.{PlacesOwnFew, QueuedOwnNothing, ReleasesOne}
use Rattle.lot_world.specs.Sleepers.{BeganWithFew}
use Rattle.lot_world.specs.Standing.{MayStandAt}

-- ---------------------------------------------------------------- rights

few_of_plain : (r : Rights) → IsPlain r → IsFew r
few_of_plain r h = omega arith

nothing : (r : Rights) → r ≡ no_rights → IsFew r
nothing r e = subst IsFew (sym e) (omega arith)

one : (x : Want) (r : Rights) → r ≡ with_right x no_rights → IsFew r
one Exclusive r e = subst IsFew (sym e) (omega arith)
one Upgradable r e = subst IsFew (sym e) (omega arith)
one Shared r e = subst IsFew (sym e) (omega arith)
one Wait r e = subst IsFew (sym e) (omega arith)
one CallOnce r e = subst IsFew (sym e) (omega arith)

without : (x : Want) (r : Rights) → without_right x r ≡ no_rights → IsFew r
without Exclusive r e = let a : r.exclusive - 1 ≡ 0 = ap (λ (y : Rights). y.exclusive) e in let b : r.pending
    ≡ 0 = ap (λ (y : Rights). y.pending) e in let c : r.upgradable ≡ 0 = ap (λ (y : Rights). y.upgradable) e
    in let d : r.shared ≡ 0 = ap (λ (y : Rights). y.shared) e in omega arith
without Upgradable r e = let a : r.exclusive ≡ 0 = ap (λ (y : Rights). y.exclusive) e in let b : r.pending
    ≡ 0 = ap (λ (y : Rights). y.pending) e in let c : r.upgradable - 1 ≡ 0 =
    ap (λ (y : Rights). y.upgradable) e in let d : r.shared ≡ 0 = ap (λ (y : Rights). y.shared) e
    in omega arith
without Shared r e = let a : r.exclusive ≡ 0 = ap (λ (y : Rights). y.exclusive) e in let b : r.pending ≡ 0 =
    ap (λ (y : Rights). y.pending) e in let c : r.upgradable ≡ 0 = ap (λ (y : Rights). y.upgradable) e
    in let d : r.shared - 1 ≡ 0 = ap (λ (y : Rights). y.shared) e in omega arith
without Wait r e = nothing r e
without CallOnce r e = nothing r e

module _ (rights : ℕ → Rights) where
  unpending : rows.without_pending 0 rights 0 ≡ no_rights → IsFew (rights 0)
  unpending e =
      let f : record (rights 0) { pending = (rights 0).pending - 1 } ≡ no_rights = sym (here rights 0 _) ∙ e
      in
      let a : (rights 0).exclusive ≡ 0 = ap (λ (y : Rights). y.exclusive) f in let b : (rights 0).pending - 1
      ≡ 0 = ap (λ (y : Rights). y.pending) f in let c : (rights 0).upgradable ≡ 0 =
      ap (λ (y : Rights). y.upgradable) f in let d : (rights 0).shared ≡ 0 =
      ap (λ (y : Rights). y.shared) f in omega arith

  one_less : (x : Want) → one_less_at 0 x rights 0 ≡ no_rights → IsFew (rights 0)
  one_less x e = without x (rights 0) (sym (here rights 0 _) ∙ e)

  unclaimed : (c : Claim) → without_claim c 0 rights 0 ≡ no_rights → IsFew (rights 0)
  unclaimed (Has x) e = one_less x e
  unclaimed (Pends b) e = unpending e
  unclaimed Runs e = nothing (rights 0) e
  unclaimed Ran e = nothing (rights 0) e

  -- a release after its step has what is left
  rest_few : (x : Want) → (rest : Rights) × IsPlain rest × (with_right x rest ≡ one_more_at 0 x rights 0)
      → IsFew (rights 0)
  rest_few x rest = subst IsFew (less x rest.0 (rights 0) (rest.2 ∙ here rights 0 _))
      (few_of_plain rest.0 rest.1)

-- ---------------------------------------------------------------- places of a mutex

module _ (rights : ℕ → Rights) where
  entered_few : (e : Entry) (retries : Bool) (to : LockAt) (handed : Bool) → was_handed to ≡ handed
      → BeganWithFew 0 (Mutex 0 (mutex.Lock e retries to)) rights → IsFew (rights 0)
  entered_few entry.Lock retries to true h few = one_less rights Exclusive
      (subst (λ b. before_entry 0 false b rights 0 ≡ no_rights) h few)
  entered_few entry.Lock retries to false h few =
      nothing (rights 0) (subst (λ b. before_entry 0 false b rights 0 ≡ no_rights) h few)
  entered_few entry.LockTimed retries to true h few = one_less rights Exclusive
      (subst (λ b. before_entry 0 false b rights 0 ≡ no_rights) h few)
  entered_few entry.LockTimed retries to false h few =
      nothing (rights 0) (subst (λ b. before_entry 0 false b rights 0 ≡ no_rights) h few)
  entered_few entry.Bump retries to true h few =
      one Exclusive (rights 0) (subst (λ b. before_entry 0 true b rights 0 ≡ with_right Exclusive no_rights) h
      few)
  entered_few entry.Bump retries to false h few =
      nothing (rights 0) (given_up Exclusive 0 rights (subst (λ b. before_entry 0 true b rights 0
      ≡ with_right Exclusive no_rights) h few))

  unlock_few : (to : UnlockAt) → BeganWithFew 0 (Mutex 0 (mutex.Unlock to)) rights
      → ReleasesOne (Mutex 0 (mutex.Unlock to)) rights → IsFew (rights 0)
  unlock_few unlock.Subtract few one_right = one Exclusive (rights 0) (one_right Exclusive false refl refl)
  unlock_few unlock.Enter few one_right = rest_few rights Exclusive few
  unlock_few unlock.Take few one_right = rest_few rights Exclusive few
  unlock_few (unlock.Clear any) few one_right = rest_few rights Exclusive few
  unlock_few (unlock.Leave any) few one_right = rest_few rights Exclusive few

  hand_off_few : (bumps : Bool) (to : HandOffAt) → BeganWithFew 0 (Mutex 0 (mutex.HandOff bumps to)) rights
      → ReleasesOne (Mutex 0 (mutex.HandOff bumps to)) rights → IsFew (rights 0)
  hand_off_few true (hand_off.Leave any) few one_right = nothing (rights 0) (given_up Exclusive 0 rights few)
  hand_off_few true hand_off.Enter few one_right = one Exclusive (rights 0) few
  hand_off_few true hand_off.Take few one_right = one Exclusive (rights 0) few
  hand_off_few true (hand_off.Store any none_left) few one_right = one Exclusive (rights 0) few
  hand_off_few false (hand_off.Leave any) few one_right = rest_few rights Exclusive few
  hand_off_few false hand_off.Enter few one_right = one Exclusive (rights 0)
      (one_right Exclusive true refl refl)
  hand_off_few false hand_off.Take few one_right = one Exclusive (rights 0)
      (one_right Exclusive true refl refl)
  hand_off_few false (hand_off.Store any none_left) few one_right = one Exclusive (rights 0)
      (one_right Exclusive true refl refl)

  mutex_few : (to : MutexPlace) → BeganWithFew 0 (Mutex 0 to) rights → ReleasesOne (Mutex 0 to) rights
      → IsFew (rights 0)
  mutex_few (mutex.Lock e retries to) few one_right = entered_few e retries to (was_handed to) refl few
  mutex_few mutex.TryLock few one_right = nothing (rights 0) few
  mutex_few (mutex.Unlock to) few one_right = unlock_few to few one_right
  mutex_few mutex.UnlockFair few one_right = one Exclusive (rights 0) (one_right Exclusive true refl refl)
  mutex_few mutex.Bump few one_right = one Exclusive (rights 0) few
  mutex_few (mutex.HandOff bumps to) few one_right = hand_off_few bumps to few one_right

-- ---------------------------------------------------------------- places of a reader-writer lock

module _ (rights : ℕ → Rights) (a : Admission) where
  enter_few : (x : Access) (how : Patience) (to : RwLockAt) (pends : Bool) → is_pending to ≡ pends
      → before (purpose.Enter x how) to 0 rights 0 ≡ no_rights → IsFew (rights 0)
  enter_few x how to true h e =
      unpending rights (subst (λ b. (if b then rows.without_pending 0 rights else rights) 0 ≡ no_rights) h e)
  enter_few x how to false h e =
      nothing (rights 0) (subst (λ b. (if b then rows.without_pending 0 rights else rights) 0 ≡ no_rights) h
      e)

  upgrade_few : (how : Patience) (to : RwLockAt) (pends : Bool) → is_pending to ≡ pends
      → before (purpose.Upgrade how) to 0 rights 0 ≡ with_right Upgradable no_rights → IsFew (rights 0)
  upgrade_few how to true h e = unpending rights (given_up Upgradable 0 (rows.without_pending 0 rights)
      (subst (λ b. (if b then one_more_at 0 Upgradable (rows.without_pending 0 rights) else rights) 0
      ≡ with_right Upgradable no_rights) h e))
  upgrade_few how to false h e = one Upgradable (rights 0)
      (subst (λ b. (if b then one_more_at 0 Upgradable (rows.without_pending 0 rights) else rights) 0
      ≡ with_right Upgradable no_rights) h e)

  downgrade_few : (d : _) (to : RwLockAt) (wakes : Bool) → is_waking to ≡ wakes
      → before (purpose.Downgrade d) to 0 rights 0 ≡ with_right (wanted (from_of d)) no_rights
      → IsFew (rights 0)
  downgrade_few d to true h e = one_less rights (wanted (to_of d)) (given_up (wanted (from_of d)) 0
      (one_less_at 0 (wanted (to_of d)) rights)
      (subst (λ b. (if b then one_more_at 0 (wanted (from_of d)) (one_less_at 0 (wanted (to_of d)) rights)
      else rights) 0 ≡ with_right (wanted (from_of d)) no_rights) h e))
  downgrade_few d to false h e = one (wanted (from_of d)) (rights 0)
      (subst (λ b. (if b then one_more_at 0 (wanted (from_of d)) (one_less_at 0 (wanted (to_of d)) rights)
      else rights) 0 ≡ with_right (wanted (from_of d)) no_rights) h e)

  not_waking : (x : Access) (to : RwLockAt) → is_waking to ≡ false → has_released (purpose.Release x) to
      ≡ false
  not_waking x (at.Wake m w) h = absurd cc
  not_waking x to h = refl

  plain_few : (q : RwLockPurpose) (b : Bool) (to : RwLockAt) → BeganWithFew 0 (RwLock 0 a (Plain (record {
    purpose = q;
    retries = b;
    at = to;
  }))) rights
      → ReleasesOne (RwLock 0 a (Plain (record {
        purpose = q;
        retries = b;
        at = to;
      }))) rights → IsFew (rights 0)
  plain_few (purpose.Enter x how) b to few one_right = enter_few x how to (is_pending to) refl few
  plain_few (purpose.Upgrade how) b to few one_right = upgrade_few how to (is_pending to) refl few
  plain_few (purpose.Downgrade d) b to few one_right = downgrade_few d to (is_waking to) refl few
  plain_few (purpose.Release x) b to few one_right = by_wakes (is_waking to) refl
    where
      by_wakes : (wakes : Bool) → is_waking to ≡ wakes → IsFew (rights 0)
      by_wakes true h = rest_few rights (wanted x) (subst (λ y. (rest : Rights) × IsPlain rest
          × (with_right (wanted x) rest ≡ (if y then one_more_at 0 (wanted x) rights else rights) 0)) h few)
      by_wakes false h = one (wanted x) (rights 0)
          (subst (λ y. (if y then one_more_at 0 (wanted x) rights else rights) 0 ≡ with_right (wanted x)
          no_rights) h (one_right (wanted x) false refl (not_waking x to h)))

  bump_few : (q : RwLockPurpose) (b : Bool) (to : RwLockAt) → IsOfBump q b
      → BeganWithFew 0 (RwLock 0 a (Bump (record {
        purpose = q;
        retries = b;
        at = to;
      }))) rights → IsFew (rights 0)
  bump_few (purpose.Enter x how) b to bumps few = enter_few x how to (is_pending to) refl
      (given_up (wanted x) 0 (before (purpose.Enter x how) to 0 rights) few)
  bump_few (purpose.Release x) b to bumps few = by_wakes (is_waking to) refl
    where
      by_wakes : (wakes : Bool) → is_waking to ≡ wakes → IsFew (rights 0)
      by_wakes true h = nothing (rights 0)
          (given_up (wanted x) 0 rights (subst (λ y. (if y then one_more_at 0 (wanted x) rights else rights) 0
          ≡ with_right (wanted x) no_rights) h few))
      by_wakes false h = one (wanted x) (rights 0)
          (subst (λ y. (if y then one_more_at 0 (wanted x) rights else rights) 0 ≡ with_right (wanted x)
          no_rights) h few)
  bump_few (purpose.Upgrade how) b to bumps few = absurd bumps
  bump_few (purpose.Downgrade d) b to bumps few = absurd bumps

  hand_over_few : (x : Access) (b : Bool) (to : HandOverAt) (gave : Bool) → has_given to ≡ gave
      → BeganWithFew 0 (RwLock 0 a (HandOver x b to)) rights
      → ReleasesOne (RwLock 0 a (HandOver x b to)) rights → IsFew (rights 0)
  hand_over_few x true to true h few one_right =
      nothing (rights 0) (given_up (wanted x) 0 rights
      (subst (λ y. (if y then one_more_at 0 (wanted x) rights else rights) 0 ≡ with_right (wanted x)
      no_rights) h few))
  hand_over_few x true to false h few one_right = one (wanted x) (rights 0)
      (subst (λ y. (if y then one_more_at 0 (wanted x) rights else rights) 0 ≡ with_right (wanted x)
      no_rights) h few)
  hand_over_few x false to true h few one_right = rest_few rights (wanted x)
      (subst (λ y. (rest : Rights) × IsPlain rest
      × (with_right (wanted x) rest ≡ (if y then one_more_at 0 (wanted x) rights else rights) 0)) h few)
  hand_over_few x false to false h few one_right = one (wanted x) (rights 0)
      (subst (λ y. (if y then one_more_at 0 (wanted x) rights else rights) 0 ≡ with_right (wanted x)
      no_rights) h (one_right (wanted x) true refl h))

  handed_few : (x : Access) (how : Patience) (b : Bool) (to : _)
      → BeganWithFew 0 (RwLock 0 a (Handed x how b to)) rights → IsFew (rights 0)
  handed_few x how true to few = unclaimed rights (claim_at (wanted x) to)
      (given_up (wanted x) 0 (without_claim (claim_at (wanted x) to) 0 rights) few)
  handed_few x how false to few = unclaimed rights (claim_at (wanted x) to) few

  call_few : (c : RwLockCallPlace) → MayStandAt (RwLock 0 a c) → BeganWithFew 0 (RwLock 0 a c) rights
      → ReleasesOne (RwLock 0 a c) rights → IsFew (rights 0)
  call_few (Plain p) stands few one_right = plain_few p.purpose p.retries p.at few one_right
  call_few (Bump p) stands few one_right = bump_few p.purpose p.retries p.at stands.1 few
  call_few (PeekQueue x) stands few one_right = one (wanted x) (rights 0) few
  call_few (HandOver x b to) stands few one_right = hand_over_few x b to (has_given to) refl few one_right
  call_few (Handed x how b to) stands few one_right = handed_few x how b to few

pub places_own_few : PlacesOwnFew
places_own_few Idle rights stands of few one_right = absurd cc
places_own_few (Mutex l to) rights stands of few one_right = mutex_few rights to few one_right
places_own_few (RwLock l a c) rights stands of few one_right = call_few rights a c stands few one_right
places_own_few (Once l to) rights stands of few one_right = absurd stands
places_own_few (Semaphore l to) rights stands of few one_right = absurd stands
places_own_few (Condvar l to) rights stands of few one_right = absurd stands

-- ---------------------------------------------------------------- waiters in the main line

queued_lock : (rights : ℕ → Rights) (l : ℕ) (e : Entry) (retries : Bool) (to : LockAt)
    → (profile (Mutex l (mutex.Lock e retries to))).stands ≡ Some Main
    → BeganWithFew 0 (Mutex l (mutex.Lock e retries to)) rights → rights 0 ≡ no_rights
queued_lock rights l entry.Lock retries lock.Asleep s few = few
queued_lock rights l entry.LockTimed retries lock.Asleep s few = few
queued_lock rights l entry.Bump retries lock.Asleep s few = given_up Exclusive 0 rights few
queued_lock rights l entry.Lock retries (lock.Leave parked) s few = few
queued_lock rights l entry.LockTimed retries (lock.Leave parked) s few = few
queued_lock rights l entry.Bump retries (lock.Leave parked) s few = given_up Exclusive 0 rights few
queued_lock rights l entry.Lock retries lock.Remove s few = few
queued_lock rights l entry.LockTimed retries lock.Remove s few = few
queued_lock rights l entry.Bump retries lock.Remove s few = given_up Exclusive 0 rights few
queued_lock rights l e retries to s few = absurd cc

-- only a thread that enters stands there
module _ (rights : ℕ → Rights) (l : ℕ) (a : Admission) where
  queued_plain : (q : RwLockPurpose) (b : Bool) (to : RwLockAt) → StandsAt q b to → stands_at to ≡ Some Main
      → BeganWithFew 0 (RwLock l a (Plain (record {
        purpose = q;
        retries = b;
        at = to;
      }))) rights → rights 0 ≡ no_rights
  queued_plain (purpose.Enter x how) b (at.Park to) stands s few = few
  queued_plain (purpose.Upgrade Try) b (at.Park to) stands s few = absurd stands
  queued_plain (purpose.Upgrade Patient) b (at.Park to) stands s few = absurd stands
  queued_plain (purpose.Upgrade Timed) b (at.Park to) stands s few = absurd stands
  queued_plain (purpose.Release access.Shared) b (at.Park to) stands s few = absurd stands
  queued_plain (purpose.Release access.Upgradable) b (at.Park to) stands s few = absurd stands
  queued_plain (purpose.Release access.Exclusive) b (at.Park to) stands s few = absurd stands
  queued_plain (purpose.Downgrade d) b (at.Park to) stands s few = absurd stands
  queued_plain q b (at.Aside (parking.Leave true)) stands s few = absurd cc
  queued_plain q b (at.Aside (parking.Leave false)) stands s few = absurd cc
  queued_plain q b (at.Aside to) stands s few = absurd cc
  queued_plain q b to stands s few = absurd cc

  queued_bump : (q : RwLockPurpose) (b : Bool) (to : RwLockAt) → StandsAt q b to → stands_at to ≡ Some Main
      → BeganWithFew 0 (RwLock l a (Bump (record {
        purpose = q;
        retries = b;
        at = to;
      }))) rights → rights 0 ≡ no_rights
  queued_bump (purpose.Enter x how) b (at.Park to) stands s few = given_up (wanted x) 0 rights few
  queued_bump (purpose.Upgrade Try) b (at.Park to) stands s few = absurd stands
  queued_bump (purpose.Upgrade Patient) b (at.Park to) stands s few = absurd stands
  queued_bump (purpose.Upgrade Timed) b (at.Park to) stands s few = absurd stands
  queued_bump (purpose.Release access.Shared) b (at.Park to) stands s few = absurd stands
  queued_bump (purpose.Release access.Upgradable) b (at.Park to) stands s few = absurd stands
  queued_bump (purpose.Release access.Exclusive) b (at.Park to) stands s few = absurd stands
  queued_bump (purpose.Downgrade d) b (at.Park to) stands s few = absurd stands
  queued_bump q b (at.Aside (parking.Leave true)) stands s few = absurd cc
  queued_bump q b (at.Aside (parking.Leave false)) stands s few = absurd cc
  queued_bump q b (at.Aside to) stands s few = absurd cc
  queued_bump q b to stands s few = absurd cc

pub queued_own_nothing : QueuedOwnNothing
queued_own_nothing Idle rights stands of s few = absurd cc
queued_own_nothing (Mutex l (mutex.Lock e retries to)) rights stands of s few =
    queued_lock rights l e retries to s few
queued_own_nothing (Mutex l mutex.TryLock) rights stands of s few = absurd cc
queued_own_nothing (Mutex l (mutex.Unlock to)) rights stands of s few = absurd cc
queued_own_nothing (Mutex l mutex.UnlockFair) rights stands of s few = absurd cc
queued_own_nothing (Mutex l mutex.Bump) rights stands of s few = absurd cc
queued_own_nothing (Mutex l (mutex.HandOff bumps to)) rights stands of s few = absurd cc
queued_own_nothing (RwLock l a (Plain p)) rights stands of s few = queued_plain rights l a p.purpose p.retries
    p.at stands.place s few
queued_own_nothing (RwLock l a (Bump p)) rights stands of s few = queued_bump rights l a p.purpose p.retries
    p.at stands.0.place s few
queued_own_nothing (RwLock l a (Handed x how b to)) rights stands of s few = absurd cc
queued_own_nothing (RwLock l a (PeekQueue x)) rights stands of s few = absurd cc
queued_own_nothing (RwLock l a (HandOver x b to)) rights stands of s few = absurd cc
queued_own_nothing (Once l to) rights stands of s few = absurd stands
queued_own_nothing (Semaphore l to) rights stands of s few = absurd stands
queued_own_nothing (Condvar l to) rights stands of s few = absurd stands
