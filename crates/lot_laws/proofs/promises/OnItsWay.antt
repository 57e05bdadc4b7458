-- A thread in a call owns what it owned as the call began, or what the call trades that for: the rows of its
-- places tell so.
use Rattle.lot_laws.proofs.Imports
use Imports.{ℕ, Bool, true, false, Option, Some, if◌then◌else◌, ◌≡◌, ◌⊎◌, inl, inr, refl, sym, ◌∙◌, ap, subst}
use Imports.{arith, nat_tests, Want, Exclusive, Shared, Line, Rights, rights_of, with_right, without_right}
use Imports.{putting, LockState, Owns, Role, Pends, Holds, MutexPlace, Patience, RwLockCallPlace}
use Imports.{call_profile, CondvarPlace, Wait, Look, Notify, profile, called_lock, is_none, Place, State}
use Imports.{place_at, lock_state, call_at, call_state, locks_of, IsInductive, FitsItsLock, one_more_at}
use Imports.{one_less_at}
use Rattle.core_base.specs.declared.wants.Want.TheVariants.{Upgradable}
use Rattle.spec_locks.specs.Purposes.{Bumps, once_purpose}
use Rattle.spec_locks.specs.Runs.{CallState}
use Rattle.spec_locks.specs.Sites.{Claim, Has}
use Rattle.spec_locks.specs.declared.calls.Access.{Access}
use Rattle.spec_locks.specs.declared.calls.Access.TheVariants as access
use Rattle.spec_locks.specs.declared.calls.Downgrade.{Downgrade}
use Rattle.spec_locks.specs.declared.calls.Downgrade.TheVariants as downgrade
use Rattle.spec_locks.specs.declared.calls.OnceCall.{OnceCall}
use Rattle.spec_locks.specs.declared.calls.OnceCall.TheVariants as once_call
use Rattle.spec_locks.proofs.Rights.{AreAt, agree, changed, less_pending, regained, rights_are, unchanged}
use Rattle.steps_base.specs.Profiles.{blank_row}
use Rattle.steps_mutex.specs.MutexProfiles.{before_entry, entry_purpose, is_bump}
use Rattle.steps_mutex.specs.MutexProfiles.{mutex_profile}
use Rattle.steps_mutex.specs.MutexProfiles.{unlock_row, hand_off_row, was_handed}
use Rattle.steps_mutex.specs.declared.lock.Entry.{Entry}
use Rattle.steps_mutex.specs.declared.lock.Entry.TheVariants as entry
use Rattle.steps_mutex.specs.declared.lock.LockAt.{LockAt}
use Rattle.steps_mutex.specs.declared.lock.LockAt.TheVariants as lock
use Rattle.steps_mutex.specs.declared.places.MutexPlace.TheVariants as mutex
use Rattle.steps_rwlock.specs.RwLockCalls.{SharesAt, StandsAt}
use Rattle.steps_rwlock.specs.RwLockDeeds.{kept_claim, parking_role, pends, retried_want, role_at}
use Rattle.steps_rwlock.specs.RwLockDeeds.{waking_role}
use Rattle.steps_rwlock.specs.RwLockProfiles.{before, is_pending, is_waking, purpose_by, without_pending}
use Rattle.steps_rwlock.specs.RwLockSteps.{access_of, from_of, start_of, to_of, wanted}
use Rattle.steps_rwlock.specs.declared.park.ParkAt.{ParkAt}
use Rattle.steps_rwlock.specs.declared.park.ParkAt.TheVariants as parking
use Rattle.steps_rwlock.specs.declared.places.Admission.{Admission}
use Rattle.steps_rwlock.specs.declared.places.RwLockAt.{RwLockAt}
use Rattle.steps_rwlock.specs.declared.places.RwLockAt.TheVariants as at
use Rattle.steps_rwlock.specs.declared.places.RwLockPlace.{RwLockPlace}
use Rattle.steps_rwlock.specs.declared.purposes.RwLockPurpose.{RwLockPurpose}
use Rattle.steps_rwlock.specs.declared.purposes.RwLockPurpose.TheVariants as purpose
use Rattle.steps_rwlock.specs.declared.release.WakeAt.{WakeAt}
use Rattle.steps_rwlock.specs.declared.release.WakeAt.TheVariants as waking
use Rattle.steps_rwlock.proofs.RwLockCallRights.{finds, found}
use Rattle.steps_rwlock_fair.specs.FairCalls.{CallStands, IsOfBump}
use Rattle.steps_rwlock_fair.specs.FairDeeds.{claim_at}
use Rattle.steps_rwlock_fair.specs.FairProfiles as given
use Rattle.steps_rwlock_fair.specs.declared.handed.HandedAt.{HandedAt}
use Rattle.steps_rwlock_fair.specs.declared.handed.HandedAt.TheVariants as handed
use Rattle.steps_rwlock_fair.specs.declared.places.RwLockCallPlace.TheVariants as fair
use Rattle.steps_once.specs.OnceProfiles.{look_row}
use Rattle.steps_once.specs.declared.look.LookAt.{LookAt}
use Rattle.steps_once.specs.declared.look.LookAt.TheVariants as look
use Rattle.steps_once.specs.declared.places.OncePlace.{OncePlace}
use Rattle.steps_once.specs.declared.places.OncePlace.TheVariants as once
use Rattle.steps_once.specs.declared.give_up.GiveUpAt.TheVariants as give_up
use Rattle.steps_once.specs.declared.run.RunAt.TheVariants as run
use Rattle.steps_semaphore.specs.SemaphoreProfiles.{acquire_row, release_row}
use Rattle.steps_semaphore.specs.declared.acquire.AcquireAt.{AcquireAt}
use Rattle.steps_semaphore.specs.declared.acquire.AcquireAt.TheVariants as acquire
use Rattle.steps_semaphore.specs.declared.places.SemaphorePlace.{SemaphorePlace}
use Rattle.steps_semaphore.specs.declared.places.SemaphorePlace.TheVariants as semaphore
use Rattle.steps_condvar.specs.CondvarProfiles.{wait_row}
use Rattle.lot_steps.specs.declared.places.Place.TheVariants as places
use Rattle.spec_locks.specs.Trade.{IsOnItsWay, with_pending}
use Rattle.lot_laws.proofs.calls.CallEvents.{rights}
use Rattle.lot_laws.proofs.promises.PlacePromises.{role_own}

-- ---------------------------------------------------------------- rows of a reader-writer lock

-- a thread that is pending claims so
parking_claims : (m : Line) (again : Option Want) (c : Option Claim) (to : ParkAt)
    → (parking_role m again c to).claims ≡ c
parking_claims m again c parking.Check = refl
parking_claims m again c (parking.Leave true) = refl
parking_claims m again c (parking.Leave false) = refl
parking_claims m again c parking.Asleep = refl
parking_claims m again c (parking.Taken by) = refl
parking_claims m again c parking.Remove = refl
parking_claims m again c parking.Clear = refl
parking_claims m again c parking.GiveUp = refl

pending_claims : (again : Option Want) (q : RwLockPurpose) (to : RwLockAt) → is_pending to ≡ true
    → (role_at again q to).claims ≡ pends q
pending_claims again q at.Look e = refl
pending_claims again q (at.Count seen) e = refl
pending_claims again q at.Marked e = refl
pending_claims again q (at.Aside to) e = parking_claims _ again (pends q) to
pending_claims again q at.RollBack e = refl
pending_claims again q to e = absurd cc

waking_claims : (start : Option Want) (m : Line) (to : WakeAt)
    → (waking_role start m to).claims ≡ kept_claim start
waking_claims start m waking.Enter = refl
waking_claims start m waking.Take = refl
waking_claims start m (waking.Clear any) = refl
waking_claims start m (waking.Leave any) = refl

wakes_claiming : (again : Option Want) (q : RwLockPurpose) (to : RwLockAt) → is_waking to ≡ true
    → (role_at again q to).claims ≡ kept_claim (start_of q)
wakes_claiming again q (at.Wake m to) e = waking_claims (start_of q) m to
wakes_claiming again q to e = absurd cc

-- a reader is never pending
shares_none : (how : Patience) (to : RwLockAt) → SharesAt how to → is_pending to ≡ true → ⊥
shares_none how at.Load stands e = cc
shares_none how (at.Decide seen) stands e = cc
shares_none how (at.Park to) stands e = cc
shares_none how to stands e = absurd stands

only_writers : (x : Access) (how : Patience) (again : Bool) (to : RwLockAt)
    → StandsAt (purpose.Enter x how) again to → is_pending to ≡ true → wanted x ≡ Exclusive
only_writers access.Exclusive how again to stands e = refl
only_writers access.Upgradable how again to stands e = absurd (shares_none how to stands e)
only_writers access.Shared how again to stands e = absurd (shares_none how to stands e)

-- ---------------------------------------------------------------- rows that forget nothing

looks_same : (timed : Bool) (again : Option Want) (at : LookAt)
    → (look_row timed again at).former ≡ blank_row.former
looks_same timed again look.Load = refl
looks_same timed again (look.Decide seen) = refl
looks_same timed again look.Check = refl
looks_same timed again (look.Leave parked) = refl
looks_same timed again look.Asleep = refl
looks_same timed again (look.Taken by) = refl

acquires_same : (timed retries : Bool) (at : AcquireAt)
    → (acquire_row timed retries at).former ≡ blank_row.former
acquires_same timed retries acquire.Load = refl
acquires_same timed retries (acquire.Decide seen) = refl
acquires_same timed retries acquire.Check = refl
acquires_same timed retries (acquire.Leave parked) = refl
acquires_same timed retries acquire.Asleep = refl
acquires_same timed retries (acquire.Taken by) = refl
acquires_same timed retries acquire.Remove = refl
acquires_same timed retries acquire.Clear = refl
acquires_same timed retries acquire.GiveUp = refl

pending_back : (s : LockState) (t : ℕ) (b : Bool) → Holds s t (Pends b)
    → rights_of s t ≡ with_pending (less_pending (rights_of s t))
pending_back s t b h = rights_are _ _ _ _ _ _ _ _ refl (grind (arith, nat_tests)) refl refl

-- ---------------------------------------------------------------- a thread in a state

module _ (w : State) (t : ℕ) where
  abbrev r : ℕ → Rights
  r = rights w t

  abbrev Way : Place → Type 0
  Way p = IsOnItsWay (call_state p r).purpose (locks_of w) t (call_state p r)

  here : (l : ℕ) → AreAt r r l (r l)
  here l = unchanged r l (r l) refl

  -- what it owns and what it owned are the same, where some at the lock is put beside either
  abbrev Trade : ℕ → (ℕ → Rights) → (g h : Rights → Rights) → Type 0
  Trade l f g h = (k : ℕ) → putting r l (g (r l)) k ≡ putting f l (h (f l)) k

  trades : (l : ℕ) (f : ℕ → Rights) (y : Rights) (g h : Rights → Rights) → AreAt r f l y → g (r l) ≡ h y
      → Trade l f g h
  trades l f y g h are e = agree r l _ _ _ _ (changed r l g r (r l) (here l)) (changed r l h f y are) e

  kept : (l : ℕ) (f : ℕ → Rights) → f ≡ r → Trade l f (λ y. y) (λ y. y)
  kept l f e k = ap (λ (g : ℕ → Rights). putting g l (g l) k) (sym e)

  lost : (l : ℕ) (x : Want) → AreAt r (one_more_at l x r) l (with_right x (r l))
  lost l x = changed r l (with_right x) r (r l) (here l)

  got : (l : ℕ) (x : Want) → AreAt r (one_less_at l x r) l (without_right x (r l))
  got l x = changed r l (without_right x) r (r l) (here l)

  -- the thread holds what its place claims
  abbrev HoldsAt : ℕ → Option Claim → Type 0
  HoldsAt l claims = (c : Claim) → claims ≡ Some c → Holds (lock_state w l) t c

  -- -------------------------------------------------------------- a mutex

  mutex_enters : (l : ℕ) (e : Entry) (retries : Bool) (at : LockAt)
      → (was_handed at ≡ true → Owns (lock_state w l) t Exclusive)
      → Way (places.Mutex l (mutex.Lock e retries at))
  mutex_enters l e retries at own = by_entry e (was_handed at) own
    where
      enters : (handed : Bool) → (handed ≡ true → Owns (lock_state w l) t Exclusive)
          → Trade l (before_entry l false handed r) (λ y. y) (λ y. y)
          ⊎ Trade l (before_entry l false handed r) (λ y. y) (with_right Exclusive)
      enters false own = inl (kept l r refl)
      enters true own = inr (trades l (one_less_at l Exclusive r) _ (λ y. y) (with_right Exclusive)
          (got l Exclusive) (sym (regained (lock_state w l) t Exclusive (own refl))))

      by_entry : (e : Entry) (b : Bool) → (b ≡ true → Owns (lock_state w l) t Exclusive)
          → IsOnItsWay (Some (entry_purpose l e)) (locks_of w) t
          (record (call_state (places.Mutex l (mutex.Lock e retries at)) r) {
            former = before_entry l (is_bump e) b r;
          })
      by_entry entry.Lock b own = elim (enters b own) [ inl same ↦ inl same | inr more ↦ inr (inl more) ]
      by_entry entry.LockTimed b own = elim (enters b own) [ inl same ↦ inl same | inr more ↦ inr (inl more) ]
      by_entry entry.Bump true own = inl (kept l r refl)
      by_entry entry.Bump false own = inr (inl (trades l (one_more_at l Exclusive r) _ (with_right Exclusive)
          (λ y. y) (lost l Exclusive) refl))

  handed_owns : (l : ℕ) (e : Entry) (retries : Bool) (at : LockAt)
      → HoldsAt l (mutex_profile (mutex.Lock e retries at)).role.claims → was_handed at ≡ true
      → Owns (lock_state w l) t Exclusive
  handed_owns l e retries (lock.Handed by) holds is = holds (Has Exclusive) refl
  handed_owns l e retries lock.Accept holds is = holds (Has Exclusive) refl
  handed_owns l e retries at holds is = absurd cc

  -- a release has lost its right, or not yet
  loses : (l : ℕ) (x : Want) (b : Bool)
      → Trade l (if b then one_more_at l x r else r) (λ y. y) (λ y. y)
      ⊎ Trade l (if b then one_more_at l x r else r) (with_right x) (λ y. y)
  loses l x true = inr (trades l (one_more_at l x r) _ (with_right x) (λ y. y) (lost l x) refl)
  loses l x false = inl (kept l r refl)

  by_mutex : (l : ℕ) (at : MutexPlace) → HoldsAt l (mutex_profile at).role.claims → Way (places.Mutex l at)
  by_mutex l (mutex.Lock e retries at) holds = mutex_enters l e retries at (handed_owns l e retries at holds)
  by_mutex l mutex.TryLock holds = inl (kept l r refl)
  by_mutex l (mutex.Unlock at) holds = loses l Exclusive (unlock_row at).released
  by_mutex l mutex.UnlockFair holds = inl (kept l r refl)
  by_mutex l mutex.Bump holds = inl (kept l r refl)
  by_mutex l (mutex.HandOff true at) holds = elim (loses l Exclusive (hand_off_row at).released) [
    | inl same ↦ inl same
    | inr less ↦ inr (inl less)
  ]
  by_mutex l (mutex.HandOff false at) holds = loses l Exclusive (hand_off_row at).released

  -- -------------------------------------------------------------- a reader-writer lock

  module _ (l : ℕ) (a : Admission) (p : RwLockPlace) where
    abbrev Pending : RwLockPurpose → Type 0
    Pending q = is_pending p.at ≡ true → r l ≡ with_pending (less_pending (r l))

    abbrev Owning : RwLockPurpose → Type 0
    Owning q = (x : Want) → start_of q ≡ Some x → is_waking p.at ≡ true → Owns (lock_state w l) t x

    first : (q : RwLockPurpose) → AreAt r (before q p.at l r) l (found q p.at (r l))
    first q = finds r l q p.at r (r l) (here l)

    -- an entry has what it had, or is pending; another right may be lost beside
    enters : (x : Access) (how : Patience) (g : Rights → Rights) (f : ℕ → Rights)
        → AreAt r f l (g (found (purpose.Enter x how) p.at (r l))) → Pending (purpose.Enter x how)
        → ((y : Rights) → g (with_pending y) ≡ with_pending (g y))
        → Trade l f g (λ y. y) ⊎ ((is_pending p.at ≡ true) × Trade l f g with_pending)
    enters x how g f are pending apart = by_bit (is_pending p.at) refl
      where
        by_bit : (b : Bool) → is_pending p.at ≡ b
            → Trade l f g (λ y. y) ⊎ ((is_pending p.at ≡ true) × Trade l f g with_pending)
        by_bit false e = inl (trades l f _ g (λ y. y) are
            (ap (λ b. g (if b then less_pending (r l) else r l)) (sym e)))
        by_bit true e = inr (
          e,
          trades l f _ g with_pending are (ap g (pending e) ∙ apart (less_pending (r l))
              ∙ ap (λ b. with_pending (g (if b then less_pending (r l) else r l))) (sym e)),
        )

    lowers : (d : Downgrade) → Owns (lock_state w l) t (wanted (to_of d))
        → with_right (wanted (from_of d)) (r l)
        ≡ with_right (wanted (to_of d)) (with_right (wanted (from_of d))
        (without_right (wanted (to_of d)) (r l)))
    lowers downgrade.ToShared own =
        ap (with_right (wanted (from_of downgrade.ToShared)))
        (sym (regained (lock_state w l) t (wanted (to_of downgrade.ToShared)) own))
    lowers downgrade.ToUpgradable own =
        ap (with_right (wanted (from_of downgrade.ToUpgradable)))
        (sym (regained (lock_state w l) t (wanted (to_of downgrade.ToUpgradable)) own))
    lowers downgrade.UpgradableToShared own =
        ap (with_right (wanted (from_of downgrade.UpgradableToShared)))
        (sym (regained (lock_state w l) t (wanted (to_of downgrade.UpgradableToShared)) own))

    -- what a downgrade, and an upgrade, found, by whether it has its new right
    abbrev Lowered : Downgrade → Bool → ℕ → Rights
    Lowered d b = if b then one_more_at l (wanted (from_of d)) (one_less_at l (wanted (to_of d)) r) else r

    abbrev Raised : Bool → ℕ → Rights
    Raised b = if b then one_more_at l Upgradable (without_pending l r) else r

    by_purpose : (q : RwLockPurpose) → StandsAt q p.retries p.at → Pending q → Owning q
        → IsOnItsWay (Some (purpose_by q l)) (locks_of w) t
        (record (call_state (places.RwLock l a (fair.Plain p)) r) { former = before q p.at l r })
    by_purpose (purpose.Enter x how) stands pending owning =
        elim (enters x how (λ y. y) (before (purpose.Enter x how) p.at l r) (first (purpose.Enter x how))
        pending (λ y. refl)) [
          | inl same ↦ inl same
          | inr more ↦ inr (inr (only_writers x how p.retries p.at stands more.0, more.1))
        ]
    by_purpose (purpose.Release x) stands pending owning = loses l (wanted x) (is_waking p.at)
    by_purpose (purpose.Downgrade d) stands pending owning = by_bit (is_waking p.at) refl
      where
        by_bit : (b : Bool) → is_waking p.at ≡ b
            → Trade l (Lowered d b) (λ y. y) (λ y. y)
            ⊎ (Trade l (Lowered d b) (with_right (wanted (from_of d))) (with_right (wanted (to_of d)))
            ⊎ ((wanted (to_of d) ≡ Exclusive)
            × Trade l (Lowered d b) (with_right (wanted (from_of d))) with_pending))
        by_bit false e = inl (kept l r refl)
        by_bit true e = inr (inl (trades l (Lowered d true) _ (with_right (wanted (from_of d)))
            (with_right (wanted (to_of d)))
            (changed r l (with_right (wanted (from_of d))) (one_less_at l (wanted (to_of d)) r) _
            (got l (wanted (to_of d)))) (lowers d (owning _ refl e))))
    by_purpose (purpose.Upgrade how) stands pending owning = by_bit (is_pending p.at) refl
      where
        by_bit : (b : Bool) → is_pending p.at ≡ b
            → Trade l (Raised b) (λ y. y) (λ y. y)
            ⊎ (Trade l (Raised b) (with_right Upgradable) (with_right Exclusive)
            ⊎ ((Exclusive ≡ Exclusive) × Trade l (Raised b) (with_right Upgradable) with_pending))
        by_bit false e = inl (kept l r refl)
        by_bit true e = inr (inr (
          refl,
          trades l (Raised true) _ (with_right Upgradable) with_pending
              (changed r l (with_right Upgradable) (without_pending l r) _
              (changed r l less_pending r (r l) (here l))) (ap (with_right Upgradable) (pending e)),
        ))

    -- the second half of a bump
    by_bump : (q : RwLockPurpose) → IsOfBump q p.retries → StandsAt q p.retries p.at → Pending q
        → IsOnItsWay (Some (Bumps l (wanted (access_of q)))) (locks_of w) t
        (record (call_state (places.RwLock l a (fair.Bump p)) r) {
          former = given.bump_former q l (before q p.at l r);
        })
    by_bump (purpose.Enter x how) of stands pending =
        elim (enters x how (with_right (wanted x))
        (one_more_at l (wanted x) (before (purpose.Enter x how) p.at l r))
        (changed r l (with_right (wanted x)) (before (purpose.Enter x how) p.at l r) _
        (first (purpose.Enter x how))) pending (λ y. apart x y)) [
          | inl same ↦ inr (inl same)
          | inr more ↦ inr (inr (only_writers x how p.retries p.at stands more.0, more.1))
        ]
      where
        apart : (x : Access) (y : Rights)
            → with_right (wanted x) (with_pending y) ≡ with_pending (with_right (wanted x) y)
        apart access.Exclusive y = refl
        apart access.Upgradable y = refl
        apart access.Shared y = refl
    by_bump (purpose.Release x) of stands pending = elim (loses l (wanted x) (is_waking p.at)) [
      | inl same ↦ inl same
      | inr less ↦ inr (inl less)
    ]
    by_bump (purpose.Downgrade d) of stands pending = absurd of
    by_bump (purpose.Upgrade how) of stands pending = absurd of

    pending_now : (q : RwLockPurpose) → HoldsAt l (role_at (retried_want p) q p.at).claims → Pending q
    pending_now q holds e =
        pending_back (lock_state w l) t _ (holds _ (pending_claims (retried_want p) q p.at e))

    owning_now : (q : RwLockPurpose) → HoldsAt l (role_at (retried_want p) q p.at).claims → Owning q
    owning_now q holds x is e =
        holds (Has x) (wakes_claiming (retried_want p) q p.at e ∙ ap kept_claim is)

  -- a thread that was handed the lock, by what it claims
  abbrev Goes : ℕ → Want → Patience → CallState → Bool → Claim → Type 0
  Goes l x how call b c = IsOnItsWay (Some (given.entry_purpose b x how l)) (locks_of w) t
      (record call { former = given.before_handed b x c l r })

  handed_way : (l : ℕ) (x : Want) (bumps : Bool) (c : Claim) → Holds (lock_state w l) t c
      → (c ≡ Has x) ⊎ ((x ≡ Exclusive) × (c ≡ Pends false))
      → (how : Patience) (call : CallState) → call.former ≡ given.before_handed bumps x c l r
      → IsOnItsWay (Some (given.entry_purpose bumps x how l)) (locks_of w) t call
  handed_way l x bumps c holds which how call is = by which
    where
      owned : (b : Bool) → Owns (lock_state w l) t x → Goes l x how call b (Has x)
      owned false own = inr (inl (trades l (one_less_at l x r) _ (λ y. y) (with_right x) (got l x)
          (sym (regained (lock_state w l) t x own))))
      owned true own = inl (trades l (one_more_at l x (one_less_at l x r)) _ (λ y. y) (λ y. y)
          (changed r l (with_right x) (one_less_at l x r) _ (got l x))
          (sym (regained (lock_state w l) t x own)))

      waits : (b : Bool) → x ≡ Exclusive → Holds (lock_state w l) t (Pends false)
          → Goes l x how call b (Pends false)
      waits false e h = inr (inr (
        e,
        trades l (without_pending l r) _ (λ y. y) with_pending
            (changed r l less_pending r (r l) (here l)) (pending_back (lock_state w l) t false h),
      ))
      waits true e h = inr (inr (
        e,
        subst (λ x. Trade l (one_more_at l x (without_pending l r)) (with_right x) with_pending) (sym e)
            (trades l (one_more_at l Exclusive (without_pending l r)) _ (with_right Exclusive) with_pending
            (changed r l (with_right Exclusive) (without_pending l r) _
            (changed r l less_pending r (r l) (here l)))
            (ap (with_right Exclusive) (pending_back (lock_state w l) t false h))),
      ))

      by : (c ≡ Has x) ⊎ ((x ≡ Exclusive) × (c ≡ Pends false))
          → IsOnItsWay (Some (given.entry_purpose bumps x how l)) (locks_of w) t call
      by (inl e) = subst (λ f. IsOnItsWay (Some (given.entry_purpose bumps x how l)) (locks_of w) t
          (record call { former = f })) (sym is)
          (subst (Goes l x how call bumps) (sym e) (owned bumps (subst (Holds (lock_state w l) t) e holds)))
      by (inr e) = subst (λ f. IsOnItsWay (Some (given.entry_purpose bumps x how l)) (locks_of w) t
          (record call { former = f })) (sym is)
          (subst (Goes l x how call bumps) (sym e.1)
          (waits bumps e.0 (subst (Holds (lock_state w l) t) e.1 holds)))

  claimed : (x : Access) (to : HandedAt)
      → (claim_at (wanted x) to ≡ Has (wanted x))
      ⊎ ((wanted x ≡ Exclusive) × (claim_at (wanted x) to ≡ Pends false))
  claimed x handed.Accept = inl refl
  claimed x (handed.Asleep by true) = inl refl
  claimed access.Exclusive (handed.Asleep by false) = inr (refl, refl)
  claimed access.Upgradable (handed.Asleep by false) = inl refl
  claimed access.Shared (handed.Asleep by false) = inl refl

  by_call : (l : ℕ) (a : Admission) (c : RwLockCallPlace) → CallStands a c
      → HoldsAt l (call_profile a c).role.claims → Way (places.RwLock l a c)
  by_call l a (fair.Plain p) stands holds = by_purpose l a p p.purpose stands.place
      (pending_now l a p p.purpose holds) (owning_now l a p p.purpose holds)
  by_call l a (fair.Bump p) stands holds = by_bump l a p p.purpose stands.1 stands.0.place
      (pending_now l a p p.purpose holds)
  by_call l a (fair.PeekQueue x) stands holds = inl (kept l r refl)
  by_call l a (fair.HandOver x true to) stands holds = elim (loses l (wanted x) (given.has_given to)) [
    | inl same ↦ inl same
    | inr less ↦ inr (inl less)
  ]
  by_call l a (fair.HandOver x false to) stands holds = loses l (wanted x) (given.has_given to)
  by_call l a (fair.Handed x how b to) stands holds = handed_way l (wanted x) b (claim_at (wanted x) to)
      (holds (claim_at (wanted x) to) refl) (claimed x to) how
      (call_state (places.RwLock l a (fair.Handed x how b to)) r) refl

  -- -------------------------------------------------------------- a `Once` and a semaphore

  by_once : (l : ℕ) (at : OncePlace) → Way (places.Once l at)
  by_once l (once.Look c retries at) = by_purpose c
      (kept l ((look_row _ _ at).former l r)
      (ap (λ (f : ℕ → (ℕ → Rights) → ℕ → Rights). f l r) (looks_same _ _ at)))
    where
      by_purpose : (d : OnceCall)
          → Trade l (call_state (places.Once l (once.Look c retries at)) r).former (λ y. y) (λ y. y)
          → IsOnItsWay (Some (once_purpose l d)) (locks_of w) t
          (call_state (places.Once l (once.Look c retries at)) r)
      by_purpose (once_call.CallOnce forced) same = same
      by_purpose (once_call.Wait forced) same = same
      by_purpose once_call.WaitTimed same = same
  by_once l (once.Run forced (run.Closure poisoned)) = kept l r refl
  by_once l (once.Run forced (run.Close succeeded)) = kept l r refl
  by_once l (once.Run forced (run.Enter succeeded)) = kept l r refl
  by_once l (once.Run forced (run.Take succeeded)) = kept l r refl
  by_once l (once.Run forced (run.Leave succeeded any)) = kept l r refl
  by_once l (once.GiveUp retries give_up.Remove) = kept l r refl
  by_once l (once.GiveUp retries give_up.Clear) = kept l r refl
  by_once l (once.GiveUp retries give_up.Leave) = kept l r refl

  by_semaphore : (l : ℕ) (at : SemaphorePlace) → Way (places.Semaphore l at)
  by_semaphore l (semaphore.Acquire timed retries at) = inl (kept l
      ((acquire_row timed retries at).former l r)
      (ap (λ (f : ℕ → (ℕ → Rights) → ℕ → Rights). f l r) (acquires_same timed retries at)))
  by_semaphore l (semaphore.Try at) = inl (kept l r refl)
  by_semaphore l (semaphore.Release at) = loses l Shared (release_row at).released

  -- -------------------------------------------------------------- a condition variable

  by_condvar : (l : ℕ) (at : CondvarPlace) → Way (places.Condvar l at)
  by_condvar l (Wait m timed at) = loses m Exclusive (is_none (wait_row m at).role.claims)
  by_condvar l (Look all) = kept l r refl
  by_condvar l (Notify all m at) = kept l r refl

pub on_its_way : (w : State) → IsInductive w → (t : ℕ)
    → IsOnItsWay (call_at w t).purpose (locks_of w) t (call_at w t)
on_its_way w inductive t = by_place (place_at w t) refl
  where
    holds : (l : ℕ) → called_lock (place_at w t) ≡ Some l → HoldsAt w t l (profile (place_at w t)).role.claims
    holds l own c is = (inductive.sites.site l).held t c
        (ap (λ (d : Role). d.claims) (role_own (place_at w t) l own) ∙ is)

    by_place : (p : Place) → place_at w t ≡ p → Way w t (place_at w t)
    by_place places.Idle is = subst (Way w t) (sym is) tt
    by_place (places.Mutex l at) is = subst (Way w t) (sym is) (by_mutex w t l at
        (subst (λ p. HoldsAt w t l (profile p).role.claims) is (holds l (ap called_lock is))))
    by_place (places.RwLock l a c) is = subst (Way w t) (sym is) (by_call w t l a c
        (subst (FitsItsLock w) is (inductive.stands.calls t)).1
        (subst (λ p. HoldsAt w t l (profile p).role.claims) is (holds l (ap called_lock is))))
    by_place (places.Once l at) is = subst (Way w t) (sym is) (by_once w t l at)
    by_place (places.Semaphore l at) is = subst (Way w t) (sym is) (by_semaphore w t l at)
    by_place (places.Condvar l at) is = subst (Way w t) (sym is) (by_condvar w t l at)
