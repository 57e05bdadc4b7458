-- A thread that sleeps: what it has, and what it does.
use Rattle.std.proofs.Common.{ℕ, Bool, true, false, Option, Some, None, if◌then◌else◌, ◌==◌, ◌≡◌, ◌≢◌, ◌+◌}
use Rattle.std.proofs.Common.{◌-◌, inl, inr, refl, sym, ◌∙◌, ap, subst, arith}
use Rattle.std.proofs.lemmas.Bool.Decides.{nat_tests}
use Rattle.spec_locks.specs.Codes.{has_aside}
use Rattle.spec_locks.specs.Locks.{Rights, putting, with_right}
use Rattle.spec_locks.specs.Runs.{no_rights, one_more_at}
use Rattle.spec_locks.specs.Sites.{Role}
use Rattle.core_base.specs.declared.keys.Line.TheVariants.{Main, Second}
use Rattle.core_base.specs.declared.wants.Want.{Want}
use Rattle.core_base.specs.declared.wants.Want.TheVariants.{Exclusive, Upgradable, Shared, Wait, CallOnce}
use Rattle.spec_locks.specs.declared.calls.Access.{Access}
use Rattle.spec_locks.specs.declared.calls.Access.TheVariants as access
use Rattle.spec_locks.specs.declared.calls.Patience.{Patience}
use Rattle.spec_locks.specs.declared.calls.Patience.TheVariants.{Patient, Timed, Try}
use Rattle.steps_base.specs.declared.acts.Act.TheVariants as act
use Rattle.steps_mutex.specs.declared.lock.Entry.{Entry}
use Rattle.steps_mutex.specs.declared.lock.Entry.TheVariants as entry
use Rattle.steps_mutex.specs.declared.lock.LockAt.{LockAt}
use Rattle.steps_mutex.specs.declared.lock.LockAt.TheVariants as lock
use Rattle.steps_mutex.specs.declared.places.MutexPlace.TheVariants as mutex
use Rattle.steps_mutex.specs.MutexSteps as steps
use Rattle.steps_rwlock.specs.declared.park.ParkAt.TheVariants as parking
use Rattle.steps_rwlock.specs.declared.release.WakeAt.TheVariants as waking
use Rattle.steps_rwlock.specs.declared.places.Admission.{Admission}
use Rattle.steps_rwlock.specs.declared.places.RwLockAt.{RwLockAt}
use Rattle.steps_rwlock.specs.declared.places.RwLockAt.TheVariants as at
use Rattle.steps_rwlock.specs.declared.purposes.RwLockPurpose.{RwLockPurpose}
use Rattle.steps_rwlock.specs.declared.purposes.RwLockPurpose.TheVariants as purpose
use Rattle.steps_rwlock.specs.RwLockSteps.{act_at, decided, wanted}
use Rattle.steps_rwlock.specs.RwLockCalls.{StandsAt}
use Rattle.steps_rwlock.specs.RwLockDeeds.{role_at, retried_want}
use Rattle.steps_rwlock.specs.RwLockProfiles.{stands_at}
use Rattle.steps_rwlock.specs.RwLockProfiles as rows
use Rattle.steps_rwlock_fair.specs.FairCalls.{IsOfBump}
use Rattle.steps_rwlock_fair.specs.declared.places.RwLockCallPlace.TheVariants.{Plain, PeekQueue, HandOver}
use Rattle.steps_rwlock_fair.specs.declared.places.RwLockCallPlace.TheVariants.{Bump}
use Rattle.steps_rwlock_fair.specs.declared.places.RwLockCallPlace.TheVariants.{Handed}
use Rattle.steps_rwlock_fair.specs.declared.handed.HandedAt.{HandedAt}
use Rattle.steps_rwlock_fair.specs.declared.handed.HandedAt.TheVariants as handed
use Rattle.steps_rwlock_fair.specs.FairSteps.{accept_act}
use Rattle.lot_steps.specs.declared.places.Place.TheVariants.{Idle, Mutex, RwLock, Once, Condvar, Semaphore}
use Rattle.lot_steps.specs.Steps.{act_of, profile}
use Rattle.lot_world.specs.Drained.{IsResting}
use Rattle.lot_world.proofs.Awake.{decided_sleeps, either_sleeps, hand_off_wakes, handing_wakes, unlock_wakes}
use Rattle.lot_world.specs.Sleepers.{BeganWithFew, PendingOwnNothing, SleepersOwnNothing, SleepersRest}
use Rattle.lot_world.specs.Sleepers.{SleepersStand, StandsSomewhere, without_pending}

abbrev RestsOutside : Role → Type 0
RestsOutside d = IsResting d × (d.inside ≡ None)

-- ---------------------------------------------------------------- places of a mutex

lock_rests : (l : ℕ) (e : Entry) (retries : Bool) (to : LockAt) → steps.lock_act l to ≡ act.Sleep
    → RestsOutside (profile (Mutex l (mutex.Lock e retries to))).role
lock_rests l e retries lock.Asleep h = (
  record {
    wakes = refl;
    has_taken = refl;
    owes_taken = refl;
    retries = refl;
  },
  refl,
)
lock_rests l e retries (lock.Taken by) h = (
  record {
    wakes = refl;
    has_taken = refl;
    owes_taken = refl;
    retries = refl;
  },
  refl,
)
lock_rests l e retries (lock.Handed by) h = (
  record {
    wakes = refl;
    has_taken = refl;
    owes_taken = refl;
    retries = refl;
  },
  refl,
)
lock_rests l e retries lock.First h = absurd cc
lock_rests l e retries lock.Load h = absurd cc
lock_rests l e retries (lock.Decide seen) h = absurd (decides seen h)
  where
    decides : (seen : ℕ) → steps.lock_act l (lock.Decide seen) ≢ act.Sleep
    decides seen = either_sleeps (Rattle.std.proofs.Common.not (steps.is_locked seen)) _ _ (λ e. cc)
        (either_sleeps (seen == 1) _ _ (λ e. cc) (λ e. cc))
lock_rests l e retries lock.Check h = absurd cc
lock_rests l e retries (lock.Leave parked) h = absurd cc
lock_rests l e retries lock.Accept h = absurd cc
lock_rests l e retries lock.Remove h = absurd cc
lock_rests l e retries lock.Clear h = absurd cc
lock_rests l e retries lock.GiveUp h = absurd cc

-- ---------------------------------------------------------------- places of a reader-writer lock

rwlock_rests : (l : ℕ) (a : Admission) (q : RwLockPurpose) (b : Bool) (to : RwLockAt)
    → act_at l a (record { purpose = q; retries = b; at = to }) to ≡ act.Sleep
    → (again : Option Want) → RestsOutside (role_at again q to)
rwlock_rests l a q b (at.Park parking.Asleep) h again = (
  record {
    wakes = refl;
    has_taken = refl;
    owes_taken = refl;
    retries = refl;
  },
  refl,
)
rwlock_rests l a q b (at.Park (parking.Taken by)) h again = (
  record {
    wakes = refl;
    has_taken = refl;
    owes_taken = refl;
    retries = refl;
  },
  refl,
)
rwlock_rests l a q b (at.Aside parking.Asleep) h again = (
  record {
    wakes = refl;
    has_taken = refl;
    owes_taken = refl;
    retries = refl;
  },
  refl,
)
rwlock_rests l a q b (at.Aside (parking.Taken by)) h again = (
  record {
    wakes = refl;
    has_taken = refl;
    owes_taken = refl;
    retries = refl;
  },
  refl,
)
rwlock_rests l a q b (at.Park parking.Check) h again = absurd cc
rwlock_rests l a q b (at.Park (parking.Leave parked)) h again = absurd cc
rwlock_rests l a q b (at.Park parking.Remove) h again = absurd cc
rwlock_rests l a q b (at.Park parking.Clear) h again = absurd cc
rwlock_rests l a q b (at.Park parking.GiveUp) h again = absurd cc
rwlock_rests l a q b (at.Aside parking.Check) h again = absurd cc
rwlock_rests l a q b (at.Aside (parking.Leave parked)) h again = absurd cc
rwlock_rests l a q b (at.Aside parking.Remove) h again = absurd cc
rwlock_rests l a q b (at.Aside parking.Clear) h again = absurd cc
rwlock_rests l a q b (at.Aside parking.GiveUp) h again = absurd cc
rwlock_rests l a q b at.First h again = absurd cc
rwlock_rests l a q b at.Load h again = absurd cc
rwlock_rests l a q b (at.Decide seen) h again = absurd (decided_sleeps l q seen (decided a (record {
  purpose = q;
  retries = b;
  at = at.Decide seen;
}) seen) h)
rwlock_rests l a q b at.Look h again = absurd cc
rwlock_rests l a q b (at.Count seen) h again =
    absurd (either_sleeps (has_aside seen) _ _ (λ k. cc) (λ k. cc) h)
rwlock_rests l a q b at.Marked h again = absurd cc
rwlock_rests l a q b at.RollBack h again = absurd cc
rwlock_rests l a q b at.GiveWay h again = absurd cc
rwlock_rests l a q b (at.Wake m waking.Enter) h again = absurd cc
rwlock_rests l a q b (at.Wake m waking.Take) h again = absurd cc
rwlock_rests l a q b (at.Wake m (waking.Clear any)) h again = absurd cc
rwlock_rests l a q b (at.Wake m (waking.Leave any)) h again = absurd cc

accept_wakes : (l : ℕ) (x : Access) → accept_act l x ≢ act.Sleep
accept_wakes l access.Exclusive h = cc
accept_wakes l access.Shared h = cc
accept_wakes l access.Upgradable h = cc

handed_rests : (l : ℕ) (a : Admission) (x : Access) (how : Patience) (b : Bool) (to : HandedAt)
    → act_of (RwLock l a (Handed x how b to)) ≡ act.Sleep
    → RestsOutside (profile (RwLock l a (Handed x how b to))).role
handed_rests l a x how b (handed.Asleep by alone) h = (
  record {
    wakes = refl;
    has_taken = refl;
    owes_taken = refl;
    retries = refl;
  },
  refl,
)
handed_rests l a x how b handed.Accept h = absurd (accept_wakes l x h)

pub sleepers_rest : SleepersRest
sleepers_rest Idle stands h = absurd cc
sleepers_rest (Mutex l (mutex.Lock e retries to)) stands h = lock_rests l e retries to h
sleepers_rest (Mutex l mutex.TryLock) stands h = absurd cc
sleepers_rest (Mutex l (mutex.Unlock to)) stands h = absurd (unlock_wakes l to h)
sleepers_rest (Mutex l mutex.UnlockFair) stands h = absurd cc
sleepers_rest (Mutex l mutex.Bump) stands h = absurd cc
sleepers_rest (Mutex l (mutex.HandOff bumps to)) stands h = absurd (hand_off_wakes l to h)
sleepers_rest (RwLock l a (Plain p)) stands h = rwlock_rests l a p.purpose p.retries p.at h (retried_want p)
sleepers_rest (RwLock l a (Bump p)) stands h = rwlock_rests l a p.purpose p.retries p.at h (retried_want p)
sleepers_rest (RwLock l a (Handed x how b to)) stands h = handed_rests l a x how b to h
sleepers_rest (RwLock l a (PeekQueue x)) stands h = absurd cc
sleepers_rest (RwLock l a (HandOver x b to)) stands h = absurd (handing_wakes l a x to h)
sleepers_rest (Once l to) stands h = absurd stands
sleepers_rest (Semaphore l to) stands h = absurd stands
sleepers_rest (Condvar l to) stands h = absurd stands

-- ---------------------------------------------------------------- the rights that it owns

rights_are : (r s : Rights) → r.exclusive ≡ s.exclusive → r.pending ≡ s.pending → r.upgradable ≡ s.upgradable
    → r.shared ≡ s.shared → r ≡ s
rights_are r s a b c d = λ i. record { exclusive = a i; pending = b i; upgradable = c i; shared = d i }

-- one right less on both sides
pub less : (x : Want) (r s : Rights) → with_right x r ≡ with_right x s → r ≡ s
less Exclusive r s e = rights_are r s (let a : r.exclusive + 1 ≡ s.exclusive + 1 =
    ap (λ (y : Rights). y.exclusive) e in omega arith) (ap (λ (y : Rights). y.pending) e)
    (ap (λ (y : Rights). y.upgradable) e) (ap (λ (y : Rights). y.shared) e)
less Upgradable r s e = rights_are r s (ap (λ (y : Rights). y.exclusive) e) (ap (λ (y : Rights). y.pending) e)
    (let a : r.upgradable + 1 ≡ s.upgradable + 1 = ap (λ (y : Rights). y.upgradable) e in omega arith)
    (ap (λ (y : Rights). y.shared) e)
less Shared r s e = rights_are r s (ap (λ (y : Rights). y.exclusive) e) (ap (λ (y : Rights). y.pending) e)
    (ap (λ (y : Rights). y.upgradable) e) (let a : r.shared + 1 ≡ s.shared + 1 =
    ap (λ (y : Rights). y.shared) e in omega arith)
less Wait r s e = e
less CallOnce r s e = e

pub here : {A : Type 0} (f : ℕ → A) (l : ℕ) (x : A) → putting f l x l ≡ x
here f l x = ap (λ b. if b then x else f l) (let e : (l == l) ≡ true = grind (arith, nat_tests) in e)

-- a bump has given its right up
pub given_up : (x : Want) (l : ℕ) (rights : ℕ → Rights) → one_more_at l x rights l ≡ with_right x no_rights
    → rights l ≡ no_rights
given_up x l rights e = less x (rights l) no_rights (sym (here rights l (with_right x (rights l))) ∙ e)

main_lock : (l : ℕ) (e : Entry) (retries : Bool) (to : LockAt) (rights : ℕ → Rights)
    → (profile (Mutex l (mutex.Lock e retries to))).stands ≡ Some Main → steps.lock_act l to ≡ act.Sleep
    → BeganWithFew l (Mutex l (mutex.Lock e retries to)) rights → rights l ≡ no_rights
main_lock l entry.Lock retries lock.Asleep rights stands h few = few
main_lock l entry.LockTimed retries lock.Asleep rights stands h few = few
main_lock l entry.Bump retries lock.Asleep rights stands h few = given_up Exclusive l rights few
main_lock l e retries (lock.Leave parked) rights stands h few = absurd cc
main_lock l e retries lock.Remove rights stands h few = absurd cc
main_lock l e retries to rights stands h few = absurd cc

same_lock : (l k : ℕ) → ◌≡◌ {A = Option ℕ} (Some l) (Some k) → l ≡ k
same_lock l k e = cc

main_rwlock : (l : ℕ) (a : Admission) (q : RwLockPurpose) (b : Bool) (to : RwLockAt) (rights : ℕ → Rights)
    → StandsAt q b to
    → stands_at to ≡ Some Main → act_at l a (record { purpose = q; retries = b; at = to }) to ≡ act.Sleep
    → BeganWithFew l (RwLock l a (Plain (record {
      purpose = q;
      retries = b;
      at = to;
    }))) rights → rights l ≡ no_rights
main_rwlock l a (purpose.Enter x how) b (at.Park to) rights stands s h few = few
main_rwlock l a (purpose.Enter x how) b (at.Aside (parking.Leave true)) rights stands s h few = absurd cc
main_rwlock l a (purpose.Enter x how) b (at.Aside (parking.Leave false)) rights stands s h few = absurd cc
main_rwlock l a (purpose.Enter x how) b (at.Aside to) rights stands s h few = absurd cc
main_rwlock l a (purpose.Upgrade Try) b (at.Park to) rights stands s h few = absurd stands
main_rwlock l a (purpose.Upgrade Patient) b (at.Park to) rights stands s h few = absurd stands
main_rwlock l a (purpose.Upgrade Timed) b (at.Park to) rights stands s h few = absurd stands
main_rwlock l a (purpose.Upgrade how) b (at.Aside (parking.Leave true)) rights stands s h few = absurd cc
main_rwlock l a (purpose.Upgrade how) b (at.Aside (parking.Leave false)) rights stands s h few = absurd cc
main_rwlock l a (purpose.Upgrade how) b (at.Aside to) rights stands s h few = absurd cc
main_rwlock l a (purpose.Release access.Shared) b (at.Park to) rights stands s h few = absurd stands
main_rwlock l a (purpose.Release access.Upgradable) b (at.Park to) rights stands s h few = absurd stands
main_rwlock l a (purpose.Release access.Exclusive) b (at.Park to) rights stands s h few = absurd stands
main_rwlock l a (purpose.Downgrade d) b (at.Park to) rights stands s h few = absurd stands
main_rwlock l a q b (at.Aside (parking.Leave true)) rights stands s h few = absurd cc
main_rwlock l a q b (at.Aside (parking.Leave false)) rights stands s h few = absurd cc
main_rwlock l a q b (at.Aside to) rights stands s h few = absurd cc
main_rwlock l a q b to rights stands s h few = absurd cc

main_bump : (l : ℕ) (a : Admission) (q : RwLockPurpose) (b : Bool) (to : RwLockAt) (rights : ℕ → Rights)
    → StandsAt q b to
    → stands_at to ≡ Some Main → act_at l a (record { purpose = q; retries = b; at = to }) to ≡ act.Sleep
    → BeganWithFew l (RwLock l a (Bump (record {
      purpose = q;
      retries = b;
      at = to;
    }))) rights → rights l ≡ no_rights
main_bump l a (purpose.Enter x how) b (at.Park to) rights stands s h few = given_up (wanted x) l rights few
main_bump l a (purpose.Upgrade Try) b (at.Park to) rights stands s h few = absurd stands
main_bump l a (purpose.Upgrade Patient) b (at.Park to) rights stands s h few = absurd stands
main_bump l a (purpose.Upgrade Timed) b (at.Park to) rights stands s h few = absurd stands
main_bump l a (purpose.Release access.Shared) b (at.Park to) rights stands s h few = absurd stands
main_bump l a (purpose.Release access.Upgradable) b (at.Park to) rights stands s h few = absurd stands
main_bump l a (purpose.Release access.Exclusive) b (at.Park to) rights stands s h few = absurd stands
main_bump l a (purpose.Downgrade d) b (at.Park to) rights stands s h few = absurd stands
main_bump l a q b (at.Aside (parking.Leave true)) rights stands s h few = absurd cc
main_bump l a q b (at.Aside (parking.Leave false)) rights stands s h few = absurd cc
main_bump l a q b (at.Aside to) rights stands s h few = absurd cc
main_bump l a q b to rights stands s h few = absurd cc

pub sleepers_own_nothing : SleepersOwnNothing
sleepers_own_nothing l Idle rights stands of s h few = absurd cc
sleepers_own_nothing l (Mutex k (mutex.Lock e retries to)) rights stands of s h few =
    main_lock l e retries to rights s (sleeps_there to h) (few_there few)
  where
    sleeps_there : (to : LockAt) → steps.lock_act k to ≡ act.Sleep → steps.lock_act l to ≡ act.Sleep
    sleeps_there to h = subst (λ j. steps.lock_act j to ≡ act.Sleep) (same_lock k l of) h

    few_there : BeganWithFew l (Mutex k (mutex.Lock e retries to)) rights
        → BeganWithFew l (Mutex l (mutex.Lock e retries to)) rights
    few_there few = subst (λ j. BeganWithFew l (Mutex j (mutex.Lock e retries to)) rights) (same_lock k l of)
        few
sleepers_own_nothing l (Mutex k mutex.TryLock) rights stands of s h few = absurd cc
sleepers_own_nothing l (Mutex k (mutex.Unlock to)) rights stands of s h few = absurd (unlock_wakes k to h)
sleepers_own_nothing l (Mutex k mutex.UnlockFair) rights stands of s h few = absurd cc
sleepers_own_nothing l (Mutex k mutex.Bump) rights stands of s h few = absurd cc
sleepers_own_nothing l (Mutex k (mutex.HandOff bumps to)) rights stands of s h few =
    absurd (hand_off_wakes k to h)
sleepers_own_nothing l (RwLock k a (Plain p)) rights stands of s h few =
    subst (λ j. act_at j a p p.at ≡ act.Sleep → rights l ≡ no_rights) (sym (same_lock k l of))
    (λ g. main_rwlock l a p.purpose p.retries p.at rights stands.place s g few) h
sleepers_own_nothing l (RwLock k a (Bump p)) rights stands of s h few =
    subst (λ j. act_at j a p p.at ≡ act.Sleep → rights l ≡ no_rights) (sym (same_lock k l of))
    (λ g. main_bump l a p.purpose p.retries p.at rights stands.0.place s g few) h
sleepers_own_nothing l (RwLock k a (Handed x how b to)) rights stands of s h few = absurd cc
sleepers_own_nothing l (RwLock k a (PeekQueue x)) rights stands of s h few = absurd cc
sleepers_own_nothing l (RwLock k a (HandOver x b to)) rights stands of s h few = absurd cc
sleepers_own_nothing l (Once k to) rights stands of s h few = absurd stands
sleepers_own_nothing l (Semaphore k to) rights stands of s h few = absurd stands
sleepers_own_nothing l (Condvar k to) rights stands of s h few = absurd stands

-- ---------------------------------------------------------------- sleepers in the second queue

pending_only : (r : Rights) → record r { pending = r.pending - 1 } ≡ no_rights → without_pending r ≡ no_rights
pending_only r e = rights_are (without_pending r) no_rights (ap (λ (y : Rights). y.exclusive) e) refl
    (ap (λ (y : Rights). y.upgradable) e) (ap (λ (y : Rights). y.shared) e)

aside_enters : (l : ℕ) (rights : ℕ → Rights) → rows.without_pending l rights l ≡ no_rights
    → without_pending (rights l) ≡ no_rights
aside_enters l rights e = pending_only (rights l) (sym (here rights l _) ∙ e)

aside_gave : (x : Want) (l : ℕ) (rights : ℕ → Rights) → one_more_at l x (rows.without_pending l rights) l
    ≡ with_right x no_rights
    → without_pending (rights l) ≡ no_rights
aside_gave x l rights e = aside_enters l rights (given_up x l (rows.without_pending l rights) e)

aside_plain : (l : ℕ) (a : Admission) (q : RwLockPurpose) (b : Bool) (to : RwLockAt) (rights : ℕ → Rights)
    → StandsAt q b to
    → stands_at to ≡ Some Second → act_at l a (record { purpose = q; retries = b; at = to }) to ≡ act.Sleep
    → BeganWithFew l (RwLock l a (Plain (record {
      purpose = q;
      retries = b;
      at = to;
    }))) rights → without_pending (rights l) ≡ no_rights
aside_plain l a (purpose.Enter x how) b (at.Aside to) rights stands s h few = aside_enters l rights few
aside_plain l a (purpose.Upgrade how) b (at.Aside to) rights stands s h few =
    aside_gave Upgradable l rights few
aside_plain l a (purpose.Release access.Shared) b (at.Aside to) rights stands s h few = absurd stands
aside_plain l a (purpose.Release access.Upgradable) b (at.Aside to) rights stands s h few = absurd stands
aside_plain l a (purpose.Release access.Exclusive) b (at.Aside to) rights stands s h few = absurd stands
aside_plain l a (purpose.Downgrade d) b (at.Aside to) rights stands s h few = absurd stands
aside_plain l a q b (at.Park (parking.Leave true)) rights stands s h few = absurd cc
aside_plain l a q b (at.Park (parking.Leave false)) rights stands s h few = absurd cc
aside_plain l a q b (at.Park to) rights stands s h few = absurd cc
aside_plain l a q b to rights stands s h few = absurd cc

aside_bump : (l : ℕ) (a : Admission) (q : RwLockPurpose) (b : Bool) (to : RwLockAt) (rights : ℕ → Rights)
    → StandsAt q b to → IsOfBump q b
    → stands_at to ≡ Some Second → act_at l a (record { purpose = q; retries = b; at = to }) to ≡ act.Sleep
    → BeganWithFew l (RwLock l a (Bump (record {
      purpose = q;
      retries = b;
      at = to;
    }))) rights → without_pending (rights l) ≡ no_rights
aside_bump l a (purpose.Enter x how) b (at.Aside to) rights stands bumps s h few =
    aside_gave (wanted x) l rights few
aside_bump l a (purpose.Upgrade how) b (at.Aside to) rights stands bumps s h few = absurd bumps
aside_bump l a (purpose.Release access.Shared) b (at.Aside to) rights stands bumps s h few = absurd stands
aside_bump l a (purpose.Release access.Upgradable) b (at.Aside to) rights stands bumps s h few = absurd stands
aside_bump l a (purpose.Release access.Exclusive) b (at.Aside to) rights stands bumps s h few = absurd stands
aside_bump l a (purpose.Downgrade d) b (at.Aside to) rights stands bumps s h few = absurd stands
aside_bump l a q b (at.Park (parking.Leave true)) rights stands bumps s h few = absurd cc
aside_bump l a q b (at.Park (parking.Leave false)) rights stands bumps s h few = absurd cc
aside_bump l a q b (at.Park to) rights stands bumps s h few = absurd cc
aside_bump l a q b to rights stands bumps s h few = absurd cc

lock_aside : (l : ℕ) (e : Entry) (retries : Bool) (to : LockAt)
    → (profile (Mutex l (mutex.Lock e retries to))).stands ≡ Some Second → steps.lock_act l to ≡ act.Sleep → ⊥
lock_aside l e retries lock.Asleep s h = cc
lock_aside l e retries (lock.Leave parked) s h = cc
lock_aside l e retries to s h = cc

pub pending_own_nothing : PendingOwnNothing
pending_own_nothing l Idle rights stands of s h few = absurd cc
pending_own_nothing l (Mutex k (mutex.Lock e retries to)) rights stands of s h few =
    absurd (lock_aside k e retries to s h)
pending_own_nothing l (Mutex k mutex.TryLock) rights stands of s h few = absurd cc
pending_own_nothing l (Mutex k (mutex.Unlock to)) rights stands of s h few = absurd (unlock_wakes k to h)
pending_own_nothing l (Mutex k mutex.UnlockFair) rights stands of s h few = absurd cc
pending_own_nothing l (Mutex k mutex.Bump) rights stands of s h few = absurd cc
pending_own_nothing l (Mutex k (mutex.HandOff bumps to)) rights stands of s h few =
    absurd (hand_off_wakes k to h)
pending_own_nothing l (RwLock k a (Plain p)) rights stands of s h few =
    subst (λ j. act_at j a p p.at ≡ act.Sleep → without_pending (rights l) ≡ no_rights)
    (sym (same_lock k l of)) (λ g. aside_plain l a p.purpose p.retries p.at rights stands.place s g few) h
pending_own_nothing l (RwLock k a (Bump p)) rights stands of s h few =
    subst (λ j. act_at j a p p.at ≡ act.Sleep → without_pending (rights l) ≡ no_rights)
    (sym (same_lock k l of)) (λ g. aside_bump l a p.purpose p.retries p.at rights stands.0.place stands.1 s g
    few) h
pending_own_nothing l (RwLock k a (Handed x how b to)) rights stands of s h few = absurd cc
pending_own_nothing l (RwLock k a (PeekQueue x)) rights stands of s h few = absurd cc
pending_own_nothing l (RwLock k a (HandOver x b to)) rights stands of s h few = absurd cc
pending_own_nothing l (Once k to) rights stands of s h few = absurd stands
pending_own_nothing l (Semaphore k to) rights stands of s h few = absurd stands
pending_own_nothing l (Condvar k to) rights stands of s h few = absurd stands

-- ---------------------------------------------------------------- where it stands

lock_stands : (l : ℕ) (e : Entry) (retries : Bool) (to : LockAt) → steps.lock_act l to ≡ act.Sleep
    → StandsSomewhere (profile (Mutex l (mutex.Lock e retries to)))
lock_stands l e retries lock.Asleep h = record { has_taken = refl; somewhere = inl refl }
lock_stands l e retries (lock.Taken by) h = record { has_taken = refl; somewhere = inr (inr (by, false, refl)) }
lock_stands l e retries (lock.Handed by) h = record { has_taken = refl; somewhere = inr (inr (by, true, refl)) }
lock_stands l e retries lock.First h = absurd cc
lock_stands l e retries lock.Load h = absurd cc
lock_stands l e retries (lock.Decide seen) h =
    absurd (either_sleeps (Rattle.std.proofs.Common.not (steps.is_locked seen)) _ _ (λ e. cc)
    (either_sleeps (seen == 1) _ _ (λ e. cc) (λ e. cc)) h)
lock_stands l e retries lock.Check h = absurd cc
lock_stands l e retries (lock.Leave parked) h = absurd cc
lock_stands l e retries lock.Accept h = absurd cc
lock_stands l e retries lock.Remove h = absurd cc
lock_stands l e retries lock.Clear h = absurd cc
lock_stands l e retries lock.GiveUp h = absurd cc

plain_stands : (l : ℕ) (a : Admission) (q : RwLockPurpose) (b : Bool) (to : RwLockAt)
    → act_at l a (record { purpose = q; retries = b; at = to }) to ≡ act.Sleep
    → StandsSomewhere (profile (RwLock l a (Plain (record { purpose = q; retries = b; at = to }))))
plain_stands l a q b (at.Park parking.Asleep) h = record { has_taken = refl; somewhere = inl refl }
plain_stands l a q b (at.Park (parking.Taken by)) h = record {
  has_taken = refl;
  somewhere = inr (inr (by, false, refl));
}
plain_stands l a q b (at.Aside parking.Asleep) h = record { has_taken = refl; somewhere = inr (inl refl) }
plain_stands l a q b (at.Aside (parking.Taken by)) h = record {
  has_taken = refl;
  somewhere = inr (inr (by, false, refl));
}
plain_stands l a q b (at.Park parking.Check) h = absurd cc
plain_stands l a q b (at.Park (parking.Leave parked)) h = absurd cc
plain_stands l a q b (at.Park parking.Remove) h = absurd cc
plain_stands l a q b (at.Park parking.Clear) h = absurd cc
plain_stands l a q b (at.Park parking.GiveUp) h = absurd cc
plain_stands l a q b (at.Aside parking.Check) h = absurd cc
plain_stands l a q b (at.Aside (parking.Leave parked)) h = absurd cc
plain_stands l a q b (at.Aside parking.Remove) h = absurd cc
plain_stands l a q b (at.Aside parking.Clear) h = absurd cc
plain_stands l a q b (at.Aside parking.GiveUp) h = absurd cc
plain_stands l a q b at.First h = absurd cc
plain_stands l a q b at.Load h = absurd cc
plain_stands l a q b (at.Decide seen) h = absurd (decided_sleeps l q seen (decided a (record {
  purpose = q;
  retries = b;
  at = at.Decide seen;
}) seen) h)
plain_stands l a q b at.Look h = absurd cc
plain_stands l a q b (at.Count seen) h = absurd (either_sleeps (has_aside seen) _ _ (λ k. cc) (λ k. cc) h)
plain_stands l a q b at.Marked h = absurd cc
plain_stands l a q b at.RollBack h = absurd cc
plain_stands l a q b at.GiveWay h = absurd cc
plain_stands l a q b (at.Wake m waking.Enter) h = absurd cc
plain_stands l a q b (at.Wake m waking.Take) h = absurd cc
plain_stands l a q b (at.Wake m (waking.Clear any)) h = absurd cc
plain_stands l a q b (at.Wake m (waking.Leave any)) h = absurd cc

handed_stands : (l : ℕ) (a : Admission) (x : Access) (how : Patience) (b : Bool) (to : HandedAt)
    → act_of (RwLock l a (Handed x how b to)) ≡ act.Sleep
    → StandsSomewhere (profile (RwLock l a (Handed x how b to)))
handed_stands l a x how b (handed.Asleep by alone) h = record {
  has_taken = refl;
  somewhere = inr (inr (by, true, refl));
}
handed_stands l a x how b handed.Accept h = absurd (accept_wakes l x h)

pub sleepers_stand : SleepersStand
sleepers_stand Idle stands h = absurd cc
sleepers_stand (Mutex l (mutex.Lock e retries to)) stands h = lock_stands l e retries to h
sleepers_stand (Mutex l mutex.TryLock) stands h = absurd cc
sleepers_stand (Mutex l (mutex.Unlock to)) stands h = absurd (unlock_wakes l to h)
sleepers_stand (Mutex l mutex.UnlockFair) stands h = absurd cc
sleepers_stand (Mutex l mutex.Bump) stands h = absurd cc
sleepers_stand (Mutex l (mutex.HandOff bumps to)) stands h = absurd (hand_off_wakes l to h)
sleepers_stand (RwLock l a (Plain p)) stands h = plain_stands l a p.purpose p.retries p.at h
sleepers_stand (RwLock l a (Bump p)) stands h = let s = plain_stands l a p.purpose p.retries p.at h
    in record {
      has_taken = s.has_taken;
      somewhere = s.somewhere;
    }
sleepers_stand (RwLock l a (Handed x how b to)) stands h = handed_stands l a x how b to h
sleepers_stand (RwLock l a (PeekQueue x)) stands h = absurd cc
sleepers_stand (RwLock l a (HandOver x b to)) stands h = absurd (handing_wakes l a x to h)
sleepers_stand (Once l to) stands h = absurd stands
sleepers_stand (Semaphore l to) stands h = absurd stands
sleepers_stand (Condvar l to) stands h = absurd stands
