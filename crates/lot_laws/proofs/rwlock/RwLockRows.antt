-- Each place of a reader-writer lock says of its thread what is promised of it.
use Rattle.lot_laws.proofs.Imports
use Imports.{ℕ, Bool, true, false, Option, Some, None, if◌then◌else◌, ◌≡◌, ◌≢◌, ◌+◌, ◌*◌, ◌⊎◌, inl, inr, refl}
use Imports.{sym, ◌∙◌, ap, arith, One, Want, Exclusive, Access, Downgrade, Patience, Patient, Timed, Try, Sleep}
use Imports.{Admission, RwLockPlace, RwLockAt, RwLockPurpose, Decision, ParkAt, WakeAt, wanted, to_of, start_of}
use Imports.{patience_of, want_at, decided, decided_act, park_act, act_at, rwlock_act, exchange, plus, Admits}
use Imports.{parking_role, waking_role, role_at, rwlock_role, falls_back, pends, claimed, ParksBy, StandsAt}
use Imports.{IsNoRefusal, IsDecided, MayStand, rwlock_profile, is_inside, owes_at, stands_at, parked_hand}
use Imports.{carries_at, late_line_at, late_at, has_given_up, purpose_by, wants_for, Profile, hand, in_line}
use Imports.{taken_from, has_aside, Rules, Sort, Knows, MayWait, lock_for, Blank, IsTimed, Pends, Claim}
use Imports.{counts_some, has_readers, idle, KnowsRights, WakesAside}
use Rattle.core_base.specs.declared.keys.Line.{Line}
use Rattle.core_base.specs.declared.keys.Line.TheVariants.{Main, Second}
use Rattle.core_base.specs.Keys.{key_of}
use Rattle.spec_locks.specs.declared.calls.Access.TheVariants as access
use Rattle.spec_locks.specs.declared.calls.Downgrade.TheVariants as downgrade
use Rattle.steps_base.specs.declared.acts.Act.TheVariants as act
use Rattle.steps_rwlock.specs.declared.places.RwLockAt.TheVariants as at
use Rattle.steps_rwlock.specs.declared.purposes.RwLockPurpose.TheVariants as purpose
use Rattle.steps_rwlock.specs.declared.enter.Decision.TheVariants as decisions
use Rattle.steps_rwlock.specs.declared.park.ParkAt.TheVariants as parking
use Rattle.steps_rwlock.specs.declared.release.WakeAt.TheVariants as waking
use Rattle.steps_rwlock.specs.RwLockDeeds.{retried_want}
use Rattle.steps_rwlock.specs.RwLockProfiles.{is_timed}
use Rattle.spec_locks.specs.Locks as sorts
use Rattle.lot_laws.proofs.promises.RowPromises.{is_acting, LetsIn, IsDebtorIn, HasDebt, RowLooksAfter}
use Rattle.lot_laws.proofs.promises.RowPromises.{RowIsLate, RowPromises}

-- ---------------------------------------------------------------- the call

rwlock_own : (l : ℕ) (q : RwLockPurpose) → lock_for (purpose_by q l) ≡ l
rwlock_own l (purpose.Enter x how) = refl
rwlock_own l (purpose.Release x) = refl
rwlock_own l (purpose.Downgrade d) = refl
rwlock_own l (purpose.Upgrade how) = refl

-- a lock that is shared knows each right
pub knows : (s : Sort) → has_readers s ≡ true → (x : Access) → Knows s (wanted x)
knows sorts.Normal e access.Shared = tt
knows sorts.Normal e access.Upgradable = tt
knows sorts.Normal e access.Exclusive = tt
knows sorts.Recursive e access.Shared = tt
knows sorts.Recursive e access.Upgradable = tt
knows sorts.Recursive e access.Exclusive = tt
knows s e x = absurd cc

rwlock_known : (l : ℕ) (q : RwLockPurpose) (sort_of : ℕ → Sort) → has_readers (sort_of l) ≡ true
    → KnowsRights sort_of (Some (purpose_by q l))
rwlock_known l (purpose.Enter x how) sort_of e = knows (sort_of l) e x
rwlock_known l (purpose.Release x) sort_of e = knows (sort_of l) e x
rwlock_known l (purpose.Downgrade downgrade.ToShared) sort_of e = (
  knows (sort_of l) e access.Exclusive,
  knows (sort_of l) e access.Shared,
)
rwlock_known l (purpose.Downgrade downgrade.ToUpgradable) sort_of e = (
  knows (sort_of l) e access.Exclusive,
  knows (sort_of l) e access.Upgradable,
)
rwlock_known l (purpose.Downgrade downgrade.UpgradableToShared) sort_of e =
    (knows (sort_of l) e access.Upgradable, knows (sort_of l) e access.Shared)
rwlock_known l (purpose.Upgrade how) sort_of e = (
  knows (sort_of l) e access.Upgradable,
  knows (sort_of l) e access.Exclusive,
)

-- the call is no bump
pub no_bump : (l : ℕ) (q : RwLockPurpose) (m : Line) → WakesAside (Some (purpose_by q l)) l m → ⊥
no_bump l q Main h = h
no_bump l (purpose.Enter x how) Second h = h
no_bump l (purpose.Release x) Second h = h
no_bump l (purpose.Downgrade d) Second h = h
no_bump l (purpose.Upgrade how) Second h = h

-- a downgrade is to a lesser right
pub lesser : (d : Downgrade) → wanted (to_of d) ≢ Exclusive
lesser downgrade.ToShared e = cc
lesser downgrade.ToUpgradable e = cc
lesser downgrade.UpgradableToShared e = cc

-- a call that waits for a right that it hasn't got
abbrev pub Waits : RwLockPurpose → Type 0
Waits (purpose.Enter x how) = Unit {0}
Waits (purpose.Upgrade how) = Unit {0}
Waits q = ⊥

-- before it has given up, and before it gives way
abbrev pub IsBefore : RwLockAt → Type 0
IsBefore at.RollBack = ⊥
IsBefore at.GiveWay = ⊥
IsBefore (at.Wake m to) = ⊥
IsBefore to = Unit {0}

pub before_waits : (q : RwLockPurpose) (again : Bool) (to : RwLockAt) → StandsAt q again to → IsBefore to
    → Waits q
before_waits (purpose.Enter x how) again to stands before = tt
before_waits (purpose.Upgrade how) again to stands before = tt
before_waits (purpose.Release access.Shared) again at.GiveWay stands before = before
before_waits (purpose.Release access.Upgradable) again at.GiveWay stands before = before
before_waits (purpose.Release access.Exclusive) again at.GiveWay stands before = before
before_waits (purpose.Release access.Shared) again (at.Wake m to) stands before = before
before_waits (purpose.Release access.Upgradable) again (at.Wake m to) stands before = before
before_waits (purpose.Release access.Exclusive) again (at.Wake m to) stands before = before
before_waits (purpose.Release access.Shared) again to stands before = stands
before_waits (purpose.Release access.Upgradable) again to stands before = stands
before_waits (purpose.Release access.Exclusive) again to stands before = stands
before_waits (purpose.Downgrade d) again at.GiveWay stands before = before
before_waits (purpose.Downgrade d) again (at.Wake m to) stands before = before
before_waits (purpose.Downgrade d) again to stands before = stands

-- ---------------------------------------------------------------- acts

decided_acts : (l : ℕ) (q : RwLockPurpose) (seen : ℕ) (d : Decision) → IsNoRefusal d
    → is_acting (decided_act l q seen d) ≡ true
decided_acts l q seen decisions.Take h = refl
decided_acts l q seen decisions.Mark h = refl
decided_acts l q seen decisions.Park h = refl
decided_acts l q seen (decisions.Refuse answer) h = absurd h

park_acts : (l : ℕ) (a : Admission) (x : Want) (m : Line) (to : ParkAt) → is_acting (park_act l a x m to)
    ≡ true
park_acts l a x m parking.Check = refl
park_acts l a x m (parking.Leave parked) = refl
park_acts l a x m to = refl

acts_at : (l : ℕ) (a : Admission) (p : RwLockPlace) (to : RwLockAt) → IsDecided a p.purpose to
    → is_acting (act_at l a p to) ≡ true
acts_at l a p at.First h = refl
acts_at l a p at.Load h = refl
acts_at l a p (at.Decide seen) h = decided_acts l p.purpose seen (decided a p seen) h
acts_at l a p (at.Park to) h = park_acts l a (want_at p) Main to
acts_at l a p at.Look h = refl
acts_at l a p (at.Count seen) h = either (has_aside seen)
  where
    either : (b : Bool) → is_acting (if b then act.Enter (One (2 * l + 1)) else exchange l seen (plus seen 2))
        ≡ true
    either true = refl
    either false = refl
acts_at l a p at.Marked h = refl
acts_at l a p (at.Aside to) h = park_acts l a (want_at p) Second to
acts_at l a p at.RollBack h = refl
acts_at l a p at.GiveWay h = refl
acts_at l a p (at.Wake m waking.Enter) h = refl
acts_at l a p (at.Wake m waking.Take) h = refl
acts_at l a p (at.Wake m (waking.Clear any)) h = refl
acts_at l a p (at.Wake m (waking.Leave any)) h = refl

-- ---------------------------------------------------------------- sleep

abbrev pub IsAwakeParking : ParkAt → Type 0
IsAwakeParking parking.Asleep = ⊥
IsAwakeParking (parking.Taken by) = ⊥
IsAwakeParking to = Unit {0}

abbrev pub IsAwakeAt : RwLockAt → Type 0
IsAwakeAt (at.Park to) = IsAwakeParking to
IsAwakeAt (at.Aside to) = IsAwakeParking to
IsAwakeAt to = Unit {0}

park_awake : (l : ℕ) (a : Admission) (x : Want) (m : Line) (to : ParkAt) → IsAwakeParking to
    → park_act l a x m to ≢ Sleep
park_awake l a x m parking.Asleep h e = h
park_awake l a x m (parking.Taken by) h e = h
park_awake l a x m parking.Check h e = cc
park_awake l a x m (parking.Leave parked) h e = cc
park_awake l a x m to h e = cc

decided_awake : (l : ℕ) (q : RwLockPurpose) (seen : ℕ) (d : Decision) → decided_act l q seen d ≢ Sleep
decided_awake l q seen decisions.Take e = cc
decided_awake l q seen decisions.Mark e = cc
decided_awake l q seen decisions.Park e = cc
decided_awake l q seen (decisions.Refuse answer) e = cc

pub awake_at : (l : ℕ) (a : Admission) (p : RwLockPlace) (to : RwLockAt) → IsAwakeAt to → act_at l a p to
    ≢ Sleep
awake_at l a p at.First h e = cc
awake_at l a p at.Load h e = cc
awake_at l a p (at.Decide seen) h e = decided_awake l p.purpose seen (decided a p seen) e
awake_at l a p (at.Park to) h e = park_awake l a (want_at p) Main to h e
awake_at l a p at.Look h e = cc
awake_at l a p (at.Count seen) h e = either (has_aside seen) e
  where
    either : (b : Bool) → (if b then act.Enter (One (2 * l + 1)) else exchange l seen (plus seen 2)) ≡ Sleep
        → ⊥
    either true e = cc
    either false e = cc
awake_at l a p at.Marked h e = cc
awake_at l a p (at.Aside to) h e = park_awake l a (want_at p) Second to h e
awake_at l a p at.RollBack h e = cc
awake_at l a p at.GiveWay h e = cc
awake_at l a p (at.Wake m waking.Enter) h e = cc
awake_at l a p (at.Wake m waking.Take) h e = cc
awake_at l a p (at.Wake m (waking.Clear any)) h e = cc
awake_at l a p (at.Wake m (waking.Leave any)) h e = cc

-- ---------------------------------------------------------------- waiting

pub parks_wait : (how : Patience) (to : ParkAt) → ParksBy how to → how ≢ Try
parks_wait Patient to h e = cc
parks_wait Timed to h e = cc
parks_wait Try parking.Remove h e = h
parks_wait Try parking.Clear h e = h
parks_wait Try parking.GiveUp h e = h
parks_wait Try to h e = h

abbrev pub IsParking : RwLockAt → Type 0
IsParking (at.Park to) = Unit {0}
IsParking (at.Aside to) = Unit {0}
IsParking to = ⊥

waits_at : (l : ℕ) (q : RwLockPurpose) (again : Bool) (to : RwLockAt) → StandsAt q again to → IsParking to
    → MayWait (Some (purpose_by q l)) l
waits_at l (purpose.Enter access.Exclusive how) again (at.Park to) stands h = (refl, parks_wait how to stands)
waits_at l (purpose.Enter access.Shared how) again (at.Park to) stands h = (refl, parks_wait how to stands)
waits_at l (purpose.Enter access.Upgradable how) again (at.Park to) stands h =
    (refl, parks_wait how to stands)
waits_at l (purpose.Enter access.Exclusive how) again (at.Aside to) stands h =
    (refl, parks_wait how to stands)
waits_at l (purpose.Enter access.Shared how) again (at.Aside to) stands h = absurd stands
waits_at l (purpose.Enter access.Upgradable how) again (at.Aside to) stands h = absurd stands
waits_at l (purpose.Upgrade Patient) again (at.Aside to) stands h = (refl, parks_wait Patient to stands)
waits_at l (purpose.Upgrade Timed) again (at.Aside to) stands h = (refl, parks_wait Timed to stands)
waits_at l (purpose.Upgrade Try) again (at.Aside to) stands h = absurd stands
waits_at l (purpose.Upgrade Patient) again (at.Park to) stands h = absurd stands
waits_at l (purpose.Upgrade Timed) again (at.Park to) stands h = absurd stands
waits_at l (purpose.Upgrade Try) again (at.Park to) stands h = absurd stands
waits_at l (purpose.Release x) again (at.Park to) stands h =
    absurd (before_waits (purpose.Release x) again (at.Park to) stands tt)
waits_at l (purpose.Release x) again (at.Aside to) stands h =
    absurd (before_waits (purpose.Release x) again (at.Aside to) stands tt)
waits_at l (purpose.Downgrade d) again (at.Park to) stands h = absurd stands
waits_at l (purpose.Downgrade d) again (at.Aside to) stands h = absurd stands
waits_at l q again to stands h = absurd h

-- a thread that waits is in a line, or on its way out of it
waiting_parks : (a : Admission) (p : RwLockPlace) (to : RwLockAt)
    → (stands_at to ≢ None) ⊎ (taken_from (parked_hand to) (wants_for p.purpose) true ≢ None) → IsParking to
waiting_parks a p (at.Park to) h = tt
waiting_parks a p (at.Aside to) h = tt
waiting_parks a p to h = absurd (elim h [ inl n ↦ n refl | inr n ↦ n refl ])

-- only a thread that is pending stands in the second line
aside_claims : (again : Option Want) (q : RwLockPurpose) (to : RwLockAt) → stands_at to ≡ Some Second
    → (b : Bool) × ((role_at again q to).claims ≡ Some (Pends b))
aside_claims again q (at.Aside (parking.Leave true)) h = (falls_back q, refl)
aside_claims again q (at.Aside parking.Asleep) h = (falls_back q, refl)
aside_claims again q (at.Aside parking.Remove) h = (falls_back q, refl)
aside_claims again q (at.Aside (parking.Leave false)) h = absurd cc
aside_claims again q (at.Aside to) h = absurd cc
aside_claims again q (at.Park (parking.Leave true)) h = absurd cc
aside_claims again q (at.Park (parking.Leave false)) h = absurd cc
aside_claims again q (at.Park to) h = absurd cc
aside_claims again q to h = absurd cc

wants_some : (q : RwLockPurpose) (u : ℕ) → Waits q → taken_from (hand u false) (wants_for q) true ≢ None
wants_some (purpose.Enter x how) u h e = cc
wants_some (purpose.Upgrade how) u h e = cc
wants_some (purpose.Release x) u h e = h
wants_some (purpose.Downgrade d) u h e = h

asleep_at : (l : ℕ) (a : Admission) (p : RwLockPlace) (to : RwLockAt) → StandsAt p.purpose p.retries to
    → act_at l a p to ≡ Sleep
    → (stands_at to ≢ None) ⊎ (taken_from (parked_hand to) (wants_for p.purpose) true ≢ None)
asleep_at l a p (at.Park parking.Asleep) stands h = inl (λ n. cc)
asleep_at l a p (at.Aside parking.Asleep) stands h = inl (λ n. cc)
asleep_at l a p (at.Park (parking.Taken by)) stands h =
    inr (wants_some p.purpose by (before_waits p.purpose p.retries (at.Park (parking.Taken by)) stands tt))
asleep_at l a p (at.Aside (parking.Taken by)) stands h =
    inr (wants_some p.purpose by (before_waits p.purpose p.retries (at.Aside (parking.Taken by)) stands tt))
asleep_at l a p (at.Park to) stands h = absurd (awake_at l a p (at.Park to) tt h)
asleep_at l a p (at.Aside to) stands h = absurd (awake_at l a p (at.Aside to) tt h)
asleep_at l a p to stands h = absurd (awake_at l a p to tt h)

-- nobody hands a lock over
hands_nothing : (to : RwLockAt) → carries_at to ≢ Some true
hands_nothing (at.Wake m (waking.Clear true)) h = cc
hands_nothing (at.Wake m (waking.Clear false)) h = cc
hands_nothing (at.Wake m (waking.Leave true)) h = cc
hands_nothing (at.Wake m (waking.Leave false)) h = cc
hands_nothing (at.Wake m to) h = cc
hands_nothing to h = cc

-- a thread whose call has a deadline
timed_is : (q : RwLockPurpose) (l : ℕ) → IsTimed (Some (purpose_by q l)) Blank l → is_timed (patience_of q)
    ≡ true
timed_is (purpose.Enter x how) l h = ap is_timed h.1
timed_is (purpose.Upgrade how) l h = ap is_timed h.1
timed_is (purpose.Release x) l h = absurd h
timed_is (purpose.Downgrade d) l h = absurd (let e = h.1 in cc)

pub some_line : (n m : Line) → Some n ≡ Some m → n ≡ m
some_line n m e = cc

-- ---------------------------------------------------------------- owing

pub parking_inside : (m : Line) (again : Option Want) (claims : Option Claim) (to : ParkAt)
    → (parking_role m again claims to).inside ≡ in_line (is_inside to) m
parking_inside m again claims parking.Check = refl
parking_inside m again claims (parking.Leave true) = refl
parking_inside m again claims (parking.Leave false) = refl
parking_inside m again claims to = refl

abbrev pub of : RwLockPurpose → Bool → RwLockAt → RwLockPlace
of q again to = record { purpose = q; retries = again; at = to }

abbrev pub row_of : Admission → RwLockPurpose → Bool → RwLockAt → Profile
row_of a q again to = rwlock_profile a (of q again to)

-- a thread that waits for a right, and has not given up, or is still inside
abbrev pub IsShut : RwLockPurpose → Bool → RwLockAt → Type 0
IsShut q again to = late_at has_given_up q to ≡ true → (rwlock_role (of q again to)).inside ≡ None → ⊥

pub before_shut : (q : RwLockPurpose) (again : Bool) (to : RwLockAt) → IsBefore to → IsShut q again to
before_shut (purpose.Enter x how) again (at.Park parking.Clear) before h out = cc
before_shut (purpose.Enter x how) again (at.Park parking.GiveUp) before h out = cc
before_shut (purpose.Enter x how) again (at.Aside parking.Clear) before h out = cc
before_shut (purpose.Enter x how) again (at.Aside parking.GiveUp) before h out = cc
before_shut (purpose.Enter x how) again (at.Park to) before h out = cc
before_shut (purpose.Enter x how) again (at.Aside to) before h out = cc
before_shut (purpose.Enter x how) again at.RollBack before h out = before
before_shut (purpose.Enter x how) again (at.Wake m to) before h out = before
before_shut (purpose.Enter x how) again to before h out = cc
before_shut (purpose.Upgrade how) again (at.Park parking.Clear) before h out = cc
before_shut (purpose.Upgrade how) again (at.Park parking.GiveUp) before h out = cc
before_shut (purpose.Upgrade how) again (at.Aside parking.Clear) before h out = cc
before_shut (purpose.Upgrade how) again (at.Aside parking.GiveUp) before h out = cc
before_shut (purpose.Upgrade how) again (at.Park to) before h out = cc
before_shut (purpose.Upgrade how) again (at.Aside to) before h out = cc
before_shut (purpose.Upgrade how) again at.RollBack before h out = before
before_shut (purpose.Upgrade how) again (at.Wake m to) before h out = before
before_shut (purpose.Upgrade how) again to before h out = cc
before_shut (purpose.Release x) again to before h out = cc
before_shut (purpose.Downgrade d) again to before h out = cc

module _ (r : Rules) (readers : has_readers r.sort ≡ true) (a : Admission) (l : ℕ) where
  pub shut : (q : RwLockPurpose) (again : Bool) (to : RwLockAt) → Waits q → IsShut q again to
      → LetsIn r.sort l (row_of a q again to) → ⊥
  shut (purpose.Enter x how) again to waits still (inl h) = h
  shut (purpose.Upgrade how) again to waits still (inl h) = h
  shut (purpose.Enter x how) again to waits still (inr h) = elim h.1 [
    | inl less ↦ less
    | inr left ↦
        still left.0 left.1
  ]
  shut (purpose.Upgrade how) again to waits still (inr h) = elim h.1 [
    | inl less ↦ less.1 refl
    | inr left ↦
        still left.0 left.1
  ]
  shut (purpose.Release x) again to waits still h = waits
  shut (purpose.Downgrade d) again to waits still h = waits

  -- before it gives up or gives way a call lets nobody in
  pub shut_before : (q : RwLockPurpose) (again : Bool) (to : RwLockAt) → StandsAt q again to → IsBefore to
      → LetsIn r.sort l (row_of a q again to) → ⊥
  shut_before q again to stands before lets = shut q again to (before_waits q again to stands before)
      (before_shut q again to before) lets

  -- A thread that wakes others lets them in.
  pub lets_waking : (q : RwLockPurpose) (again : Bool) (m : Line)
      → LetsIn r.sort l (row_of a q again (at.Wake m waking.Enter))
  lets_waking (purpose.Enter x how) again m = inr (readers, inr (refl, refl))
  lets_waking (purpose.Upgrade how) again m = inr (readers, inr (refl, refl))
  lets_waking (purpose.Release x) again m = inl refl
  lets_waking (purpose.Downgrade d) again m = inr (readers, inl (refl, lesser d))

  owes_is : (q : RwLockPurpose) (again : Bool) (to : RwLockAt) (m : Line) → owes_at to ≡ Some m
      → ((rwlock_role (of q again to)).inside ≡ Some m)
      ⊎ ((act_at l a (of q again to) to ≡ act.Enter (One (key_of l m)))
      × LetsIn r.sort l (row_of a q again to))
  owes_is q again (at.Park to) m h = inl (parking_inside Main _ None to ∙ h)
  owes_is q again (at.Aside to) m h = inl (parking_inside Second _ (pends q) to ∙ h)
  owes_is q again (at.Wake n waking.Enter) m h =
      inr (ap (λ x. act.Enter (One (key_of l x))) (some_line n m h), lets_waking q again n)
  owes_is q again (at.Wake n waking.Take) m h = inl h
  owes_is q again (at.Wake n (waking.Clear any)) m h = inl h
  owes_is q again (at.Wake n (waking.Leave any)) m h = inl h
  owes_is q again to m h = absurd cc

  inside_owes : (q : RwLockPurpose) (again : Bool) (to : RwLockAt) (m : Line)
      → (rwlock_role (of q again to)).inside ≡ Some m
      → owes_at to ≡ Some m
  inside_owes q again (at.Park to) m h = sym (parking_inside Main _ None to) ∙ h
  inside_owes q again (at.Aside to) m h = sym (parking_inside Second _ (pends q) to) ∙ h
  inside_owes q again (at.Wake n waking.Enter) m h = absurd cc
  inside_owes q again (at.Wake n waking.Take) m h = h
  inside_owes q again (at.Wake n (waking.Clear any)) m h = h
  inside_owes q again (at.Wake n (waking.Leave any)) m h = h
  inside_owes q again to m h = absurd cc

  entering_owes : (q : RwLockPurpose) (again : Bool) (to : RwLockAt) → StandsAt q again to → (m : Line)
      → act_at l a (of q again to) to ≡ act.Enter (One (key_of l m)) → LetsIn r.sort l (row_of a q again to)
      → owes_at to ≡ Some m
  entering_owes q again (at.Wake n waking.Enter) stands m h lets = ap Some (line_one n m h)
    where
      line_one : (n m : Line) → act.Enter (One (key_of l n)) ≡ act.Enter (One (key_of l m)) → n ≡ m
      line_one Main Main e = refl
      line_one Second Second e = refl
      line_one Main Second e = absurd (let f : 2 * l ≡ 2 * l + 1 = cc in omega arith)
      line_one Second Main e = absurd (let f : 2 * l + 1 ≡ 2 * l = cc in omega arith)
  entering_owes q again (at.Wake n waking.Take) stands m h lets = absurd cc
  entering_owes q again (at.Wake n (waking.Clear any)) stands m h lets = absurd cc
  entering_owes q again (at.Wake n (waking.Leave any)) stands m h lets = absurd cc
  entering_owes q again at.RollBack stands m h lets = absurd cc
  entering_owes q again at.GiveWay stands m h lets = absurd cc
  entering_owes q again to stands m h lets = absurd (shut_before q again to stands tt lets)

  -- ---------------------------------------------------------------- the thread that looks after the waiters

  again_debt : (q : RwLockPurpose) (again : Bool) (to : RwLockAt) → Waits q
      → counts_some r.sort (retried_want (of q again to)) ≡ true
      → HasDebt r.sort l (row_of a q again to) Main
  again_debt (purpose.Enter x how) true to waits h = inr (refl, h)
  again_debt (purpose.Upgrade how) true to waits h = inr (refl, h)
  again_debt (purpose.Release x) true to waits h = absurd waits
  again_debt (purpose.Downgrade d) true to waits h = absurd waits
  again_debt q false to waits h = absurd cc

  -- the thread does nothing but try again
  tries : (q : RwLockPurpose) (again : Bool) (to : RwLockAt) → Waits q → IsAwakeAt to → stands_at to ≡ None
      → parked_hand to ≡ None → (m : Line) (claims : Option Claim) → IsDebtorIn r.sort (record idle {
        retries = retried_want (of q again to);
        claims = claims;
      }) m → RowLooksAfter r.sort l (row_of a q again to) (act_at l a (of q again to) to) m
  tries q again to waits awake stands hand Main claims d = record {
    debt = again_debt q again to waits (elim d [
      | inl h ↦ absurd cc
      | inr h ↦
          elim h [ inl k ↦ absurd cc | inr k ↦ k ]
    ]);
    awake = awake_at l a (of q again to) to awake;
    stands = stands;
    taken = ap (λ h. taken_from h (wants_for q) true) hand;
  }
  tries q again to waits awake stands hand Second claims d = absurd cc

  -- the thread wakes others
  wakes_on : (q : RwLockPurpose) (again : Bool) (n m : Line) (to : WakeAt) → n ≡ m
      → act_at l a (of q again (at.Wake n to)) (at.Wake n to) ≢ Sleep
      → RowLooksAfter r.sort l (row_of a q again (at.Wake n to)) (act_at l a (of q again (at.Wake n to))
      (at.Wake n to)) m
  wakes_on q again n m to same awake = record {
    debt = debt q m same;
    awake = awake;
    stands = refl;
    taken = refl;
  }
    where
      debt : (q : RwLockPurpose) (m : Line) → n ≡ m → HasDebt r.sort l (row_of a q again (at.Wake n to)) m
      debt (purpose.Enter x how) Main e = inl (ap Some e, (refl, refl, readers))
      debt (purpose.Upgrade how) Main e = inl (ap Some e, (refl, inr (refl, readers)))
      debt (purpose.Release x) Main e = inl (ap Some e, (refl, inl refl))
      debt (purpose.Downgrade d) Main e = inl (ap Some e, (refl, inl (lesser d)))
      debt q Second e = ap Some e

  debtor : (q : RwLockPurpose) (again : Bool) (to : RwLockAt) → StandsAt q again to → (m : Line)
      → IsDebtorIn r.sort (rwlock_role (of q again to)) m
      → RowLooksAfter r.sort l (row_of a q again to) (act_at l a (of q again to) to) m
  debtor q again at.First stands m d = tries q again at.First (before_waits q again at.First stands tt) tt
      refl refl m None d
  debtor q again at.Load stands m d = tries q again at.Load (before_waits q again at.Load stands tt) tt refl
      refl m (claimed q) d
  debtor q again (at.Decide seen) stands m d = tries q again (at.Decide seen)
      (before_waits q again (at.Decide seen) stands tt) tt refl refl m (claimed q) d
  debtor q again at.Look stands m d = tries q again at.Look (before_waits q again at.Look stands tt) tt refl
      refl m (pends q) d
  debtor q again (at.Count seen) stands m d = tries q again (at.Count seen)
      (before_waits q again (at.Count seen) stands tt) tt refl refl m (pends q) d
  debtor q again at.Marked stands m d = tries q again at.Marked (before_waits q again at.Marked stands tt) tt
      refl refl m (pends q) d
  debtor q again (at.Park parking.Check) stands m d = tries q again (at.Park parking.Check)
      (before_waits q again (at.Park parking.Check) stands tt) tt refl refl m None (bare m d)
    where
      bare : (m : Line) → IsDebtorIn r.sort (rwlock_role (of q again (at.Park parking.Check))) m
          → IsDebtorIn r.sort (record idle {
            retries = retried_want (of q again (at.Park parking.Check));
            claims = None;
          }) m
      bare Main d = d
      bare Second d = d
  debtor q again (at.Park (parking.Leave false)) stands m d = tries q again (at.Park (parking.Leave false))
      (before_waits q again (at.Park (parking.Leave false)) stands tt) tt refl refl m None (bare m d)
    where
      bare : (m : Line) → IsDebtorIn r.sort (rwlock_role (of q again (at.Park (parking.Leave false)))) m
          → IsDebtorIn r.sort (record idle {
            retries = retried_want (of q again (at.Park (parking.Leave false)));
            claims = None;
          }) m
      bare Main d = d
      bare Second d = d
  debtor q again (at.Aside parking.Check) stands m d = tries q again (at.Aside parking.Check)
      (before_waits q again (at.Aside parking.Check) stands tt) tt refl refl m (pends q) (bare m d)
    where
      bare : (m : Line) → IsDebtorIn r.sort (rwlock_role (of q again (at.Aside parking.Check))) m
          → IsDebtorIn r.sort (record idle {
            retries = retried_want (of q again (at.Aside parking.Check));
            claims = pends q;
          }) m
      bare Main d = d
      bare Second d = d
  debtor q again (at.Aside (parking.Leave false)) stands m d = tries q again (at.Aside (parking.Leave false))
      (before_waits q again (at.Aside (parking.Leave false)) stands tt) tt refl refl m (pends q) (bare m d)
    where
      bare : (m : Line) → IsDebtorIn r.sort (rwlock_role (of q again (at.Aside (parking.Leave false)))) m
          → IsDebtorIn r.sort (record idle {
            retries = retried_want (of q again (at.Aside (parking.Leave false)));
            claims = pends q;
          }) m
      bare Main d = d
      bare Second d = d
  debtor q again (at.Wake n waking.Enter) stands m d = wakes_on q again n m waking.Enter
      (wakes_line n m (start_of q) d) (λ h. cc)
    where
      wakes_line : (n m : Line) (start : Option Want) → IsDebtorIn r.sort (waking_role start n waking.Enter) m
          → n ≡ m
      wakes_line n Main start d = elim d [
        | inl h ↦ some_line n Main h
        | inr h ↦
            absurd (elim h [ inl k ↦ cc | inr k ↦ cc ])
      ]
      wakes_line n Second start d = some_line n Second d
  debtor q again (at.Wake n waking.Take) stands m d = wakes_on q again n m waking.Take
      (wakes_line n m (start_of q) d) (λ h. cc)
    where
      wakes_line : (n m : Line) (start : Option Want) → IsDebtorIn r.sort (waking_role start n waking.Take) m
          → n ≡ m
      wakes_line n Main start d = elim d [
        | inl h ↦ some_line n Main h
        | inr h ↦
            absurd (elim h [ inl k ↦ cc | inr k ↦ cc ])
      ]
      wakes_line n Second start d = some_line n Second d
  debtor q again (at.Wake n (waking.Clear any)) stands m d = wakes_on q again n m (waking.Clear any)
      (covers_only n m (start_of q) d) (λ h. cc)
    where
      covers_only : (n m : Line) (start : Option Want) → IsDebtorIn r.sort
          (waking_role start n (waking.Clear any)) m → n ≡ m
      covers_only Main Main start d = refl
      covers_only Second Main start d =
          absurd (elim d [ inl h ↦ cc | inr h ↦ elim h [ inl k ↦ cc | inr k ↦ cc ] ])
      covers_only n Second start d = absurd cc
  debtor q again (at.Wake n (waking.Leave any)) stands m d = wakes_on q again n m (waking.Leave any)
      (covers_only n m (start_of q) d) (λ h. cc)
    where
      covers_only : (n m : Line) (start : Option Want) → IsDebtorIn r.sort
          (waking_role start n (waking.Leave any)) m → n ≡ m
      covers_only Main Main start d = refl
      covers_only Second Main start d =
          absurd (elim d [ inl h ↦ cc | inr h ↦ elim h [ inl k ↦ cc | inr k ↦ cc ] ])
      covers_only n Second start d = absurd cc
  debtor q again to stands Main d =
      absurd (elim d [ inl h ↦ cc | inr h ↦ elim h [ inl k ↦ cc | inr k ↦ cc ] ])
  debtor q again to stands Second d = absurd cc

  -- ---------------------------------------------------------------- being late

  late_by : (q : RwLockPurpose) (again : Bool) (to : RwLockAt) → StandsAt q again to → (m : Line)
      → late_line_at (patience_of q) to ≡ Some m → RowIsLate r.sort l (row_of a q again to)
      (act_at l a (of q again to) to) m
  late_by (purpose.Enter x Timed) again (at.Park parking.Asleep) stands m h = record {
    stands = h;
    asleep = refl;
    timed = (refl, refl);
    shut = shut (purpose.Enter x Timed) again (at.Park parking.Asleep) tt (before_shut (purpose.Enter x Timed)
        again (at.Park parking.Asleep) tt);
  }
  late_by (purpose.Enter x Timed) again (at.Aside parking.Asleep) stands m h = record {
    stands = h;
    asleep = refl;
    timed = (refl, refl);
    shut = shut (purpose.Enter x Timed) again (at.Aside parking.Asleep) tt
        (before_shut (purpose.Enter x Timed) again (at.Aside parking.Asleep) tt);
  }
  late_by (purpose.Upgrade Timed) again (at.Park parking.Asleep) stands m h = record {
    stands = h;
    asleep = refl;
    timed = (refl, refl);
    shut = shut (purpose.Upgrade Timed) again (at.Park parking.Asleep) tt (before_shut (purpose.Upgrade Timed)
        again (at.Park parking.Asleep) tt);
  }
  late_by (purpose.Upgrade Timed) again (at.Aside parking.Asleep) stands m h = record {
    stands = h;
    asleep = refl;
    timed = (refl, refl);
    shut = shut (purpose.Upgrade Timed) again (at.Aside parking.Asleep) tt
        (before_shut (purpose.Upgrade Timed) again (at.Aside parking.Asleep) tt);
  }
  late_by (purpose.Enter x Patient) again (at.Park parking.Asleep) stands m h = absurd cc
  late_by (purpose.Enter x Patient) again (at.Aside parking.Asleep) stands m h = absurd cc
  late_by (purpose.Enter x Try) again (at.Park parking.Asleep) stands m h = absurd cc
  late_by (purpose.Enter x Try) again (at.Aside parking.Asleep) stands m h = absurd cc
  late_by (purpose.Upgrade Patient) again (at.Park parking.Asleep) stands m h = absurd cc
  late_by (purpose.Upgrade Patient) again (at.Aside parking.Asleep) stands m h = absurd cc
  late_by (purpose.Upgrade Try) again (at.Park parking.Asleep) stands m h = absurd cc
  late_by (purpose.Upgrade Try) again (at.Aside parking.Asleep) stands m h = absurd cc
  late_by (purpose.Release x) again (at.Park parking.Asleep) stands m h = absurd cc
  late_by (purpose.Release x) again (at.Aside parking.Asleep) stands m h = absurd cc
  late_by (purpose.Downgrade d) again (at.Park parking.Asleep) stands m h = absurd cc
  late_by (purpose.Downgrade d) again (at.Aside parking.Asleep) stands m h = absurd cc
  late_by q again (at.Park to) stands m h = absurd cc
  late_by q again (at.Aside to) stands m h = absurd cc
  late_by q again to stands m h = absurd cc

  may_be_late : (q : RwLockPurpose) (again : Bool) (to : RwLockAt) (m : Line) → stands_at to ≡ Some m
      → act_at l a (of q again to) to ≡ Sleep → IsTimed (Some (purpose_by q l)) Blank l
      → late_line_at (patience_of q) to ≡ Some m
  may_be_late q again (at.Park parking.Asleep) m h sleeps timed =
      ap (λ b. in_line b Main) (timed_is q l timed) ∙ h
  may_be_late q again (at.Aside parking.Asleep) m h sleeps timed = ap (λ b. in_line b Second)
      (timed_is q l timed) ∙ h
  may_be_late q again (at.Park (parking.Taken by)) m h sleeps timed = absurd cc
  may_be_late q again (at.Aside (parking.Taken by)) m h sleeps timed = absurd cc
  may_be_late q again (at.Park to) m h sleeps timed =
      absurd (awake_at l a (of q again (at.Park to)) (at.Park to) tt sleeps)
  may_be_late q again (at.Aside to) m h sleeps timed =
      absurd (awake_at l a (of q again (at.Aside to)) (at.Aside to) tt sleeps)
  may_be_late q again to m h sleeps timed = absurd cc

  by_parts : (q : RwLockPurpose) (again : Bool) (to : RwLockAt) → MayStand a (of q again to)
      → RowPromises r.sort l (row_of a q again to) (act_at l a (of q again to) to)
  by_parts q again to stands = record {
    own = rwlock_own l q;
    acts = acts_at l a (of q again to) to stands.decided;
    waits = λ h. waits_at l q again to stands.place (waiting_parks a (of q again to) to h);
    known = λ sort_of e. rwlock_known l q sort_of (ap has_readers e ∙ readers);
    aside = aside_claims (retried_want (of q again to)) q to;
    owing = record {
      owes = λ m h. elim (owes_is q again to m h) [ inl i ↦ inl i | inr g ↦ inr (g.0, inl g.1) ];
      inside = inside_owes q again to;
      entering = λ m h lets. elim lets [
        | inl k ↦ entering_owes q again to stands.place m h k
        | inr k ↦
            absurd (no_bump l q m k)
      ];
      second = λ h. readers;
    };
    debtor = λ m d free. debtor q again to stands.place m d;
    asleep = λ h. inl (asleep_at l a (of q again to) to stands.place h);
    tells = λ h. absurd (hands_nothing to h);
    late = late_by q again to stands.place;
    may_be_late = may_be_late q again to;
  }

pub rwlock_promises : (r : Rules) (a : Admission) (l : ℕ) (p : RwLockPlace) → Admits r a → MayStand a p
    → RowPromises r.sort l (rwlock_profile a p) (rwlock_act l a p)
rwlock_promises r a l p admits stands = by_parts r admits.0 a l p.purpose p.retries p.at stands
